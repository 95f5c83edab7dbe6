use Rattle.irtext_tokens.proofs.ListRules.{items_keep, list_keeps, commits_keeps}
use Rattle.irtext_tokens.proofs.irfmt.parsers.lists.list_with_sep_parser.Goals as goal

pub returns-in-None-clause-kept : goal.returns-in-None-clause-kept
returns-in-None-clause-kept g c = items_keep g.S.CharStream.view g.S.CharStream.at g.met.S.CharStream.view_at (λ r. r) g.F.FnMut c.requires.rules c.args.item c.args.stream.now c.items.result c.items.new.stream c.items.ensures

pub returns-in-Some-2-clause-kept : goal.returns-in-Some-2-clause-kept
returns-in-Some-2-clause-kept g c = list_keeps g.S.CharStream.view g.S.CharStream.at g.met.S.CharStream.view_at (λ r. r) g.F.FnMut c.requires.rules _ c.args.item c.args.stream.now c.separated.result c.separated.new.stream c.separated.ensures

pub returns-then-has_failed-clause-kept : goal.returns-then-has_failed-clause-kept
returns-then-has_failed-clause-kept g c = commits_keeps g.S.CharStream.view g.S.CharStream.at g.met.S.CharStream.view_at (Unit {0}) _ _ c.args.stream.now c.args.stream.now c.refuse.result c.refuse.new.stream c.refuse.ensures
