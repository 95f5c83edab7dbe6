use Rattle.irtext_tokens.proofs.ListRules.{list_keeps, commits_keeps}
use Rattle.irtext_tokens.proofs.irfmt.parsers.lists.list_parser.Goals as goal

pub returns-clause-kept : goal.returns-clause-kept
returns-clause-kept g c = list_keeps g.S.CharStream.view g.S.CharStream.at g.met.S.CharStream.view_at (λ r. r) g.F.FnMut c.requires.rules c.args.sep c.args.item c.args.stream.now c.separated.result c.separated.new.stream c.separated.ensures

pub returns-then-has_failed-clause-kept : goal.returns-then-has_failed-clause-kept
returns-then-has_failed-clause-kept g c = commits_keeps g.S.CharStream.view g.S.CharStream.at g.met.S.CharStream.view_at (Unit {0}) _ _ c.args.stream.now c.args.stream.now c.refuse.result c.refuse.new.stream c.refuse.ensures
