use Rattle.irtext_tokens.proofs.ListRules.{zero_or_more_keeps, commits_keeps}
use Rattle.irtext_tokens.proofs.irfmt.parsers.lists.zero_or_more_parser.Goals as goal

pub returns-clause-kept : goal.returns-clause-kept
returns-clause-kept g c = zero_or_more_keeps g.S.CharStream.view g.S.CharStream.at g.met.S.CharStream.view_at (λ r. r) g.F.FnMut c.requires.rules c.args.item c.args.stream.now c.items.result c.items.new.stream
    (record { mid = c.skip_white_space.new.stream; skips = c.skip_white_space.ensures.is; items = c.items.ensures })

pub returns-then-has_failed-clause-kept : goal.returns-then-has_failed-clause-kept
returns-then-has_failed-clause-kept g c = commits_keeps g.S.CharStream.view g.S.CharStream.at g.met.S.CharStream.view_at (Unit {0}) _ _ c.args.stream.now c.args.stream.now c.refuse.result c.refuse.new.stream c.refuse.ensures
