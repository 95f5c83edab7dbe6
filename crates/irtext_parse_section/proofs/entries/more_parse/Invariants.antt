use Rattle.std.proofs.Common.{length}
use Rattle.irtext_parse_state.specs.declared.parsable.state.StateStream.{StateStream}
use Rattle.irtext_tokens.specs.AttrTexts.{attr_at}
use Rattle.irtext_parse_section.specs.OnlyPaths.{AddsOnlyPaths}
use Rattle.irtext_parse_section.specs.Entries.{EntriesSoFar, noted}
use Rattle.irtext_parse_section.proofs.entries.more_parse.Given as goal

-- nothing else of the state changed, and what was recorded represents the entries of the text up to here if it did so at first
abbrev pub invariant-loop-s : goal.invariant-loop-s
invariant-loop-s g l =
    AddsOnlyPaths l.fn.s.state l.s.state
    × ((old : StateStream g.row.T.Denot g.row.A.Denot g.row.U.Denot) → EntriesSoFar (attr_at g.A.IrText.reading) old l.fn.s (noted l.fn.entries) → EntriesSoFar (attr_at g.A.IrText.reading) old l.s (noted l.entries))

abbrev pub decreases-loop-s : goal.decreases-loop-s
decreases-loop-s g l = length l.s.stream.rest
