use Rattle.std.proofs.Common.{◌≡◌, false, drop, length}
use Rattle.irtext_tokens.specs.AttrTexts.{attr_at}
use Rattle.irtext_parse_pieces.specs.Named.{NamesRead}
use Rattle.irtext_parse_pieces.specs.Steps.{custom_steps}
use Rattle.irtext_parse_pieces.proofs.FormatSteps.{Counts}
use Rattle.irtext_parse_pieces.proofs.FrontSteps.{Fronting}
use Rattle.irtext_parse_pieces.proofs.Lenses.{lens_of}
use Rattle.irtext_parse_pieces.proofs.fronts.pieces_parse.Given as goal

-- what is left of the steps parses what is left of the text, and as many pieces were found as steps were passed
abbrev pub invariant-loop-step : goal.invariant-loop-step
invariant-loop-step g l =
    let steps = custom_steps l.directives in
    let left = drop (length l.found) steps in
    NamesRead l.fn.names l.names
    × Counts (length l.found) steps left
    × ((g.S.CharStream.view l.fn.stream).failed ≡ false → Fronting (lens_of g.world g.met.S.CharStream) g.T.IrText.reading (attr_at g.A.IrText.reading) l.setting l.names.names steps left l.fn.stream l.stream l.found)

abbrev pub decreases-loop-step : goal.decreases-loop-step
decreases-loop-step g l = length (drop (length l.found) (custom_steps l.directives))
