use Rattle.std.proofs.Common.{◌≡◌, false, [], ◌∷◌, length}
use Rattle.irtext_parse_pieces.proofs.Listings.{Listing}
use Rattle.irtext_parse_pieces.proofs.Lenses.{lens_of}
use Rattle.irtext_parse_pieces.proofs.types.more_types.Given as goal

-- the types found so far are those of the text
abbrev pub invariant-loop-stream : goal.invariant-loop-stream
invariant-loop-stream g l =
    (g.S.CharStream.view l.fn.stream).failed ≡ false → Listing (lens_of g.world g.met.S.CharStream) g.T.IrText.reading ◌≡◌ (l.fn.first ∷ []) l.fn.stream l.stream l.found

abbrev pub decreases-loop-stream : goal.decreases-loop-stream
decreases-loop-stream g l = length (g.S.CharStream.view l.stream).rest
