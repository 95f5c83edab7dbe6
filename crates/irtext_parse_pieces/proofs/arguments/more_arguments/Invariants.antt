use Rattle.std.proofs.Common.{◌≡◌, ℕ, false, [], ◌∷◌, length}
use Rattle.irtext_grammar.specs.Grammar.Tree.{Name}
use Rattle.irtext_tokens.specs.AttrTexts.{attr_at}
use Rattle.irtext_grammar.specs.Heads.{argument_at}
use Rattle.irtext_parse_pieces.specs.Arguments.{IsArgument}
use Rattle.irtext_parse_pieces.specs.Named.{whole, NamesRead}
use Rattle.irtext_parse_pieces.proofs.Listings.{Listing}
use Rattle.irtext_parse_pieces.proofs.Lenses.{lens_of}
use Rattle.irtext_parse_pieces.proofs.arguments.more_arguments.Given as goal

-- the names found so far represent those of the text
abbrev pub invariant-loop-stream : goal.invariant-loop-stream
invariant-loop-stream g l =
    NamesRead l.fn.names l.names
    × ((name : Name ℕ × g.row.T.Denot) → IsArgument l.fn.names.names (whole (g.S.CharStream.view l.fn.stream)) l.fn.first name → (g.S.CharStream.view l.fn.stream).failed ≡ false
    → Listing (lens_of g.world g.met.S.CharStream) (argument_at g.T.IrText.reading (attr_at g.A.IrText.reading)) (IsArgument l.names.names (whole (g.S.CharStream.view l.fn.stream))) (name ∷ []) l.fn.stream l.stream l.found)

abbrev pub decreases-loop-stream : goal.decreases-loop-stream
decreases-loop-stream g l = length (g.S.CharStream.view l.stream).rest
