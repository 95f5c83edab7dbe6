use Rattle.std.proofs.Common.{◌≡◌, ℕ, false, [], ◌∷◌, length}
use Rattle.irtext_grammar.specs.Grammar.Tree.{Name}
use Rattle.irtext_parse_pieces.specs.Kinds.{named_at}
use Rattle.irtext_parse_pieces.specs.Named.{whole, NamesRead}
use Rattle.irtext_grammar.specs.Parsed.{Represents}
use Rattle.irtext_parse_pieces.proofs.Listings.{Listing}
use Rattle.irtext_parse_pieces.proofs.Lenses.{lens_of}
use Rattle.irtext_parse_pieces.proofs.lists.more_names.Given as goal

-- the names found so far represent those of the text
abbrev pub invariant-loop-kind : goal.invariant-loop-kind
invariant-loop-kind g l =
    NamesRead l.fn.names l.names
    × ((name : Name ℕ) → Represents l.fn.names.names (whole (g.S.CharStream.view l.fn.stream)) l.fn.first name → (g.S.CharStream.view l.fn.stream).failed ≡ false
    → Listing (lens_of g.world g.met.S.CharStream) (named_at l.kind l.inside) (Represents l.names.names (whole (g.S.CharStream.view l.fn.stream))) (name ∷ []) l.fn.stream l.stream l.found)

abbrev pub decreases-loop-kind : goal.decreases-loop-kind
decreases-loop-kind g l = length (g.S.CharStream.view l.stream).rest
