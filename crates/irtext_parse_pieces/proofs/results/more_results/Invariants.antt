use Rattle.std.proofs.Common.{◌≡◌, ℕ, false, [], ◌∷◌, length}
use Rattle.irtext_grammar.specs.Grammar.Tree.{Name}
use Rattle.irtext_grammar.specs.Heads.{name_at}
use Rattle.irtext_parse_pieces.specs.Named.{whole, NamesRead}
use Rattle.irtext_grammar.specs.Parsed.{Represents}
use Rattle.irtext_parse_pieces.proofs.Listings.{Listing}
use Rattle.irtext_parse_pieces.proofs.Lenses.{lens_of}
use Rattle.irtext_parse_pieces.proofs.results.more_results.Given as goal

-- the names found so far represent those of the text
abbrev pub invariant-loop-stream : goal.invariant-loop-stream
invariant-loop-stream g l =
    NamesRead l.fn.names l.names
    × ((name : Name ℕ) → Represents l.fn.names.names (whole (g.S.CharStream.view l.fn.stream)) l.fn.first name → (g.S.CharStream.view l.fn.stream).failed ≡ false
    → Listing (lens_of g.world g.met.S.CharStream) name_at (Represents l.names.names (whole (g.S.CharStream.view l.fn.stream))) (name ∷ []) l.fn.stream l.stream l.found)

abbrev pub decreases-loop-stream : goal.decreases-loop-stream
decreases-loop-stream g l = length (g.S.CharStream.view l.stream).rest
