use Rattle.std.proofs.Common.{◌≡◌, ℕ, false, [], ◌∷◌, length}
use Rattle.irtext_grammar.specs.Grammar.Tree.{Name, Attribute}
use Rattle.irtext_tokens.specs.AttrTexts.{attr_at}
use Rattle.irtext_grammar.specs.Heads.{entry_by}
use Rattle.irtext_grammar.specs.Parsed.{IsEntry}
use Rattle.irtext_parse_pieces.specs.Named.{whole}
use Rattle.irtext_parse_pieces.proofs.Listings.{Listing}
use Rattle.irtext_parse_pieces.proofs.Lenses.{lens_of}
use Rattle.irtext_parse_pieces.proofs.entries.more_entries.Given as goal

-- the entries found so far represent those of the text
abbrev pub invariant-loop-stream : goal.invariant-loop-stream
invariant-loop-stream g l =
    (entry : Name ℕ × Attribute g.row.A.Denot) → IsEntry (whole (g.S.CharStream.view l.fn.stream)) l.fn.first entry → (g.S.CharStream.view l.fn.stream).failed ≡ false
    → Listing (lens_of g.world g.met.S.CharStream) (entry_by (attr_at g.A.IrText.reading) l.any_key) (IsEntry (whole (g.S.CharStream.view l.fn.stream))) (entry ∷ []) l.fn.stream l.stream l.found.items

abbrev pub decreases-loop-stream : goal.decreases-loop-stream
decreases-loop-stream g l = length (g.S.CharStream.view l.stream).rest
