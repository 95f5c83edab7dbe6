use Rattle.std.proofs.Common.{◌≡◌, ℕ, false, [], ◌∷◌, length}
use Rattle.irtext_tokens.proofs.Steps.{alone}
use Rattle.irtext_tokens.specs.AttrTexts.{attr_at}
use Rattle.irtext_grammar.specs.Grammar.Section.{Item}
use Rattle.irtext_grammar.specs.Grammar.Tree.{Name}
use Rattle.irtext_parse_pieces.specs.Named.{whole}
use Rattle.irtext_parse_pieces.proofs.Listings.{Listing}
use Rattle.irtext_parse_locations.specs.Rules.{rule_for}
use Rattle.irtext_parse_section.specs.Said.{IsPair}
use Rattle.irtext_parse_section.proofs.PairSteps.{kept_at}
use Rattle.irtext_parse_section.proofs.pairs.more_pairs.Given as goal

-- the pairs found so far represent those of the text
abbrev pub invariant-loop-stream : goal.invariant-loop-stream
invariant-loop-stream g l =
    (pair : Name ℕ × Item ℕ g.row.A.Denot) → IsPair (whole l.fn.stream) l.fn.first pair → l.fn.stream.failed ≡ false
    → Listing alone (kept_at (attr_at g.A.IrText.reading) (rule_for l.fn.of_block)) (IsPair (whole l.fn.stream)) (pair ∷ []) l.fn.stream l.stream l.found.items

abbrev pub decreases-loop-stream : goal.decreases-loop-stream
decreases-loop-stream g l = length l.stream.rest
