-- What is parsed back without places is parsed back with them.
use Rattle.std.specs.Prelude.{◌≡◌, ℕ, length, refl, Option, ⊤}
use Rattle.irtext_base.specs.Text.{Text}
use Rattle.irtext_base.specs.Format.{Format, Id}
use Rattle.irtext_base.specs.Own.{Texts, unplaced, language}
use Rattle.irtext_grammar.specs.Grammar.Bare.{bare}
use Rattle.irtext_grammar.specs.Grammar.Reads.{reads}
use Rattle.irtext_grammar.specs.Grammar.Tree.{Tree}
use Rattle.irtext_grammar.proofs.Grammar.Placed.{placed}

-- a text that parses as a tree without places, and leaves what it may, parses as it with places
pub with_places : {T A : Type 0} (types : Texts T) (owns : Texts A) (formats : Id → Option Format) (t : Tree ⊤ T A) (text : Text) (Q : Text → Type 0) → ((rest : Text) × reads (unplaced types owns formats) t text rest × Q rest)
    → (read : Tree ℕ T A) × (rest : Text) × reads (language types owns formats) read text rest × (bare read ≡ t) × Q rest
with_places types owns formats t text Q r =
    let q = placed (language types owns formats) length (λ t. refl) t text r.0 r.1 in
    (q.0, r.0, q.1, q.2, r.2)
