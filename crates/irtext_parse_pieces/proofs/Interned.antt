-- A table of names to which an identifier was added, or which is unchanged.
use Rattle.std.proofs.Common.{◌≡◌, ℕ, zero, suc, true, Option, Some, None, List, [], ◌∷◌, ◌++◌, slice_get, position, subst}
use Rattle.std.specs.Str.{bytes_eq}
use Rattle.irtext_base.specs.Text.{Text, is_identifier}
use Rattle.irtext_scopes.specs.Names.{with_name, found_or_last}
use Rattle.irtext_parse_pieces.specs.Named.{AreWords}

-- an element of a list with one more is in the list, or is that one
in_longer : (names : List Text) (text t : Text) (i : ℕ) → slice_get (names ++ text ∷ []) i ≡ Some t → AreWords names → is_identifier text ≡ true → is_identifier t ≡ true
in_longer [] text t zero e w k = let f : text ≡ t = cc in subst (λ z. is_identifier z ≡ true) f k
in_longer [] text t (suc i) e w k = absurd (cc)
in_longer (n ∷ names) text t zero e w k = w zero t e
in_longer (n ∷ names) text t (suc i) e w k = in_longer names text t i e (λ j u f. w (suc j) u f) k

pub words_with : (names : List Text) (text : Text) → is_identifier text ≡ true → AreWords names → AreWords (with_name names text)
words_with names text k w = by (position (bytes_eq text) names)
  where
    by : (o : Option ℕ) → AreWords (found_or_last o names text)
    by (Some i) = w
    by None = λ i t e. in_longer names text t i e w k
