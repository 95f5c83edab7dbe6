-- Where attributes are compared by an equality that is equality of values, so they are equal.
use Rattle.std.proofs.Common.{◌≡◌, Bool, true, refl, sym, ◌∙◌, ap}
use Rattle.std.specs.Prelude.{◌↔◌, IsTrue}

module _ {A : Type 0} {same : A → A → Bool} (eq : A → A → Bool) (decides : (x y : A) → IsTrue (eq x y) ↔ (x ≡ y)) (is : same ≡ eq) where
  -- values that the test calls equal are equal
  pub sound : (a b : A) → same a b ≡ true → a ≡ b
  sound a b h = (decides a b).0 (sym (ap (λ f. f a b) is) ∙ h)

  -- a value is equal to itself
  pub reflexive : (a : A) → same a a ≡ true
  reflexive a = ap (λ f. f a a) is ∙ (decides a a).1 refl
