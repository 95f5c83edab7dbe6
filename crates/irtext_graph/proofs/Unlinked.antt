-- An object is removed from its parent, and erased with all objects inside.
use Rattle.std.proofs.Common.{◌≡◌, ◌≢◌, ℕ, zero, suc, Some, None, refl, sym, ap, ◌∙◌, inl, inr, arith, List, [], ◌∷◌, map}
use Rattle.std.specs.List.{remove}
use Rattle.irtext_graph.specs.declared.object.Object.{Object}
use Rattle.irtext_graph.specs.declared.objects.Objects.{Objects}
use Rattle.irtext_graph.specs.Nested.{climb, Within}
use Rattle.irtext_graph.proofs.Nests.{same_or_other}
use Rattle.irtext_graph.proofs.Inside.{carried, fewer_ways, within_self}
use Rattle.irtext_graph.proofs.Rank.{no_cycle}
use Rattle.irtext_graph.proofs.Same.{object_tells}
use Rattle.irtext_graph.specs.Objects.{up, kids, what, SameAt, IsForest}
use Rattle.irtext_graph.proofs.Erased.{same_on}

pub map-remove : {A B : Type 0} (f : A → B) (xs : List A) (i : ℕ) → map f (remove xs i) ≡ remove (map f xs) i
map-remove f [] zero = refl
map-remove f [] (suc i) = refl
map-remove f (x ∷ xs) zero = refl
map-remove f (x ∷ xs) (suc i) = ap (λ r. f x ∷ r) (map-remove f xs i)

module _ {O B T : Type 0} where
  module _ (x y z : Objects O B T) (o : Object) (s : IsForest x) (free : up y o ≡ None) (ups : (q : Object) → q ≢ o → up y q ≡ up x q) where
    step : (a b : Object) → up y a ≡ Some b → up x a ≡ Some b
    step a b e = elim (same_or_other object_tells a o) [
      | inl same ↦ let f = ap (up y) same in let g = free in absurd (cc)
      | inr ne ↦ sym (ups a ne) ∙ e
    ]

    pub inside_still : (q : Object) → Within (up x) o q → Within (up y) o q
    inside_still q w = carried (up x) (up y) (λ a. Unit {0}) o (λ a p. elim (same_or_other object_tells a o) [ inl same ↦ inl same | inr ne ↦ inr (ups a ne) ]) (λ a b p e. tt) w.0 q tt w.1

    pub inside_was : (q : Object) → Within (up y) o q → Within (up x) o q
    inside_was q w = fewer_ways (up x) (up y) step o w.0 q w.1

    pub parent_apart : (k : Object) → up x o ≡ Some k → Within (up y) o k → ⊥
    parent_apart k e w =
        let v = inside_was k w in
        let d = s.ends o in
        no_cycle (up x) o v.0 (ap (climb (up x) v.0) e ∙ v.1) d.0 d.0 (omega arith) d.1

    pub kept_on : ((q : Object) → up x o ≢ Some q → kids y q ≡ kids x q) → ((q : Object) → what y q ≡ what x q) → ((q : Object) → (Within (up y) o q → ⊥) → SameAt y z q) → (q : Object) → (Within (up x) o q → ⊥) → up x o ≢ Some q → SameAt x z q
    kept_on k d kept q out ne =
        let apart : q ≢ o = λ e. out (rw e (within_self (up x) o)) in
        same_on (record { same_up = ups q apart; same_kids = k q ne; same_what = d q }) (kept q (λ w. out (inside_was q w)))
