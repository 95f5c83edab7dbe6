-- Which objects are inside which, while an object is erased piece by piece.
use Rattle.std.proofs.Common.{◌≡◌, ◌+◌, ◌⊎◌, ℕ, zero, suc, Option, Some, None, refl, sym, ap, ◌∙◌, inl, inr, Bool, List, [], slice_get}
use Rattle.irtext_graph.specs.Nested.{climb, Within, Nested}
use Rattle.irtext_graph.proofs.Nests.{Tells, same_or_other, seen, some_eq, climb-none, climb-add}

module _ {O : Type 0} (eqO : O → O → Bool) (t : Tells eqO) where
  -- whether c is among o and its ancestors, within n steps
  way : (up : O → Option O) (c : O) (n : ℕ) (o : Option O) → climb up n o ≡ None → ((m : ℕ) × (climb up m o ≡ Some c)) ⊎ ((m : ℕ) → climb up m o ≡ Some c → ⊥)
  way up c zero o e = inr (λ m f. let k = climb-none up m in let g : climb up m o ≡ climb up m None = ap (climb up m) e in cc)
  way up c (suc n) None e = inr (λ m f. let k = climb-none up m in cc)
  way up c (suc n) (Some x) e =
      elim (same_or_other t x c) [
        | inl here ↦ inl (zero, ap Some here)
        | inr ne ↦ elim (way up c n (up x) e) [
          | inl (m, f) ↦ inl (suc m, f)
          | inr apart ↦ inr (λ m f. later ne apart m f)
        ]
      ]
    where
      later : (x ≡ c → ⊥) → ((m : ℕ) → climb up m (up x) ≡ Some c → ⊥) → (m : ℕ) → climb up m (Some x) ≡ Some c → ⊥
      later ne apart zero f = ne (some_eq f)
      later ne apart (suc m) f = apart m f

  -- if each way up ends, it is decidable whether an object is inside another
  pub within_or : (up : O → Option O) → ((x : O) → (n : ℕ) × (climb up n (Some x) ≡ None)) → (c x : O) → (Within up c x) ⊎ (Within up c x → ⊥)
  within_or up ends c x = let e = ends x in
      elim (way up c e.0 (Some x) e.1) [
        | inl w ↦ inl w
        | inr apart ↦ inr (λ w. apart w.0 w.1)
      ]

module _ {O : Type 0} where
  pub within_self : (up : O → Option O) (o : O) → Within up o o
  within_self up o = (zero, refl)

  pub within_up : (up : O → Option O) (o x y : O) → up x ≡ Some y → Within up o y → Within up o x
  within_up up o x y e w = (suc w.0, ap (climb up w.0) e ∙ w.1)

  -- an object inside an object inside o is inside o
  pub within_on : (up : O → Option O) (o c x : O) → Within up o c → Within up c x → Within up o x
  within_on up o c x w v = (v.0 + w.0, climb-add up v.0 w.0 (Some x) ∙ ap (climb up w.0) v.1 ∙ w.1)

  -- if an object is nested in o, o has a child
  pub last_step : (up : O → Option O) (o : O) (n : ℕ) (x : O) → climb up (suc n) (Some x) ≡ Some o → (y : O) × (up y ≡ Some o)
  last_step up o zero x e = (x, e)
  last_step up o (suc n) x e = elim (seen (up x)) [
    | inl none ↦ absurd (let k : climb up (suc n) (up x) ≡ None = ap (climb up (suc n)) none in cc)
    | inr (y, f) ↦ last_step up o n y (ap (climb up (suc n)) (sym f) ∙ e)
  ]

  -- nothing else is inside an object without children
  pub alone : {kids : O → List O} {up : O → Option O} → Nested kids up → (o x : O) → kids o ≡ [] → Within up o x → x ≡ o
  alone {kids} {up} s o x none w = go w.0 w.1
    where
      go : (n : ℕ) → climb up n (Some x) ≡ Some o → x ≡ o
      go zero e = some_eq e
      go (suc n) e =
          let y = last_step up o n x e in
          let at = s.listed y.0 o y.1 in
          let f : slice_get (kids o) at.0 ≡ None = ap (λ xs. slice_get xs at.0) none in
          absurd (cc)

  -- ways up that lead from one object to another lead there in a second graph too, if a premise holds of each object on the way
  pub carried : (up up' : O → Option O) (P : O → Type 0) (o : O) → ((x : O) → P x → (x ≡ o) ⊎ (up' x ≡ up x)) → ((x y : O) → P x → up x ≡ Some y → P y) → (n : ℕ) (x : O) → P x → climb up n (Some x) ≡ Some o → Within up' o x
  carried up up' P o same on zero x p e = (zero, e)
  carried up up' P o same on (suc n) x p e = elim (seen (up x)) [
    | inl none ↦ absurd (let k = climb-none up n in let g : climb up n (up x) ≡ climb up n None = ap (climb up n) none in cc)
    | inr (y, f) ↦ elim (same x p) [
      | inl here ↦ (zero, ap Some here)
      | inr eq ↦ within_up up' o x y (eq ∙ f) (carried up up' P o same on n y (on x y p f) (ap (climb up n) (sym f) ∙ e))
    ]
  ]

  -- each step upwards in up' is one in up
  pub fewer_ways : (up up' : O → Option O) → ((x y : O) → up' x ≡ Some y → up x ≡ Some y) → (o : O) (n : ℕ) (x : O) → climb up' n (Some x) ≡ Some o → Within up o x
  fewer_ways up up' step o zero x e = (zero, e)
  fewer_ways up up' step o (suc n) x e = elim (seen (up' x)) [
    | inl none ↦ absurd (let k = climb-none up' n in let g : climb up' n (up' x) ≡ climb up' n None = ap (climb up' n) none in cc)
    | inr (y, f) ↦ within_up up o x y (step x y f) (fewer_ways up up' step o n y (ap (climb up' n) (sym f) ∙ e))
  ]
