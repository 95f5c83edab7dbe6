-- A child leaves its parent's list, and a part of the objects goes.
use Rattle.std.proofs.Common.{◌≡◌, ◌<◌, ◌≤◌, ◌⊎◌, ℕ, zero, suc, Option, Some, None, refl, sym, ap, ◌∙◌, inl, inr, arith, Bool, List, [], ◌∷◌, slice_get, length}
use Rattle.std.specs.List.{remove}
use Rattle.irtext_graph.specs.Nested.{climb, Nested}
use Rattle.irtext_graph.proofs.Nests.{Tells, same_or_other, some_eq, ends-on}

pub lower : (a b : ℕ) → (a < b) ⊎ (b ≤ a)
lower zero zero = inr (omega arith)
lower zero (suc b) = inl (omega arith)
lower (suc a) zero = inr (omega arith)
lower (suc a) (suc b) = elim (lower a b) [ inl l ↦ inl (omega arith) | inr l ↦ inr (omega arith) ]

pub get-remove-low : {X : Type 0} (xs : List X) (i j : ℕ) → j < i → i < length xs → slice_get (remove xs i) j ≡ slice_get xs j
get-remove-low [] i j low at = absurd (omega arith)
get-remove-low (x ∷ xs) zero j low at = absurd (omega arith)
get-remove-low (x ∷ xs) (suc i) zero low at = refl
get-remove-low (x ∷ xs) (suc i) (suc j) low at = get-remove-low xs i j (omega arith) (omega arith)

pub get-remove-high : {X : Type 0} (xs : List X) (i j : ℕ) → i ≤ j → i < length xs → slice_get (remove xs i) j ≡ slice_get xs (suc j)
get-remove-high [] i j high at = absurd (omega arith)
get-remove-high (x ∷ xs) zero j high at = refl
get-remove-high (x ∷ xs) (suc i) zero high at = absurd (omega arith)
get-remove-high (x ∷ xs) (suc i) (suc j) high at = get-remove-high xs i j (omega arith) (omega arith)

module _ {O : Type 0} (eqO : O → O → Bool) (t : Tells eqO) where
  -- c, the i-th child of k, has no parent now
  pub record Unlinks (kids kids' : O → List O) (up up' : O → Option O) (k c : O) (i : ℕ) : Type 0 where
    pub at : slice_get (kids k) i ≡ Some c
    pub low : (j : ℕ) → j < i → slice_get (kids' k) j ≡ slice_get (kids k) j
    pub high : (j : ℕ) → i ≤ j → slice_get (kids' k) j ≡ slice_get (kids k) (suc j)
    pub others : (x : O) → (x ≡ k → ⊥) → kids' x ≡ kids x
    pub up_here : up' c ≡ None
    pub ups : (x : O) → (x ≡ c → ⊥) → up' x ≡ up x

  pub unlinked : {kids kids' : O → List O} {up up' : O → Option O} {k c : O} {i : ℕ} → Nested kids up → Unlinks kids kids' up up' k c i → Nested kids' up'
  unlinked {kids} {kids'} {up} {up'} {k} {c} {i} s a = record { down = down; listed = listed; once = once; ends = ends }
    where
      -- the index that a child had
      was_at : (x : O) (j : ℕ) (d : O) → slice_get (kids' x) j ≡ Some d → (m : ℕ) × (slice_get (kids x) m ≡ Some d) × ((x ≡ k) → ((m ≡ j) × (j < i)) ⊎ ((m ≡ suc j) × (i ≤ j))) × ((x ≡ k → ⊥) → m ≡ j)
      was_at x j d e = elim (same_or_other t x k) [
        | inr ne ↦ (j, rw (a.others x ne) at e, λ p. absurd (ne p), λ _. refl)
        | inl p ↦
            let o : slice_get (kids' k) j ≡ Some d = rw p at e in
            elim (lower j i) [
              | inl l ↦ (j, rw p (sym (a.low j l) ∙ o), λ _. inl (refl, l), λ ne. absurd (ne p))
              | inr h ↦ (suc j, rw p (sym (a.high j h) ∙ o), λ _. inr (refl, h), λ ne. absurd (ne p))
            ]
      ]

      not_c : (x : O) (j : ℕ) (d : O) → slice_get (kids' x) j ≡ Some d → d ≡ c → ⊥
      not_c x j d e p =
          let w = was_at x j d e in
          let u : up c ≡ Some x = rw (← p) (s.down x w.0 d w.1) in
          let v : up c ≡ Some k = s.down k i c a.at in
          let xk : x ≡ k = some_eq (sym u ∙ v) in
          let there : slice_get (kids k) w.0 ≡ Some c = ap (λ y. slice_get (kids y) w.0) (sym xk) ∙ w.1 ∙ ap Some p in
          let same : w.0 ≡ i = s.once k w.0 i c there a.at in
          elim (w.2 xk) [
            | inl l ↦ let m = l.0 in let n = l.1 in omega (arith, same, m, n)
            | inr h ↦ let m = h.0 in let n = h.1 in omega (arith, same, m, n)
          ]

      down : (x : O) (j : ℕ) (d : O) → slice_get (kids' x) j ≡ Some d → up' d ≡ Some x
      down x j d e = let w = was_at x j d e in a.ups d (not_c x j d e) ∙ s.down x w.0 d w.1

      here : (d x : O) (m : ℕ) → (d ≡ c → ⊥) → slice_get (kids x) m ≡ Some d → (j : ℕ) × (slice_get (kids' x) j ≡ Some d)
      here d x m ne e = elim (same_or_other t x k) [
        | inr nk ↦ (m, rw (a.others x nk) e)
        | inl p ↦
            let o : slice_get (kids k) m ≡ Some d = rw p at e in
            elim (lower m i) [
              | inl l ↦ (m, rw p (a.low m l ∙ o))
              | inr h ↦ after m h o p
            ]
      ]
        where
          after : (m : ℕ) → i ≤ m → slice_get (kids k) m ≡ Some d → x ≡ k → (j : ℕ) × (slice_get (kids' x) j ≡ Some d)
          after zero h o p = let z : 0 ≡ i = omega (arith, h) in absurd (ne (some_eq (sym o ∙ ap (slice_get (kids k)) z ∙ a.at)))
          after (suc m) h o p = elim (lower m i) [
            | inl l ↦ let z : suc m ≡ i = omega (arith, h, l) in absurd (ne (some_eq (sym o ∙ ap (slice_get (kids k)) z ∙ a.at)))
            | inr g ↦ (m, rw p (a.high m g ∙ o))
          ]

      listed : (d x : O) → up' d ≡ Some x → (j : ℕ) × (slice_get (kids' x) j ≡ Some d)
      listed d x e = elim (same_or_other t d c) [
        | inl p ↦ let q : up' c ≡ Some x = ap up' (sym p) ∙ e in let r = a.up_here in absurd (cc)
        | inr ne ↦ let old = s.listed d x (sym (a.ups d ne) ∙ e) in here d x old.0 ne old.1
      ]

      once : (x : O) (j l : ℕ) (d : O) → slice_get (kids' x) j ≡ Some d → slice_get (kids' x) l ≡ Some d → j ≡ l
      once x j l d e f =
          let w = was_at x j d e in
          let v = was_at x l d f in
          let same = s.once x w.0 v.0 d w.1 v.1 in
          elim (same_or_other t x k) [
            | inr ne ↦ let m = w.3 ne in let n = v.3 ne in omega (arith, same, m, n)
            | inl p ↦ elim (w.2 p) [
              | inl m ↦ elim (v.2 p) [
                | inl n ↦ omega (arith, same, m.0, n.0)
                | inr n ↦ omega (arith, same, m.0, m.1, n.0, n.1)
              ]
              | inr m ↦ elim (v.2 p) [
                | inl n ↦ omega (arith, same, m.0, m.1, n.0, n.1)
                | inr n ↦ omega (arith, same, m.0, n.0)
              ]
            ]
          ]

      ends : (x : O) → (n : ℕ) × (climb up' n (Some x) ≡ None)
      ends x = let e = s.ends x in ends-on eqO t up up' c a.ups 1 a.up_here e.0 (Some x) e.1
