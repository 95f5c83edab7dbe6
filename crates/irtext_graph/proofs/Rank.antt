-- How deep an object is nested: a number that a measure can compute.
use Rattle.std.proofs.Common.{◌≡◌, ◌<◌, ◌≤◌, ◌+◌, ◌⊎◌, ℕ, zero, suc, Option, Some, None, refl, sym, ap, ◌∙◌, inl, inr, arith, Bool, true, false, List, [], ◌∷◌, length, eqb, ◌||◌}
use Rattle.std.specs.List.{IsDistinct, AllByRecursion, list_any}
use Rattle.std.proofs.lemmas.Bool.{eqb-true}
use Rattle.std.proofs.lemmas.Map.Steps.{length-le_from_distinct_below}
use Rattle.irtext_graph.specs.Nested.{climb}
use Rattle.irtext_graph.proofs.Nests.{seen, some_eq, climb-none, climb-add}

module _ {O : Type 0} where
  -- the steps upwards, n at most
  abbrev pub depth : (O → Option O) → ℕ → Option O → ℕ
  depth up zero o = 0
  depth up (suc n) None = 0
  depth up (suc n) (Some x) = suc (depth up n (up x))

  pub depth-le : (up : O → Option O) (n : ℕ) (o : Option O) → depth up n o ≤ n
  depth-le up zero o = omega arith
  depth-le up (suc n) None = omega arith
  depth-le up (suc n) (Some x) = let k = depth-le up n (up x) in omega arith

  pub depth-done : (up : O → Option O) (n : ℕ) (o : Option O) → climb up n o ≡ None → depth up (suc n) o ≡ depth up n o
  depth-done up zero None e = refl
  depth-done up zero (Some x) e = absurd (cc)
  depth-done up (suc n) None e = refl
  depth-done up (suc n) (Some x) e = ap suc (depth-done up n (up x) e)

  -- no object is nested in itself
  pub no_cycle : (up : O → Option O) (x : O) (k : ℕ) → climb up (suc k) (Some x) ≡ Some x → (fuel n : ℕ) → n ≤ fuel → climb up n (Some x) ≡ None → ⊥
  no_cycle up x k round fuel zero low e = cc
  no_cycle up x k round zero (suc n) low e = omega arith
  no_cycle up x k round (suc fuel) (suc n) low e = elim (split n k) [
    | inl (m, q) ↦
        -- the way has ended before it returns to its start
        let f : climb up (suc n + m) (Some x) ≡ climb up m (climb up (suc n) (Some x)) = climb-add up (suc n) m (Some x) in
        let g : climb up m (climb up (suc n) (Some x)) ≡ climb up m None = ap (climb up m) e in
        let h : climb up (suc k) (Some x) ≡ climb up (suc n + m) (Some x) = ap (λ (j : ℕ). climb up j (Some x)) q in
        let z = climb-none up m in
        cc
    | inr (m, q) ↦
        let f : climb up (suc k + m) (Some x) ≡ climb up m (climb up (suc k) (Some x)) = climb-add up (suc k) m (Some x) in
        let g : climb up m (climb up (suc k) (Some x)) ≡ climb up m (Some x) = ap (climb up m) round in
        let h : climb up (suc n) (Some x) ≡ climb up (suc k + m) (Some x) = ap (λ (j : ℕ). climb up j (Some x)) q in
        no_cycle up x k round fuel m (omega (arith, q)) (sym (h ∙ f ∙ g) ∙ e)
  ]
    where
      split : (n k : ℕ) → ((m : ℕ) × (suc k ≡ suc n + m)) ⊎ ((m : ℕ) × (suc n ≡ suc k + m))
      split zero k = inl (k, omega arith)
      split (suc n) zero = inr (suc n, omega arith)
      split (suc n) (suc k) = elim (split n k) [ inl (m, q) ↦ inl (m, omega (arith, q)) | inr (m, q) ↦ inr (m, omega (arith, q)) ]

  -- each object on a way up, before its end, has a parent
  pub upper : (up : O → Option O) (n : ℕ) (o : Option O) (z : O) → climb up n o ≡ Some z → (k : ℕ) (y : O) → k < n → climb up k o ≡ Some y → (w : O) × (up y ≡ Some w)
  upper up zero o z e k y low f = absurd (omega arith)
  upper up (suc n) None z e k y low f = absurd (cc)
  upper up (suc n) (Some x) z e zero y low f = elim (seen (up x)) [
    | inl none ↦ absurd (let g = climb-none up n in let h : climb up n (up x) ≡ climb up n None = ap (climb up n) none in cc)
    | inr (w, g) ↦ (w, ap up (sym (some_eq f)) ∙ g)
  ]
  upper up (suc n) (Some x) z e (suc k) y low f = upper up n (up x) z e k y (omega arith) f

  -- a number below B for each object with a parent, another for each
  pub record Counts (up : O → Option O) (code : O → ℕ) (B : ℕ) : Type 0 where
    pub small : (x y : O) → up x ≡ Some y → code x < B
    pub tells : (x x' y y' : O) → up x ≡ Some x' → up y ≡ Some y' → code x ≡ code y → x ≡ y

  module _ (up : O → Option O) (code : O → ℕ) (B : ℕ) (c : Counts up code B) (ends : (x : O) → (n : ℕ) × (climb up n (Some x) ≡ None)) where
    abbrev codes : ℕ → Option O → List ℕ
    codes zero o = []
    codes (suc n) None = []
    codes (suc n) (Some x) = code x ∷ codes n (up x)

    codes-length : (n : ℕ) (o : Option O) (z : O) → climb up n o ≡ Some z → length (codes n o) ≡ n
    codes-length zero o z e = refl
    codes-length (suc n) None z e = absurd (cc)
    codes-length (suc n) (Some x) z e = let k = codes-length n (up x) z e in omega (arith, k)

    codes-all : (d : ℕ) (n : ℕ) (o : Option O) → ((k : ℕ) (y : O) → k < n → climb up k o ≡ Some y → eqb d (code y) ≡ false) → AllByRecursion (λ z. eqb d z ≡ false) (codes n o)
    codes-all d zero o f = tt
    codes-all d (suc n) None f = tt
    codes-all d (suc n) (Some x) f = (f zero x (omega arith) refl, codes-all d n (up x) (λ k y low e. f (suc k) y (omega arith) e))

    codes-low : (n : ℕ) (o : Option O) → ((k : ℕ) (y : O) → k < n → climb up k o ≡ Some y → code y < B) → (q : ℕ) → list_any (eqb q) (codes n o) ≡ true → q < B
    codes-low zero o f q e = absurd (cc)
    codes-low (suc n) None f q e = absurd (cc)
    codes-low (suc n) (Some x) f q e = go (λ h. codes-low n (up x) (λ k y low e. f (suc k) y (omega arith) e) q h) (eqb q (code x)) refl e
      where
        go : (list_any (eqb q) (codes n (up x)) ≡ true → q < B) → (t : Bool) → eqb q (code x) ≡ t → (t || list_any (eqb q) (codes n (up x))) ≡ true → q < B
        go ih true p h = let k = eqb-true q (code x) p in let l = f zero x (omega arith) refl in omega (arith, k, l)
        go ih false p h = ih h

    codes-distinct : (n : ℕ) (o : Option O) (z : O) → climb up n o ≡ Some z → IsDistinct eqb (codes n o)
    unfolding IsDistinct
    codes-distinct zero o z e = tt
    codes-distinct (suc n) None z e = absurd (cc)
    codes-distinct (suc n) (Some x) z e = (codes-all (code x) n (up x) (λ k y low f. go k y low f (eqb (code x) (code y)) refl), codes-distinct n (up x) z e)
      where
        go : (k : ℕ) (y : O) → k < n → climb up k (up x) ≡ Some y → (t : Bool) → eqb (code x) (code y) ≡ t → t ≡ false
        go k y low f true p =
            let ux = upper up (suc n) (Some x) z e zero x (omega arith) refl in
            let uy = upper up n (up x) z e k y low f in
            let xy = c.tells x ux.0 y uy.0 ux.1 uy.1 (eqb-true (code x) (code y) p) in
            let d = ends x in
            absurd (no_cycle up x k (f ∙ ap Some (sym xy)) d.0 d.0 (omega arith) d.1)
        go k y low f false p = refl

    -- no way upwards has more than B steps
    pub way_le : (n : ℕ) (x z : O) → climb up n (Some x) ≡ Some z → n ≤ B
    way_le n x z e =
        let l = codes-length n (Some x) z e in
        let k = length-le_from_distinct_below (codes n (Some x)) B (codes-distinct n (Some x) z e)
        (codes-low n (Some x) (λ k y low f. let u = upper up n (Some x) z e k y low f in c.small y u.0 u.1)) in
        omega (arith, l, k)

    pub way_ends : (x : O) → climb up (suc B) (Some x) ≡ None
    way_ends x = elim (seen (climb up (suc B) (Some x))) [
      | inl e ↦ e
      | inr (z, e) ↦ absurd (let k = way_le (suc B) x z e in omega (arith, k))
    ]

    -- a child is deeper than its parent
    pub deeper : (x y : O) → up x ≡ Some y → depth up (suc B) (Some x) ≡ suc (depth up (suc B) (Some y))
    deeper x y e =
        let w : climb up B (Some y) ≡ None = ap (climb up B) (sym e) ∙ way_ends x in
        let d : depth up B (up x) ≡ depth up B (Some y) = ap (depth up B) e in
        let s = depth-done up B (Some y) w in
        ap suc (d ∙ sym s)
