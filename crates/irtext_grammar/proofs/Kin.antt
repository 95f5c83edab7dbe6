-- What is inside one of several children of an object is inside no other of them.
use Rattle.std.proofs.Common.{◌≡◌, ◌+◌, ◌⊎◌, ℕ, zero, suc, Option, Some, refl, sym, ap, ◌∙◌, inl, inr, arith, List, [], ◌∷◌, slice_get}
use Rattle.std.specs.Prelude.{⊤}
use Rattle.std.proofs.Math.Nat.{le_refl}
use Rattle.irtext_graph.specs.Nested.{climb, Within, Nested}
use Rattle.irtext_graph.specs.Chained.{Among}
use Rattle.irtext_graph.proofs.Nests.{some_eq, climb-add}
use Rattle.irtext_graph.proofs.Rank.{no_cycle}
use Rattle.irtext_grammar.specs.Spelling.Spellable.{Each}

-- two numbers are equal, or one is greater
order : (n m : ℕ) → (n ≡ m) ⊎ (((d : ℕ) × (m ≡ n + suc d)) ⊎ ((d : ℕ) × (n ≡ m + suc d)))
order zero zero = inl refl
order zero (suc m) = inr (inl (m, omega arith))
order (suc n) zero = inr (inr (n, omega arith))
order (suc n) (suc m) = elim (order n m) [
  | inl e ↦ inl (ap suc e)
  | inr more ↦ elim more [
    | inl below ↦ let e = below.1 in inr (inl (below.0, omega (arith, e)))
    | inr above ↦ let e = above.1 in inr (inr (above.0, omega (arith, e)))
  ]
]

module _ {O : Type 0} where
  -- no item is the same as a later one
  abbrev pub Differ : List O → Type 0
  Differ [] = ⊤
  Differ (x ∷ xs) = (Among x xs → ⊥) × Differ xs

  among_at : (x : O) (xs : List O) → Among x xs → (i : ℕ) × (slice_get xs i ≡ Some x)
  among_at x [] m = absurd m
  among_at x (y ∷ ys) m = elim m [
    | inl e ↦ (zero, ap Some (sym e))
    | inr n ↦ let r = among_at x ys n in (suc r.0, r.1)
  ]

  differs : (xs : List O) → ((i j : ℕ) (c : O) → slice_get xs i ≡ Some c → slice_get xs j ≡ Some c → i ≡ j) → Differ xs
  differs [] once = tt
  differs (x ∷ xs) once = (
    λ m. let r = among_at x xs m in let e = once zero (suc r.0) x refl r.1 in omega (arith, e),
    differs xs (λ i j c e f. let q = once (suc i) (suc j) c e f in omega (arith, q)),
  )

  -- these are children of one object, each of them once
  abbrev pub Kin : (O → Option O) → O → List O → Type 0
  Kin up k cs = Differ cs × Each (λ c. up c ≡ Some k) cs

  parents : (up : O → Option O) (k : O) (xs : List O) → ((i : ℕ) (c : O) → slice_get xs i ≡ Some c → up c ≡ Some k) → Each (λ c. up c ≡ Some k) xs
  parents up k [] down = tt
  parents up k (x ∷ xs) down = (down zero x refl, parents up k xs (λ i c e. down (suc i) c e))

  pub parent_of : (up : O → Option O) (k : O) (xs : List O) → Each (λ c. up c ≡ Some k) xs → (c : O) → Among c xs → up c ≡ Some k
  parent_of up k [] h c m = absurd m
  parent_of up k (x ∷ xs) h c m = elim m [
    | inl e ↦ ap up e ∙ h.0
    | inr n ↦ parent_of up k xs h.1 c n
  ]

  module _ {kids : O → List O} {up : O → Option O} (s : Nested kids up) where
    -- the children of an object
    pub kin : (k : O) → Kin up k (kids k)
    kin k = (differs (kids k) (s.once k), parents up k (kids k) (s.down k))

    -- no object is inside an object that is inside it
    pub not_above : (k c : O) → up c ≡ Some k → Within up c k → ⊥
    not_above k c e w =
        let z : suc w.0 ≡ w.0 + 1 = omega arith in
        let round : climb up (suc w.0) (Some k) ≡ Some k = ap (λ (n : ℕ). climb up n (Some k)) z ∙ (climb-add up w.0 1 (Some k) ∙ (ap (climb up 1) w.1 ∙ e)) in
        let end = s.ends k in
        no_cycle up k w.0 round end.0 end.0 (le_refl end.0) end.1

    later : (k c d q : O) → up c ≡ Some k → up d ≡ Some k → (n m j : ℕ) → climb up n (Some q) ≡ Some c → climb up m (Some q) ≡ Some d → m ≡ n + suc j → ⊥
    later k c d q p r n m j e f z =
        let way : climb up j (Some k) ≡ Some d =
        sym (ap (climb up (suc j)) e ∙ ap (climb up j) p) ∙ (sym (climb-add up n (suc j) (Some q)) ∙ (sym (ap (λ (i : ℕ). climb up i (Some q)) z) ∙ f)) in
        not_above k d r (j, way)

    -- an object that is inside two children is inside one and the same child
    pub same_child : (k c d q : O) → up c ≡ Some k → up d ≡ Some k → Within up c q → Within up d q → c ≡ d
    same_child k c d q p r w v = elim (order w.0 v.0) [
      | inl e ↦ some_eq (sym w.1 ∙ (ap (λ (i : ℕ). climb up i (Some q)) e ∙ v.1))
      | inr more ↦ elim more [
        | inl below ↦ absurd (later k c d q p r w.0 v.0 below.0 w.1 v.1 below.1)
        | inr above ↦ absurd (later k d c q r p v.0 w.0 above.0 v.1 w.1 above.1)
      ]
    ]
