-- An object is inserted or moved beside another one.
use Rattle.std.proofs.Common.{◌≡◌, ◌≢◌, ◌<◌, ◌-◌, ◌∷◌, ◌∙◌, ◌⊎◌, inl, inr, ℕ, zero, suc, refl, sym, ap, subst, arith, Bool, true, false, cond, List}
use Rattle.std.proofs.Common.{[], Some, IsSome, option_map, length, slice_get, Result, Ok, Err, OnOk}
use Rattle.std.specs.List.{remove}
use Rattle.std.proofs.lemmas.List.Edits.{length-remove}
use Rattle.std.proofs.lemmas.Option.{slice_get_within}
use Rattle.irtext_graph.specs.declared.object.Object.{Object}
use Rattle.irtext_graph.specs.Edits.{without, InsertsAt, Moves}
use Rattle.irtext_graph.specs.Graph.{GraphView, parent, children, CanInsert, IsInside}
use Rattle.irtext_graph.specs.Nested.{Nested}
use Rattle.irtext_graph.specs.Objects.{eq_object, Fits}
use Rattle.irtext_graph.proofs.Inside.{within_self, within_up}
use Rattle.irtext_graph.proofs.Moves.{get-remove-low, get-remove-high}
use Rattle.irtext_graph.proofs.Moving.{without_absent, without_once}
use Rattle.irtext_graph.proofs.Nests.{some_eq}

-- what is left in a list without c is in the list
among : (c d : Object) (xs : List Object) (i : ℕ) → slice_get (without c xs) i ≡ Some d → (l : ℕ) × (slice_get xs l ≡ Some d)
among c d [] i e = absurd (cc)
among c d (x ∷ xs) i e = go (eq_object x c) i e (among c d xs)
  where
    go : (b : Bool) (i : ℕ) → slice_get (cond b (without c xs) (x ∷ without c xs)) i ≡ Some d
        → ((i : ℕ) → slice_get (without c xs) i ≡ Some d → (l : ℕ) × (slice_get xs l ≡ Some d)) → (l : ℕ) × (slice_get (x ∷ xs) l ≡ Some d)
    go true i e rec = let z = rec i e in (suc z.0, z.1)
    go false zero e rec = (zero, e)
    go false (suc i) e rec = let z = rec i e in (suc z.0, z.1)

-- in a list without c, what is once in the list has one index
pub one_index : (c d : Object) (xs : List Object) → ((j l : ℕ) (d : Object) → slice_get xs j ≡ Some d → slice_get xs l ≡ Some d → j ≡ l) → (i j : ℕ)
    → slice_get (without c xs) i ≡ Some d → slice_get (without c xs) j ≡ Some d → i ≡ j
one_index c d [] once i j a b = absurd (cc)
one_index c d (x ∷ xs) once i j a b = go (eq_object x c) i j a b (one_index c d xs (λ j l d e f. let k = once (suc j) (suc l) d e f in omega (arith, k)))
  where
    go : (t : Bool) (i j : ℕ) → slice_get (cond t (without c xs) (x ∷ without c xs)) i ≡ Some d
        → slice_get (cond t (without c xs) (x ∷ without c xs)) j ≡ Some d
        → ((i j : ℕ) → slice_get (without c xs) i ≡ Some d → slice_get (without c xs) j ≡ Some d → i ≡ j) → i ≡ j
    go true i j a b rec = rec i j a b
    go false zero zero a b rec = refl
    go false zero (suc j) a b rec = let z = among c d xs j b in let k = once zero (suc z.0) d a z.1 in absurd (omega (arith, k))
    go false (suc i) zero a b rec = let z = among c d xs i a in let k = once zero (suc z.0) d b z.1 in absurd (omega (arith, k))
    go false (suc i) (suc j) a b rec = ap suc (rec i j a b)

module _ {O B T : Type 0} (g : GraphView O B T) (s : Nested (children g) (parent g)) (k c : Object) where
  -- c is no child of k
  module _ (away : parent g c ≡ Some k → ⊥) where
    all_kept : without c (children g k) ≡ children g k
    all_kept = without_absent c (children g k) (λ j e. away (s.down k j c e))

    pub index_away : (mark : Object) (i : ℕ) → slice_get (children g k) i ≡ Some mark → slice_get (without c (children g k)) i ≡ Some mark
    index_away mark i at = ap (λ xs. slice_get xs i) all_kept ∙ at

    pub count_away : (n : ℕ) → n ≡ length (children g k) → n ≡ length (without c (children g k))
    count_away n e = e ∙ sym (ap length all_kept)

  -- c is the child of k with this index
  module _ (j : ℕ) (there : slice_get (children g k) j ≡ Some c) where
    one_less : without c (children g k) ≡ remove (children g k) j
    one_less = without_once c (children g k) j there (λ l e. s.once k j l c there e)

    within : j < length (children g k)
    within = slice_get_within (children g k) j c there

    pub index_after : (mark : Object) (i : ℕ) → slice_get (children g k) i ≡ Some mark → j < i → slice_get (without c (children g k)) (i - 1) ≡ Some mark
    index_after mark i at low =
        let e : suc (i - 1) ≡ i = omega (arith, low) in
        ap (λ xs. slice_get xs (i - 1)) one_less ∙ get-remove-high (children g k) j (i - 1) (omega (arith, low)) within ∙ ap (slice_get (children g k)) e ∙ at

    pub index_before : (mark : Object) (i : ℕ) → slice_get (children g k) i ≡ Some mark → mark ≢ c → (j < i → ⊥)
        → slice_get (without c (children g k)) i ≡ Some mark
    index_before mark i at ne not_low =
        let apart : i ≢ j = λ e. ne (some_eq (sym at ∙ ap (slice_get (children g k)) e ∙ there)) in
        let low : i < j = elim (order i j) [ inl l ↦ l | inr m ↦ elim m [ inl e ↦ absurd (apart e) | inr h ↦ absurd (not_low h) ] ] in
        ap (λ xs. slice_get xs i) one_less ∙ get-remove-low (children g k) j i low within ∙ at
      where
        order : (a b : ℕ) → (a < b) ⊎ ((a ≡ b) ⊎ (b < a))
        order zero zero = inr (inl refl)
        order zero (suc b) = inl (omega arith)
        order (suc a) zero = inr (inr (omega arith))
        order (suc a) (suc b) = elim (order a b) [
          | inl l ↦ inl (omega (arith, l))
          | inr m ↦ elim m
              [ inl e ↦ inr (inl (ap suc e)) | inr h ↦ inr (inr (omega (arith, h))) ]
        ]

    pub count_there : (n : ℕ) → n ≡ length (children g k) → (n - 1 ≡ length (without c (children g k))) × (0 < n)
    count_there n e =
        let l = ap length one_less in
        let r = length-remove (children g k) j within in
        let w = within in
        (omega (arith, l, r, e, w), omega (arith, e, w))

module _ {O B T : Type 0} where
  -- what can be inserted beside mark can be inserted into its parent
  pub can_around : (g : GraphView O B T) (mark c k : Object) → parent g mark ≡ Some k → CanInsert g mark c → CanInsert g k c
  can_around g mark c k at can = record { free = can.free; apart = λ w. can.apart (within_up (parent g) c mark k at w) }

  pub apart_around : (g : GraphView O B T) (mark c k : Object) → parent g mark ≡ Some k → (IsInside g c mark → ⊥) → IsInside g c k → ⊥
  apart_around g mark c k at apart w = apart (within_up (parent g) c mark k at w)

  pub not_itself : (g : GraphView O B T) (mark c : Object) → (IsInside g c mark → ⊥) → mark ≢ c
  not_itself g mark c apart e = apart (subst (IsInside g c) (sym e) (within_self (parent g) c))

  -- the parent of mark can have what is of its kind
  pub fits_around : (g : GraphView O B T) (mark c k : Object) → Nested (children g) (parent g)
      → ((k c : Object) (i : ℕ) → slice_get (children g k) i ≡ Some c → Fits k c) → parent g mark ≡ Some k
      → ((k : Object) → Fits k mark → Fits k c) → Fits k c
  fits_around g mark c k s kinds at alike = let m = s.listed mark k at in alike k (kinds k mark m.0 m.1)

  -- an insertion beside mark: f is what becomes of the index of mark
  pub inserts_beside : (f : ℕ → ℕ) (g h : GraphView O B T) (mark c k : Object) (i : ℕ) {E : Type 0} (r : Result (Unit {0}) E) → Nested (children g) (parent g)
      → parent g mark ≡ Some k → slice_get (children g k) i ≡ Some mark → OnOk r (InsertsAt g h k (f i) c)
      → OnOk r ((k' : Object) (j : ℕ) → parent g mark ≡ Some k' → slice_get (children g k') j ≡ Some mark → InsertsAt g h k' (f j) c)
  inserts_beside f g h mark c k i (Err x) s is at a = a
  inserts_beside f g h mark c k i (Ok u) s is at a = λ k' j is' at'.
      let same : k ≡ k' = some_eq (sym is ∙ is') in
      let where_at : i ≡ j = s.once k i j mark at (ap (λ y. slice_get (children g y) j) same ∙ at') in
      subst (λ y. InsertsAt g h y (f j) c) same (subst (λ y. InsertsAt g h k (f y) c) where_at a)

  -- the same of a move
  pub moves_beside : (f : ℕ → ℕ) (g h : GraphView O B T) (mark c k : Object) (i : ℕ) {E : Type 0} (r : Result (Unit {0}) E) → Nested (children g) (parent g)
      → parent g mark ≡ Some k → slice_get (without c (children g k)) i ≡ Some mark → OnOk r (Moves g h k (f i) c)
      → OnOk r ((k' : Object) (j : ℕ) → parent g mark ≡ Some k' → slice_get (without c (children g k')) j ≡ Some mark → Moves g h k' (f j) c)
  moves_beside f g h mark c k i (Err x) s is at a = a
  moves_beside f g h mark c k i (Ok u) s is at a = λ k' j is' at'.
      let same : k ≡ k' = some_eq (sym is ∙ is') in
      let where_at : i ≡ j = one_index c mark (children g k) (λ l m d e f. s.once k l m d e f) i j at
      (ap (λ y. slice_get (without c (children g y)) j) same ∙ at') in
      subst (λ y. Moves g h y (f j) c) same (subst (λ y. Moves g h k (f y) c) where_at a)

-- at an index of a list there is an item, and its image
pub mapped_there : {X Y : Type 0} (f : X → Y) (xs : List X) (i : ℕ) → i < length xs → IsSome (option_map f (slice_get xs i))
mapped_there f [] i low = absurd (omega (arith, low))
mapped_there f (x ∷ xs) zero low = refl
mapped_there f (x ∷ xs) (suc i) low = mapped_there f xs i (omega (arith, low))
