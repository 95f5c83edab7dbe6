-- Lists that are gathered item by item.
use Rattle.std.proofs.Common.{◌≡◌, ◌<◌, ◌≤◌, ◌+◌, ◌++◌, ◌∷◌, ◌∙◌, ◌⊎◌, ℕ, zero, suc, refl, sym, ap, subst, inl, inr, arith, List, [], Some, Result, Ok, Err, IfOk, map, length, slice_get}
use Rattle.std.proofs.lemmas.List.{length-append, map-id}
use Rattle.std.proofs.lemmas.Option.{slice_get_within}
use Rattle.std.proofs.Math.Nat.{eq-or-lt_of_le}
use Rattle.irtext_graph_queries.specs.Lists.{each, AreEach}

module _ {X : Type 0} where
  -- the item that was pushed is the last
  at_last : (xs : List X) (x : X) → slice_get (xs ++ x ∷ []) (length xs) ≡ Some x
  at_last [] x = refl
  at_last (z ∷ xs) x = at_last xs x

  -- all other items are unchanged
  at_earlier : (xs : List X) (x : X) (i : ℕ) → i < length xs → slice_get (xs ++ x ∷ []) i ≡ slice_get xs i
  at_earlier [] x i less = absurd (omega (arith, less))
  at_earlier (z ∷ xs) x zero less = refl
  at_earlier (z ∷ xs) x (suc i) less = at_earlier xs x i (omega (arith, less))

  pub length_each : (f : ℕ → X) (n : ℕ) → length (each f n) ≡ n
  length_each f zero = refl
  length_each f (suc n) =
      let longer = length-append (each f n) (f n ∷ []) in
      let before = length_each f n in
      omega (arith, longer, before)

  pub at_each : (f : ℕ → X) (n i : ℕ) → i < n → slice_get (each f n) i ≡ Some (f i)
  at_each f zero i less = absurd (omega (arith, less))
  at_each f (suc n) i less = go (eq-or-lt_of_le (omega (arith, less))) (at_each f n i)
    where
      go : (i ≡ n) ⊎ (i < n) → (i < n → slice_get (each f n) i ≡ Some (f i)) → slice_get (each f n ++ f n ∷ []) i ≡ Some (f i)
      go (inl last) before = subst (λ k. slice_get (each f n ++ f n ∷ []) k ≡ Some (f k)) (sym last) (subst (λ k. slice_get (each f n ++ f n ∷ []) k ≡ Some (f n)) (length_each f n) (at_last (each f n) (f n)))
      go (inr earlier) before = at_earlier (each f n) (f n) i (let all = length_each f n in omega (arith, all, earlier)) ∙ before earlier

module _ {X Y : Type 0} (see : X → Y) where
  -- the images of the items are a list, if the image of each is at its index in the list
  all_seen : (xs : List X) (ys : List Y) → length xs ≡ length ys → ((i : ℕ) (x : X) → slice_get xs i ≡ Some x → slice_get ys i ≡ Some (see x)) → map see xs ≡ ys
  all_seen [] [] e same = refl
  all_seen [] (y ∷ ys) e same = absurd (omega (arith, e))
  all_seen (x ∷ xs) [] e same = absurd (omega (arith, e))
  all_seen (x ∷ xs) (y ∷ ys) e same =
      let first : Some y ≡ Some (see x) = same zero x refl in
      let head : see x ≡ y = cc in
      ap (λ z. z ∷ map see xs) head ∙ ap (λ zs. y ∷ zs) (all_seen xs ys (omega (arith, e)) (λ i z at. same (suc i) z at))

-- the images of f of all numbers below the length of a list are the list, if the image at each is what the list has there
pub seen_each : {X Y : Type 0} (see : X → Y) (f : ℕ → X) (ys : List Y) → ((i : ℕ) → i < length ys → slice_get ys i ≡ Some (see (f i))) → map see (each f (length ys)) ≡ ys
seen_each see f ys at = all_seen see (each f (length ys)) ys (length_each f (length ys)) (λ i x e.
    let less : i < length ys = rw (← length_each f (length ys)) (slice_get_within (each f (length ys)) i x e) in
    let here : Some x ≡ Some (f i) = sym e ∙ at_each f (length ys) i less in
    let same : f i ≡ x = cc in
    at i less ∙ ap (λ z. Some (see z)) same)

-- an element of a list with one more is one of the list, or the last
at_either : {X : Type 0} (xs : List X) (x : X) (i : ℕ) (y : X) → slice_get (xs ++ x ∷ []) i ≡ Some y → (slice_get xs i ≡ Some y) ⊎ ((i ≡ length xs) × (x ≡ y))
at_either [] x zero y e = inr (refl, cc)
at_either [] x (suc i) y e = absurd (cc)
at_either (z ∷ xs) x zero y e = inl e
at_either (z ∷ xs) x (suc i) y e = elim (at_either xs x i y e) [ inl earlier ↦ inl earlier | inr last ↦ inr (ap suc last.0, last.1) ]

module _ {X : Type 0} (At : ℕ → X → Type 0) where
  -- no element was listed yet
  pub none_each : (xs : List X) → xs ≡ [] → AreEach At 0 xs
  none_each xs e = rw e (record { counted = refl; met = λ i x at. absurd (cc) })

  -- one more element was listed
  pub next_each : (all new : List X) (i : ℕ) (x : X) → At i x → AreEach At i all → new ≡ all ++ x ∷ [] → AreEach At (i + 1) new
  next_each all new i x here before pushed = rw pushed (record {
    counted = let longer = length-append all (x ∷ []) in let c = before.counted in omega (arith, longer, c);
    met = λ j y at. elim (at_either all x j y at) [
      | inl earlier ↦ before.met j y earlier
      | inr last ↦ subst (λ z. At j z) last.1 (subst (λ k. At k x) (sym (last.0 ∙ before.counted)) here)
    ];
  })

  -- all elements were listed
  pub counted_each : (all : List X) (i n : ℕ) → i ≤ n → n ≤ i → AreEach At i all → AreEach At n all
  counted_each all i n within end before = subst (λ k. AreEach At k all) (omega (arith, within, end)) before

-- the images of what a call returned are a list, if the relation says so of each element
pub same_seen : {V E X Y : Type 0} (see : X → Y) (items : V → List X) {At : ℕ → X → Type 0} {n : ℕ} (r : Result V E) (ys : List Y) → n ≡ length ys
    → ((i : ℕ) (x : X) → i < n → At i x → slice_get ys i ≡ Some (see x)) → IfOk r (λ v. AreEach At n (items v)) → IfOk r (λ v. map see (items v) ≡ ys)
same_seen see items (Err e) ys count at met = met
same_seen see items (Ok v) ys count at met =
    all_seen see (items v) ys (met.counted ∙ count) (λ i x here. at i x (rw (← met.counted) (slice_get_within (items v) i x here)) (met.met i x here))

-- the same of what it returned
pub same_each : {V E X : Type 0} (items : V → List X) {At : ℕ → X → Type 0} {n : ℕ} (r : Result V E) (ys : List X) → n ≡ length ys
    → ((i : ℕ) (x : X) → i < n → At i x → slice_get ys i ≡ Some x) → IfOk r (λ v. AreEach At n (items v)) → IfOk r (λ v. items v ≡ ys)
same_each items (Err e) ys count at met = met
same_each {V} {E} items (Ok v) ys count at met = sym (map-id (items v)) ∙ same_seen {E = E} (λ x. x) items (Ok v) ys count at met

-- what a call returned is the images of the numbers below a count, if the relation says so of each element
pub made_each : {V E X : Type 0} (items : V → List X) {At : ℕ → X → Type 0} {n : ℕ} (r : Result V E) (f : ℕ → X) (count : ℕ) → n ≡ count
    → ((i : ℕ) (x : X) → At i x → f i ≡ x) → IfOk r (λ v. AreEach At n (items v)) → IfOk r (λ v. items v ≡ each f count)
made_each items r f count counted at =
    same_each items r (each f count) (counted ∙ sym (length_each f count)) (λ i x less here. at_each f count i (omega (arith, counted, less)) ∙ ap Some (at i x here))
