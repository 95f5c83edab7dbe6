-- Places in lists: the index of an element, and what is unchanged when one more is appended, or another put in its place.
use Rattle.std.proofs.Common.{◌≡◌, ℕ, zero, suc, ◌<◌, ◌≤◌, List, [], ◌∷◌, ◌++◌, length, take, drop, set, get_or, Some, refl, ap, arith, inl, inr, ◌⊎◌, ⊎_elim}
use Rattle.std.proofs.lemmas.List.{take-append-le}
use Rattle.std.specs.List.{slice_get}

pub get_within : {A : Type 0} (xs : List A) (i : ℕ) (x : A) → slice_get xs i ≡ Some x → i < length xs
get_within [] i x e = cc
get_within (y ∷ xs) zero x e = omega arith
get_within (y ∷ xs) (suc i) x e = let h = get_within xs i x e in omega arith

pub get_or_there : {A : Type 0} (xs : List A) (i : ℕ) (d x : A) → slice_get xs i ≡ Some x → get_or xs i d ≡ x
get_or_there [] i d x e = cc
get_or_there (y ∷ xs) zero d x e = cc
get_or_there (y ∷ xs) (suc i) d x e = get_or_there xs i d x e

module _ {A : Type 0} where
  pub get_snoc : (bs : List A) (b : A) (i : ℕ) (x : A) → slice_get (bs ++ b ∷ []) i ≡ Some x → ((slice_get bs i ≡ Some x) × (i < length bs)) ⊎ ((i ≡ length bs) × (b ≡ x))
  get_snoc [] b zero x e = inr (refl, (cc))
  get_snoc [] b (suc i) x e = cc
  get_snoc (k ∷ bs) b zero x e = inl (e, omega arith)
  get_snoc (k ∷ bs) b (suc i) x e = ⊎_elim (λ h. let j = h.1 in inl (h.0, omega arith)) (λ h. inr (ap suc h.0, h.1)) (get_snoc bs b i x e)

  pub take_snoc : (bs : List A) (b : A) (i : ℕ) → i ≤ length bs → take i (bs ++ b ∷ []) ≡ take i bs
  take_snoc bs b i h = take-append-le i bs (b ∷ []) h

  pub take_whole : (bs : List A) (b : A) → take (length bs) (bs ++ b ∷ []) ≡ bs
  take_whole [] b = refl
  take_whole (k ∷ bs) b = ap (λ z. k ∷ z) (take_whole bs b)

  pub get_before : (count : ℕ) (bs : List A) (i : ℕ) (x : A) → slice_get (take count bs) i ≡ Some x → slice_get bs i ≡ Some x
  get_before zero bs i x e = cc
  get_before (suc count) [] i x e = cc
  get_before (suc count) (k ∷ bs) zero x e = e
  get_before (suc count) (k ∷ bs) (suc i) x e = get_before count bs i x e

  pub drop_snoc : (bs : List A) (b : A) (i : ℕ) → i ≤ length bs → drop i (bs ++ b ∷ []) ≡ drop i bs ++ b ∷ []
  drop_snoc bs b zero h = refl
  drop_snoc [] b (suc i) h = absurd (omega arith)
  drop_snoc (k ∷ bs) b (suc i) h = drop_snoc bs b i (omega arith)

  pub get_last : (bs : List A) (b : A) → slice_get (bs ++ b ∷ []) (length bs) ≡ Some b
  get_last [] b = refl
  get_last (k ∷ bs) b = get_last bs b

  pub get_front : (bs : List A) (b x : A) (i : ℕ) → slice_get bs i ≡ Some x → slice_get (bs ++ b ∷ []) i ≡ Some x
  get_front [] b x i e = cc
  get_front (k ∷ bs) b x zero e = e
  get_front (k ∷ bs) b x (suc i) e = get_front bs b x i e

  pub set_there : (bs : List A) (i j : ℕ) (b x y : A) → slice_get bs i ≡ Some b → slice_get (set bs i x) j ≡ Some y → (slice_get bs j ≡ Some y) ⊎ ((i ≡ j) × (x ≡ y))
  set_there [] i j b x y e h = cc
  set_there (k ∷ bs) zero zero b x y e h = inr (refl, (cc))
  set_there (k ∷ bs) zero (suc j) b x y e h = inl h
  set_there (k ∷ bs) (suc i) zero b x y e h = inl h
  set_there (k ∷ bs) (suc i) (suc j) b x y e h = ⊎_elim (λ z. inl z) (λ z. inr (ap suc z.0, z.1)) (set_there bs i j b x y e h)
