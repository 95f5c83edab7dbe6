-- Equality of pointers, and look-ups in a list with another item at one index.
use Rattle.std.proofs.Common.{◌≡◌, ◌≢◌, ◌⊎◌, inl, inr, ◌==◌, ℕ, zero, suc, refl, ap, Bool, true, false, Some, List, [], ◌∷◌, slice_get, set}
use Rattle.std.proofs.lemmas.Bool.{eqb-true, eq-eqb}
use Rattle.std.specs.declared.marker.PhantomData.{PhantomData}
use Rattle.irtext_graph.specs.declared.arena.Ptr.{Ptr}

-- two numbers are equal or not
pub equal_or_not : (a b : ℕ) → (a ≡ b) ⊎ (a ≢ b)
equal_or_not a b = go (a == b) refl
  where
    go : (t : Bool) → (a == b) ≡ t → (a ≡ b) ⊎ (a ≢ b)
    go true e = inl (eqb-true a b e)
    go false e = inr (λ s. let k = eq-eqb a b s in cc)

module _ {K : Type 0} where
  pub ptr_same : (p q : Ptr K) → p.index ≡ q.index → p.generation ≡ q.generation → p ≡ q
  ptr_same p q e f = go p.index p.generation q.index q.generation p.of q.of e f
    where
      go : (a b c d : ℕ) (o o' : PhantomData K) → a ≡ c → b ≡ d → ◌≡◌ {A = Ptr K} (record { index = a; generation = b; of = o }) (record { index = c; generation = d; of = o' })
      go a b c d o o' e f = rw (e, f) refl

  -- two pointers are equal or not
  pub ptr_or : (q p : Ptr K) → (q ≡ p) ⊎ (q ≢ p)
  ptr_or q p = go (equal_or_not q.index p.index) (equal_or_not q.generation p.generation)
    where
      go : (q.index ≡ p.index) ⊎ (q.index ≢ p.index) → (q.generation ≡ p.generation) ⊎ (q.generation ≢ p.generation) → (q ≡ p) ⊎ (q ≢ p)
      go (inl e) (inl f) = inl (ptr_same q p e f)
      go (inl e) (inr n) = inr (λ s. n (ap (λ (r : Ptr K). r.generation) s))
      go (inr n) f = inr (λ s. n (ap (λ (r : Ptr K). r.index) s))

module _ {X : Type 0} where
  pub slice_get-set_same : (xs : List X) (i : ℕ) (x y : X) → slice_get xs i ≡ Some y → slice_get (set xs i x) i ≡ Some x
  slice_get-set_same [] i x y e = absurd (cc)
  slice_get-set_same (z ∷ xs) zero x y e = refl
  slice_get-set_same (z ∷ xs) (suc i) x y e = slice_get-set_same xs i x y e

  pub slice_get-set_other : (xs : List X) (i j : ℕ) (x : X) → j ≢ i → slice_get (set xs i x) j ≡ slice_get xs j
  slice_get-set_other [] i j x n = refl
  slice_get-set_other (z ∷ xs) zero zero x n = absurd (n refl)
  slice_get-set_other (z ∷ xs) zero (suc j) x n = refl
  slice_get-set_other (z ∷ xs) (suc i) zero x n = refl
  slice_get-set_other (z ∷ xs) (suc i) (suc j) x n = slice_get-set_other xs i j x (λ e. n (ap suc e))
