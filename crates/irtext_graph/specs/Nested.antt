-- A forest: each object has at most one parent, which lists it once, and every chain of parents ends.
use Rattle.std.specs.Prelude.{◌≡◌, ℕ, zero, suc, List, Option, Some, None, slice_get}

module _ {O : Type 0} where
  -- n steps from an object to its parent
  abbrev pub climb : (O → Option O) → ℕ → Option O → Option O
  climb up zero o = o
  climb up (suc n) None = None
  climb up (suc n) (Some x) = climb up n (up x)

  -- x is p or nested in p
  abbrev pub Within : (O → Option O) → O → O → Type 0
  Within up p x = (n : ℕ) × (climb up n (Some x) ≡ Some p)

  -- `kids` gives an object's children in order, and `up` its parent
  pub record Nested (kids : O → List O) (up : O → Option O) : Type 0 where
    pub down : (k : O) (i : ℕ) (c : O) → slice_get (kids k) i ≡ Some c → up c ≡ Some k
    pub listed : (c k : O) → up c ≡ Some k → (i : ℕ) × (slice_get (kids k) i ≡ Some c)
    pub once : (k : O) (i j : ℕ) (c : O) → slice_get (kids k) i ≡ Some c → slice_get (kids k) j ≡ Some c → i ≡ j
    pub ends : (x : O) → (n : ℕ) × (climb up n (Some x) ≡ None)
