-- The part of a number of a range.
use Rattle.std.proofs.Common.{◌≡◌, ◌∙◌, ℕ, Bool, true, false, Option, Some, None, refl, sym, ap, true≢false}
use Rattle.std.proofs.Math.Bool.{Bool-set}
use Rattle.irtext_base.specs.Text.{Text}
use Rattle.irtext_base.specs.Answers.{Outcome}
use Rattle.irtext_syntax.specs.Ranges.{is_between, digits_at}
use Rattle.irtext_syntax.specs.declared.range.Range as range
use Rattle.irtext_syntax.specs.declared.range.Ranged.{Ranged}

-- the part of a number, given whether the number is in the range
abbrev pub ranged_by : {R : Type 0} (g : range.Ghosts R) (n : ℕ) (b : Bool) → is_between g.bounds.low g.bounds.high n ≡ b → Option (Ranged R g)
ranged_by g n true e = Some (record { value = n; range = record {}; in_range = e })
ranged_by g n false e = None

-- the part of a number of the range
abbrev pub ranged_of : {R : Type 0} (g : range.Ghosts R) → ℕ → Option (Ranged R g)
ranged_of g n = ranged_by g n (is_between g.bounds.low g.bounds.high n) refl

-- the same for a number that may not fit 64 bits, which is `None`
abbrev pub ranged_if : {R : Type 0} (g : range.Ghosts R) → Option ℕ → Option (Ranged R g)
ranged_if g None = None
ranged_if g (Some n) = ranged_of g n

-- decimal digits, as many as come next; a number that is not in the range is the error `NumberRange` at its beginning
abbrev pub ranged_at : {R : Type 0} (g : range.Ghosts R) → Text → Outcome (Ranged R g)
ranged_at g = digits_at (ranged_if g)

module _ {R : Type 0} (g : range.Ghosts R) where
  found_by : (n : Ranged R g) (b : Bool) (e : is_between g.bounds.low g.bounds.high n.value ≡ b) → ranged_by g n.value b e ≡ Some n
  found_by n true e = ap (λ (p : is_between g.bounds.low g.bounds.high n.value ≡ true). let x : Option (Ranged R g) = Some (record { value = n.value; range = record {}; in_range = p }) in x) (Bool-set (is_between g.bounds.low g.bounds.high n.value) true e n.in_range)
  found_by n false e = absurd (true≢false (sym n.in_range ∙ e))

  -- the part of the number of a part is that part
  pub ranged_found : (n : Ranged R g) → ranged_of g n.value ≡ Some n
  ranged_found n = found_by n (is_between g.bounds.low g.bounds.high n.value) refl
