-- The part of a number of an integer type.
use Rattle.std.proofs.Common.{◌≡◌, ◌∙◌, ℤ, Bool, true, false, Option, Some, None, refl, sym, ap, true≢false}
use Rattle.std.proofs.Math.Bool.{Bool-set}
use Rattle.irtext_base.specs.Text.{Text}
use Rattle.irtext_base.specs.Answers.{Outcome}
use Rattle.irtext_tokens.specs.Integers.{int_at}
use Rattle.irtext_tokens.specs.declared.irfmt.parsers.from_str_radix.FromStrRadix as radix
use Rattle.irtext_syntax.specs.Numbers.{fits, narrowed}
use Rattle.irtext_syntax.specs.declared.number.Number.{Number}

-- the part of a number, given whether the number fits its type
abbrev pub number_by : {N : Type 0} (g : radix.Ghosts N) (n : N) (b : Bool) → fits g.below (g.number n) ≡ b → Option (Number N g)
number_by g n true e = Some (record { value = n; in_range = e })
number_by g n false e = None

-- the part of a number that fits its type, as each does
abbrev pub number_if : {N : Type 0} (g : radix.Ghosts N) → N → Option (Number N g)
number_if g n = number_by g n (fits g.below (g.number n)) refl

-- a number with an optional sign, in decimal
abbrev pub number_at : {N : Type 0} (g : radix.Ghosts N) → (ℤ → N) → Text → Outcome (Number N g)
number_at g of text = narrowed (λ z. number_if g (of z)) (int_at g.below text)

module _ {N : Type 0} (g : radix.Ghosts N) where
  found_by : (n : Number N g) (b : Bool) (e : fits g.below (g.number n.value) ≡ b) → number_by g n.value b e ≡ Some n
  found_by n true e = ap (λ (p : fits g.below (g.number n.value) ≡ true). let x : Option (Number N g) = Some (record { value = n.value; in_range = p }) in x) (Bool-set (fits g.below (g.number n.value)) true e n.in_range)
  found_by n false e = absurd (true≢false (sym n.in_range ∙ e))

  -- the part of the number of a part is that part
  pub number_found : (n : Number N g) → number_if g n.value ≡ Some n
  number_found n = found_by n (fits g.below (g.number n.value)) refl
