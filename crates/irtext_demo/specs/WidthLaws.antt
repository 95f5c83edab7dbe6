-- For callers: a width is the one with its number of bits.
use Rattle.std.proofs.Common.{◌≡◌, ◌<◌, Bool, true, false, Option, Some, refl, sym, ◌∙◌, ap, true≢false, arith}
use Rattle.std.proofs.lemmas.Bool.Decides.{nat_tests}
use Rattle.std.proofs.Math.Bool.{Bool-set}
use Rattle.irtext_demo.specs.Widths.{is_width}
use Rattle.irtext_demo.specs.WidthOf.{width_by, width_of}
use Rattle.irtext_demo.specs.declared.width.Width.{Width}

found_by : (w : Width) (b : Bool) (e : is_width w.bits ≡ b) → width_by w.bits b e ≡ Some w
found_by w true e = ap (λ (p : is_width w.bits ≡ true). let x : Option Width = Some (record { bits = w.bits; in_range = p }) in x) (Bool-set (is_width w.bits) true e w.in_range)
found_by w false e = absurd (true≢false (sym w.in_range ∙ e))

-- the width with the number of bits of a width is that width
pub width_found : (w : Width) → width_of w.bits ≡ Some w
width_found w = found_by w (is_width w.bits) refl

-- the number of bits of a width is less than 65,536
pub width_small : (w : Width) → w.bits < 65536
width_small w = grind (arith, nat_tests, w.in_range)
