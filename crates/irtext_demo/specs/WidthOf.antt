-- For callers: the width with a number of bits.
use Rattle.std.specs.Prelude.{◌≡◌, ℕ, Bool, true, false, Option, Some, None, refl}
use Rattle.irtext_demo.specs.Widths.{is_width}
use Rattle.irtext_demo.specs.declared.width.Width.{Width}

-- the width with this number of bits, given whether there is one
abbrev pub width_by : (n : ℕ) (b : Bool) → is_width n ≡ b → Option Width
width_by n true e = Some (record { bits = n; in_range = e })
width_by n false e = None

-- the width with this number of bits, if there is one
abbrev pub width_of : ℕ → Option Width
width_of n = width_by n (is_width n) refl
