-- For callers: which numbers are the widths of integer types.
use Rattle.std.specs.Prelude.{ℕ, Bool, ◌&&◌, nat_lt}

-- from 1 to 65,535
abbrev pub is_width : ℕ → Bool
is_width n = nat_lt 0 n && nat_lt n 65536
