-- A number that may be missing as one number.
use Rattle.std.specs.Prelude.{◌≡◌, refl, ℕ, zero, suc, Option, None, Some}

-- the number before this one, if there is one
abbrev pub before : ℕ → Option ℕ
before zero = None
before (suc n) = Some n

-- the number after this one; if there is none, 0
abbrev pub after : Option ℕ → ℕ
after None = 0
after (Some n) = suc n

pub after_before : (n : ℕ) → after (before n) ≡ n
after_before zero = refl
after_before (suc n) = refl
