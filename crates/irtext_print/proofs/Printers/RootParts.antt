-- Tests on lists and on optional values.
use Rattle.std.proofs.Common.{◌≡◌, true, true≢false, refl, sym, Option, Some, None, is_some}

-- a value that is there
pub there : {X : Type 0} (o : Option X) → is_some o ≡ true → (x : X) × (o ≡ Some x)
there None e = absurd (true≢false (sym e))
there (Some x) e = (x, refl)
