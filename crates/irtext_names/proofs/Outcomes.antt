-- What holds of a result, if it is a value, and if it is an error.
use Rattle.std.proofs.Common.{Result, Ok, Err, OnOk, IfErr}

-- what holds if a result is a value
pub on_ok : {X E P Q : Type 0} (r : Result X E) → (P → Q) → OnOk r P → OnOk r Q
on_ok (Ok x) f p = f p
on_ok (Err e) f p = p

-- what holds if it is an error
pub if_err : {X E : Type 0} {P Q : E → Type 0} (r : Result X E) → ((e : E) → P e → Q e) → IfErr r P → IfErr r Q
if_err (Ok x) f p = p
if_err (Err e) f p = f e p
