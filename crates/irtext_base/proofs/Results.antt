-- A fact about a result, whichever it is.
use Rattle.std.proofs.Common.{Result, Ok, Err}
use Rattle.std.specs.Prelude.{OnOk, OnErr}

-- a fact about a result that is Ok
pub at_ok : {X E P : Type 0} (r : Result X E) → P → OnOk r P
at_ok (Ok x) p = p
at_ok (Err e) p = tt

-- a fact about a result that is Err
pub at_err : {X E P : Type 0} (r : Result X E) → P → OnErr r P
at_err (Ok x) p = tt
at_err (Err e) p = p

-- a fact that follows from what holds of either result
pub either_way : {X E P Q R : Type 0} (r : Result X E) → (P → R) → (Q → R) → OnOk r P → OnErr r Q → R
either_way (Ok x) f g p q = f p
either_way (Err e) f g p q = g q

-- what follows from a fact about a result that is Ok
pub where_ok : {X E P Q : Type 0} (r : Result X E) → (P → Q) → OnOk r P → OnOk r Q
where_ok (Ok x) f p = f p
where_ok (Err e) f p = tt
