-- What the exit of a `?` returns.
use Rattle.std.proofs.Common.{◌≡◌, Result, Err, ◌∙◌, ap}
use Rattle.std.specs.Result.{IsErrAnd}
use Rattle.std.proofs.lemmas.Result.{err_from_is_err_and}

-- an error that is returned by `?` is the result
pub propagated : {T E : Type 0} {e : E} (r : Result T E) → IsErrAnd r (λ y. y ≡ e) → r ≡ Err e
propagated r h = let p = err_from_is_err_and r h in p.1 ∙ ap Err p.2
