-- When a maker says that the graph is full, also where memory was refused before the graph was asked.
use Rattle.std.proofs.Common.{◌≡◌, ◌∙◌, ap, Bool, Result, Ok, Err}
use Rattle.std.specs.Prelude.{IsTrue, ◌↔◌}
use Rattle.irtext_memory.specs.declared.NoRoom.{NoRoom}
use Rattle.irtext_memory.specs.declared.NoRoom.TheVariants.{Full}

same_error : {A : Type 0} (r : Result A NoRoom) (a b : NoRoom) → r ≡ Err a → r ≡ Err b → a ≡ b
same_error r a b p q = cc

module _ {A P : Type 0} where
  -- the error is `Full` exactly if a test says so
  pub tested : {full : Bool} (r : Result A NoRoom) (room : NoRoom) → r ≡ Err room → (room ≡ Full) ↔ IsTrue full → IsTrue full ↔ P → (r ≡ Err Full) ↔ P
  tested r room is says test = (λ e. test.0 (says.0 (same_error r room Full is e)), λ p. is ∙ ap Err (says.1 (test.1 p)))
