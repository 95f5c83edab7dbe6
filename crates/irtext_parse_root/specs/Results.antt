-- For callers: why the names of an operation's results are rejected outside of every region.
use Rattle.std.specs.Prelude.{◌≡◌, ℕ, true, length, List, ◌∷◌}
use Rattle.irtext_base.specs.Text.{Text}
use Rattle.irtext_base.specs.Faults as causes
use Rattle.irtext_base.specs.Faults.{fault_of}
use Rattle.irtext_base.specs.Stream.{StreamView, IsAt}
use Rattle.irtext_base.specs.declared.location.Location.{Location}
use Rattle.irtext_base.specs.declared.parsable.fault.ParseFault.{ParseFault}
use Rattle.irtext_names.specs.Alone.{IsOutermost}

-- Either there are not as many names as results, and the fault is `ResultCount`, at the current position of the stream. Or there are as
-- many; then the fault is `NoActiveScope` for the first name, at the position of its location.
pub data RefusesResults {A : Type 0} (count : ℕ) (names : List (Text × Location A)) (old : StreamView) (fault : ParseFault A) : Type 0 where
  counted : (count ≡ length names → ⊥) → fault_of fault.cause ≡ causes.ResultCount count (length names) → fault.committed ≡ true
      → IsAt fault.pos.line fault.pos.column old.passed → RefusesResults count names old fault
  outside : (n : Text) (loc : Location A) (more : List (Text × Location A)) → names ≡ (n, loc) ∷ more → count ≡ length names
      → fault_of fault.cause ≡ causes.NoActiveScope n → fault.committed ≡ true → IsOutermost loc fault.pos → RefusesResults count names old fault
