-- For callers: what a printing appends, and the state that it leaves.
use Rattle.std.specs.Prelude.{◌≡◌, ℕ, List, [], ◌++◌, Option, Some, None, IfSome, string_bytes}
use Rattle.std.specs.Str.{encode_utf8_all}
use Rattle.std.specs.declared.string.String.{String}
use Rattle.std.specs.declared.alloc.Global.{Global}
use Rattle.irtext_base.specs.Text.{Text}
use Rattle.irtext_print.specs.Printers.Shown.{Shown}
use Rattle.irtext_print.specs.declared.printable.state.RegionPrintDepthLimit.{RegionPrintDepthLimit}

-- the text was appended, and this state is left
pub record Appends {U : Type 0} (p : List ℕ × Shown U) (after : Shown U) (old new : List ℕ) : Type 0 where
  pub text : new ≡ old ++ p.0
  pub state : after ≡ p.1

-- the same, if a text is claimed
abbrev pub Writes : {U : Type 0} → Option (List ℕ × Shown U) → Shown U → List ℕ → List ℕ → Type 0
Writes o after old new = IfSome o (λ p. Appends p after old new)

-- a new printing state of this layout
abbrev pub fresh : ℕ → ℕ → RegionPrintDepthLimit → Shown (Unit {0})
fresh width indent limit = record { width = width; indent = indent; limit = limit; gathered = []; aux = tt }

-- the text alone
abbrev pub text_of : {U : Type 0} → Option (List ℕ × Shown U) → Option (List ℕ)
text_of None = None
text_of (Some p) = Some p.0

-- the bytes of this text were appended
abbrev pub AppendsText : String Global → Text → String Global → Type 0
AppendsText old text new = string_bytes new ≡ string_bytes old ++ encode_utf8_all text
