-- For callers: a text between two others.
use Rattle.std.specs.Prelude.{◌≡◌, ℕ, List, ◌++◌, Option, Some, None, string_bytes}
use Rattle.std.specs.declared.string.String.{String}
use Rattle.std.specs.declared.alloc.Global.{Global}
use Rattle.irtext_print.specs.Printers.Shown.{Shown}

-- the claimed text between two others, if a text is claimed
abbrev pub around : {U : Type 0} → List ℕ → List ℕ → Option (List ℕ × Shown U) → Option (List ℕ × Shown U)
around left right None = None
around left right (Some p) = Some (left ++ (p.0 ++ right), p.1)

-- three steps: the left text is appended, then the call prints, then the right text is appended
pub record Encloses {U : Type 0} (call : Shown U → String Global → Shown U → String Global → Type 0) (left right : List ℕ) (s : Shown U) (b : String Global) (t : Shown U) (d : String Global) : Type 0 where
  pub begun : String Global
  pub filled : String Global
  pub opens : string_bytes begun ≡ string_bytes b ++ left
  pub called : call s begun t filled
  pub closes : string_bytes d ≡ string_bytes filled ++ right
