-- For callers: what a call that writes to the end of a text leaves of it, even if the call fails.
use Rattle.std.specs.Prelude.{◌≡◌, ℕ, List, ◌++◌, string_bytes}
use Rattle.std.specs.declared.string.String.{String}
use Rattle.std.specs.declared.alloc.Global.{Global}

-- the text that was there stands, and something was only appended, or nothing
pub record OnlyAppends (old new : String Global) : Type 0 where
  pub more : List ℕ
  pub text : string_bytes new ≡ string_bytes old ++ more
