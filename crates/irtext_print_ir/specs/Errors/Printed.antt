-- For callers: what errors and results print as.
use Rattle.std.specs.Prelude.{List, ℕ, Option, Some, Result, Ok, Err, string_bytes, ⊤}
use Rattle.irtext_base.specs.Text.{Text}
use Rattle.irtext_context.specs.declared.base.context.Context.{Context}
use Rattle.irtext_base.specs.declared.result.Error.{Error}
use Rattle.irtext_print.specs.Errors.Located.{located_error}
use Rattle.std.specs.declared.string.String.{String}
use Rattle.std.specs.declared.alloc.Global.{Global}
use Rattle.irtext_print.specs.Printers.Appended.{Appends}
use Rattle.irtext_print.specs.Printers.Shown.{Shown}
use Rattle.irtext_print_ir.specs.Printers.Refused.{HasAppended}

-- an error's text with these paths; the printing state is unchanged
abbrev pub given_of : {A U : Type 0} → (A → Text) → List (List ℕ) → Error A → Shown U → Option (List ℕ × Shown U)
given_of written paths error s = Some (located_error written paths error, s)

module _ {X T A : Type 0} where
  -- a result may be printed if its value may; an error always may
  abbrev pub can_be : (X → Context T A → Type 0) → Result X (Error A) → Context T A → Type 0
  can_be can (Ok x) ctx = can x ctx
  can_be can (Err error) ctx = ⊤

  -- a result gives what its value gives, or its error's text
  abbrev pub given : {U : Type 0} → (A → Text) → (X → Context T A → Shown U → Option (List ℕ × Shown U)) → Result X (Error A) → Context T A → Shown U → Option (List ℕ × Shown U)
  given written gives (Ok x) ctx s = gives x ctx s
  given written gives (Err error) ctx s = given_of written ctx.paths error s

  -- what one printing of a result has done: what printing its value may do, or its error's text was appended
  abbrev pub may_print : {U : Type 0} → (A → Text) → (X → Context T A → Shown U → String Global → Shown U → String Global → Type 0) → Result X (Error A) → Context T A → Shown U → String Global → Shown U → String Global → Type 0
  may_print written prints (Ok x) ctx s b t d = prints x ctx s b t d
  may_print written prints (Err error) ctx s b t d = Appends (located_error written ctx.paths error, s) t (string_bytes b) (string_bytes d)

  -- what one printing of a result that fails leaves: what that of its value may leave; that of its error leaves the state unchanged, and only appends to the text
  abbrev pub may_refuse : {U : Type 0} → (X → Context T A → Shown U → String Global → Shown U → String Global → Type 0) → Result X (Error A) → Context T A → Shown U → String Global → Shown U → String Global → Type 0
  may_refuse refuses (Ok x) ctx s b t d = refuses x ctx s b t d
  may_refuse refuses (Err error) ctx s b t d = HasAppended s b t d
