-- For callers: what a `Displayable` shows.
use Rattle.std.specs.Prelude.{◌≡◌, ℕ, List, Option}
use Rattle.std.specs.declared.string.String.{String}
use Rattle.std.specs.declared.alloc.Global.{Global}
use Rattle.irtext_print.specs.Printers.Shown.{Shown}
use Rattle.irtext_print.specs.Printers.Appended.{fresh, text_of}
use Rattle.irtext_context.specs.declared.base.context.Context.{Context}
use Rattle.irtext_print_ir.specs.declared.printable.displayable.Displayable.{Displayable}

-- the text that a `Displayable` makes at each formatting, if one is claimed
abbrev pub shown_by : {X T A : Type 0} {g a b c d e f : _} → (X → Context T A → Shown (Unit {0}) → Option (List ℕ × Shown (Unit {0}))) → Displayable X T A g a b c d e f → Option (List ℕ)
shown_by gives d = text_of (gives d.value.now d.ctx.now (fresh d.indent_width d.current_indent d.limit))

-- printing the value once with a new state of this layout may append this, or leave it if it fails
abbrev pub ShownOnce : {X T A : Type 0} {g a b c d e f : _} → (X → Context T A → Shown (Unit {0}) → String Global → Shown (Unit {0}) → String Global → Type 0) → Displayable X T A g a b c d e f → String Global → String Global → Type 0
ShownOnce prints d old new = (t : Shown (Unit {0})) × prints d.value.now d.ctx.now (fresh d.indent_width d.current_indent d.limit) old t new

-- a `Displayable` prints this value with this context, each time with a new state of this layout
pub record Displays {X T A : Type 0} {g a b c d e f : _} (shown : Displayable X T A g a b c d e f) (x : X) (ctx : Context T A) (s : Shown (Unit {0})) : Type 0 where
  pub value : shown.value.now ≡ x
  pub context : shown.ctx.now ≡ ctx
  pub layout : fresh shown.indent_width shown.current_indent shown.limit ≡ s
