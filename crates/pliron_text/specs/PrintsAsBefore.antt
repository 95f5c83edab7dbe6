-- For callers: an operation is printed in one state of a context as in an earlier one, in any layout, and refused for the same reasons.
use Rattle.std.specs.Prelude.{◌≡◌, ℕ, Bool, []}
use Rattle.irtext_base.specs.declared.text.AttrText as attr_text
use Rattle.irtext_base.specs.declared.text.IrText as ir_text
use Rattle.irtext_context.specs.Context.{ContextView}
use Rattle.irtext_graph.specs.declared.arena.Ptr.{Ptr}
use Rattle.irtext_graph.specs.declared.object.Operation.{Operation}
use Rattle.irtext_print.specs.Printers.Shown.{Shown}
use Rattle.irtext_print.specs.declared.printable.refusal.Refusal.{Refusal}
use Rattle.irtext_print_ir.specs.Printers.Printed.{root_text}
use Rattle.irtext_print_ops.specs.Heads.{text_under, RefusesUnder}

module _ {T A : Type 0} (types : ir_text.Ghosts T A) (owns : ir_text.Ghosts A A) (attributes : attr_text.Ghosts A A) (same : A → A → Bool) (U : Type 0) where
  -- Its text is the same, with or without its mark, after any number of marks; so is the text with the section if nothing was gathered
  -- before. A reason for which one of them is not printed is a reason of the other.
  pub record PrintsAsBefore (p : Ptr Operation) (old new : ContextView T A) : Type 0 where
    pub text : (s : Shown U) (marked : Bool) (n : ℕ) → text_under types owns attributes same new p s marked n ≡ text_under types owns attributes same old p s marked n
    pub root : (s : Shown U) → s.gathered ≡ [] → root_text types owns attributes same new p s ≡ root_text types owns attributes same old p s
    pub refused : (s : Shown U) (e : Refusal) → RefusesUnder types owns attributes same new p s e → RefusesUnder types owns attributes same old p s e
    pub still_refused : (s : Shown U) (e : Refusal) → RefusesUnder types owns attributes same old p s e → RefusesUnder types owns attributes same new p s e
