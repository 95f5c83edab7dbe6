-- Between functions: why a root has no text, as a fault; and the text of one root after others.
use Rattle.std.specs.Prelude.{◌≡◌, ℕ, Bool, true, false, List}
use Rattle.irtext_base.specs.Faults as cause
use Rattle.irtext_base.specs.Faults.{Fault, fault_of}
use Rattle.irtext_base.specs.declared.parsable.fault.ParseFault.{ParseFault}
use Rattle.irtext_base.specs.declared.text.AttrText as attr_text
use Rattle.irtext_base.specs.declared.text.IrText as ir_text
use Rattle.irtext_context.specs.Context.{ContextView}
use Rattle.irtext_graph.specs.declared.arena.Ptr.{Ptr}
use Rattle.irtext_graph.specs.declared.object.Operation.{Operation}
use Rattle.irtext_print.specs.declared.printable.refusal.Refusal.{Refusal}
use Rattle.irtext_print.specs.declared.printable.refusal.Refusal.TheVariants as refusal
use Rattle.pliron_text.specs.Calls.{IsPrinted}
use Rattle.irtext_formatter.specs.Lines.{then_root}
use Rattle.pliron_text.specs.Unprinted.{plain}
use Rattle.irtext_formatter.specs.Misfits.{IsMisfitOf}
use Rattle.irtext_formatter.specs.declared.fault.Fault as fault
use Rattle.irtext_formatter.specs.declared.fault.Fault.TheVariants as of_fault

-- whether the cause is that memory ran out
abbrev pub is_memory : Fault → Bool
is_memory cause.Memory = true
is_memory _ = false

module _ {A : Type 0} where
  -- the fault of a root that was rejected: out of memory if that is the cause
  abbrev pub IsRejected : ParseFault A → fault.Fault A → Type 0
  IsRejected f of_fault.Memory = is_memory (fault_of f.cause) ≡ true
  IsRejected f (of_fault.Rejected g) = (g ≡ f) × (is_memory (fault_of f.cause) ≡ false)
  IsRejected f _ = ⊥

module _ {T A : Type 0} (types : ir_text.Ghosts T A) (owns : ir_text.Ghosts A A) (attributes : attr_text.Ghosts A A) (same : A → A → Bool) (ctx : ContextView T A) (op : Ptr Operation) where
  -- the fault of a root that was not printed for this reason; out of memory is possible at any time
  abbrev pub IsReason : Refusal → fault.Fault A → Type 0
  IsReason reason of_fault.Memory = Unit {0}
  IsReason reason (of_fault.Misfit misfit) = (reason ≡ refusal.Misfit) × IsMisfitOf owns.written attributes same ctx op misfit
  IsReason reason of_fault.TooDeep = reason ≡ refusal.Depth
  IsReason reason (of_fault.Rejected g) = ⊥

  -- the root was printed, after an empty line if there was a text before it, and ended by a newline
  pub record HasText (old new : List ℕ) : Type 0 where
    pub root : List ℕ
    pub prints : IsPrinted types owns attributes same ctx op plain root
    pub is : new ≡ then_root old root
