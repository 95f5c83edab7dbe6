-- What becomes of a root that is to be brought into another context.
use Rattle.std.specs.Prelude.{◌≡◌, Bool, Some}
use Rattle.irtext_base.specs.declared.text.AttrText as attr_text
use Rattle.irtext_base.specs.declared.text.IrText as ir_text
use Rattle.irtext_context.specs.Context.{ContextView}
use Rattle.irtext_graph.specs.declared.arena.Ptr.{Ptr}
use Rattle.irtext_graph.specs.declared.object.Operation.{Operation}
use Rattle.irtext_grammar.specs.Contexts.Nested.{seen_root}
use Rattle.irtext_grammar.specs.Graphs.Graph.{Graph}
use Rattle.irtext_print.specs.Printers.Shown.{Shown}
use Rattle.pliron_text.specs.Calls.{ComesBack}

module _ {T A : Type 0} (types : ir_text.Ghosts T A) (owns : ir_text.Ghosts A A) (attributes : attr_text.Ghosts A A) (same : A → A → Bool) (ctx : ContextView T A) (p : Ptr Operation) (layout : Shown (Unit {0})) where
  -- an equal root is in the other context
  pub record ComesOver (other : ContextView T A) (q : Ptr Operation) (left : ContextView T A) : Type 0 where
    pub graph : Graph T A
    pub sees : seen_root owns.written ctx p ≡ Some graph
    pub back : ComesBack types owns attributes same ctx p layout other q left graph
