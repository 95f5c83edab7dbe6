-- What was made before a mark is kept, and comes back as what was made since is given back.
use Rattle.std.proofs.Common.{◌≡◌, ℕ, ◌≤◌, List, Some, None, ◌∙◌}
use Rattle.irtext_context.specs.Context.{ContextView, known, KeepsOlder, RollsBack, MakesOperation}
use Rattle.irtext_context.specs.Made.{SameObjects}
use Rattle.irtext_context.specs.declared.base.operation.OperationData.{OperationData}
use Rattle.irtext_graph.specs.Back.{AllOlder, IsClosedBelow}
use Rattle.irtext_graph.specs.Store.{before}
use Rattle.irtext_graph.specs.declared.arena.Ptr.{Ptr}
use Rattle.irtext_graph.specs.declared.object.BasicBlock.{BasicBlock}
use Rattle.irtext_graph.specs.declared.object.Operation.{Operation}
use Rattle.irtext_graph.specs.declared.object.Value.{Value}
use Rattle.irtext_graph.proofs.Closed.{older_on, closed_kept, back_to}
use Rattle.irtext_graph.proofs.Marks.{operation_came, counts_back}
use Rattle.irtext_context.proofs.Contexts.{same-paths}

module _ {T A : Type 0} where
  pub kept_trans : {mark : ℕ} {old mid new : ContextView T A} → KeepsOlder mark old mid → KeepsOlder mark mid new → KeepsOlder mark old new
  kept_trans {mark} {old} {mid} {new} h k = record {
    graph = older_on mark old.graph mid.graph new.graph h.graph k.graph;
    paths = λ i path e. k.paths i path (h.paths i path e);
    dialects = k.dialects ∙ h.dialects;
  }

  -- an operation that was made was not there before
  pub before_made : {old new : ContextView T A} {p : Ptr Operation} {held : OperationData A} {types : List T} {operands : List Value} {successors : List (Ptr BasicBlock)} → (mark : ℕ) → mark ≤ old.graph.made
      → MakesOperation old new p held types operands successors → before mark new.graph.operations p ≡ None
  before_made {old} {new} {p} {held} {types} {operands} {successors} mark up m = operation_came mark old.graph new.graph p (Some held) (known types) operands successors up m.graph

  -- what was closed below a mark is closed while it is kept
  pub kept_closed : {mark : ℕ} {old mid : ContextView T A} → IsClosedBelow mark old.graph → KeepsOlder mark old mid → IsClosedBelow mark mid.graph
  kept_closed {mark} {old} {mid} c k = closed_kept mark old.graph mid.graph k.graph c

  -- after a rollback the live objects are those that were live when the mark was taken, unchanged
  pub rolled_back : {mark : ℕ} {old mid new : ContextView T A} → AllOlder mark old.graph → KeepsOlder mark old mid → RollsBack mark mid new → SameObjects old new
  rolled_back {mark} {old} {mid} {new} a k r =
      let b = back_to mark old.graph mid.graph k.graph a r.graph in
      record {
        operations = b.0;
        blocks = b.1;
        regions = b.2;
        counts = counts_back mark old.graph mid.graph new.graph k.graph r.graph;
        paths = λ i path e. same-paths r.paths i path (k.paths i path e);
        dialects = r.dialects ∙ k.dialects;
      }
