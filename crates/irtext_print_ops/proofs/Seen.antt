-- What holds of what printing sees under a pointer, if the object is live.
use Rattle.std.proofs.Common.{IsSome, IfSome}
use Rattle.irtext_base.specs.Text.{Text}
use Rattle.irtext_context.specs.Context.{ContextView, operation, block}
use Rattle.irtext_graph.specs.declared.arena.Ptr.{Ptr}
use Rattle.irtext_graph.specs.declared.object.BasicBlock.{BasicBlock}
use Rattle.irtext_graph.specs.declared.object.Operation.{Operation}
use Rattle.irtext_grammar.specs.Contexts.Nested.{seen_operation, seen_own, seen_block, seen_head}
use Rattle.irtext_grammar.specs.Graphs.Graph.{GraphOp, GraphBlock}
use Rattle.irtext_print_ops.specs.Heads.{or_no_block}
use Rattle.irtext_print_ops.specs.Walk.{or_nothing}
use Rattle.irtext_print_ops.proofs.LiveViews.{when_live}

module _ {T A : Type 0} (written : A → Text) (ctx : ContextView T A) where
  -- of an operation
  pub own_holds : (p : Ptr Operation) (Q : GraphOp T A → Type 0) → IsSome (operation ctx p) → IfSome (seen_own written ctx p) Q → Q (or_nothing (seen_own written ctx p))
  own_holds p Q live h = when_live (seen_operation written ctx p) (λ o. IfSome o Q → Q (or_nothing o)) (operation ctx p) live (λ view q. q) h

  -- of a block
  pub head_holds : (b : Ptr BasicBlock) (Q : GraphBlock T A → Type 0) → IsSome (block ctx b) → IfSome (seen_head written ctx b) Q → Q (or_no_block (seen_head written ctx b))
  head_holds b Q live h = when_live (seen_block written ctx b) (λ h. IfSome h Q → Q (or_no_block h)) (block ctx b) live (λ view q. q) h
