-- Operations and blocks are marked where the section gives something of them.
use Rattle.std.proofs.Common.{◌≡◌, refl, IsSome}
use Rattle.std.specs.Option.{option_map}
use Rattle.irtext_base.specs.Text.{Text}
use Rattle.irtext_context.specs.Context.{ContextView, operation, block}
use Rattle.irtext_graph.specs.declared.arena.Ptr.{Ptr}
use Rattle.irtext_graph.specs.declared.object.BasicBlock.{BasicBlock}
use Rattle.irtext_graph.specs.declared.object.Operation.{Operation}
use Rattle.irtext_grammar.specs.Contexts.Nested.{seen_operation, seen_own, seen_block, seen_head}
use Rattle.irtext_grammar.specs.Graphs.Graph.{Printing, is_marked, op_outlined, block_outlined}
use Rattle.irtext_print.specs.Given.{operation_entry, block_entry, is_marked_by}
use Rattle.irtext_print_ops.specs.Heads.{or_no_block}
use Rattle.irtext_print_ops.specs.Walk.{or_nothing}
use Rattle.irtext_print_ops.proofs.LiveViews.{when_live}

module _ {T A : Type 0} (C : Printing T A) (written : A → Text) (ctx : ContextView T A) where
  -- a live operation
  pub operation_marked : (p : Ptr Operation) → IsSome (operation ctx p)
      → is_marked_by C (option_map (operation_entry C) (seen_own written ctx p)) ≡ is_marked C (or_nothing (seen_own written ctx p)).location (op_outlined C (or_nothing (seen_own written ctx p)))
  operation_marked p live = when_live (seen_operation written ctx p) (λ o. is_marked_by C (option_map (operation_entry C) o) ≡ is_marked C (or_nothing o).location (op_outlined C (or_nothing o))) (operation ctx p) live (λ view. refl)

  -- a live block
  pub block_marked : (b : Ptr BasicBlock) → IsSome (block ctx b)
      → is_marked_by C (option_map (block_entry C) (seen_head written ctx b)) ≡ is_marked C (or_no_block (seen_head written ctx b)).location (block_outlined C (or_no_block (seen_head written ctx b)))
  block_marked b live = when_live (seen_block written ctx b) (λ h. is_marked_by C (option_map (block_entry C) h) ≡ is_marked C (or_no_block h).location (block_outlined C (or_no_block h))) (block ctx b) live (λ view. refl)
