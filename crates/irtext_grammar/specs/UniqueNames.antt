-- The names under which the values and blocks of a context are printed.
use Rattle.std.specs.Prelude.{◌+◌, Option, option_and_then}
use Rattle.std.specs.Option.{option_map}
use Rattle.irtext_base.specs.Text.{Text}
use Rattle.irtext_graph.specs.Parts.{value_at}
use Rattle.irtext_graph.specs.declared.arena.Ptr.{Ptr}
use Rattle.irtext_graph.specs.declared.object.BasicBlock.{BasicBlock}
use Rattle.irtext_graph.specs.declared.object.Value.{Value}
use Rattle.irtext_graph.specs.declared.object.Value.TheVariants.{Result, Argument}
use Rattle.irtext_context.specs.Context.{ContextView, operation, block}
pub use Rattle.irtext_grammar.specs.Contexts.Nested.{given_at}
use Rattle.irtext_grammar.specs.Spelling.PrintedNames as printed

module _ {T A : Type 0} where
  -- the given name of a value, if it has one; a result of a placeholder has none
  abbrev pub given_name : ContextView T A → Value → Option Text
  given_name ctx (Result p i) = option_and_then (λ op. given_at i op.attributes) (operation ctx p)
  given_name ctx (Argument p i) = option_and_then (λ b. given_at i b.attributes) (block ctx p)

  -- the name of a value: its number, after its given name if it has one
  abbrev pub value_name : ContextView T A → Value → Option Text
  value_name ctx v = option_map (λ t. printed.value_name (given_name ctx v) t.number) (value_at ctx.graph v)

  -- the name of a block: its place and generation, after its label if it has one
  abbrev pub block_name : ContextView T A → Ptr BasicBlock → Option Text
  block_name ctx p = option_map (λ b. printed.block_name b.label (ctx.graph.first_place + p.index, p.generation)) (block ctx p)
