-- For callers: the names under which the values and blocks of a context are printed.
use Rattle.std.specs.Prelude.{ℕ, Bool, [], ◌++◌, Option, Some, None, codes}
use Rattle.std.specs.Option.{option_map}
use Rattle.irtext_base.specs.Text.{Text}
use Rattle.irtext_base.specs.declared.text.AttrText as attr_text
use Rattle.irtext_context.specs.Context.{ContextView}
use Rattle.irtext_graph.specs.declared.arena.Ptr.{Ptr}
use Rattle.irtext_graph.specs.declared.object.BasicBlock.{BasicBlock}
use Rattle.irtext_graph.specs.declared.object.Value.{Value}
use Rattle.irtext_grammar.specs.Contexts.Nested.{printing_over, given_to, label_of, number_of, place_of}
use Rattle.irtext_grammar.specs.Graphs.Graph.{Printing}
use Rattle.irtext_grammar.specs.Spelling.PrintedNames.{value_name, block_name}

-- what printing needs to know of this context and of the caller's attributes
abbrev pub printing_by : {T A : Type 0} → attr_text.Ghosts A A → (A → A → Bool) → ContextView T A → Printing T A
printing_by owns same ctx = printing_over ctx owns.outlined owns.print_once same

-- a text, if there is one
abbrev pub or_nothing : Option Text → Text
or_nothing None = []
or_nothing (Some t) = t

module _ {T A : Type 0} (ctx : ContextView T A) where
  -- the name of the value of this number
  abbrev pub name_of : ℕ → Text
  name_of n = value_name (given_to ctx n) n

  -- the name of a value, if it is live
  abbrev pub operand_text : Value → Option Text
  operand_text v = option_map name_of (number_of ctx v)

  -- the name of the block of this place and this generation
  abbrev pub block_text : ℕ × ℕ → Text
  block_text at = block_name (label_of ctx at) at

  -- `^` and the name of a block
  abbrev pub label_text : Ptr BasicBlock → Text
  label_text b = codes "^" ++ block_text (place_of ctx b)
