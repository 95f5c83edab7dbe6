-- For callers: what is printed of the values and blocks that an operation or a block lists, one by one; an item without a text is left
-- out.
use Rattle.std.specs.Prelude.{ℕ, Bool, true, false, cond, List, [], ◌∷◌, ◌++◌, map, drop, slice_get, Option, Some, None, codes}
use Rattle.std.specs.Option.{option_map, option_and_then}
use Rattle.irtext_base.specs.Text.{Text}
use Rattle.irtext_context.specs.Context.{ContextView}
use Rattle.irtext_graph.specs.Content.{Typed}
use Rattle.irtext_graph.specs.Parts.{operands, successors, results, arguments}
use Rattle.irtext_graph.specs.declared.object.Object.{Object}
use Rattle.irtext_graph.specs.declared.object.Object.TheVariants.{TheOperation, TheBlock}
use Rattle.irtext_graph.specs.declared.object.Value.{Value}
use Rattle.irtext_grammar.specs.Contexts.Held.{known_types}
use Rattle.irtext_grammar.specs.Contexts.Nested.{number_of, type_of, typed_number}
use Rattle.irtext_grammar.specs.Spelling.Spell.{comma, joined}
use Rattle.irtext_print_ops.specs.Names.{name_of, operand_text, label_text}
use Rattle.irtext_print_ops.specs.declared.lists.Facet.{Facet}
use Rattle.irtext_print_ops.specs.declared.lists.Facet.TheVariants as facet
use Rattle.irtext_print_ops.specs.declared.lists.Listed.{Listed}
use Rattle.irtext_print_ops.specs.declared.lists.Listed.TheVariants as listed

-- `, ` before an item that is not the first
abbrev pub gap : Bool → Text
gap first = cond first [] comma

-- a text, after `, ` if it is not the first; nothing if there is no text
abbrev pub next_text : Bool → Option Text → Text
next_text first None = []
next_text first (Some t) = gap first ++ t

-- there are no texts
abbrev pub are_none : List Text → Bool
are_none [] = true
are_none (t ∷ ts) = false

-- texts with `, ` between them and ` = `, if there are any
abbrev pub defined_text : List Text → Text
defined_text [] = []
defined_text (t ∷ ts) = joined comma (t ∷ ts) ++ codes " = "

-- the operation or the block that lists
abbrev pub owner : Listed → Object
owner (listed.Operands p) = TheOperation p
owner (listed.Successors p) = TheOperation p
owner (listed.Results p) = TheOperation p
owner (listed.OperandTypes p) = TheOperation p
owner (listed.ResultTypes p) = TheOperation p
owner (listed.Arguments b) = TheBlock b

module _ {T A : Type 0} (written : T → Text) (ctx : ContextView T A) where
  -- what is printed of a value of this number and this type
  abbrev pub facet_text : Facet → ℕ × T → Text
  facet_text facet.Name r = name_of ctx r.0
  facet_text facet.Type r = written r.1
  facet_text facet.Both r = name_of ctx r.0 ++ (codes ": " ++ written r.1)

  -- the same for a value, if its type is known
  abbrev pub typed_text : Facet → Typed (Option T) → Option Text
  typed_text x t = option_map (facet_text x) (typed_number t)

  -- the type of a value, if it is live and its type is known
  abbrev pub operand_type_text : Value → Option Text
  operand_type_text v = option_map written (option_and_then (type_of ctx) (number_of ctx v))

  -- the texts of a list, in order
  abbrev pub texts_of : Listed → List (Option Text)
  texts_of (listed.Operands p) = map (operand_text ctx) (operands ctx.graph p)
  texts_of (listed.Successors p) = map (λ b. Some (label_text ctx b)) (successors ctx.graph p)
  texts_of (listed.Results p) = map (typed_text facet.Name) (results ctx.graph p)
  texts_of (listed.OperandTypes p) = map operand_type_text (operands ctx.graph p)
  texts_of (listed.ResultTypes p) = map (typed_text facet.Type) (results ctx.graph p)
  texts_of (listed.Arguments b) = map (typed_text facet.Both) (arguments ctx.graph b)

  -- the text at an index, if there is one
  abbrev pub text_at : Listed → ℕ → Option Text
  text_at l i = option_and_then (λ t. t) (slice_get (texts_of l) i)

  -- the texts from an index on, with `, ` between them
  abbrev pub list_text : Listed → ℕ → Text
  list_text l from = joined comma (known_types (drop from (texts_of l)))
