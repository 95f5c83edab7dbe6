-- Between functions: what is allowed under a key of an entry.
use Rattle.std.specs.Prelude.{Bool, true, false, cond}
use Rattle.irtext_base.specs.Text.{Text}
use Rattle.irtext_context.specs.declared.base.item.Item.{Item}
use Rattle.irtext_context.specs.declared.base.item.Item.TheVariants as item
use Rattle.irtext_grammar.specs.Contexts.Held.{attribute_of}
use Rattle.irtext_grammar.specs.Names.Acts.{Rule, may_hold, keeps_label_key}
use Rattle.irtext_parse_locations.specs.declared.said.GivenAttr.{GivenAttr}
use Rattle.irtext_parse_locations.specs.declared.said.GivenAttr.TheVariants as given

-- what is allowed under a key of the entry of a block, or of an operation
abbrev pub rule_for : {A : Type 0} → Bool → Rule A
rule_for of_block = cond of_block keeps_label_key may_hold

-- the item is a block
abbrev pub is_block : Item → Bool
is_block (item.Operation p) = false
is_block (item.Block b) = true

-- an attribute in the entry is allowed under its key; a reference always is
abbrev pub is_allowed_under : {A : Type 0} → Rule A → Text → GivenAttr A → Bool
is_allowed_under rule key (given.Direct a) = rule key (attribute_of a)
is_allowed_under rule key (given.Reference m) = true
