-- For callers: what the section contains for an operation or a block; its mark and its entry are made from that.
use Rattle.std.specs.Prelude.{◌≡◌, Bool, true, false, List, [], ◌++◌, Option, Some, None, option_copied}
use Rattle.std.specs.Option.{option_map}
use Rattle.irtext_base.specs.Text.{Text}
use Rattle.irtext_base.specs.Format.{block_label_key}
use Rattle.irtext_base.specs.declared.base.attributes.AttrObj.{AttrObj}
use Rattle.irtext_base.specs.declared.location.Location.{Location, Unknown}
use Rattle.irtext_base.specs.declared.text.AttrText as attr_text
use Rattle.irtext_base.specs.declared.text.IrText as ir_text
use Rattle.irtext_context.specs.Context.{ContextView}
use Rattle.irtext_context.specs.Entries.{entries_left}
use Rattle.irtext_context.specs.declared.base.attributes.Iter.{Iter}
use Rattle.irtext_grammar.specs.Contexts.Held.{attribute_of, entries_of}
use Rattle.irtext_grammar.specs.Contexts.Nested.{printing_over, seen_own, seen_head}
use Rattle.irtext_grammar.specs.Grammar.Tree.{Attribute, ident}
use Rattle.irtext_grammar.specs.Graphs.Graph.{GraphOp, GraphBlock, Printing, Entry, label_entry, outlined_entries, op_outlined, block_outlined, is_marked}
use Rattle.irtext_grammar.specs.Spelling.Locations.{known_text}
use Rattle.irtext_print.specs.Printers.PieceText.{outlining}
use Rattle.irtext_print.specs.declared.given.Given.{Given}
use Rattle.irtext_print.specs.declared.given.GivenAttribute.{GivenAttribute}
use Rattle.irtext_print.specs.declared.given.GivenAttribute.TheVariants.{Label, Outlined}
use Rattle.irtext_print.specs.declared.given.GivenAttributes.{GivenAttributes}
use Rattle.irtext_context.specs.declared.base.item.Item.{Item}
use Rattle.irtext_context.specs.declared.base.item.Item.TheVariants as item

module _ {A : Type 0} where
  -- an attribute that the section contains for an item, under its key: a label is an identifier under the key of labels
  abbrev pub given_pair : GivenAttribute A → Text × Attribute A
  given_pair (Label l) = (block_label_key, ident l.now)
  given_pair (Outlined key attr) = (key.now, attribute_of attr.now)

  module _ (is_outlined : A → Bool) where
    -- the attributes that the section contains for an item with this label or none and these attributes: its label first, then the
    -- outlined ones
    abbrev pub given_attributes : Option Text → List (Text × AttrObj A) → List (Text × Attribute A)
    given_attributes label es = label_entry label ++ outlined_entries (outlining is_outlined) (entries_of es)

    -- what the section contains for an item, except its location
    abbrev pub attributes_of : Given A → List (Text × Attribute A)
    attributes_of g = given_attributes (option_copied g.label) g.attributes.now

    -- those of the outlined entries that were not looked at so far
    abbrev pub outlined_left : Iter A → List (Text × Attribute A)
    outlined_left it = outlined_entries (outlining is_outlined) (entries_of (entries_left it))

    -- those attributes of an item that were not looked at so far
    abbrev pub attributes_left : GivenAttributes A → List (Text × Attribute A)
    attributes_left it = given_attributes (option_copied it.label) (entries_left it.entries)

  -- whether an item has a mark: its location is known, or the section contains an attribute for it
  abbrev pub marks_given : Location A → List (Text × Attribute A) → Bool
  marks_given Unknown [] = false
  marks_given _ es = true

module _ {T A : Type 0} (C : Printing T A) where
  -- what the section contains for an operation: its location, if that is known, and its outlined attributes
  abbrev pub operation_entry : GraphOp T A → Entry C
  operation_entry o = record { location = o.location; attributes = op_outlined C o }

  -- what it contains for a block: its label comes first
  abbrev pub block_entry : GraphBlock T A → Entry C
  block_entry h = record { location = h.location; attributes = block_outlined C h }

  -- whether an item has a mark, if this is what the section contains for it
  abbrev pub is_marked_by : Option (Entry C) → Bool
  is_marked_by None = false
  is_marked_by (Some e) = is_marked C e.location e.attributes

  module _ (written : A → Text) (ctx : ContextView T A) where
    -- what the section contains for an item; nothing for one that is not live
    abbrev pub entry_at : Item → Option (Entry C)
    entry_at (item.Operation p) = option_map operation_entry (seen_own written ctx p)
    entry_at (item.Block b) = option_map block_entry (seen_head written ctx b)

    -- what the code holds for it, as an entry
    abbrev pub entry_of : (A → Bool) → Given A → Entry C
    entry_of is_outlined g = record { location = known_text written ctx.paths g.location.now; attributes = attributes_of is_outlined g }

module _ {T A : Type 0} (types : ir_text.Ghosts T A) (owns : ir_text.Ghosts A A) (attributes : attr_text.Ghosts A A) (same : A → A → Bool) (ctx : ContextView T A) where
  -- what printing needs to know of the context and of the caller's attributes
  abbrev pub printing_of : Printing T A
  printing_of = printing_over ctx attributes.outlined attributes.print_once same

  -- what the section contains for an item; nothing for one that is not live
  abbrev pub given_at : Item → Option (Entry printing_of)
  given_at i = entry_at printing_of owns.written ctx i

  -- the item has a mark: the section contains something for it
  abbrev pub is_marked_at : Item → Bool
  is_marked_at i = is_marked_by printing_of (given_at i)

  -- the code returns for an item what the section contains for it
  abbrev pub Gives : Item → Option (Given A) → Type 0
  Gives i g = option_map (entry_of printing_of owns.written ctx attributes.outlined) g ≡ given_at i
