-- For callers: the section's text for items of which some may have been erased, and its entries.
use Rattle.std.specs.declared.alloc.Global.{Global}
use Rattle.std.specs.declared.string.String.{String}
use Rattle.std.specs.Prelude.{ℕ, Bool, cond, suc, List, [], ◌∷◌, ◌++◌, map, length, filter_map, Option, Some, None, codes, decimal, ⊤}
use Rattle.irtext_base.specs.Own.{Language}
use Rattle.irtext_base.specs.Text.{Text}
use Rattle.irtext_base.specs.declared.text.AttrText as attr_text
use Rattle.irtext_base.specs.declared.text.IrText as ir_text
use Rattle.irtext_context.specs.Context.{ContextView}
use Rattle.irtext_grammar.specs.Grammar.Section as tree
use Rattle.irtext_grammar.specs.Graphs.Graph.{Printing, Entry, shared}
use Rattle.irtext_grammar.specs.Spelling.Section.{located, entry_text, once_texts}
use Rattle.irtext_grammar.specs.Spelling.Spell.{attribute, joined, comma}
use Rattle.irtext_grammar.specs.Spelling.SectionEntries.{mark_of, written_pair, written_once}
use Rattle.irtext_print.specs.Printers.PrintedOperation.{language_in}
use Rattle.irtext_print.specs.Entries.{Mentioned}
use Rattle.irtext_print.specs.Given.{printing_of, given_at, is_marked_by}
use Rattle.irtext_print.specs.Mentions.{one_noted, items_noted}
use Rattle.irtext_print.specs.declared.mentions.Mentions.{Mentions}
use Rattle.irtext_context.specs.declared.base.item.Item.{Item}

module _ {T A : Type 0} (C : Printing T A) where
  -- the items that are live
  abbrev pub there : List (Option (Entry C)) → List (Entry C)
  there gs = filter_map (λ g. g) gs

  -- the print-once attributes of the section: those that a live item mentions
  abbrev pub shared_by : List (Option (Entry C)) → List A
  shared_by gs = shared C (there gs)

  module _ (items : ℕ) (once : List A) where
    -- the entries of items, numbered from n on; an erased item has none, and keeps its number
    abbrev pub given_items : ℕ → List (Option (Entry C)) → List (tree.Entry ⊤ A Text)
    given_items n [] = []
    given_items n (None ∷ gs) = given_items (suc n) gs
    given_items n (Some e ∷ gs) = tree.of_item (mark_of n) e.location (map (written_pair C items once) e.attributes) ∷ given_items (suc n) gs

  -- the section's entries: one for each live item, and then each print-once attribute, numbered on after all items
  abbrev pub given_section : List (Option (Entry C)) → List (tree.Entry ⊤ A Text)
  given_section gs = given_items (length gs) (shared_by gs) 0 gs ++ written_once (length gs) (shared_by gs)

  -- the numbers, from n on, of the live items
  abbrev pub places_there : ℕ → List (Option (Entry C)) → List ℕ
  places_there n [] = []
  places_there n (None ∷ gs) = places_there (suc n) gs
  places_there n (Some e ∷ gs) = n ∷ places_there (suc n) gs

  module _ (L : Language ⊤ T A) where
    -- an attribute as an entry contains it: in place, or as a reference
    abbrev pub item_spelled : tree.Item ⊤ A → Text
    item_spelled (tree.direct a) = attribute L a
    item_spelled (tree.reference m) = codes "!" ++ decimal m.index

    -- an entry of a section
    abbrev pub entry_spelled : tree.Entry ⊤ A Text → Text
    entry_spelled (tree.of_item m x es) = codes "!" ++ (decimal m.index ++ (codes " = " ++ (located L C x ++ (codes "["
        ++ (joined comma (map (λ e. e.0.text ++ (codes " = " ++ item_spelled e.1)) es) ++ codes "]\n")))))
    entry_spelled (tree.of_once m a) = codes "!" ++ (decimal m.index ++ (codes " = " ++ (attribute L a ++ (10 ∷ []))))

    -- the entry of an item if this is what the section contains for it; an erased item has none
    abbrev pub given_text : ℕ → List A → ℕ → Option (Entry C) → Text
    given_text items once n None = []
    given_text items once n (Some e) = entry_text L C items once n e

    -- the entries of items, numbered from n on; an erased item keeps its number
    abbrev pub given_texts : ℕ → List A → ℕ → List (Option (Entry C)) → Text
    given_texts items once n [] = []
    given_texts items once n (g ∷ gs) = given_text items once n g ++ given_texts items once (suc n) gs

    -- the section of items, if there are any; an erased one is counted, and has no entry
    abbrev pub section_of : List (Option (Entry C)) → Text
    section_of [] = []
    section_of (g ∷ gs) = let all = g ∷ gs in
        codes "\n\noutlined_attributes:\n" ++ (given_texts (length all) (shared_by all) 0 all ++ once_texts L C (length all) (shared_by all))

    -- the mark of an item and the section with its entry alone, if this is what the section contains for it; nothing if it has no mark
    abbrev pub alone_of : Option (Entry C) → Text
    alone_of g = cond (is_marked_by C g) (codes " !0" ++ section_of (g ∷ [])) []

module _ {T A : Type 0} (types : ir_text.Ghosts T A) (owns : ir_text.Ghosts A A) (attributes : attr_text.Ghosts A A) (same : A → A → Bool) (ctx : ContextView T A) where
  -- what the texts of the caller's types and attributes mean, and the formats of the context
  abbrev pub language_of : Language ⊤ T A
  language_of = language_in types owns ctx

  -- what the section contains for each of these items
  abbrev pub all_given : List Item → List (Option (Entry (printing_of types owns attributes same ctx)))
  all_given items = map (given_at types owns attributes same ctx) items

  -- the entry of an item, if it is live
  abbrev pub item_entry : ℕ → List A → ℕ → Item → Text
  item_entry count once n i = given_text (printing_of types owns attributes same ctx) language_of count once n (given_at types owns attributes same ctx i)

  -- the entries of items, numbered from n on
  abbrev pub all_entries : ℕ → List A → ℕ → List Item → Text
  all_entries count once n items = given_texts (printing_of types owns attributes same ctx) language_of count once n (all_given items)

  -- the print-once attributes that are known after an item
  abbrev pub item_known : List A → Item → List A
  item_known known i = one_noted (printing_of types owns attributes same ctx) known (given_at types owns attributes same ctx i)

  -- the same after several items
  abbrev pub all_known : List A → List Item → List A
  all_known known items = items_noted (printing_of types owns attributes same ctx) known (all_given items)

  -- the entry of an item with this index was appended, if the item is live
  abbrev pub WritesItemEntry : Mentions A → Mentions A → String Global → String Global → ℕ → Item → Type 0
  WritesItemEntry old new before after n i = Mentioned old new before after (λ known. item_known known i) (λ once. item_entry old.items once n i)

  -- the entries of items were appended, numbered from 0 on
  abbrev pub WritesEntries : Mentions A → Mentions A → String Global → String Global → List Item → Type 0
  WritesEntries old new before after items = Mentioned old new before after (λ known. all_known known items) (λ once. all_entries old.items once 0 items)

  -- the mark of an item and the section with its entry alone; nothing if it has no mark
  abbrev pub alone_at : Item → Text
  alone_at i = alone_of (printing_of types owns attributes same ctx) language_of (given_at types owns attributes same ctx i)

  -- the section of these items
  abbrev pub section_at : List Item → Text
  section_at items = section_of (printing_of types owns attributes same ctx) language_of (all_given items)
