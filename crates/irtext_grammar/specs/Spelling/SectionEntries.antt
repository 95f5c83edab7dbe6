-- For callers: the section that is printed of a graph, as entries without places and with locations as texts. An item is an operation or
-- a block that carries a mark.
use Rattle.std.specs.Prelude.{ℕ, zero, suc, ◌+◌, ◌<◌, ◌^◌, cond, List, [], ◌∷◌, ◌++◌, map, length, Option, Some, None, option_map, ⊤}
use Rattle.irtext_base.specs.Text.{Text}
use Rattle.irtext_grammar.specs.Grammar.Tree.{Name, Mark, Attribute, own}
use Rattle.irtext_grammar.specs.Grammar.Section.{Item, direct, reference, Entry, of_item, of_once}
use Rattle.irtext_grammar.specs.Graphs.Graph as graph
use Rattle.irtext_grammar.specs.Graphs.Graph.{Graph, Printing, named, entries_of, shared, place_in, is_marked}
use Rattle.irtext_grammar.specs.Grammar.Bare.{bare_name, bare_mark}

-- an attribute or a reference in an entry, without its place
abbrev pub bare_item : {P A : Type 0} → Item P A → Item ⊤ A
bare_item (direct a) = direct a
bare_item (reference m) = reference (bare_mark m)

-- a key with its attribute or reference, without places
abbrev pub bare_pair : {P A : Type 0} → Name P × Item P A → Name ⊤ × Item ⊤ A
bare_pair e = (bare_name e.0, bare_item e.1)

-- an entry without its places, and with its location mapped
abbrev pub bare_section_entry : {P A X Y : Type 0} → (X → Y) → Entry P A X → Entry ⊤ A Y
bare_section_entry text (of_item m x es) = of_item (bare_mark m) (option_map text x) (map bare_pair es)
bare_section_entry text (of_once m a) = of_once (bare_mark m) a

-- a section without its places, and with its locations mapped
abbrev pub bare_section : {P A X Y : Type 0} → (X → Y) → List (Entry P A X) → List (Entry ⊤ A Y)
bare_section text es = map (bare_section_entry text) es

-- an entry's index
abbrev pub index_of : {P A X : Type 0} → Entry P A X → ℕ
index_of (of_item m x es) = m.index
index_of (of_once m a) = m.index

-- n numbers, ascending from the first
abbrev pub numbers : ℕ → ℕ → List ℕ
numbers first zero = []
numbers first (suc n) = first ∷ numbers (suc first) n

-- the mark with this index
abbrev pub mark_of : ℕ → Mark ⊤
mark_of n = record { place = tt; index = n }

-- the entries of the print-once attributes, numbered from n on
abbrev pub written_once : {A : Type 0} → ℕ → List A → List (Entry ⊤ A Text)
written_once n [] = []
written_once n (a ∷ rest) = of_once (mark_of n) (own a) ∷ written_once (suc n) rest

module _ {T A : Type 0} (C : Printing T A) (items : ℕ) (once : List A) where
  -- an attribute; of a print-once attribute a reference to its entry, which comes after those of all items
  abbrev pub written_item : Attribute A → Item ⊤ A
  written_item (own a) = cond (C.own_once a) (reference (mark_of (items + place_in C once a))) (direct (own a))
  written_item a = direct a

  -- a key with what is printed for its attribute
  abbrev pub written_pair : Text × Attribute A → Name ⊤ × Item ⊤ A
  written_pair e = (named C e.0, written_item e.1)

  -- the entries of the items, numbered from n on
  abbrev pub written_items : ℕ → List (graph.Entry C) → List (Entry ⊤ A Text)
  written_items n [] = []
  written_items n (e ∷ es) = of_item (mark_of n) e.location (map written_pair e.attributes) ∷ written_items (suc n) es

module _ {T A : Type 0} (C : Printing T A) where
  -- the section of these items: an entry for each, then one for each print-once attribute
  abbrev pub written_section : List (graph.Entry C) → List (Entry ⊤ A Text)
  written_section es = written_items C (length es) (shared C es) 0 es ++ written_once (length es) (shared C es)

  -- the section has fewer than 2 ^ 64 entries
  abbrev pub SmallSection : Graph T A → Type 0
  SmallSection g = length (entries_of C None g) + length (shared C (entries_of C None g)) < 2 ^ 64

  -- the contents of the entry of an operation or a block, if it is marked: its location and these attributes
  abbrev pub own_content : Option Text → List (Text × Attribute A) → Option (Option Text × List (Text × Attribute A))
  own_content location es = cond (is_marked C location es) (Some (location, es)) None
