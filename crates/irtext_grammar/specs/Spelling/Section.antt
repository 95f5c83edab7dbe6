-- For callers: the text of the section after a root: an entry for each item, then one for each print-once attribute. An item is an
-- operation or a block that carries a mark.
use Rattle.std.specs.Prelude.{ℕ, suc, ◌+◌, cond, List, [], ◌∷◌, ◌++◌, map, length, Option, Some, None, codes, decimal, ⊤}
use Rattle.irtext_base.specs.Text.{Text}
use Rattle.irtext_grammar.specs.Grammar.Tree.{Attribute, own}
use Rattle.irtext_base.specs.Own.{Language}
use Rattle.irtext_grammar.specs.Spelling.Spell.{attribute, joined, comma, spelled}
use Rattle.irtext_grammar.specs.Graphs.Graph.{Graph, Printing, Entry, entries_of, shared, place_in, written, Limit}

module _ {T A : Type 0} (L : Language ⊤ T A) (C : Printing T A) where
  -- an attribute; of a print-once attribute the reference to its entry
  abbrev pub item : ℕ → List A → Attribute A → Text
  item items once (own a) = cond (C.own_once a) (codes "!" ++ decimal (items + place_in C once a)) (attribute L (own a))
  item items once a = attribute L a

  -- a known location in `@[` and `], `; otherwise nothing
  abbrev pub located : Option Text → Text
  located None = []
  located (Some l) = codes "@[" ++ (l ++ codes "], ")

  -- the entry of an item: its index, its location, and its attributes
  abbrev pub entry_text : ℕ → List A → ℕ → Entry C → Text
  entry_text items once n e = codes "!" ++ (decimal n ++ (codes " = " ++ (located e.location ++ (codes "["
      ++ (joined comma (map (λ a. a.0 ++ (codes " = " ++ item items once a.1)) e.attributes) ++ codes "]\n")))))

  -- the entries of the items, numbered from n on
  abbrev pub entry_texts : ℕ → List A → ℕ → List (Entry C) → Text
  entry_texts items once n [] = []
  entry_texts items once n (e ∷ es) = entry_text items once n e ++ entry_texts items once (suc n) es

  -- the entries of the print-once attributes, numbered from n on
  abbrev pub once_texts : ℕ → List A → Text
  once_texts n [] = []
  once_texts n (a ∷ rest) = codes "!" ++ (decimal n ++ (codes " = " ++ (L.owns.written a ++ (10 ∷ once_texts (suc n) rest))))

  -- the section with these entries; empty if there are none
  abbrev pub section : List (Entry C) → Text
  section [] = []
  section (e ∷ es) = let all = e ∷ es in let once = shared C all in
      codes "\n\noutlined_attributes:\n" ++ (entry_texts (length all) once 0 all ++ once_texts (length all) once)

  -- the text of a root: of the operation, and of its section
  abbrev pub text : Graph T A → ℕ → ℕ → Limit → Text
  text g indentation width limit = spelled L width indentation (written C limit g) ++ section (entries_of C limit g)
