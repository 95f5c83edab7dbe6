-- For callers: the grammar of a section: entries for marks, and entries for print-once attributes.
use Rattle.std.specs.Prelude.{◌≡◌, List, map, Option, Some, None, codes}
use Rattle.irtext_base.specs.Text.{Text}
use Rattle.irtext_base.specs.Reading.{Reading, ◌▹◌, ends, white, the, literal, separated, repeated}
use Rattle.irtext_grammar.specs.Grammar.Tree.{Name, Mark, Attribute}
use Rattle.irtext_base.specs.Own.{Language, found, Verdict}
use Rattle.irtext_grammar.specs.Grammar.Reads.{mark, name, attribute, no_word}

-- an attribute, or a reference to a print-once attribute
pub data Item (P A : Type 0) : Type 0 where
  direct : Attribute A → Item P A
  reference : Mark P → Item P A

-- the entry of a marked operation or block, with a location and attributes; or the entry of a print-once attribute
pub data Entry (P A X : Type 0) : Type 0 where
  of_item : Mark P → Option X → List (Name P × Item P A) → Entry P A X
  of_once : Mark P → Attribute A → Entry P A X

module _ {P T A X : Type 0} (L : Language P T A) (location_at : Text → Verdict X) where
  -- a location, by the parser of locations
  abbrev pub location : X → Reading
  location x text rest = location_at text ≡ found x rest

  -- an attribute, or `!` and a number
  abbrev pub item : Item P A → Reading
  item (direct a) = attribute L a
  item (reference m) = mark L m

  -- a key, `=`, and an attribute or a reference
  abbrev pub pair : Name P × Item P A → Reading
  pair e = name L e.0 ▹ literal (codes "=") ▹ item e.1

  -- a location in `@[` and `],` if `@` comes next; otherwise nothing
  abbrev pub located : Option X → Reading
  located None = ends (the 64)
  located (Some x) = literal (codes "@[") ▹ location x ▹ literal (codes "]") ▹ literal (codes ",")

  -- a mark, `=`, and the contents of the entry
  abbrev pub entry : Entry P A X → Reading
  entry (of_item m x es) = mark L m ▹ literal (codes "=") ▹ located x ▹ literal (codes "[") ▹ separated 44 no_word (map pair es) ▹ literal (codes "]")
  entry (of_once m a) = mark L m ▹ literal (codes "=") ▹ attribute L a

  -- `outlined_attributes:`, and entries as long as `!` follows
  abbrev pub section : List (Entry P A X) → Reading
  section es = white (literal (codes "outlined_attributes:") ▹ repeated (the 33) (map entry es))
