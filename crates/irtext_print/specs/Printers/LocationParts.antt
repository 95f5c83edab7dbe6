-- What is still to be printed of a location's text, and how much that is.
use Rattle.std.specs.Prelude.{◌≡◌, ◌<◌, ◌+◌, ◌*◌, ℕ, Bool, true, false, Option, Some, None, List, [], ◌∷◌, ◌++◌, map, codes, string_bytes, Vec}
use Rattle.std.specs.Fmt.{signed_decimal}
use Rattle.std.specs.Str.{encode_utf8_all}
use Rattle.std.specs.declared.alloc.Global.{Global}
use Rattle.std.specs.declared.string.String.{String}
use Rattle.irtext_base.specs.Text.{Text}
use Rattle.irtext_base.specs.Locations.{location_view, in_row, row_sourced}
use Rattle.irtext_base.specs.Paths.{path_of}
use Rattle.irtext_base.specs.Weights.{weight_of, weight_all}
use Rattle.irtext_base.specs.declared.location.Location.{Location}
use Rattle.irtext_grammar.specs.Spelling.Locations.{location_text, row_texts}
use Rattle.irtext_grammar.specs.Spelling.Spell.{joined, joined_from, comma}
use Rattle.irtext_print.specs.declared.location.parts.Part.{Part}
use Rattle.irtext_print.specs.declared.location.parts.Part.TheVariants.{Whole, Row, Caller, Closing}
use Rattle.irtext_stream.specs.declared.position.SourcePosition.{SourcePosition}

-- the numbers of a position's line and column, with the word between
abbrev pub numbers_text : SourcePosition → Text
numbers_text pos = signed_decimal pos.line ++ (codes ", column: " ++ signed_decimal pos.column)

-- how much a location has to print: at least one for each of its parts
abbrev pub text_weight : {A : Type 0} → Location A → ℕ
text_weight l = 1 + 2 * weight_of l

-- the weight of the rest of a row, with its bracket
abbrev pub list_weight : {A : Type 0} → List (Location A) → ℕ
list_weight ls = 1 + 2 * weight_all ls

-- the weight of a part
abbrev pub part_weight : {A : Type 0} → Part A → ℕ
part_weight (Whole l) = text_weight l.now
part_weight (Row left first) = list_weight left.now
part_weight (Caller l) = 2 + text_weight l.now
part_weight Closing = 1

-- the weight of all parts that wait
abbrev pub waiting_weight : {A : Type 0} → List (Part A) → ℕ
waiting_weight [] = 0
waiting_weight (p ∷ ps) = part_weight p + waiting_weight ps

-- the weight of the rest: the next part and those that wait
abbrev pub left_weight : {A : Type 0} → Option (Part A) → List (Part A) → ℕ
left_weight None waiting = 0
left_weight (Some p) waiting = part_weight p + waiting_weight waiting

module _ {A : Type 0} (written : A → Text) (paths : List (List ℕ)) where
  -- the texts of locations in a list
  abbrev pub list_texts : List (Location A) → List Text
  list_texts ls = row_texts written (row_sourced (path_of paths) (in_row (map location_view ls)))

  -- the rest of a row, with the bracket after it; a comma is before each location but the first
  abbrev pub row_text : Bool → List (Location A) → Text
  row_text true ls = joined comma (list_texts ls) ++ codes "]"
  row_text false ls = joined_from comma (list_texts ls) ++ codes "]"

  -- the text of a part
  abbrev pub part_text : Part A → Text
  part_text (Whole l) = location_text written paths l.now
  part_text (Row left first) = row_text first left.now
  part_text (Caller l) = codes " at " ++ (location_text written paths l.now ++ codes ")")
  part_text Closing = codes ")"

  -- the text of the parts that wait: the last one that was added is printed first
  abbrev pub waiting_text : List (Part A) → Text
  waiting_text [] = []
  waiting_text (p ∷ ps) = waiting_text ps ++ part_text p

  -- the text that is left: that of the next part, and that of those that wait
  abbrev pub left_text : Option (Part A) → List (Part A) → Text
  left_text None waiting = []
  left_text (Some p) waiting = part_text p ++ waiting_text waiting

  -- a text of this weight, and then the parts that wait: what was printed of them and what is left are the same text, and less is left
  pub record Continues (text : Text) (size : ℕ) (before : List (Part A)) (old : String Global) (after : List (Part A)) (new : String Global)
      (next : Option (Part A)) : Type 0 where
    pub text_left : string_bytes new ++ encode_utf8_all (left_text next after) ≡ string_bytes old ++ encode_utf8_all (text ++ waiting_text before)
    pub less : left_weight next after < size + waiting_weight before

  -- the same for a part
  abbrev pub WritesPart : Part A → Vec (Part A) Global → String Global → Vec (Part A) Global → String Global → Option (Part A) → Type 0
  WritesPart part before old after new = Continues (part_text part) (part_weight part) before.items old after.items new
