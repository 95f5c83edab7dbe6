-- For callers: the text of a location of any kind, in characters.
use Rattle.std.specs.Prelude.{ℕ, Option, Some, None, List, [], ◌∷◌, ◌++◌, chars, codes}
use Rattle.irtext_base.specs.Text.{Text}
use Rattle.irtext_base.specs.Causes.{position_text}
use Rattle.irtext_base.specs.Quoted.{quoted}
use Rattle.irtext_base.specs.Locations.{AttrView, location_view, src_pos, fused, named, call_site, unknown, LocationsOf, no_location, location}
use Rattle.irtext_base.specs.Paths.{Written, written_with}
use Rattle.irtext_base.specs.declared.location.Location.{Location, Unknown}
use Rattle.irtext_grammar.specs.Spelling.AttrText.{attr_text}
use Rattle.irtext_grammar.specs.Spelling.Spell.{joined, comma}

-- the path of a file in quotation marks, or `<in-memory>`
abbrev pub source_text : Option (List ℕ) → Text
source_text None = codes "<in-memory>"
source_text (Some path) = quoted (chars path)

module _ {A : Type 0} (written : A → Text) where
  -- the attribute of fused locations between `<` and `>`, if there is one
  abbrev pub metadata_text : Option (AttrView A) → Text
  metadata_text None = []
  metadata_text (Some attr) = codes "<" ++ (attr_text written attr ++ codes ">")

  abbrev mutual
    -- the text of a location
    pub written_text : Written A → Text
    written_text (src_pos src at) = source_text src ++ (codes ": " ++ position_text at)
    written_text (fused metadata locations) = codes "fused" ++ (metadata_text metadata ++ (codes "[" ++ (joined comma (row_texts locations) ++ codes "]")))
    written_text (named name child) = codes "name: " ++ (quoted (chars name) ++ (codes ", loc: (" ++ (written_text child ++ codes ")")))
    written_text (call_site callee caller) = codes "callsite(" ++ (written_text callee ++ (codes " at " ++ (written_text caller ++ codes ")")))
    written_text unknown = codes "?"

    -- the texts of a list of locations
    pub row_texts : LocationsOf (Option (List ℕ)) A → List Text
    row_texts no_location = []
    row_texts (location l ls) = written_text l ∷ row_texts ls

  -- the text of a location in a context that keeps these paths; a file whose path isn't among them is printed as `<in-memory>`
  abbrev pub location_text : List (List ℕ) → Location A → Text
  location_text paths l = written_text (written_with paths (location_view l))

  -- the text of a location, unless it is unknown
  abbrev pub known_text : List (List ℕ) → Location A → Option Text
  known_text paths Unknown = None
  known_text paths l = Some (location_text paths l)
