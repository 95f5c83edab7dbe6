-- For callers: the texts of a section's entries, piece by piece. An item is an operation or a block that carries a mark.
use Rattle.std.specs.Prelude.{◌≡◌, ℕ, Bool, ◌+◌, List, [], ◌∷◌, ◌++◌, map, codes, decimal, Option, ⊤}
use Rattle.std.specs.Str.{encode_utf8_all}
use Rattle.std.specs.declared.alloc.Global.{Global}
use Rattle.std.specs.declared.string.String.{String}
use Rattle.irtext_base.specs.Own.{Language}
use Rattle.irtext_base.specs.Text.{Text}
use Rattle.irtext_base.specs.declared.location.Location.{Location}
use Rattle.irtext_base.specs.declared.text.AttrText as attr_text
use Rattle.irtext_base.specs.declared.text.IrText as ir_text
use Rattle.irtext_grammar.specs.Grammar.Tree.{Attribute}
use Rattle.irtext_grammar.specs.Graphs.Graph.{Printing, place_in}
use Rattle.irtext_grammar.specs.Spelling.Section.{item, located}
use Rattle.irtext_grammar.specs.Spelling.Locations.{known_text}
use Rattle.irtext_grammar.specs.Spelling.Spell.{joined, comma}
use Rattle.irtext_print.specs.Errors.Located.{framed}
use Rattle.irtext_print.specs.Mentions.{asking, known_in, with_mention, noted, all_noted}
use Rattle.irtext_print.specs.Printers.Appended.{AppendsText}
use Rattle.irtext_print.specs.Printers.LocationParts.{numbers_text}
use Rattle.irtext_print.specs.Printers.PieceText.{words}
use Rattle.irtext_print.specs.declared.mentions.Mentions.{Mentions}
use Rattle.irtext_stream.specs.declared.position.SourcePosition.{SourcePosition}

-- a label under the key of labels
abbrev pub label_text : Text → Text
label_text l = codes "builtin_block_label = builtin.identifier " ++ l

-- what is before an entry's attributes, for a position in memory with these numbers
abbrev pub memory_text : ℕ → ℕ → ℕ → List ℕ
memory_text index line column = codes "!" ++ (decimal index ++ (codes " = @[<in-memory>: line: " ++ (decimal line ++ (codes ", column: " ++ (decimal column ++ codes "], [")))))

-- the bytes after what is before an entry's attributes was appended to these, for a position in memory
abbrev pub memory_front : List ℕ → ℕ → SourcePosition → List ℕ
memory_front old index pos = (((old ++ encode_utf8_all (codes "!" ++ decimal index)) ++ codes " = @[<in-memory>: line: ")
    ++ encode_utf8_all (numbers_text pos)) ++ codes "], ["

-- the bytes after ` = `, a location if it is known, and `[` were appended to these
abbrev pub location_front : {A : Type 0} → (A → Text) → List (List ℕ) → Location A → List ℕ → List ℕ
location_front written paths location old = old ++ (codes " = " ++ (framed (codes "@[") (codes "], ") (known_text written paths location) ++ codes "["))

module _ {T A : Type 0} (C : Printing T A) (items : ℕ) (once : List A) where
  -- the reference to a print-once attribute
  abbrev pub reference_text : A → Text
  reference_text a = codes "!" ++ decimal (items + place_in C once a)

  module _ (L : Language ⊤ T A) where
    -- a key, and the attribute under it or the reference to a print-once one
    abbrev pub pair_text : Text × Attribute A → Text
    pair_text e = e.0 ++ (codes " = " ++ item L C items once e.1)

    -- attributes with `, ` between them
    abbrev pub pairs_text : List (Text × Attribute A) → Text
    pairs_text es = joined comma (map pair_text es)

    -- an entry with this location, if it is known, and these attributes
    abbrev pub entry_with : ℕ → Option Text → List (Text × Attribute A) → Text
    entry_with n location es = codes "!" ++ (decimal n ++ (codes " = " ++ (located L C location ++ (codes "[" ++ (pairs_text es ++ codes "]\n")))))

-- a print-once attribute, after its index
abbrev pub once_text : {A : Type 0} → (A → Text) → ℕ → A → Text
once_text written n a = codes "!" ++ (decimal n ++ (codes " = " ++ (written a ++ (10 ∷ []))))

-- A text that may mention print-once attributes was appended. Those that it mentions are known after it, and there are as many items. Its
-- references stay the same as more attributes become known.
pub record Mentioned {A : Type 0} (old new : Mentions A) (before after : String Global) (noting : List A → List A) (spelled : List A → Text) : Type 0 where
  pub items : new.items ≡ old.items
  pub known : known_in new.known ≡ noting (known_in old.known)
  pub text : (more : List A) → AppendsText before (spelled (known_in new.known ++ more)) after

module _ {A : Type 0} (owns : ir_text.Ghosts A A) (attributes : attr_text.Ghosts A A) (same : A → A → Bool) (old new : Mentions A) (before after : String Global) where
  -- what the section needs to know of the caller's attributes
  abbrev pub own_printing : Printing ⊤ A
  own_printing = asking attributes.print_once same

  -- the reference to a print-once attribute was appended
  abbrev pub WritesReference : A → Type 0
  WritesReference a = Mentioned old new before after (λ known. with_mention own_printing known a) (λ once. reference_text own_printing old.items once a)

  -- an attribute was appended, or the reference to a print-once one
  abbrev pub WritesItem : Attribute A → Type 0
  WritesItem a = Mentioned old new before after (λ known. noted own_printing known a) (λ once. item (words owns.written) own_printing old.items once a)

  -- the same after a key
  abbrev pub WritesPair : Text × Attribute A → Type 0
  WritesPair e = Mentioned old new before after (λ known. noted own_printing known e.1) (λ once. pair_text own_printing old.items once (words owns.written) e)

  -- the same for several keys
  abbrev pub WritesPairs : List (Text × Attribute A) → Type 0
  WritesPairs es = Mentioned old new before after (λ known. all_noted own_printing known es) (λ once. pairs_text own_printing old.items once (words owns.written) es)

  -- an entry with this index, this location, if it is known, and these attributes was appended
  abbrev pub WritesEntry : ℕ → Option Text → List (Text × Attribute A) → Type 0
  WritesEntry n location es = Mentioned old new before after (λ known. all_noted own_printing known es) (λ once. entry_with own_printing old.items once (words owns.written) n location es)
