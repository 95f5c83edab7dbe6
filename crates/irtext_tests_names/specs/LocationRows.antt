-- Worked locations, over a parser that knows one attribute of the caller's.
use Rattle.std.specs.Prelude.{◌≡◌, ℕ, pos, Option, Some, None, List, [], codes, ⊤}
use Rattle.irtext_base.specs.Text.{Text}
use Rattle.irtext_base.specs.Answers.{Outcome, Read, mapped}
use Rattle.irtext_base.specs.Locations.{AttrView, own, src_pos, fused, named, call_site, unknown, no_location, location}
use Rattle.irtext_base.specs.Paths.{Written}
use Rattle.irtext_tokens.specs.Tokens.{text_at}
use Rattle.irtext_grammar.specs.Readers.Locations.{location_at}
use Rattle.irtext_grammar.specs.Spelling.Locations.{written_text}

-- the one attribute is parsed as a word
abbrev pub note_at : Text → Outcome (AttrView ⊤)
note_at text = mapped (λ _. own tt) (text_at (codes "note") text)

-- and printed as this word
abbrev pub note_text : ⊤ → Text
note_text a = codes "note"

-- a line and a column of a source
abbrev pub place : Option (List ℕ) → ℕ → ℕ → Written ⊤
place s line column = src_pos s (record { line = pos line; column = pos column })

-- a name for no location
abbrev pub name_alone : List ℕ → Written ⊤
name_alone name = named name unknown

-- two locations as one
abbrev pub two_as_one : Option (AttrView ⊤) → Written ⊤
two_as_one metadata = fused metadata (location (place None 3 4) (location unknown no_location))

-- a location with one of each other kind nested in it
abbrev pub nested : Written ⊤
nested = call_site (named (codes "f") (call_site unknown unknown)) (two_as_one (Some (own tt)))

-- the location is printed as this text, and the whole text parses as it
abbrev pub Says : Written ⊤ → Text → Type 0
Says l text = (written_text note_text l ≡ text) × (location_at note_at text ≡ Read l text [])
