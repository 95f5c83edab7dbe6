-- For callers: what a text is to the parser of a location, with the cause and place of each fault.
use Rattle.std.specs.Prelude.{ℕ, zero, suc, Bool, ◌||◌, Option, Some, None, List, [], codes, length}
use Rattle.std.specs.Str.{encode_utf8_all}
use Rattle.irtext_base.specs.Text.{Text, begins}
use Rattle.irtext_base.specs.Reading.{the}
use Rattle.irtext_base.specs.Stream.{first_of}
use Rattle.irtext_base.specs.Faults.{Unexpected, ASource, ALocation}
use Rattle.irtext_base.specs.Answers.{Outcome, Read, Missing, Bad, prefixed}
use Rattle.irtext_base.specs.Locations.{AttrView, src_pos, fused, named, call_site, unknown, LocationsOf, no_location, location}
use Rattle.irtext_base.specs.Paths.{Written}
use Rattle.irtext_tokens.specs.Tokens.{word}
use Rattle.irtext_tokens.specs.Infix.{nothing, either, ◌▷◌, ◌▶◌, ◌⇒◌}
use Rattle.irtext_tokens.specs.QuotedTexts.{quoted_at}
use Rattle.irtext_grammar.specs.Readers.Positions.{space_at, spaced_at, position_at}

-- the bytes of a text in quotation marks
abbrev pub bytes_at : Text → Outcome (List ℕ)
bytes_at = quoted_at ⇒ encode_utf8_all

-- a quotation mark or `<`
abbrev pub begins_source : ℕ → Bool
begins_source c = the 34 c || the 60 c

-- a path in quotation marks
abbrev pub path_at : Text → Outcome (Option (List ℕ))
path_at = bytes_at ⇒ Some

-- a path in quotation marks, or `<in-memory>`
abbrev pub source_at : Text → Outcome (Option (List ℕ))
source_at = either (begins (the 34)) path_at (either (begins (the 60)) (word (codes "<in-memory>") ⇒ λ _. None) (λ text. Missing (Unexpected (first_of text) ASource)))

-- a list of locations, whose files are given by the bytes of their paths
abbrev pub WrittenRow : Type 0 → Type 0
WrittenRow A = LocationsOf (Option (List ℕ)) A

-- `name`, a name in quotation marks, and what comes before the location that it names
abbrev pub name_at : Text → Outcome (List ℕ)
name_at = word (codes "name") ▷ spaced_at (codes ":") ▷ bytes_at ▶ λ name.
    spaced_at (codes ",") ▷ word (codes "loc") ▷ spaced_at (codes ":") ▷ word (codes "(") ⇒ λ _. name

-- a character that begins a location
abbrev pub begins_location : ℕ → Bool
begins_location c = begins_source c || (the 102 c || (the 110 c || (the 99 c || the 63 c)))

module _ {A : Type 0} where
  -- a source, a line and a column
  abbrev pub place_at : Text → Outcome (Written A)
  place_at = source_at ▶ λ s. spaced_at (codes ":") ▷ position_at ⇒ src_pos s

  -- an attribute in `<` and `>` if `<` comes next; otherwise none
  abbrev pub metadata_at : (Text → Outcome (AttrView A)) → Text → Outcome (Option (AttrView A))
  metadata_at attr = either (begins (the 60)) (word (codes "<") ▷ space_at ▷ attr ▶ λ a. space_at ▷ word (codes ">") ⇒ λ _. Some a) (nothing None)

  module _ (inner : Text → Outcome (Written A)) (more : Text → Outcome (WrittenRow A)) where
    -- white space after a location, and the locations that follow it
    abbrev pub after_location : Written A → Text → Outcome (WrittenRow A)
    after_location l = space_at ▷ more ⇒ location l

    -- given the outcome of the first location: no location if it is missing; otherwise that one and those that follow it
    abbrev pub row_of : Outcome (Written A) → Text → Outcome (WrittenRow A)
    row_of (Read l taken rest) text = prefixed taken (after_location l rest)
    row_of (Missing cause) text = Read no_location [] text
    row_of (Bad cause upto) text = Bad cause upto

    -- locations with `,` between
    abbrev pub row_at : Text → Outcome (WrittenRow A)
    row_at text = row_of (inner text) text

    -- `,` and one more location, as long as `,` comes next
    abbrev pub more_at : Text → Outcome (WrittenRow A)
    more_at = either (begins (the 44)) (word (codes ",") ▷ space_at ▷ inner ▶ after_location) (nothing no_location)

    -- several locations as one
    abbrev pub fused_at : (Text → Outcome (AttrView A)) → Text → Outcome (Written A)
    fused_at attr = word (codes "fused") ▷ space_at ▷ metadata_at attr ▶ λ m. word (codes "[") ▷ space_at ▷ row_at ▶ λ ls. word (codes "]") ⇒ λ _. fused m ls

    -- a name for a location
    abbrev pub named_at : Text → Outcome (Written A)
    named_at = name_at ▶ λ name. inner ▶ λ l. word (codes ")") ⇒ λ _. named name l

    -- a callee's location and its caller's
    abbrev pub call_site_at : Text → Outcome (Written A)
    call_site_at = word (codes "callsite") ▷ spaced_at (codes "(") ▷ inner ▶ λ callee.
        spaced_at (codes "at") ▷ inner ▶ λ caller. spaced_at (codes ")") ⇒ λ _. call_site callee caller

    -- a location of the kind that its first character determines
    abbrev pub kind_at : (Text → Outcome (AttrView A)) → Text → Outcome (Written A)
    kind_at attr =
        either (begins begins_source) place_at
        (either (begins (the 102)) (fused_at attr)
        (either (begins (the 110)) named_at
        (either (begins (the 99)) call_site_at
        (either (begins (the 63)) (word (codes "?") ⇒ λ _. unknown)
        (λ text. Missing (Unexpected (first_of text) ALocation))))))

  module _ (attr : Text → Outcome (AttrView A)) where
    abbrev mutual
      -- a location with at most this many levels of nesting
      pub location_within : ℕ → Text → Outcome (Written A)
      location_within zero text = Missing (Unexpected (first_of text) ALocation)
      location_within (suc n) text = kind_at (location_within n) (more_within n) attr text

      -- at most this many more locations, each with at most this many levels of nesting
      pub more_within : ℕ → Text → Outcome (WrittenRow A)
      more_within zero text = Read no_location [] text
      more_within (suc n) text = more_at (location_within n) (more_within n) text

    -- a location: its nesting is no deeper than the number of characters
    abbrev pub location_at : Text → Outcome (Written A)
    location_at text = location_within (length text) text
