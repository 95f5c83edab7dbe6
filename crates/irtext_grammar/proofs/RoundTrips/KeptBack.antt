-- The text of a location whose attributes are kept is parsed back.
use Rattle.std.proofs.Common.{◌≡◌, ℕ, true, false, Option, Some, None, List, [], ◌∷◌, ◌++◌, length, refl, ap, arith}
use Rattle.std.proofs.lemmas.Bool.Decides.{nat_tests}
use Rattle.std.proofs.Math.Nat.{le_refl}
use Rattle.std.specs.Prelude.{IfSome}
use Rattle.std.specs.Char.{is_ascii_digit, is_whitespace}
use Rattle.irtext_base.specs.Text.{Text, begins, begins_word}
use Rattle.irtext_base.specs.Reading.{the}
use Rattle.irtext_base.specs.Answers.{Outcome}
use Rattle.irtext_base.specs.Own.{Lawful, Sincere, Unreserved, verdict, texts_of}
use Rattle.irtext_base.specs.Locations.{AttrView, given_names, ident, own, src_pos, fused, named, call_site, unknown, no_location, location}
use Rattle.irtext_base.specs.Paths.{Written}
use Rattle.irtext_base.specs.declared.location.Location.{Location, Unknown}
use Rattle.irtext_tokens.specs.AttrTexts.{attr_at}
use Rattle.irtext_grammar.specs.Spelling.AttrText.{IsSpellableAttr, attr_text}
use Rattle.irtext_grammar.specs.Promises.KeptRoot.{AllHold, RowHold}
use Rattle.irtext_grammar.specs.Readers.Locations.{WrittenRow}
use Rattle.irtext_grammar.specs.Spelling.Locations.{written_text, known_text}
use Rattle.irtext_grammar.specs.Contexts.Held.{location_over}
use Rattle.irtext_grammar.specs.Promises.PrintedBack.{locations}
use Rattle.irtext_grammar.specs.Graphs.RoundTrip.{LocationReads}
use Rattle.irtext_grammar.specs.Promises.Supported.{location_verdict}
use Rattle.irtext_grammar.specs.Promises.LocationsBack.{AttrReads, AllRead, RowRead, AllFit, left_after}
use Rattle.irtext_grammar.proofs.RoundTrips.AttrBack.{attr_back}
use Rattle.irtext_grammar.proofs.Joins.Attributes.{splits_attr}
use Rattle.irtext_grammar.proofs.Locations.ComesBack.{left_space, location_back}

-- no digit is `]`
stops : (rest : Text) → begins (the 93) rest ≡ true → begins is_ascii_digit rest ≡ false
stops [] e = refl
stops (c ∷ rest) e = grind (arith, nat_tests)

-- a location's text begins with no white space
no_space : {A : Type 0} (text_of : A → Text) (l : Written A) → begins is_whitespace (written_text text_of l) ≡ false
no_space text_of (src_pos None at) = refl
no_space text_of _ = refl

module _ {A : Type 0} (reading : Text → Outcome A) (text_of : A → Text) (lawful : Lawful A (texts_of reading text_of)) (sincere : Sincere reading) (unreserved : Unreserved A (texts_of reading text_of)) where
  attr_starts : (v : AttrView A) (rest : Text) → begins begins_word (attr_text text_of v ++ rest) ≡ true
  attr_starts (given_names ns) rest = refl
  attr_starts (ident n) rest = refl
  attr_starts (own a) rest = lawful.starts a rest

  -- an attribute whose names are identifiers is parsed back
  kept_reads : (v : AttrView A) → IsSpellableAttr v → AttrReads (attr_at reading) text_of v
  kept_reads v k = record {
    starts = attr_starts v;
    again = λ rest ends.
        let r = attr_back reading text_of lawful unreserved v rest k ends in
        (r.1, record { taken = r.0; is = r.2; whole = splits_attr reading sincere.reads (attr_text text_of v ++ rest) v r.0 r.1 r.2 }, r.3);
  }

  metadata_reads : (m : Option (AttrView A)) → IfSome m IsSpellableAttr → IfSome m (AttrReads (attr_at reading) text_of)
  metadata_reads None k = tt
  metadata_reads (Some v) k = kept_reads v k

  mutual
    all_read : (l : Written A) → AllHold IsSpellableAttr l → AllRead (attr_at reading) text_of l
    all_read (src_pos s at) k = tt
    all_read (fused m ls) k = (metadata_reads m k.0, row_read ls k.1)
    all_read (named name child) k = all_read child k
    all_read (call_site callee caller) k = (all_read callee k.0, all_read caller k.1)
    all_read unknown k = tt

    row_read : (ls : WrittenRow A) → RowHold IsSpellableAttr ls → RowRead (attr_at reading) text_of ls
    row_read no_location k = tt
    row_read (location l ls) k = (all_read l k.0, row_read ls k.1)

  -- the text of a location that is kept is parsed back before `]`
  written_reads : (l : Written A) → AllFit l → AllHold IsSpellableAttr l → LocationReads (location_verdict (attr_at reading)) (locations text_of) (Some (written_text text_of l))
  written_reads l fits kept = (
    no_space text_of l,
    λ rest h. (l, left_after l rest, ap verdict (location_back (attr_at reading) text_of l (all_read l kept) fits rest (stops rest h) (length (written_text text_of l ++ rest)) (le_refl _)).is, refl, left_space l rest),
  )

  -- and so is what is printed of a location
  pub location_reads : (paths : List (List ℕ)) (l : Location A) → AllFit (location_over paths l) → AllHold IsSpellableAttr (location_over paths l) → LocationReads (location_verdict (attr_at reading)) (locations text_of) (known_text text_of paths l)
  location_reads paths Unknown fits kept = tt
  location_reads paths l fits kept = written_reads (location_over paths l) fits kept
