-- Locations with one text are one: of what the types of a context's parts ensure, each location's text is parsed back.
use Rattle.std.proofs.Common.{◌≡◌, ℕ, true, false, true≢false, Option, Some, None, List, ◌++◌, refl, sym, ap, inl, inr}
use Rattle.std.specs.Prelude.{IfSome}
use Rattle.irtext_base.specs.Answers.{Outcome}
use Rattle.irtext_base.specs.Locations.{AttrView, given_names, ident, own, src_pos, fused, named, call_site, unknown, no_location, location, sourced}
use Rattle.irtext_base.specs.Own.{Lawful, Sincere, Unreserved, texts_of}
use Rattle.irtext_base.specs.Paths.{Written, path_of}
use Rattle.irtext_base.specs.Text.{Text, begins, begins_word}
use Rattle.irtext_base.specs.declared.location.Location.{Location, Unknown}
use Rattle.irtext_base.proofs.LocationViews.{seen-unknown}
use Rattle.irtext_tokens.specs.AttrTexts.{attr_at}
use Rattle.irtext_grammar.specs.Contexts.Held.{location_over}
use Rattle.irtext_grammar.specs.Graphs.Same.{SameLocation}
use Rattle.irtext_grammar.specs.Promises.KeptRoot.{AllHold, RowHold}
use Rattle.irtext_grammar.specs.Promises.LocationsBack.{AttrReads, AllRead, RowRead, AllFit}
use Rattle.irtext_grammar.specs.Promises.PrintedBack.{locations}
use Rattle.irtext_grammar.specs.Readers.Locations.{WrittenRow}
use Rattle.irtext_grammar.specs.Spelling.AttrText.{IsSpellableAttr, attr_text}
use Rattle.irtext_grammar.specs.Spelling.Locations.{known_text}
use Rattle.irtext_grammar.proofs.Joins.Attributes.{splits_attr}
use Rattle.irtext_grammar.proofs.Locations.ComesBack.{location_same}
use Rattle.irtext_grammar.proofs.RoundTrips.AttrBack.{attr_back}
use Rattle.pliron_text.specs.Fills.{is_position, FillsLocation}

-- what the types of a context's parts ensure of a location
pub record IsKeptLocation {A : Type 0} (l : Written A) : Type 0 where
  pub fits : AllFit l
  pub holds : AllHold IsSpellableAttr l

module _ {A : Type 0} (reading : Text → Outcome A) (text_of : A → Text) (lawful : Lawful A (texts_of reading text_of)) (sincere : Sincere reading) (unreserved : Unreserved A (texts_of reading text_of)) where
  attr_starts : (v : AttrView A) (rest : Text) → begins begins_word (attr_text text_of v ++ rest) ≡ true
  attr_starts (given_names ns) rest = refl
  attr_starts (ident n) rest = refl
  attr_starts (own a) rest = lawful.starts a rest

  -- an attribute whose names are identifiers is parsed back
  kept_reads : (v : AttrView A) → IsSpellableAttr v → AttrReads (attr_at reading) text_of v
  kept_reads v k = record {
    starts = attr_starts v;
    again = λ rest ends.
        let r = attr_back reading text_of lawful unreserved v rest k ends in
        (r.1, record { taken = r.0; is = r.2; whole = splits_attr reading sincere.reads (attr_text text_of v ++ rest) v r.0 r.1 r.2 }, r.3);
  }

  metadata_reads : (m : Option (AttrView A)) → IfSome m IsSpellableAttr → IfSome m (AttrReads (attr_at reading) text_of)
  metadata_reads None k = tt
  metadata_reads (Some v) k = kept_reads v k

  mutual
    all_read : (l : Written A) → AllHold IsSpellableAttr l → AllRead (attr_at reading) text_of l
    all_read (src_pos s at) k = tt
    all_read (fused m ls) k = (metadata_reads m k.0, row_read ls k.1)
    all_read (named name child) k = all_read child k
    all_read (call_site callee caller) k = (all_read callee k.0, all_read caller k.1)
    all_read unknown k = tt

    row_read : (ls : WrittenRow A) → RowHold IsSpellableAttr ls → RowRead (attr_at reading) text_of ls
    row_read no_location k = tt
    row_read (location l ls) k = (all_read l k.0, row_read ls k.1)

  position_is : (k : Written A) → (locations text_of).is_position k ≡ true → is_position k ≡ true
  position_is (src_pos s at) e = refl
  position_is (fused m ls) e = absurd (true≢false (sym e))
  position_is (named name child) e = absurd (true≢false (sym e))
  position_is (call_site callee caller) e = absurd (true≢false (sym e))
  position_is unknown e = absurd (true≢false (sym e))

  -- a location that has the printed text of another is that one; and where the other is unknown, it is a position
  pub fills_location : (paths : List (List ℕ)) (l : Location A) (k : Written A) → IsKeptLocation (location_over paths l) → IsKeptLocation k → SameLocation (locations text_of) (known_text text_of paths l) k → FillsLocation (location_over paths l) k
  fills_location paths Unknown k old new e = inr (ap (sourced (path_of paths)) seen-unknown, position_is k e)
  fills_location paths l k old new e = inl (location_same (attr_at reading) text_of k (location_over paths l) (all_read k new.holds) new.fits (all_read (location_over paths l) old.holds) old.fits e)
