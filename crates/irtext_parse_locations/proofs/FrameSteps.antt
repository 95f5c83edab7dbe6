-- The loop that parses a location: what it has parsed so far, with the open frames, is all that the definition has parsed.
use Rattle.std.proofs.Common.{◌≡◌, ◌∙◌, ap, ap₂, refl, sym, subst, ℕ, suc, ◌≤◌, ◌<◌, Bool, true, false, cond, Result, Ok, Err, IfOk, Option, List, [], ◌∷◌, ◌++◌, Box, Vec, map, codes, length, arith, ◌⊎◌, inl, inr, append-nil, true≢false}
use Rattle.std.proofs.Math.Nat.{le_refl}
use Rattle.std.specs.Global.{Global}
use Rattle.std.specs.Char.{is_whitespace}
use Rattle.irtext_base.specs.Text.{Text, begins, front, after}
use Rattle.irtext_base.specs.Reading.{the}
use Rattle.irtext_base.specs.Stream.{StreamView}
use Rattle.irtext_base.specs.Faults.{Fault}
use Rattle.irtext_base.specs.Answers.{Outcome, Read, Missing, Bad, Takes, RunsOutHere, RunsOut, Refuses, Gives, Answers, demanded, prefixed, mapped, followed, unless_failed}
use Rattle.irtext_base.specs.Locations.{AttrView, LocationOf, fused, named, call_site, LocationsOf, no_location, location, location_view, attr_view_in, in_row, sourced, row_sourced}
use Rattle.irtext_base.specs.Moves.{all_kept, row_kept}
use Rattle.irtext_base.specs.Own.{Sincere}
use Rattle.irtext_base.specs.Paths.{Written, KeepsPaths, path_of, are_known, row_known}
use Rattle.irtext_base.specs.declared.base.attributes.AttrObj.{AttrObj}
use Rattle.irtext_base.specs.declared.location.Location.{Location}
use Rattle.irtext_base.specs.declared.location.Source.{Source}
use Rattle.irtext_base.specs.declared.parsable.fault.ParseFault.{ParseFault}
use Rattle.irtext_base.proofs.Characters.{and_left, and_right}
use Rattle.irtext_base.proofs.PathKeys.{both_true, stays_known, row_stays_known, written_same, row_written_same}
use Rattle.irtext_base.proofs.Sincere.{of_sincere}
use Rattle.irtext_tokens.specs.AttrTexts.{attr_at}
use Rattle.irtext_tokens.specs.Infix.{Reader, ◌▷◌, ◌▶◌}
use Rattle.irtext_tokens.specs.MustRead.{MustRead}
use Rattle.irtext_tokens.specs.Tokens.{text_at, word}
use Rattle.irtext_tokens.proofs.Honest.{honest_attr, honest_word, honest_spaced, honest_space, leaves_no_more}
use Rattle.irtext_grammar.specs.Contexts.Held.{location_over}
use Rattle.irtext_grammar.specs.Readers.Locations.{begins_source, begins_location, location_within, location_at, place_at, metadata_at}
use Rattle.irtext_grammar.specs.Readers.NewPaths.{Makes, MustReadOver, MustReadWithin, known_location}
use Rattle.irtext_grammar.specs.Readers.Positions.{space_at, spaced_at}
use Rattle.irtext_grammar.specs.Readers.RestLengths.{Leaves, LeavesNoMore}
use Rattle.irtext_grammar.specs.Readers.Streams.{itself, replaced}
use Rattle.irtext_grammar.proofs.Readers.Answered.{answered}
use Rattle.irtext_grammar.proofs.Readers.Honest.{honest_title, honest_nothing}
use Rattle.irtext_grammar.proofs.Readers.PlainStream.{alone}
use Rattle.irtext_grammar.proofs.Readers.Steps.{mapped_is_followed, Passed, starts, turned, more, first, last, spaced, refuses, ran_out, ends, mapped_followed, mapped_mapped}
use Rattle.irtext_grammar.proofs.Locations.LocationRests.{within_metadata}
use Rattle.irtext_grammar.proofs.Locations.RestLengths.{Within, ◌then◌, ◌so◌, seen, within_either, within_honest, leaves_read, leaves_missing, leaves_bad, leaves_prefixed, leaves_followed, leaves_honest, leaves_word}
use Rattle.irtext_parse_locations.specs.declared.location.frame.Frame.{Frame}
use Rattle.irtext_parse_locations.specs.declared.location.frame.Frame.TheVariants as frame
use Rattle.irtext_parse_locations.specs.declared.location.frame.Progress.{Progress}
use Rattle.irtext_parse_locations.specs.declared.location.frame.Progress.TheVariants as progress
use Rattle.irtext_parse_locations.specs.Frames.{FrameOf, for_name, for_callee, for_caller, for_row, ProgressOf, whole, inside, frame_view, progress_view, frame_sourced, progress_sourced, frame_over, progress_over, frame_known, progress_known, known_progress, frame_kept, progress_kept, with_one, row_end_at, row_after_at, after_at, row_opening_at, fused_opening_at, opening_at, frame_rest, progress_rest, resumed, left_of}
use Rattle.irtext_parse_locations.proofs.FrameOutcomes.{demanded_followed, followed_as, followed_followed, demanded_none, prefixed_demanded, at_any, after_holds, opening_is}

-- ---- one step of the code
module _ {A : Type 0} where
  row_with_one : (ls : List (Location A)) (l : Location A) → in_row (map location_view (ls ++ l ∷ [])) ≡ with_one (in_row (map location_view ls)) (location_view l)
  row_with_one [] l = refl
  row_with_one (k ∷ ls) l = ap (location (location_view k)) (row_with_one ls l)

  -- a list with one more is the list with that one last
  pub row_grew : (old new : List (Location A)) (l : Location A) → new ≡ old ++ l ∷ [] → in_row (map location_view new) ≡ with_one (in_row (map location_view old)) (location_view l)
  row_grew old new l e = ap (λ ls. in_row (map location_view ls)) e ∙ row_with_one old l

  module _ {outcome : Text → Outcome (ProgressOf Source A)} {old mid : StreamView} where
    -- a location begins, which is the first of the row
    pub row_starts : {B : Type 0} (m : Option (AttrView A)) (metadata : Box (Option (AttrObj A)) Global) (locations : Vec (Location A) Global) → attr_view_in metadata.value ≡ m → locations.items ≡ [] → begins begins_location mid.rest ≡ true
        → Passed alone outcome (row_opening_at m) old mid → MustRead {A = B} itself replaced progress_view outcome old (Ok (progress.Inside (frame.Fused metadata locations))) mid
    row_starts m metadata locations f e b p =
        let ended : Outcome (ProgressOf Source A) = mapped (λ _. whole (fused m no_location)) (text_at (codes "]") mid.rest) in
        ends alone progress_view (progress.Inside (frame.Fused metadata locations))
        (turned alone (λ t. Read (inside (for_row (attr_view_in metadata.value) (in_row (map location_view locations.items)))) [] t)
        (ap (λ z. cond z (Read (inside (for_row m no_location)) [] mid.rest) ended) b
        ∙ (ap (λ ls. Read (inside (for_row m (in_row (map location_view ls)))) [] mid.rest) (sym e)
        ∙ ap (λ z. Read (inside (for_row z (in_row (map location_view locations.items)))) [] mid.rest) (sym f))) p)

    -- none begins, and the row ends
    pub row_is_empty : {B : Type 0} (m : Option (AttrView A)) (metadata : Box (Option (AttrObj A)) Global) (locations : Vec (Location A) Global) {new : StreamView} {r : Result (Progress A) (ParseFault B)} → attr_view_in metadata.value ≡ m → locations.items ≡ [] → begins begins_location mid.rest ≡ false
        → Passed alone outcome (row_opening_at m) old mid → MustRead itself replaced progress_view (row_end_at (attr_view_in metadata.value) (in_row (map location_view locations.items))) mid r new → MustRead itself replaced progress_view outcome old r new
    row_is_empty m metadata locations {new = new} {r = r} f e b p h =
        let ended = subst (λ z. MustRead itself replaced progress_view (row_end_at z (in_row (map location_view locations.items))) mid r new) f h in
        last alone (turned alone (row_end_at m no_location) (ap (λ z. cond z (Read (inside (for_row m no_location)) [] mid.rest) (row_end_at m no_location mid.rest)) b) p)
        (subst (λ ls. MustRead itself replaced progress_view (row_end_at m (in_row (map location_view ls))) mid r new) e ended)

    -- a location that was made is a whole one
    pub made_whole : {B : Type 0} {new : StreamView} {l : Location A} {view : LocationOf Source A} → Passed alone outcome (λ t. Read (whole view) [] t) old mid → Makes view mid (Ok l) new
        → MustRead {A = B} itself replaced progress_view outcome old (Ok (progress.Whole l)) new
    made_whole {B = B} {l = l} p h =
        subst (λ s. MustRead {A = B} itself replaced progress_view outcome old (Ok (progress.Whole l)) s) (sym h.1)
        (ends alone progress_view (progress.Whole l) (turned alone (λ t. Read (whole (location_view l)) [] t) (ap (λ v. Read (whole v) [] mid.rest) (sym h.0)) p))

  module _ (m : Option (AttrView A)) (row : LocationsOf Source A) {old mid : StreamView} (fine : old.failed ≡ false) (space : Takes itself replaced (front is_whitespace old.rest) (after is_whitespace old.rest) old mid) where
    -- `,` before one more location, or the bracket
    abbrev after_spaces : Unit {0} → Text → Outcome (ProgressOf Source A)
    after_spaces u text = cond (begins (the 44) text) (followed (text_at (codes ",") text) (λ _ t. mapped (λ _. inside (for_row m row)) (space_at t))) (mapped (λ _. whole (fused m row)) (text_at (codes "]") text))

    spaced_row : Passed alone (row_after_at m row) (after_spaces tt) old mid
    spaced_row = spaced alone after_spaces (starts alone (row_after_at m row) (λ t. followed (space_at t) after_spaces) old fine refl) space

    pub row_goes_on : begins (the 44) mid.rest ≡ true → Passed alone (row_after_at m row) (λ t. followed (text_at (codes ",") t) (λ _ u. mapped (λ _. inside (for_row m row)) (space_at u))) old mid
    row_goes_on b =
        turned alone (λ t. followed (text_at (codes ",") t) (λ _ u. mapped (λ _. inside (for_row m row)) (space_at u)))
        (ap (λ z. cond z (followed (text_at (codes ",") mid.rest) (λ _ u. mapped (λ _. inside (for_row m row)) (space_at u))) (mapped (λ _. whole (fused m row)) (text_at (codes "]") mid.rest))) b) spaced_row

    pub row_ends : begins (the 44) mid.rest ≡ false → Passed alone (row_after_at m row) (row_end_at m row) old mid
    row_ends b =
        turned alone (row_end_at m row)
        (ap (λ z. cond z (followed (text_at (codes ",") mid.rest) (λ _ u. mapped (λ _. inside (for_row m row)) (space_at u))) (mapped (λ _. whole (fused m row)) (text_at (codes "]") mid.rest))) b) spaced_row

-- ---- over other sources
cond_natural : {X Y : Type 0} (see : X → Y) (b : Bool) (o p : Outcome X) (q r : Outcome Y) → mapped see o ≡ q → mapped see p ≡ r → mapped see (cond b o p) ≡ cond b q r
cond_natural see true o p q r h k = h
cond_natural see false o p q r h k = k

module _ {S R A : Type 0} (see : S → R) where
  -- a word that says all
  word_natural : {X : Type 0} (o : Outcome X) (p : ProgressOf S A) → mapped (progress_sourced see) (mapped (λ _. p) o) ≡ mapped (λ _. progress_sourced see p) o
  word_natural o p = mapped_mapped (progress_sourced see) (λ _. p) (λ _. progress_sourced see p) o (λ x. refl)

  row_one : (row : LocationsOf S A) (l : LocationOf S A) → row_sourced see (with_one row l) ≡ with_one (row_sourced see row) (sourced see l)
  row_one no_location l = refl
  row_one (location k row) l = ap (location (sourced see k)) (row_one row l)

  row_natural : (m : Option (AttrView A)) (row : LocationsOf S A) (text : Text) → mapped (progress_sourced see) (row_after_at m row text) ≡ row_after_at m (row_sourced see row) text
  row_natural m row text =
      mapped_followed (progress_sourced see) (space_at text) step
      ∙ followed_as (space_at text) (λ u t. mapped (progress_sourced see) (step u t)) (λ _ t. cond (begins (the 44) t) (followed (text_at (codes ",") t) (λ _ u. mapped (λ _. inside (for_row m (row_sourced see row))) (space_at u))) (mapped (λ _. whole (fused m (row_sourced see row))) (text_at (codes "]") t)))
      (λ _ t. cond_natural (progress_sourced see) (begins (the 44) t) _ _ _ _
      (mapped_followed (progress_sourced see) (text_at (codes ",") t) (λ _ u. mapped (λ _. inside (for_row m row)) (space_at u))
      ∙ followed_as (text_at (codes ",") t) (λ _ u. mapped (progress_sourced see) (mapped (λ _. inside (for_row m row)) (space_at u))) (λ _ u. mapped (λ _. inside (for_row m (row_sourced see row))) (space_at u)) (λ _ u. word_natural (space_at u) (inside (for_row m row))))
      (word_natural (text_at (codes "]") t) (whole (fused m row))))
    where
      step : Unit {0} → Text → Outcome (ProgressOf S A)
      step u t = cond (begins (the 44) t) (followed (text_at (codes ",") t) (λ _ u. mapped (λ _. inside (for_row m row)) (space_at u))) (mapped (λ _. whole (fused m row)) (text_at (codes "]") t))

  -- what follows a location is the same over other sources
  after_natural : (f : FrameOf S A) (l : LocationOf S A) (text : Text) → mapped (progress_sourced see) (after_at f l text) ≡ after_at (frame_sourced see f) (sourced see l) text
  after_natural (for_name name) l text = word_natural (text_at (codes ")") text) (whole (named name l))
  after_natural for_callee l text = word_natural (spaced_at (codes "at") text) (inside (for_caller l))
  after_natural (for_caller callee) l text = word_natural (spaced_at (codes ")") text) (whole (call_site callee l))
  after_natural (for_row m row) l text = row_natural m (with_one row l) text ∙ ap (λ r. row_after_at m r text) (row_one row l)

  module _ (attr : Reader (AttrView A)) where
    first_natural : (m : Option (AttrView A)) (text : Text) → mapped (progress_sourced see) (row_opening_at m text) ≡ row_opening_at m text
    first_natural m text = cond_natural (progress_sourced see) (begins begins_location text) (Read (inside (for_row m no_location)) [] text) (mapped (λ _. whole (fused m no_location)) (text_at (codes "]") text)) _ _ refl (word_natural (text_at (codes "]") text) (whole (fused m no_location)))

    -- several locations as one, up to the first
    fused_natural : (text : Text) → mapped (progress_sourced see) (fused_opening_at attr text) ≡ fused_opening_at attr text
    fused_natural text =
        mapped_followed (progress_sourced see) (text_at (codes "fused") text) (λ _ t. followed (space_at t) (λ _ u. followed (metadata_at attr u) (opened {Z = S})))
        ∙ followed_as (text_at (codes "fused") text) _ (λ _ t. followed (space_at t) (λ _ u. followed (metadata_at attr u) (opened {Z = R}))) (λ _ t.
        mapped_followed (progress_sourced see) (space_at t) (λ _ u. followed (metadata_at attr u) (opened {Z = S}))
        ∙ followed_as (space_at t) _ (λ _ u. followed (metadata_at attr u) (opened {Z = R})) (λ _ u.
        mapped_followed (progress_sourced see) (metadata_at attr u) (opened {Z = S})
        ∙ followed_as (metadata_at attr u) _ (opened {Z = R}) (λ m v.
        mapped_followed (progress_sourced see) (text_at (codes "[") v) (λ _ w. followed (space_at w) (λ _ x. row_opening_at m x))
        ∙ followed_as (text_at (codes "[") v) _ (λ _ w. followed (space_at w) (λ _ x. row_opening_at m x)) (λ _ w.
        mapped_followed (progress_sourced see) (space_at w) (λ _ x. row_opening_at m x)
        ∙ followed_as (space_at w) _ (λ _ x. row_opening_at m x) (λ _ x. first_natural m x)))))
      where
        opened : {Z : Type 0} → Option (AttrView A) → Text → Outcome (ProgressOf Z A)
        opened m v = followed (text_at (codes "[") v) (λ _ w. followed (space_at w) (λ _ x. row_opening_at m x))

-- ---- what a step may return
-- each value that is parsed has the property
record Says {X : Type 0} (Q : X → Type 0) (o : Outcome X) : Type 0 where
  pub by : (x : X) (taken rest : Text) → o ≡ Read x taken rest → Q x

module _ {X : Type 0} {Q : X → Type 0} where
  says_read : (x : X) (taken rest : Text) → Q x → Says Q (Read x taken rest)
  says_read x taken rest h = record { by = λ y t r e. let f : x ≡ y = cc e in subst Q f h }

  says_missing : (cause : Fault) → Says Q (Missing cause)
  says_missing cause = record { by = λ y t r e. absurd (cc e) }

  says_bad : (cause : Fault) (upto : Text) → Says Q (Bad cause upto)
  says_bad cause upto = record { by = λ y t r e. absurd (cc e) }

  says_prefixed : (t : Text) (o : Outcome X) → Says Q o → Says Q (prefixed t o)
  says_prefixed t (Read x taken rest) h = says_read x (t ++ taken) rest (h.by x taken rest refl)
  says_prefixed t (Missing cause) h = says_bad cause t
  says_prefixed t (Bad cause upto) h = says_bad cause (t ++ upto)

  says_either : (b : Bool) (o p : Outcome X) → Says Q o → Says Q p → Says Q (cond b o p)
  says_either true o p h k = h
  says_either false o p h k = k

  says_word : {Y : Type 0} (o : Outcome Y) (x : X) → Q x → Says Q (mapped (λ _. x) o)
  says_word (Read y taken rest) x h = says_read x taken rest h
  says_word (Missing cause) x h = says_missing cause
  says_word (Bad cause upto) x h = says_bad cause upto

  says_followed : {Y : Type 0} (o : Outcome Y) (k : Y → Text → Outcome X) → ((y : Y) (t : Text) → Says Q (k y t)) → Says Q (followed o k)
  says_followed (Read y taken rest) k h = says_prefixed taken (k y rest) (h y rest)
  says_followed (Missing cause) k h = says_missing cause
  says_followed (Bad cause upto) k h = says_bad cause upto

module _ {S A : Type 0} where
  -- what follows a location in a frame may end the frame, or lead to the next location in it
  abbrev IsNext : FrameOf S A → LocationOf S A → ProgressOf S A → Type 0
  IsNext (for_name name) l p = whole (named name l) ≡ p
  IsNext for_callee l p = inside (for_caller l) ≡ p
  IsNext (for_caller callee) l p = whole (call_site callee l) ≡ p
  IsNext (for_row m row) l p = (inside (for_row m (with_one row l)) ≡ p) ⊎ (whole (fused m (with_one row l)) ≡ p)

  after_says : (f : FrameOf S A) (l : LocationOf S A) (text : Text) → Says (IsNext f l) (after_at f l text)
  after_says (for_name name) l text = says_word (text_at (codes ")") text) (whole (named name l)) refl
  after_says for_callee l text = says_word (spaced_at (codes "at") text) (inside (for_caller l)) refl
  after_says (for_caller callee) l text = says_word (spaced_at (codes ")") text) (whole (call_site callee l)) refl
  after_says (for_row m row) l text =
      says_followed {Q = IsNext (for_row m row) l} (space_at text) (λ _ t. cond (begins (the 44) t) (followed (text_at (codes ",") t) (λ _ u. mapped (λ _. inside (for_row m (with_one row l))) (space_at u))) (mapped (λ _. whole (fused m (with_one row l))) (text_at (codes "]") t)))
      (λ _ t. says_either {Q = IsNext (for_row m row) l} (begins (the 44) t) _ _
      (says_followed {Q = IsNext (for_row m row) l} (text_at (codes ",") t) (λ _ u. mapped (λ _. inside (for_row m (with_one row l))) (space_at u)) (λ _ u. says_word {Q = IsNext (for_row m row) l} (space_at u) (inside (for_row m (with_one row l))) (inl refl)))
      (says_word {Q = IsNext (for_row m row) l} (text_at (codes "]") t) (whole (fused m (with_one row l))) (inr refl)))

  -- an empty row, or one up to its first location
  abbrev IsEmpty : ProgressOf S A → Type 0
  IsEmpty p = (m : Option (AttrView A)) × ((inside (for_row m no_location) ≡ p) ⊎ (whole (fused m no_location) ≡ p))

  module _ (attr : Reader (AttrView A)) where
    fused_says : (text : Text) → Says IsEmpty (fused_opening_at attr text)
    fused_says text =
        says_followed {Q = IsEmpty} (text_at (codes "fused") text) (λ _ t. followed (space_at t) (λ _ u. followed (metadata_at attr u) opened)) (λ _ t.
        says_followed {Q = IsEmpty} (space_at t) (λ _ u. followed (metadata_at attr u) opened) (λ _ u.
        says_followed {Q = IsEmpty} (metadata_at attr u) opened (λ m v.
        says_followed {Q = IsEmpty} (text_at (codes "[") v) (λ _ w. followed (space_at w) (λ _ x. row_opening_at m x)) (λ _ w.
        says_followed {Q = IsEmpty} (space_at w) (λ _ x. row_opening_at m x) (λ _ x.
        says_either {Q = IsEmpty} (begins begins_location x) (Read (inside (for_row m no_location)) [] x) (mapped (λ _. whole (fused m no_location)) (text_at (codes "]") x))
        (says_read {Q = IsEmpty} (inside (for_row m no_location)) [] x (m, inl refl)) (says_word {Q = IsEmpty} (text_at (codes "]") x) (whole (fused m no_location)) (m, inr refl)))))))
      where
        opened : Option (AttrView A) → Text → Outcome (ProgressOf S A)
        opened m v = followed (text_at (codes "[") v) (λ _ w. followed (space_at w) (λ _ x. row_opening_at m x))

-- ---- paths
row_one_known : {A : Type 0} (count : ℕ) (row : LocationsOf Source A) (l : LocationOf Source A) → row_known count row ≡ true → are_known count l ≡ true → row_known count (with_one row l) ≡ true
row_one_known count no_location l h k = both_true (are_known count l) true k refl
row_one_known count (location j row) l h k =
    both_true (are_known count j) (row_known count (with_one row l)) (and_left (are_known count j) (row_known count row) h) (row_one_known count row l (and_right (are_known count j) (row_known count row) h) k)

row_one_kept : {A : Type 0} (paths : List (List ℕ)) (row : LocationsOf (Option (List ℕ)) A) (l : Written A) → row_kept paths (with_one row l) ≡ all_kept (row_kept paths row) l
row_one_kept paths no_location l = refl
row_one_kept paths (location k row) l = row_one_kept (all_kept paths k) row l

-- what is next names no path that was not named before
next_known : {A : Type 0} (count : ℕ) (f : FrameOf Source A) (l : LocationOf Source A) (p : ProgressOf Source A) → IsNext f l p → frame_known count f ≡ true → are_known count l ≡ true → progress_known count p ≡ true
next_known count (for_name name) l p e h k = subst (λ p. progress_known count p ≡ true) e k
next_known count for_callee l p e h k = subst (λ p. progress_known count p ≡ true) e k
next_known count (for_caller callee) l p e h k = subst (λ p. progress_known count p ≡ true) e (both_true (are_known count callee) (are_known count l) h k)
next_known count (for_row m row) l p (inl e) h k = subst (λ p. progress_known count p ≡ true) e (row_one_known count row l h k)
next_known count (for_row m row) l p (inr e) h k = subst (λ p. progress_known count p ≡ true) e (row_one_known count row l h k)

-- what is kept for it is what is kept for the frame and then for the location
next_kept : {A : Type 0} (paths : List (List ℕ)) (f : FrameOf (Option (List ℕ)) A) (l : Written A) (p : ProgressOf (Option (List ℕ)) A) → IsNext f l p → progress_kept paths p ≡ all_kept (frame_kept paths f) l
next_kept paths (for_name name) l p e = ap (progress_kept paths) (sym e)
next_kept paths for_callee l p e = ap (progress_kept paths) (sym e)
next_kept paths (for_caller callee) l p e = ap (progress_kept paths) (sym e)
next_kept paths (for_row m row) l p (inl e) = ap (progress_kept paths) (sym e) ∙ row_one_kept paths row l
next_kept paths (for_row m row) l p (inr e) = ap (progress_kept paths) (sym e) ∙ row_one_kept paths row l

empty_known : {A : Type 0} (count : ℕ) (p : ProgressOf Source A) → IsEmpty p → progress_known count p ≡ true
empty_known count p (m, inl e) = subst (λ p. progress_known count p ≡ true) e refl
empty_known count p (m, inr e) = subst (λ p. progress_known count p ≡ true) e refl

empty_kept : {A : Type 0} (paths : List (List ℕ)) (p : ProgressOf Source A) → IsEmpty p → progress_kept paths (progress_sourced (path_of paths) p) ≡ paths
empty_kept paths p (m, inl e) = ap (λ z. progress_kept paths (progress_sourced (path_of paths) z)) (sym e)
empty_kept paths p (m, inr e) = ap (λ z. progress_kept paths (progress_sourced (path_of paths) z)) (sym e)

module _ {A : Type 0} (p q : List (List ℕ)) (k : KeepsPaths p q) where
  frame_same : (f : FrameOf Source A) → frame_known (length p) f ≡ true → frame_sourced (path_of q) f ≡ frame_sourced (path_of p) f
  frame_same (for_name name) h = refl
  frame_same for_callee h = refl
  frame_same (for_caller callee) h = ap for_caller (written_same p q k callee h)
  frame_same (for_row m row) h = ap (for_row m) (row_written_same p q k row h)

  frame_stays : (f : FrameOf Source A) → frame_known (length p) f ≡ true → frame_known (length q) f ≡ true
  frame_stays (for_name name) h = refl
  frame_stays for_callee h = refl
  frame_stays (for_caller callee) h = stays_known p q k callee h
  frame_stays (for_row m row) h = row_stays_known p q k row h

-- ---- the open frames
module _ {A : Type 0} where
  -- the frames as their texts say them over these paths
  abbrev pub frames_over : List (List ℕ) → List (Frame A) → List (FrameOf (Option (List ℕ)) A)
  frames_over paths frames = map (frame_over paths) frames

  -- the paths of the frames are among so many
  abbrev pub FramesKnown : ℕ → List (Frame A) → Type 0
  FramesKnown count [] = Unit {0}
  FramesKnown count (f ∷ frames) = (frame_known count (frame_view f) ≡ true) × FramesKnown count frames

  -- the paths once those of the frames are kept
  abbrev pub frames_kept : List (List ℕ) → List (FrameOf (Option (List ℕ)) A) → List (List ℕ)
  frames_kept paths [] = paths
  frames_kept paths (f ∷ frames) = frames_kept (frame_kept paths f) frames

  over_pushed : (paths : List (List ℕ)) (frames : List (Frame A)) (f : Frame A) → frames_over paths (frames ++ f ∷ []) ≡ frames_over paths frames ++ frame_over paths f ∷ []
  over_pushed paths [] f = refl
  over_pushed paths (g ∷ frames) f = ap (λ z. frame_over paths g ∷ z) (over_pushed paths frames f)

  known_pushed : (count : ℕ) (frames : List (Frame A)) (f : Frame A) → FramesKnown count frames → frame_known count (frame_view f) ≡ true → FramesKnown count (frames ++ f ∷ [])
  known_pushed count [] f h k = (k, tt)
  known_pushed count (g ∷ frames) f h k = (h.0, known_pushed count frames f h.1 k)

  known_popped : (count : ℕ) (frames : List (Frame A)) (f : Frame A) → FramesKnown count (frames ++ f ∷ []) → FramesKnown count frames × (frame_known count (frame_view f) ≡ true)
  known_popped count [] f h = (tt, h.0)
  known_popped count (g ∷ frames) f h = let r = known_popped count frames f h.1 in ((h.0, r.0), r.1)

  kept_pushed : (paths : List (List ℕ)) (frames : List (FrameOf (Option (List ℕ)) A)) (f : FrameOf (Option (List ℕ)) A) → frames_kept paths (frames ++ f ∷ []) ≡ frame_kept (frames_kept paths frames) f
  kept_pushed paths [] f = refl
  kept_pushed paths (g ∷ frames) f = kept_pushed (frame_kept paths g) frames f

  module _ (p q : List (List ℕ)) (k : KeepsPaths p q) where
    frames_same : (frames : List (Frame A)) → FramesKnown (length p) frames → frames_over q frames ≡ frames_over p frames
    frames_same [] h = refl
    frames_same (f ∷ frames) h = ap₂ ◌∷◌ (frame_same p q k (frame_view f) h.0) (frames_same frames h.1)

    frames_stay : (frames : List (Frame A)) → FramesKnown (length p) frames → FramesKnown (length q) frames
    frames_stay [] h = tt
    frames_stay (f ∷ frames) h = (frame_stays p q k (frame_view f) h.0, frames_stay frames h.1)

-- ---- results
module _ {B X V : Type 0} (k : X → V) (old new : StreamView) where
  refuses_so : (b : Bool) (o : Outcome X) (p : Outcome V) (fault : ParseFault B) → mapped k o ≡ p → RunsOut itself replaced old fault new ⊎ Refuses itself replaced (demanded (unless_failed b o)) old fault new
      → RunsOut itself replaced old fault new ⊎ Refuses itself replaced (demanded (unless_failed b p)) old fault new
  refuses_so b o p fault e (inl h) = inl h
  refuses_so true o p fault e (inr h) = inr h
  refuses_so false (Read x taken rest) p fault e (inr h) = absurd h
  refuses_so false (Missing cause) p fault e (inr h) = inr (subst (λ z. Refuses itself replaced (demanded z) old fault new) e h)
  refuses_so false (Bad cause upto) p fault e (inr h) = inr (subst (λ z. Refuses itself replaced (demanded z) old fault new) e h)

module _ {X V : Type 0} (k : X → V) (old new : StreamView) where
  gives_so : (b : Bool) (o : Outcome X) (p : Outcome V) (x : X) → mapped k o ≡ p → Gives itself replaced (demanded (unless_failed b o)) old x new → Gives itself replaced (demanded (unless_failed b p)) old (k x) new
  gives_so true o p x e h = absurd h
  gives_so false (Read y taken rest) p x e h = subst (λ z. Gives itself replaced (demanded z) old (k x) new) e (ap k h.0, h.1)
  gives_so false (Missing cause) p x e h = absurd h
  gives_so false (Bad cause upto) p x e h = absurd h

-- a result whose value is seen by one more function
seen_so : {B X Y V : Type 0} {see : Y → X} {sees : Y → V} (k : X → V) {f : Text → Outcome X} (g : Text → Outcome V) {old new : StreamView} (r : Result Y (ParseFault B)) → ((y : Y) → sees y ≡ k (see y)) → mapped k (f old.rest) ≡ g old.rest → MustRead itself replaced see f old r new → MustRead itself replaced sees g old r new
seen_so {see = see} k {f = f} g {old = old} {new = new} (Ok y) s e h = record { answers = subst (λ v. Gives itself replaced (demanded (unless_failed old.failed (g old.rest))) old v new) (sym (s y)) (gives_so k old new old.failed (f old.rest) (g old.rest) (see y) e h.answers) }
seen_so k {f = f} g {old = old} {new = new} (Err fault) s e h = record { answers = refuses_so k old new old.failed (f old.rest) (g old.rest) fault e h.answers }

-- if the first part is an error, all is
first_so : {B X V : Type 0} (old new : StreamView) (fault : ParseFault B) (b : Bool) (o : Outcome X) (p : Outcome V) (k : X → Text → Outcome V) → p ≡ followed o k → RunsOut itself replaced old fault new ⊎ Refuses itself replaced (demanded (unless_failed b o)) old fault new
    → RunsOut itself replaced old fault new ⊎ Refuses itself replaced (demanded (unless_failed b p)) old fault new
first_so old new fault b o p k e (inl h) = inl h
first_so old new fault true o p k e (inr h) = inr h
first_so old new fault false (Read x taken rest) p k e (inr h) = absurd h
first_so old new fault false (Missing cause) p k e (inr h) = inr (subst (λ z. Refuses itself replaced (demanded z) old fault new) (sym e) h)
first_so old new fault false (Bad cause upto) p k e (inr h) = inr (subst (λ z. Refuses itself replaced (demanded z) old fault new) (sym e) h)

first_refused : {B X Y W V : Type 0} {see : Y → X} {sees : W → V} {f : Text → Outcome X} {old new : StreamView} {fault : ParseFault B} (g : Text → Outcome V) (k : X → Text → Outcome V) → g old.rest ≡ followed (f old.rest) k → MustRead {Y = Y} itself replaced see f old (Err fault) new → MustRead {Y = W} itself replaced sees g old (Err fault) new
first_refused {f = f} {old = old} {new = new} {fault = fault} g k e h = record { answers = first_so old new fault old.failed (f old.rest) (g old.rest) k e h.answers }

module _ {V : Type 0} {outcome next : Text → Outcome V} {old mid : StreamView} where
  -- what is to be parsed may be stated in other words, since it is required
  turned_alike : (other : Text → Outcome V) → demanded (next mid.rest) ≡ demanded (other mid.rest) → Passed alone outcome next old mid → Passed alone outcome other old mid
  turned_alike other e p = record { fine = p.fine; taken = p.taken; takes = p.takes; so_far = p.so_far ∙ prefixed_demanded p.taken (next mid.rest) (other mid.rest) e }

  -- what was to be parsed may be stated in other words
  said_as : (other : Text → Outcome V) → other old.rest ≡ outcome old.rest → Passed alone outcome next old mid → Passed alone other next old mid
  said_as other e p = record { fine = p.fine; taken = p.taken; takes = p.takes; so_far = ap demanded e ∙ p.so_far }

-- ---- the loop
-- the caller's parser leaves no more than its text
pub attr_leaves : {A : Type 0} (reading : Text → Outcome A) → Sincere reading → LeavesNoMore (attr_at reading)
attr_leaves reading s = record { by = λ text. record { by = λ x taken rest e. leaves_no_more (honest_attr (record { of = of_sincere reading s })) text x taken rest e } }

module _ {A : Type 0} (attr : Reader (AttrView A)) (no_more : LeavesNoMore attr) where
  resumed_pushed : (frames : List (FrameOf (Option (List ℕ)) A)) (f : FrameOf (Option (List ℕ)) A) (o : Outcome (Written A)) → resumed attr (frames ++ f ∷ []) o ≡ resumed attr frames (followed o (frame_rest attr f))
  resumed_pushed [] f o = refl
  resumed_pushed (g ∷ frames) f o = ap (λ z. followed z (frame_rest attr g)) (resumed_pushed frames f o)

  resumed_followed : {X : Type 0} (frames : List (FrameOf (Option (List ℕ)) A)) (o : Outcome X) (k : X → Text → Outcome (Written A)) → resumed attr frames (followed o k) ≡ followed o (λ x t. resumed attr frames (k x t))
  resumed_followed [] o k = refl
  resumed_followed (g ∷ frames) o k = ap (λ z. followed z (frame_rest attr g)) (resumed_followed frames o k) ∙ followed_followed o (λ x t. resumed attr frames (k x t)) (frame_rest attr g)

  resumed_alike : (frames : List (FrameOf (Option (List ℕ)) A)) (o p : Outcome (Written A)) → demanded o ≡ demanded p → demanded (resumed attr frames o) ≡ demanded (resumed attr frames p)
  resumed_alike [] o p e = e
  resumed_alike (g ∷ frames) o p e = demanded_followed (resumed attr frames o) (resumed attr frames p) (frame_rest attr g) (resumed_alike frames o p e)

  -- what is left, as a function of how far the innermost was parsed
  abbrev left_in : List (FrameOf (Option (List ℕ)) A) → ProgressOf (Option (List ℕ)) A → Text → Outcome (Written A)
  left_in frames p text = left_of attr frames p text

  -- the location inside a frame is opened
  step_opens : (frames : List (FrameOf (Option (List ℕ)) A)) (f : FrameOf (Option (List ℕ)) A) (text : Text) → left_in frames (inside f) text ≡ followed (opening_at attr text) (left_in (frames ++ f ∷ []))
  step_opens frames f text =
      sym (resumed_pushed frames f (location_at attr text))
      ∙ (ap (resumed attr (frames ++ f ∷ [])) (opening_is attr no_more text)
      ∙ resumed_followed (frames ++ f ∷ []) (opening_at attr text) (λ p t. progress_rest attr p t))

  -- what follows the location inside a frame
  step_after : (frames : List (FrameOf (Option (List ℕ)) A)) (f : FrameOf (Option (List ℕ)) A) (l : Written A) (text : Text) → demanded (left_in (frames ++ f ∷ []) (whole l) text) ≡ demanded (followed (after_at f l text) (left_in frames))
  step_after frames f l text =
      ap demanded (resumed_pushed frames f (Read l [] text))
      ∙ (resumed_alike frames (prefixed [] (frame_rest attr f l text)) (followed (after_at f l text) (λ p t. progress_rest attr p t)) (demanded_none (frame_rest attr f l text) ∙ after_holds attr no_more f l text)
      ∙ ap demanded (resumed_followed frames (after_at f l text) (λ p t. progress_rest attr p t)))

  -- what was parsed so far, and where: the open frames and how far the innermost was parsed, over the paths that are kept now
  pub record SoFar (before : List (List ℕ)) (old : StreamView) (paths : List (List ℕ)) (frames : List (Frame A)) (p : Progress A) (now : StreamView) : Type 0 where
    pub open_known : FramesKnown (length paths) frames
    pub known : known_progress (length paths) p ≡ true
    pub passed : Passed alone (location_at attr) (left_in (frames_over paths frames) (progress_over paths p)) old now
    pub kept : paths ≡ progress_kept (frames_kept before (frames_over paths frames)) (progress_over paths p)

  -- the outermost location was opened
  pub begun : {B : Type 0} {before paths : List (List ℕ)} {old new : StreamView} {p : Progress A} → MustReadOver {A = B} known_progress progress_over (opening_at attr) paths old (Ok p) new → paths ≡ progress_kept before (progress_over paths p)
      → SoFar before old paths [] p new
  begun {old = old} h k = record {
    open_known = tt;
    known = h.known;
    passed = said_as (location_at attr) (opening_is attr no_more old.rest) (first alone (left_in []) h.read);
    kept = k;
  }

  -- it was an error
  pub not_begun : {B : Type 0} {paths : List (List ℕ)} {old new : StreamView} {fault : ParseFault B} → MustReadOver {A = B} known_progress progress_over (opening_at attr) paths old (Err fault) new
      → MustRead itself replaced (location_over paths) (location_at attr) old (Err fault) new
  not_begun {old = old} h = first_refused (location_at attr) (λ p t. progress_rest attr p t) (opening_is attr no_more old.rest) h.read

  module _ {before paths : List (List ℕ)} {old now : StreamView} (frames : List (Frame A)) where
    -- out of memory at the stream's position
    pub runs_out_so_far : {B : Type 0} {p : Progress A} (other : List (List ℕ)) {new : StreamView} {fault : ParseFault B} → SoFar before old paths frames p now → RunsOutHere itself replaced now fault new
        → MustRead itself replaced (location_over other) (location_at attr) old (Err fault) new
    runs_out_so_far other s h = ran_out alone s.passed h

    -- the stream has not failed
    pub fine_so_far : {p : Progress A} → SoFar before old paths frames p now → now.failed ≡ false
    fine_so_far s = ap (λ v. v.failed) s.passed.takes.is ∙ s.passed.fine

    module _ (f : Frame A) (other : List (List ℕ)) (keeps : KeepsPaths paths other) (s : SoFar before old paths frames (progress.Inside f) now) where
      same_frames : frames_over paths frames ++ frame_over paths f ∷ [] ≡ frames_over other (frames ++ f ∷ [])
      same_frames = sym (frames_same paths other keeps (frames ++ f ∷ []) (known_pushed (length paths) frames f s.open_known s.known) ∙ over_pushed paths frames f)

      at_opening : Passed alone (location_at attr) (λ t. followed (opening_at attr t) (left_in (frames_over other (frames ++ f ∷ [])))) old now
      at_opening = turned alone (λ t. followed (opening_at attr t) (left_in (frames_over other (frames ++ f ∷ []))))
          (step_opens (frames_over paths frames) (frame_over paths f) now.rest ∙ ap (λ z. followed (opening_at attr now.rest) (left_in z)) same_frames) s.passed

      -- the location inside a frame was opened
      pub opened : {B : Type 0} {p : Progress A} {new : StreamView} → MustReadOver {A = B} known_progress progress_over (opening_at attr) other now (Ok p) new → other ≡ progress_kept paths (progress_over other p)
          → SoFar before old other (frames ++ f ∷ []) p new
      opened {p = p} h k = record {
        open_known = frames_stay paths other keeps (frames ++ f ∷ []) (known_pushed (length paths) frames f s.open_known s.known);
        known = h.known;
        passed = more alone (left_in (frames_over other (frames ++ f ∷ []))) at_opening h.read;
        kept = k ∙ ap (λ z. progress_kept z (progress_over other p)) (s.kept ∙ (sym (kept_pushed before (frames_over paths frames) (frame_over paths f)) ∙ ap (frames_kept before) same_frames));
      }

      -- it was an error
      pub not_opened : {B : Type 0} {new : StreamView} {fault : ParseFault B} → MustReadOver {A = B} known_progress progress_over (opening_at attr) other now (Err fault) new
          → MustRead itself replaced (location_over other) (location_at attr) old (Err fault) new
      not_opened h = refuses alone (left_in (frames_over other (frames ++ f ∷ []))) at_opening h.read

    module _ (f : Frame A) {l : Location A} (s : SoFar before old paths (frames ++ f ∷ []) (progress.Whole l) now) where
      at_after : Passed alone (location_at attr) (λ t. followed (after_at (frame_over paths f) (location_over paths l) t) (left_in (frames_over paths frames))) old now
      at_after = turned_alike (λ t. followed (after_at (frame_over paths f) (location_over paths l) t) (left_in (frames_over paths frames)))
          (ap (λ z. demanded (left_in z (whole (location_over paths l)) now.rest)) (over_pushed paths frames f) ∙ step_after (frames_over paths frames) (frame_over paths f) (location_over paths l) now.rest) s.passed

      over_paths : {B : Type 0} {new : StreamView} (r : Result (Progress A) (ParseFault B)) → MustRead itself replaced progress_view (after_at (frame_view f) (location_view l)) now r new
          → MustRead itself replaced (progress_over paths) (after_at (frame_over paths f) (location_over paths l)) now r new
      over_paths r h = seen_so (progress_sourced (path_of paths)) (after_at (frame_over paths f) (location_over paths l)) r (λ y. refl) (after_natural (path_of paths) (frame_view f) (location_view l) now.rest) h

      -- what follows the location inside a frame was parsed
      pub came_after : {B : Type 0} {p : Progress A} {new : StreamView} → MustRead {A = B} itself replaced progress_view (after_at (frame_view f) (location_view l)) now (Ok p) new → SoFar before old paths frames p new
      came_after {B = B} {p = p} {new = new} h =
          let o = known_popped (length paths) frames f s.open_known in
          let m : MustRead {A = B} itself replaced (progress_over paths) (after_at (frame_over paths f) (location_over paths l)) now (Ok p) new = over_paths (Ok p) h in
          let a = answered h in
          let b = answered m in
          record {
            open_known = o.0;
            known = next_known (length paths) (frame_view f) (location_view l) (progress_view p) ((after_says (frame_view f) (location_view l) now.rest).by (progress_view p) a.taken new.rest a.is) o.1 s.known;
            passed = more alone (left_in (frames_over paths frames)) at_after m;
            kept = s.kept ∙ (ap (λ z. all_kept (frames_kept before z) (location_over paths l)) (over_pushed paths frames f)
                ∙ (ap (λ z. all_kept z (location_over paths l)) (kept_pushed before (frames_over paths frames) (frame_over paths f))
                ∙ sym (next_kept (frames_kept before (frames_over paths frames)) (frame_over paths f) (location_over paths l) (progress_over paths p) ((after_says (frame_over paths f) (location_over paths l) now.rest).by (progress_over paths p) b.taken new.rest b.is))));
          }

      -- it was an error
      pub nothing_after : {B : Type 0} (other : List (List ℕ)) {new : StreamView} {fault : ParseFault B} → MustRead {A = B} itself replaced progress_view (after_at (frame_view f) (location_view l)) now (Err fault) new
          → MustRead itself replaced (location_over other) (location_at attr) old (Err fault) new
      nothing_after other {fault = fault} h = refuses alone (left_in (frames_over paths frames)) at_after (over_paths (Err fault) h)

    -- nothing is open, and all was parsed
    pub all_read : {B : Type 0} {l : Location A} → length frames ≡ 0 → SoFar before old paths frames (progress.Whole l) now → MustReadOver {A = B} known_location location_over (location_at attr) paths old (Ok l) now
    all_read {l = l} e s = none frames e s
      where
        none : {B : Type 0} (fs : List (Frame A)) → length fs ≡ 0 → SoFar before old paths fs (progress.Whole l) now → MustReadOver {A = B} known_location location_over (location_at attr) paths old (Ok l) now
        none [] e s = record { known = s.known; read = ends alone (location_over paths) l s.passed }
        none (f ∷ fs) e s = absurd (omega (arith, e))

    pub all_kept_there : {l : Location A} → length frames ≡ 0 → SoFar before old paths frames (progress.Whole l) now → paths ≡ all_kept before (location_over paths l)
    all_kept_there {l = l} e s = none frames e s
      where
        none : (fs : List (Frame A)) → length fs ≡ 0 → SoFar before old paths fs (progress.Whole l) now → paths ≡ all_kept before (location_over paths l)
        none [] e s = s.kept
        none (f ∷ fs) e s = absurd (omega (arith, e))

  module _ {B : Type 0} (paths : List (List ℕ)) {old new : StreamView} where
    -- at every bound that the text is within, a location is parsed as at its length
    read_any : (r : Result (Location A) (ParseFault B)) (depth : ℕ) → length old.rest ≤ depth → MustRead itself replaced (location_over paths) (location_at attr) old r new → MustRead itself replaced (location_over paths) (location_within attr depth) old r new
    read_any r depth h m = record { answers = subst (λ o. Answers itself replaced (location_over paths) (demanded (unless_failed old.failed o)) old r new) (sym (at_any attr no_more depth old.rest h)) m.answers }

    pub at_every : {r : Result (Location A) (ParseFault B)} → MustReadOver known_location location_over (location_at attr) paths old r new → MustReadWithin known_location location_over (location_within attr) paths old r new
    at_every {r = r} m = record { within = λ depth h. record { known = m.known; read = read_any r depth h m.read } }

    pub refused_every : {fault : ParseFault B} → MustRead itself replaced (location_over paths) (location_at attr) old (Err fault) new → MustReadWithin known_location location_over (location_within attr) paths old (Err fault) new
    refused_every {fault = fault} m = record { within = λ depth h. record { known = tt; read = read_any (Err fault) depth h m } }

-- ---- several locations as one, as a location that is opened
module _ {A B : Type 0} (attr : Reader (AttrView A)) {old new : StreamView} where
  -- if the text begins with `f` and no source, a fused location is opened
  pub fused_opens : (paths : List (List ℕ)) {r : Result (Progress A) (ParseFault B)} → begins begins_source old.rest ≡ false → begins (the 102) old.rest ≡ true → MustRead itself replaced progress_view (fused_opening_at attr) old r new
      → MustReadOver known_progress progress_over (opening_at attr) paths old r new
  fused_opens paths {r = r} a b h =
      let is : opening_at attr old.rest ≡ fused_opening_at attr old.rest = rw (a, b) refl in
      record { known = known r h; read = seen_so (progress_sourced (path_of paths)) (opening_at attr) r (λ y. refl) (fused_natural (path_of paths) attr old.rest ∙ sym is) h }
    where
      known : (r : Result (Progress A) (ParseFault B)) → MustRead itself replaced progress_view (fused_opening_at attr) old r new → IfOk r (λ p. known_progress (length paths) p ≡ true)
      known (Ok p) h = let a = answered h in empty_known (length paths) (progress_view p) ((fused_says attr old.rest).by (progress_view p) a.taken new.rest a.is)
      known (Err fault) h = tt

  -- no path is named there
  pub fused_keeps : (paths : List (List ℕ)) (r : Result (Progress A) (ParseFault B)) → MustRead itself replaced progress_view (fused_opening_at attr) old r new → IfOk r (λ p. paths ≡ progress_kept paths (progress_over paths p))
  fused_keeps paths (Ok p) h = let a = answered h in sym (empty_kept paths (progress_view p) ((fused_says attr old.rest).by (progress_view p) a.taken new.rest a.is))
  fused_keeps paths (Err fault) h = tt

-- ---- each step takes a character
leaves_seen : {X Y : Type 0} (b : ℕ) (see : X → Y) (o : Outcome X) → Leaves b o → Leaves b (mapped see o)
leaves_seen b see (Read x taken rest) h = leaves_read b (see x) taken rest (h.by x taken rest refl)
leaves_seen b see (Missing cause) h = leaves_missing b cause
leaves_seen b see (Bad cause upto) h = leaves_bad b cause upto

leaves_cond : {X : Type 0} (b : ℕ) (test : Bool) (o p : Outcome X) → (test ≡ true → Leaves b o) → Leaves b p → Leaves b (cond test o p)
leaves_cond b true o p h k = h refl
leaves_cond b false o p h k = k

leaves_then : {X Y : Type 0} (a b : ℕ) (o : Outcome X) (next : X → Text → Outcome Y) → Leaves a o → ((x : X) (rest : Text) → length rest ≤ a → Leaves b (next x rest)) → Leaves b (followed o next)
leaves_then a b (Read x taken rest) next h k = leaves_prefixed b taken (next x rest) (k x rest (h.by x taken rest refl))
leaves_then a b (Missing cause) next h k = leaves_missing b cause
leaves_then a b (Bad cause upto) next h k = leaves_bad b cause upto

spaced_leaves : (b c : ℕ) (w text : Text) → length text ≤ suc b → Leaves b (spaced_at (c ∷ w) text)
spaced_leaves b c w text h =
    leaves_then (suc b) b (space_at text) _ (leaves_honest honest_space (suc b) text h) (λ _ t i.
    leaves_followed b _ _ (leaves_word b c w t i) (λ _ u j. leaves_honest honest_space b u j))

module _ {S A : Type 0} where
  after_leaves : (f : FrameOf S A) (l : LocationOf S A) (b : ℕ) (text : Text) → length text ≤ suc b → Leaves b (after_at f l text)
  after_leaves (for_name name) l b text h = leaves_seen b _ _ (leaves_word b 41 [] text h)
  after_leaves for_callee l b text h = leaves_seen b _ _ (spaced_leaves b 97 (codes "t") text h)
  after_leaves (for_caller callee) l b text h = leaves_seen b _ _ (spaced_leaves b 41 [] text h)
  after_leaves (for_row m row) l b text h =
      leaves_then (suc b) b (space_at text) step (leaves_honest honest_space (suc b) text h) (λ _ t i.
      leaves_cond b (begins (the 44) t) (followed (text_at (codes ",") t) comma) (mapped (λ _. whole (fused m (with_one row l))) (text_at (codes "]") t))
      (λ _. leaves_followed b (text_at (codes ",") t) comma (leaves_word b 44 [] t i) (λ _ u j. leaves_seen b (λ _. inside (for_row m (with_one row l))) (space_at u) (leaves_honest honest_space b u j)))
      (leaves_seen b (λ _. whole (fused m (with_one row l))) (text_at (codes "]") t) (leaves_word b 93 [] t i)))
    where
      comma : Unit {0} → Text → Outcome (ProgressOf S A)
      comma u t = mapped (λ _. inside (for_row m (with_one row l))) (space_at t)

      step : Unit {0} → Text → Outcome (ProgressOf S A)
      step u t = cond (begins (the 44) t) (followed (text_at (codes ",") t) comma) (mapped (λ _. whole (fused m (with_one row l))) (text_at (codes "]") t))

  after_none : (f : FrameOf S A) (l : LocationOf S A) (p : ProgressOf S A) (taken rest : Text) → after_at f l [] ≡ Read p taken rest → ⊥
  after_none (for_name name) l p taken rest e = absurd (cc e)
  after_none for_callee l p taken rest e = absurd (cc e)
  after_none (for_caller callee) l p taken rest e = absurd (cc e)
  after_none (for_row m row) l p taken rest e = absurd (cc e)

  after_is_shorter : (f : FrameOf S A) (l : LocationOf S A) (text : Text) (p : ProgressOf S A) (taken rest : Text) → after_at f l text ≡ Read p taken rest → length rest < length text
  after_is_shorter f l [] p taken rest e = absurd (after_none f l p taken rest e)
  after_is_shorter f l (c ∷ text) p taken rest e = let h = (after_leaves f l (length text) (c ∷ text) (le_refl (suc (length text)))).by p taken rest e in omega (arith, h)

module _ {A : Type 0} (attr : Reader (AttrView A)) (no_more : LeavesNoMore attr) where
  fused_within : (b : ℕ) → Within b (space_at ▷ metadata_at attr ▶ λ m. word (codes "[") ▷ space_at ▷ row_opening_at {S = Option (List ℕ)} m)
  fused_within b =
      ◌then◌ (within_honest honest_space) (◌so◌ (within_metadata no_more) (λ m.
      ◌then◌ (within_honest (honest_word (codes "["))) (◌then◌ (within_honest honest_space)
      (within_either (begins begins_location) (within_honest (honest_nothing (inside (for_row m no_location)))) (seen (λ _. whole (fused m no_location)) (within_honest (honest_word (codes "]"))))))))

  opening_leaves : (b : ℕ) (text : Text) → length text ≤ suc b → begins begins_source text ≡ false → Leaves b (opening_at attr text)
  opening_leaves b text h n =
      leaves_cond b (begins begins_source text) _ _ (λ e. absurd (true≢false (sym e ∙ n)))
      (leaves_cond b (begins (the 102) text) _ _ (λ _. leaves_followed b _ _ (leaves_word b 102 (codes "used") text h) (λ _ t i. (fused_within b).leaves t i))
      (leaves_cond b (begins (the 110) text) _ _ (λ _. leaves_seen b _ _ (leaves_followed b _ _ (leaves_word b 110 (codes "ame") text h) (λ _. leaves_honest honest_title b)))
      (leaves_cond b (begins (the 99) text) _ _ (λ _. leaves_seen b _ _ (leaves_followed b _ _ (leaves_word b 99 (codes "allsite") text h) (λ _ t i. leaves_honest (honest_spaced (codes "(")) b t i)))
      (leaves_cond b (begins (the 63) text) _ _ (λ _. leaves_seen b _ _ (leaves_word b 63 [] text h))
      (leaves_missing b _)))))

  opening_shorter : (text : Text) (p : ProgressOf (Option (List ℕ)) A) (taken rest : Text) → begins begins_source text ≡ false → opening_at attr text ≡ Read p taken rest → length rest < length text
  opening_shorter [] p taken rest n e = absurd (cc e)
  opening_shorter (c ∷ text) p taken rest n e = let h = (opening_leaves (length text) (c ∷ text) (le_refl (suc (length text))) n).by p taken rest e in omega (arith, h)

  -- where no source begins, opening a location takes a character
  pub opened_shorter : {B : Type 0} {paths : List (List ℕ)} {old new : StreamView} {p : Progress A} → begins begins_source old.rest ≡ false → MustReadOver {A = B} known_progress progress_over (opening_at attr) paths old (Ok p) new → length new.rest < length old.rest
  opened_shorter {paths = paths} {old = old} {new = new} {p = p} n h = let a = answered h.read in opening_shorter old.rest (progress_over paths p) a.taken new.rest n a.is

-- what follows a location takes a character
pub after_less : {A B : Type 0} (f : FrameOf Source A) (l : LocationOf Source A) {old new : StreamView} {p : Progress A} → MustRead {A = B} itself replaced progress_view (after_at f l) old (Ok p) new → length new.rest < length old.rest
after_less f l {old = old} {new = new} {p = p} h = let a = answered h in after_is_shorter f l old.rest (progress_view p) a.taken new.rest a.is

-- a place is opened and parsed at once
pub place_opens : {A B : Type 0} (attr : Reader (AttrView A)) {paths : List (List ℕ)} {old new : StreamView} {l : Location A} → begins begins_source old.rest ≡ true → MustReadOver {A = B} known_location location_over place_at paths old (Ok l) new
    → MustReadOver {A = B} known_progress progress_over (opening_at attr) paths old (Ok (progress.Whole l)) new
place_opens attr {paths = paths} {old = old} {new = new} {l = l} b h =
    let is : opening_at attr old.rest ≡ mapped whole (place_at old.rest) = rw b refl in
    let a = answered h.read in
    record {
      known = h.known;
      read = ends alone (progress_over paths) (progress.Whole l) (record {
        fine = a.fine;
        taken = a.taken;
        takes = a.takes;
        so_far = ap demanded (is ∙ ap (mapped whole) a.is) ∙ ap (λ z. Read (whole (location_over paths l)) z new.rest) (sym (append-nil a.taken));
      });
    }

-- it is an error
pub place_refused : {A B : Type 0} (attr : Reader (AttrView A)) {paths : List (List ℕ)} {old new : StreamView} {fault : ParseFault B} → begins begins_source old.rest ≡ true → MustReadOver {A = B} (known_location {A = A}) location_over place_at paths old (Err fault) new
    → MustReadOver {A = B} known_progress progress_over (opening_at attr) paths old (Err fault) new
place_refused attr {paths = paths} {old = old} b h =
    let is : opening_at attr old.rest ≡ mapped whole (place_at old.rest) = rw b refl in
    record { known = tt; read = first_refused (opening_at attr) (λ l t. Read (whole l) [] t) (is ∙ mapped_is_followed whole (place_at old.rest)) h.read }
