-- A location that is parsed step by step: what each step leaves to be parsed is what the location's definition says.
use Rattle.std.proofs.Common.{◌≡◌, ◌∙◌, ap, refl, sym, ℕ, suc, ◌≤◌, Bool, true, false, cond, Option, List, [], ◌∷◌, ◌++◌, codes, length, append-nil, true≢false}
use Rattle.std.proofs.Math.Nat.{le_refl}
use Rattle.irtext_base.specs.Text.{Text, begins}
use Rattle.irtext_base.specs.Reading.{the}
use Rattle.irtext_base.specs.Stream.{first_of}
use Rattle.irtext_base.specs.Faults.{Unexpected, ALocation}
use Rattle.irtext_base.specs.Answers.{Outcome, Read, Missing, Bad, demanded, prefixed, mapped, followed}
use Rattle.irtext_base.specs.Locations.{AttrView, LocationOf, fused, named, call_site, unknown, LocationsOf, no_location, location}
use Rattle.irtext_base.specs.Paths.{Written}
use Rattle.irtext_tokens.specs.Infix.{Reader}
use Rattle.irtext_tokens.specs.Tokens.{text_at}
use Rattle.irtext_grammar.specs.Readers.Locations.{WrittenRow, begins_source, begins_location, name_at, place_at, metadata_at, after_location, row_of, row_at, more_at, fused_at, named_at, call_site_at, kind_at, location_within, more_within, location_at}
use Rattle.irtext_grammar.specs.Readers.NewPaths.{joined_rows}
use Rattle.irtext_grammar.specs.Readers.Positions.{space_at, spaced_at}
use Rattle.irtext_grammar.specs.Readers.RestLengths.{LeavesNoMore}
use Rattle.irtext_grammar.proofs.Readers.Steps.{prefixed-prefixed, mapped_is_followed}
use Rattle.irtext_grammar.proofs.Locations.Begins.{is_missing, none_begins, one_begins}
use Rattle.irtext_grammar.proofs.Locations.Bounds.{kind_same, more_same, within_enough}
use Rattle.irtext_grammar.proofs.Locations.LocationRests.{within_location}
use Rattle.irtext_parse_locations.specs.Frames.{FrameOf, for_name, for_callee, for_caller, for_row, ProgressOf, whole, inside, with_one, after_at, call_site_head_at, row_opening_at, fused_opening_at, opening_at, further_at, frame_rest, progress_rest}

-- ---- outcomes
-- what follows characters that were taken is required already
pub prefixed_demanded : {X : Type 0} (t : Text) (o p : Outcome X) → demanded o ≡ demanded p → prefixed t o ≡ prefixed t p
prefixed_demanded t o p e = sym (same t o) ∙ (ap (prefixed t) e ∙ same t p)
  where
    same : {X : Type 0} (t : Text) (o : Outcome X) → prefixed t (demanded o) ≡ prefixed t o
    same t (Read x taken rest) = refl
    same t (Missing cause) = ap (Bad cause) append_none
      where
        append_none : t ++ [] ≡ t
        append_none = append-nil t
    same t (Bad cause upto) = refl

demanded-prefixed : {X : Type 0} (t : Text) (o : Outcome X) → demanded (prefixed t o) ≡ prefixed t o
demanded-prefixed t (Read x taken rest) = refl
demanded-prefixed t (Missing cause) = refl
demanded-prefixed t (Bad cause upto) = refl

-- nothing was taken
pub demanded_none : {X : Type 0} (o : Outcome X) → demanded (prefixed [] o) ≡ demanded o
demanded_none (Read x taken rest) = refl
demanded_none (Missing cause) = refl
demanded_none (Bad cause upto) = refl

module _ {X Y : Type 0} where
  -- two outcomes that are the same if they are required, and what follows them
  pub demanded_followed : (o p : Outcome X) (k : X → Text → Outcome Y) → demanded o ≡ demanded p → demanded (followed o k) ≡ demanded (followed p k)
  demanded_followed o p k e = sym (same o) ∙ (ap (λ z. followed z k) e ∙ same p)
    where
      same : (o : Outcome X) → followed (demanded o) k ≡ demanded (followed o k)
      same (Read x taken rest) = sym (demanded-prefixed taken (k x rest))
      same (Missing cause) = refl
      same (Bad cause upto) = refl

  -- what follows may be stated in other words
  pub followed_alike : (o : Outcome X) (k l : X → Text → Outcome Y) → ((x : X) (t : Text) → demanded (k x t) ≡ demanded (l x t)) → followed o k ≡ followed o l
  followed_alike (Read x taken rest) k l e = prefixed_demanded taken (k x rest) (l x rest) (e x rest)
  followed_alike (Missing cause) k l e = refl
  followed_alike (Bad cause upto) k l e = refl

  pub followed_as : (o : Outcome X) (k l : X → Text → Outcome Y) → ((x : X) (t : Text) → k x t ≡ l x t) → followed o k ≡ followed o l
  followed_as o k l e = followed_alike o k l (λ x t. ap demanded (e x t))

module _ {X Y : Type 0} where
  followed_prefixed : (t : Text) (o : Outcome X) (k : X → Text → Outcome Y) → followed (prefixed t o) k ≡ prefixed t (followed o k)
  followed_prefixed t (Read x taken rest) k = sym (prefixed-prefixed t taken (k x rest))
  followed_prefixed t (Missing cause) k = refl
  followed_prefixed t (Bad cause upto) k = refl

module _ {X Y V : Type 0} where
  -- one parser, a second and a third
  pub followed_followed : (o : Outcome X) (k : X → Text → Outcome Y) (l : Y → Text → Outcome V) → followed (followed o k) l ≡ followed o (λ x t. followed (k x t) l)
  followed_followed (Read x taken rest) k l = followed_prefixed taken (k x rest) l
  followed_followed (Missing cause) k l = refl
  followed_followed (Bad cause upto) k l = refl

  -- a value seen by a function, and another parser after it
  pub followed_mapped : (see : X → Y) (o : Outcome X) (k : Y → Text → Outcome V) → followed (mapped see o) k ≡ followed o (λ x t. k (see x) t)
  followed_mapped see (Read x taken rest) k = refl
  followed_mapped see (Missing cause) k = refl
  followed_mapped see (Bad cause upto) k = refl

-- a value, and nothing after it
pub followed_nothing : {X : Type 0} (o : Outcome X) → followed o (λ x t. Read x [] t) ≡ o
followed_nothing (Read x taken rest) = ap (λ z. Read x z rest) (append-nil taken)
followed_nothing (Missing cause) = refl
followed_nothing (Bad cause upto) = refl

-- one location more, in the middle of a row
joined_one : {S A : Type 0} (row more : LocationsOf S A) (l : LocationOf S A) → joined_rows (with_one row l) more ≡ joined_rows row (location l more)
joined_one no_location more l = refl
joined_one (location k row) more l = ap (location k) (joined_one row more l)

-- ---- the definition without a bound
module _ {A : Type 0} (attr : Reader (AttrView A)) (no_more : LeavesNoMore attr) where
  -- at a bound that the text is within, a location is parsed as at the text's length
  pub at_any : (n : ℕ) (text : Text) → length text ≤ n → location_within attr n text ≡ location_at attr text
  at_any n text h = (within_enough attr no_more n (length text) text h (le_refl (length text))).0

  further_any : (n : ℕ) (text : Text) → length text ≤ n → more_within attr n text ≡ further_at attr text
  further_any n text h = (within_enough attr no_more n (length text) text h (le_refl (length text))).1

  -- a location is one of the kind that its first character determines, with locations nested in it
  location_is : (text : Text) → location_at attr text ≡ kind_at (location_at attr) (further_at attr) attr text
  location_is [] = refl
  location_is (c ∷ text) =
      kind_same (location_within attr (length text)) (location_at attr) (more_within attr (length text)) (further_at attr) (length text) (within_location no_more (length text))
      (λ t h. at_any (length text) t h) (λ t h. further_any (length text) t h) attr no_more (c ∷ text) (le_refl (suc (length text)))

  -- further locations are none, or `,`, one location, and further ones
  further_is : (text : Text) → further_at attr text ≡ more_at (location_at attr) (further_at attr) text
  further_is [] = refl
  further_is (c ∷ text) =
      more_same (location_within attr (length text)) (location_at attr) (more_within attr (length text)) (further_at attr) (length text) (within_location no_more (length text))
      (λ t h. at_any (length text) t h) (λ t h. further_any (length text) t h) (c ∷ text) (le_refl (suc (length text)))

  -- ---- what follows a location
  abbrev rest_of : ProgressOf (Option (List ℕ)) A → Text → Outcome (Written A)
  rest_of p text = progress_rest attr p text

  -- the end of several locations as one
  abbrev ends_row : Option (AttrView A) → WrittenRow A → WrittenRow A → Text → Outcome (Written A)
  ends_row m row ls text = mapped (λ _. fused m (joined_rows row ls)) (text_at (codes "]") text)

  -- a word that ends a location
  word_ends : {X : Type 0} (o : Outcome X) (l : Written A) → followed (mapped (λ _. whole l) o) rest_of ≡ mapped (λ _. l) o
  word_ends o l = followed_mapped (λ _. whole l) o rest_of ∙ sym (mapped_is_followed (λ _. l) o)

  -- white space, and further locations after one
  abbrev spaced_further : Option (AttrView A) → WrittenRow A → Written A → Unit {0} → Text → Outcome (Written A)
  spaced_further m row l u text = followed (mapped (location l) (further_at attr text)) (ends_row m row)

  -- a location of a list, and those after it
  abbrev in_row : Option (AttrView A) → WrittenRow A → Written A → Text → Outcome (Written A)
  in_row m row l text = frame_rest attr (for_row m row) l text

  row_rest : (m : Option (AttrView A)) (row : WrittenRow A) (l : Written A) (text : Text) → in_row m row l text ≡ followed (space_at text) (spaced_further m row l)
  row_rest m row l text = followed_followed (space_at text) (λ _ t. mapped (location l) (further_at attr t)) (ends_row m row)

  -- the next location of a list, after `,` and white space
  abbrev next_in : Option (AttrView A) → WrittenRow A → Unit {0} → Text → Outcome (Written A)
  next_in m row u text = followed (location_at attr text) (in_row m row)

  abbrev after_comma : (Written A → Text → Outcome (WrittenRow A)) → Unit {0} → Text → Outcome (WrittenRow A)
  after_comma k u text = followed (space_at text) (λ _ t. followed (location_at attr t) k)

  -- if `,` follows, the list goes on
  comma_goes_on : (m : Option (AttrView A)) (row : WrittenRow A) (l : Written A) (text : Text)
      → followed (followed (text_at (codes ",") text) (after_comma (after_location (location_at attr) (further_at attr)))) (λ ls t. ends_row m row (location l ls) t)
      ≡ followed (text_at (codes ",") text) (λ _ t. followed (space_at t) (next_in m (with_one row l)))
  comma_goes_on m row l text =
      followed_followed (text_at (codes ",") text) (after_comma (after_location (location_at attr) (further_at attr))) (λ ls t. ends_row m row (location l ls) t)
      ∙ followed_as (text_at (codes ",") text) _ (λ _ t. followed (space_at t) (next_in m (with_one row l))) (λ _ t.
      followed_followed (space_at t) (λ _ u. followed (location_at attr u) (after_location (location_at attr) (further_at attr))) (λ ls v. ends_row m row (location l ls) v)
      ∙ followed_as (space_at t) _ (next_in m (with_one row l)) (λ _ u.
      followed_followed (location_at attr u) (after_location (location_at attr) (further_at attr)) (λ ls v. ends_row m row (location l ls) v)
      ∙ followed_as (location_at attr u) _ (in_row m (with_one row l)) (λ k v.
      followed_as (after_location (location_at attr) (further_at attr) k v) (λ ls w. ends_row m row (location l ls) w) (ends_row m (with_one row l)) (λ ls w.
      ap (λ r. mapped (λ _. fused m r) (text_at (codes "]") w)) (sym (joined_one row ls l))))))

  -- the list goes on, or it ends
  abbrev row_step : Option (AttrView A) → WrittenRow A → Unit {0} → Text → Outcome (ProgressOf (Option (List ℕ)) A)
  row_step m row u text = cond (begins (the 44) text)
      (followed (text_at (codes ",") text) (λ _ t. mapped (λ _. inside (for_row m row)) (space_at t)))
      (mapped (λ _. whole (fused m row)) (text_at (codes "]") text))

  row_steps : (m : Option (AttrView A)) (row : WrittenRow A) (l : Written A) (text : Text) (b : Bool) → begins (the 44) text ≡ b
      → demanded (spaced_further m row l tt text) ≡ demanded (followed (row_step m (with_one row l) tt text) rest_of)
  row_steps m row l text true e =
      let comma : Outcome (ProgressOf (Option (List ℕ)) A) = followed (text_at (codes ",") text) (λ _ t. mapped (λ _. inside (for_row m (with_one row l))) (space_at t)) in
      let bracket : Outcome (ProgressOf (Option (List ℕ)) A) = mapped (λ _. whole (fused m (with_one row l))) (text_at (codes "]") text) in
      let more : Outcome (WrittenRow A) = followed (text_at (codes ",") text) (after_comma (after_location (location_at attr) (further_at attr))) in
      ap demanded (followed_mapped (location l) (further_at attr text) (ends_row m row)
      ∙ (ap (λ o. followed o (λ ls t. ends_row m row (location l ls) t)) (further_is text ∙ ap (λ b. cond b more (Read no_location [] text)) e)
      ∙ (comma_goes_on m row l text
      ∙ (sym (followed_followed (text_at (codes ",") text) (λ _ t. mapped (λ _. inside (for_row m (with_one row l))) (space_at t)) rest_of
      ∙ followed_as (text_at (codes ",") text) _ (λ _ t. followed (space_at t) (next_in m (with_one row l))) (λ _ t. followed_mapped (λ _. inside (for_row m (with_one row l))) (space_at t) rest_of))
      ∙ ap (λ b. followed (cond b comma bracket) rest_of) (sym e)))))
  row_steps m row l text false e =
      let comma : Outcome (ProgressOf (Option (List ℕ)) A) = followed (text_at (codes ",") text) (λ _ t. mapped (λ _. inside (for_row m (with_one row l))) (space_at t)) in
      let bracket : Outcome (ProgressOf (Option (List ℕ)) A) = mapped (λ _. whole (fused m (with_one row l))) (text_at (codes "]") text) in
      let more : Outcome (WrittenRow A) = followed (text_at (codes ",") text) (after_comma (after_location (location_at attr) (further_at attr))) in
      ap demanded (followed_mapped (location l) (further_at attr text) (ends_row m row)
      ∙ ap (λ o. followed o (λ ls t. ends_row m row (location l ls) t)) (further_is text ∙ ap (λ b. cond b more (Read no_location [] text)) e))
      ∙ (demanded_none (mapped (λ _. fused m (with_one row l)) (text_at (codes "]") text))
      ∙ ap demanded (sym (word_ends (text_at (codes "]") text) (fused m (with_one row l))) ∙ ap (λ b. followed (cond b comma bracket) rest_of) (sym e)))

  -- after a location in a frame, a step is the first part of all that is left of the frame
  pub after_holds : (f : FrameOf (Option (List ℕ)) A) (l : Written A) (text : Text) → demanded (frame_rest attr f l text) ≡ demanded (followed (after_at f l text) rest_of)
  after_holds (for_name name) l text = ap demanded (sym (word_ends (text_at (codes ")") text) (named name l)))
  after_holds for_callee l text = ap demanded (sym (followed_mapped (λ _. inside (for_caller l)) (spaced_at (codes "at") text) rest_of))
  after_holds (for_caller callee) l text = ap demanded (sym (word_ends (spaced_at (codes ")") text) (call_site callee l)))
  after_holds (for_row m row) l text =
      ap demanded (row_rest m row l text
      ∙ (followed_alike (space_at text) (spaced_further m row l) (λ u t. followed (row_step m (with_one row l) u t) rest_of) (λ _ t. row_steps m row l t (begins (the 44) t) refl)
      ∙ sym (followed_followed (space_at text) (row_step m (with_one row l)) rest_of)))

  -- ---- a location up to the first one nested in it
  -- what follows the list of a fused location
  abbrev after_row : Option (AttrView A) → WrittenRow A → Text → Outcome (Written A)
  after_row m ls text = mapped (λ _. fused m ls) (text_at (codes "]") text)

  -- the first location of a list, and those after it
  row_opens : (m : Option (AttrView A)) (text : Text) (b : Bool) → begins begins_location text ≡ b
      → demanded (followed (row_at (location_at attr) (further_at attr) text) (after_row m)) ≡ demanded (followed (row_opening_at m text) rest_of)
  row_opens m text true e =
      let first : is_missing (location_at attr text) ≡ false = one_begins attr (length text) text (le_refl (length text)) e in
      let ended : Outcome (ProgressOf (Option (List ℕ)) A) = mapped (λ _. whole (fused m no_location)) (text_at (codes "]") text) in
      ap (λ o. demanded (followed o (after_row m))) (there (location_at attr text) first)
      ∙ (ap demanded (followed_followed (location_at attr text) (after_location (location_at attr) (further_at attr)) (after_row m))
      ∙ (sym (demanded_none (followed (location_at attr text) (frame_rest attr (for_row m no_location))))
      ∙ ap (λ b. demanded (followed (cond b (Read (inside (for_row m no_location)) [] text) ended) rest_of)) (sym e)))
    where
      there : (o : Outcome (Written A)) → is_missing o ≡ false → row_of (location_at attr) (further_at attr) o text ≡ followed o (after_location (location_at attr) (further_at attr))
      there (Read l taken rest) h = refl
      there (Missing cause) h = absurd (true≢false h)
      there (Bad cause upto) h = refl
  row_opens m text false e =
      let ended : Outcome (ProgressOf (Option (List ℕ)) A) = mapped (λ _. whole (fused m no_location)) (text_at (codes "]") text) in
      ap (λ o. demanded (followed (row_of (location_at attr) (further_at attr) o text) (after_row m))) (none_begins attr (length text) text e)
      ∙ (demanded_none (after_row m no_location text)
      ∙ ap demanded (sym (word_ends (text_at (codes "]") text) (fused m no_location)) ∙ ap (λ b. followed (cond b (Read (inside (for_row m no_location)) [] text) ended) rest_of) (sym e)))

  -- several locations as one
  fused_is : (text : Text) → fused_at (location_at attr) (further_at attr) attr text ≡ followed (fused_opening_at attr text) rest_of
  fused_is text =
      followed_as (text_at (codes "fused") text) _ (λ _ t. followed (followed (space_at t) (λ _ u. followed (metadata_at attr u) opened)) rest_of) (λ _ t.
      followed_as (space_at t) _ (λ _ u. followed (followed (metadata_at attr u) opened) rest_of) (λ _ u.
      followed_as (metadata_at attr u) _ (λ m v. followed (opened m v) rest_of) (λ m v.
      followed_as (text_at (codes "[") v) _ (λ _ w. followed (followed (space_at w) (λ _ x. row_opening_at m x)) rest_of) (λ _ w.
      followed_alike (space_at w) (λ _ x. followed (row_at (location_at attr) (further_at attr) x) (after_row m)) (λ _ x. followed (row_opening_at m x) rest_of) (λ _ x. row_opens m x (begins begins_location x) refl)
      ∙ sym (followed_followed (space_at w) (λ _ x. row_opening_at m x) rest_of))
      ∙ sym (followed_followed (text_at (codes "[") v) (λ _ w. followed (space_at w) (λ _ x. row_opening_at m x)) rest_of))
      ∙ sym (followed_followed (metadata_at attr u) opened rest_of))
      ∙ sym (followed_followed (space_at t) (λ _ u. followed (metadata_at attr u) opened) rest_of))
      ∙ sym (followed_followed (text_at (codes "fused") text) (λ _ t. followed (space_at t) (λ _ u. followed (metadata_at attr u) opened)) rest_of)
    where
      opened : Option (AttrView A) → Text → Outcome (ProgressOf (Option (List ℕ)) A)
      opened m v = followed (text_at (codes "[") v) (λ _ w. followed (space_at w) (λ _ x. row_opening_at m x))

  -- a callee's location and its caller's
  abbrev in_call_site : Unit {0} → Text → Outcome (Written A)
  in_call_site u text = followed (location_at attr text) (frame_rest attr for_callee)

  call_site_is : (text : Text) → call_site_at (location_at attr) (further_at attr) text ≡ followed (mapped (λ _. inside for_callee) (call_site_head_at text)) rest_of
  call_site_is text =
      sym (followed_mapped (λ _. inside for_callee) (call_site_head_at text) rest_of
      ∙ followed_followed (text_at (codes "callsite") text) (λ _ t. spaced_at (codes "(") t) in_call_site)

  -- the kinds, each before the rest of it
  kinds_are : (text : Text) (a : Bool) (b : Bool) (c : Bool) (d : Bool) (e : Bool) (p q r s t n : Outcome (Written A)) (p2 q2 r2 s2 t2 n2 : Outcome (ProgressOf (Option (List ℕ)) A))
      → p ≡ followed p2 rest_of → q ≡ followed q2 rest_of → r ≡ followed r2 rest_of → s ≡ followed s2 rest_of → t ≡ followed t2 rest_of → n ≡ followed n2 rest_of
      → cond a p (cond b q (cond c r (cond d s (cond e t n)))) ≡ followed (cond a p2 (cond b q2 (cond c r2 (cond d s2 (cond e t2 n2))))) rest_of
  kinds_are text true b c d e p q r s t n p2 q2 r2 s2 t2 n2 hp hq hr hs ht hn = hp
  kinds_are text false true c d e p q r s t n p2 q2 r2 s2 t2 n2 hp hq hr hs ht hn = hq
  kinds_are text false false true d e p q r s t n p2 q2 r2 s2 t2 n2 hp hq hr hs ht hn = hr
  kinds_are text false false false true e p q r s t n p2 q2 r2 s2 t2 n2 hp hq hr hs ht hn = hs
  kinds_are text false false false false true p q r s t n p2 q2 r2 s2 t2 n2 hp hq hr hs ht hn = ht
  kinds_are text false false false false false p q r s t n p2 q2 r2 s2 t2 n2 hp hq hr hs ht hn = hn

  -- a location up to the first one nested in it, and the rest of it
  pub opening_is : (text : Text) → location_at attr text ≡ followed (opening_at attr text) rest_of
  opening_is text =
      location_is text
      ∙ kinds_are text (begins begins_source text) (begins (the 102) text) (begins (the 110) text) (begins (the 99) text) (begins (the 63) text)
      (place_at text) (fused_at (location_at attr) (further_at attr) attr text) (named_at (location_at attr) (further_at attr) text) (call_site_at (location_at attr) (further_at attr) text) (mapped (λ _. unknown) (text_at (codes "?") text)) (Missing (Unexpected (first_of text) ALocation))
      (mapped whole (place_at text)) (fused_opening_at attr text) (mapped (λ name. inside (for_name name)) (name_at text)) (mapped (λ _. inside for_callee) (call_site_head_at text)) (mapped (λ _. whole unknown) (text_at (codes "?") text)) (Missing (Unexpected (first_of text) ALocation))
      (sym (followed_mapped whole (place_at text) rest_of ∙ followed_nothing (place_at text))) (fused_is text)
      (sym (followed_mapped (λ name. inside (for_name name)) (name_at text) rest_of)) (call_site_is text) (sym (word_ends (text_at (codes "?") text) unknown)) refl
