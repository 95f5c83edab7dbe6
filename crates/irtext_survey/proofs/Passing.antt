-- How far the parser of a section has come that keeps nothing of it.
use Rattle.std.proofs.Common.{◌≡◌, ◌∙◌, ◌<◌, ◌≤◌, ℕ, zero, suc, Bool, true, false, cond, Result, Ok, Err, Option, None, List, [], ◌∷◌, ◌++◌, length, refl, sym, ap, subst, arith, inl, inr, true≢false}
use Rattle.std.specs.Char.{is_whitespace}
use Rattle.std.specs.Prelude.{⊤, codes}
use Rattle.irtext_base.specs.Text.{Text, begins, front, after}
use Rattle.irtext_base.specs.Reading.{the}
use Rattle.irtext_base.specs.Stream.{StreamView, advanced}
use Rattle.irtext_base.specs.Answers.{Outcome, Read, Missing, Bad, Takes, DemandsOf, demanded, mapped, followed, unless_failed, Answers}
use Rattle.irtext_base.specs.Locations.{AttrView}
use Rattle.irtext_base.specs.Paths.{Written}
use Rattle.irtext_base.specs.Faults.{Memory, fault_of}
use Rattle.irtext_base.specs.declared.parsable.fault.ParseFault.{ParseFault}
use Rattle.irtext_tokens.specs.Demanded.{spaced_at}
use Rattle.irtext_tokens.specs.ListOutcomes.{items_after, separated_at}
use Rattle.irtext_tokens.specs.MustRead.{MustRead}
use Rattle.irtext_tokens.specs.Tokens.{space_at, text_at}
use Rattle.irtext_tokens.proofs.Steps.{alone, Passed, starts, turned, first, more, spaced, ends, last, refuses, refuses_seen, last_seen, fine_there}
use Rattle.irtext_grammar.specs.Entries.{begins_given, kept, pair_at, tested, entry_head_at, pairs_at, given_at}
use Rattle.irtext_grammar.specs.Grammar.Section.{Item, direct, reference, Entry, of_item, of_once}
use Rattle.irtext_grammar.specs.Grammar.Tree.{Name, Mark, ident}
use Rattle.irtext_grammar.specs.Readers.Directives.{attribute_at}
use Rattle.irtext_grammar.specs.Readers.Section.{entry_location_at}
use Rattle.irtext_grammar.specs.Readers.Streams.{itself, replaced}
use Rattle.irtext_grammar.proofs.Readers.Answered.{answered}
use Rattle.irtext_parse_pieces.specs.Named.{MayMean}
use Rattle.irtext_parse_pieces.proofs.EntrySteps.{first_refused}
use Rattle.irtext_parse_pieces.proofs.Listings.{Listing, listing_first, listing_all, listing_refused, listing_more, item_falls, list_bad, list_none, list_some}
use Rattle.irtext_parse_pieces.proofs.Meanings.{insisted_mean, must_refuse}
use Rattle.irtext_parse_section.proofs.LoopText.{entry_shorter}
use Rattle.irtext_survey.specs.Section.{any_rule, any_index, pair_in, entry_in, entries_in, section_in, MayPass, MustPass, PassesMore, SkipsSection}
use Rattle.irtext_survey.proofs.Reading.{must_miss}

-- ---- what is not kept
module _ {X Y A : Type 0} {see : Y → X} {f : Text → Outcome X} {old new : StreamView} where
  pub must_pass : {y : Y} → MustRead {A = A} itself replaced see f old (Ok y) new → MustPass {A = A} f old (Ok tt) new
  must_pass {y = y} h = record { meant = λ _. see y; means = tt; read = record { answers = h.answers } }

  pub must_stop : {fault : ParseFault A} → X → MustRead {Y = Y} itself replaced see f old (Err fault) new → MustPass f old (Err fault) new
  must_stop any h = record { meant = λ _. any; means = tt; read = record { answers = h.answers } }

kept_all : {A : Type 0} (o : Outcome (Name ℕ × Item ℕ A)) → kept any_rule o ≡ o
kept_all (Read (n, direct a) taken rest) = refl
kept_all (Read (n, reference m) taken rest) = refl
kept_all (Missing cause) = refl
kept_all (Bad cause upto) = refl

tested_all : (o : Outcome (Mark ℕ)) → tested any_index o ≡ o
tested_all (Read m taken rest) = go (begins_given rest) refl
  where
    go : (b : Bool) → begins_given rest ≡ b → tested any_index (Read m taken rest) ≡ Read m taken rest
    go true e = rw e refl
    go false e = rw e refl
tested_all (Missing cause) = refl
tested_all (Bad cause upto) = refl

-- a pair of any key, with no part of it
abbrev a_pair : {A : Type 0} → Name ℕ × Item ℕ A
a_pair = (record { place = 0; text = [] }, direct (ident []))

-- a mark of any index
abbrev a_mark : Mark ℕ
a_mark = record { place = 0; index = 0 }

-- ---- pairs
module _ {Y A : Type 0} (attr : Text → Outcome (AttrView A)) {Means : Y → Name ℕ × Item ℕ A → Type 0} {old new : StreamView} where
  pub pair_there : {y : Y} → MayMean {A = A} itself replaced Means (pair_at attr) old (Ok y) new → MayPass {A = A} (pair_in attr) old (Ok tt) new
  pair_there {y = y} h = record {
    meant = λ _. h.meant y;
    means = tt;
    read = record { answers = let r : Result (Unit {0}) (ParseFault A) = Ok tt in subst (λ o. Answers itself replaced (λ (u : Unit {0}). h.meant y) (unless_failed old.failed o) old r new) (sym (kept_all (pair_at attr old.rest))) h.read.answers };
  }

  pub pair_missed : {fault : ParseFault A} → MayMean itself replaced Means (pair_at attr) old (Err fault) new → MayPass (pair_in attr) old (Err fault) new
  pair_missed {fault = fault} h = record {
    meant = λ _. a_pair;
    means = tt;
    read = record { answers = let r : Result (Unit {0}) (ParseFault A) = Err fault in subst (λ o. Answers itself replaced (λ (u : Unit {0}). a_pair) (unless_failed old.failed o) old r new) (sym (kept_all (pair_at attr old.rest))) h.read.answers };
  }

-- the items that were passed after the first ones
pub record Passing {X : Type 0} (item : Text → Outcome X) (begun : List X) (old now : StreamView) : Type 0 where
  pub passed : List (Unit {0})
  pub listing : Listing {Y = Unit {0}} alone item (λ u x. ⊤) begun old now passed

module _ {X : Type 0} (item : Text → Outcome X) where
  -- the first one alone
  pub passing_first : (x : X) (old : StreamView) → old.failed ≡ false → Passing item (x ∷ []) old old
  passing_first x old fine = record { passed = tt ∷ []; listing = listing_first alone item x tt old fine tt }

  module _ {begun : List X} {old now : StreamView} (p : Passing item begun old now) where
    -- these are all
    pub passing_all : {A : Type 0} → begins (the 44) now.rest ≡ false → MustPass {A = A} (λ t. items_after 44 item (length t) begun t) old (Ok tt) now
    passing_all stop = listing_all alone item (λ (u : Unit {0}) xs. ⊤) tt stop p.listing tt

    module _ {A : Type 0} {mid later : StreamView} (b : begins (the 44) now.rest ≡ true) (t : mid ≡ advanced now) (k : Takes itself replaced (front is_whitespace mid.rest) (after is_whitespace mid.rest) mid later) where
      -- the next one is missing or bad
      pub passing_refused : {answer : Result (Unit {0}) (ParseFault A)} {fault : ParseFault A} {next new : StreamView} → MayPass item later answer next → DemandsOf itself replaced answer next (Err fault) new → MustPass (λ t. items_after 44 item (length t) begun t) old (Err fault) new
      passing_refused {answer = answer} {fault = fault} h d = must_refuse alone (listing_refused alone item b t k p.listing (λ (u : Unit {0}). []) (insisted_mean alone answer (Err fault) h d).read)

      -- it was passed
      pub passing_more : {answer : Result (Unit {0}) (ParseFault A)} {next ready new : StreamView} → MayPass item later answer next → DemandsOf itself replaced answer next (Ok tt) ready → Takes itself replaced (front is_whitespace ready.rest) (after is_whitespace ready.rest) ready new → Passing item begun old new
      passing_more {answer = answer} h d s = record { passed = p.passed ++ tt ∷ []; listing = listing_more alone item b t k p.listing (λ y x i. i) (insisted_mean alone answer (Ok tt) h d) s }

  -- the next one consumes at least one character
  pub passing_falls : {A : Type 0} (now : StreamView) {mid later next ready new : StreamView} {answer : Result (Unit {0}) (ParseFault A)} → begins (the 44) now.rest ≡ true → mid ≡ advanced now → Takes itself replaced (front is_whitespace mid.rest) (after is_whitespace mid.rest) mid later
      → MayPass item later answer next → DemandsOf itself replaced answer next (Ok tt) ready → Takes itself replaced (front is_whitespace ready.rest) (after is_whitespace ready.rest) ready new → length new.rest < length now.rest
  passing_falls {A = A} now {answer = answer} b t k h d s = item_falls alone item {A = A} {now = now} b t k (insisted_mean alone answer (Ok tt) h d).read s

  -- the first one was passed, and what follows it
  pub passes_list : {A : Type 0} {old mid new end : StreamView} {r : Result (Unit {0}) (ParseFault A)} → MayPass {A = A} item old (Ok tt) mid → Takes itself replaced (front is_whitespace mid.rest) (after is_whitespace mid.rest) mid new → PassesMore item new r end → MustPass (separated_at 44 item) old r end
  passes_list h k rest = list_some alone item h.read k (λ fine. rest (h.meant tt) fine)

  -- the first one is bad
  pub passes_bad : {A : Type 0} {old new : StreamView} {fault : ParseFault A} → fault.committed ≡ true → MayPass item old (Err fault) new → MustPass (separated_at 44 item) old (Err fault) new
  passes_bad c h = must_refuse alone (list_bad alone item (λ (u : Unit {0}). []) c h.read)

  -- there is none
  pub passes_none : {A : Type 0} {old new : StreamView} {fault : ParseFault A} → fault.committed ≡ false → MayPass item old (Err fault) new → MustPass {A = A} (separated_at 44 item) old (Ok tt) new
  passes_none c h = record { meant = λ _. []; means = tt; read = list_none alone item (λ (u : Unit {0}). []) tt refl c h.read }

-- ---- pairs in brackets
module _ {A : Type 0} (attr : Text → Outcome (AttrView A)) where
  -- what follows the pairs
  abbrev after_pairs : List (Name ℕ × Item ℕ A) → Text → Outcome (List (Name ℕ × Item ℕ A))
  after_pairs ps t = mapped (λ _. ps) (text_at (codes "]") t)

  -- what follows the opening bracket
  abbrev after_bracket : Unit {0} → Text → Outcome (List (Name ℕ × Item ℕ A))
  after_bracket u t = followed (space_at t) (λ _ u. followed (separated_at 44 (pair_in attr) u) after_pairs)

  -- there is no opening bracket
  pub no_bracket : {old new : StreamView} {fault : ParseFault A} → MustRead {Y = Unit {0}} itself replaced (λ u. u) (text_at (codes "[")) old (Err fault) new → MustPass (pairs_at attr any_rule) old (Err fault) new
  unfolding pairs_at
  no_bracket h = must_refuse alone (first_refused alone {sees = λ (u : Unit {0}). []} after_bracket h)

  module _ {old opened ready : StreamView} (h : MustRead {A = A} {Y = Unit {0}} itself replaced (λ u. u) (text_at (codes "[")) old (Ok tt) opened) (k : Takes itself replaced (front is_whitespace opened.rest) (after is_whitespace opened.rest) opened ready) where
    pairs_next : Passed alone (pairs_at attr any_rule) (λ u. followed (separated_at 44 (pair_in attr) u) after_pairs) old ready
    unfolding pairs_at
    pairs_next = spaced alone (λ _ u. followed (separated_at 44 (pair_in attr) u) after_pairs) (first alone after_bracket h) k

    -- a pair is an error
    pub no_pair : {new : StreamView} {fault : ParseFault A} → MustPass (separated_at 44 (pair_in attr)) ready (Err fault) new → MustPass (pairs_at attr any_rule) old (Err fault) new
    no_pair m = must_refuse alone (refuses alone {sees = λ (u : Unit {0}). []} after_pairs pairs_next m.read)

    module _ {listed : StreamView} (m : MustPass {A = A} (separated_at 44 (pair_in attr)) ready (Ok tt) listed) where
      end_next : Passed alone (pairs_at attr any_rule) (after_pairs (m.meant tt)) old listed
      end_next = more alone after_pairs pairs_next m.read

      -- the closing bracket comes, or does not
      pub bracket_ends : (r : Result (Unit {0}) (ParseFault A)) (new : StreamView) → MustRead itself replaced (λ u. u) (text_at (codes "]")) listed r new → MustPass (pairs_at attr any_rule) old r new
      bracket_ends (Ok u) new e = record { meant = λ _. m.meant tt; means = tt; read = last_seen alone (λ (u : Unit {0}). m.meant tt) (λ _. m.meant tt) tt refl end_next e }
      bracket_ends (Err fault) new e = must_refuse alone (refuses_seen alone {sees = λ (u : Unit {0}). []} (λ _. m.meant tt) end_next e)

  -- ---- what an item's entry gives
  -- what follows the location
  abbrev after_location : Option (Written A) → Text → Outcome (Option (Written A) × List (Name ℕ × Item ℕ A))
  after_location l t = mapped (λ ps. (l, ps)) (pairs_at attr any_rule t)

  module _ {Y : Type 0} {see : Y → Option (Written A)} where
    -- the location is an error
    pub no_location : {old new : StreamView} {fault : ParseFault A} → MustRead itself replaced see (entry_location_at attr) old (Err fault) new → MustPass (given_at attr any_rule) old (Err fault) new
    no_location h = must_refuse alone (first_refused alone {sees = λ (u : Unit {0}). (None, [])} after_location h)

    -- the pairs were passed, or are an error
    pub given_ends : {old mid : StreamView} {y : Y} → MustRead {A = A} itself replaced see (entry_location_at attr) old (Ok y) mid → (r : Result (Unit {0}) (ParseFault A)) (new : StreamView) → MustPass (pairs_at attr any_rule) mid r new → MustPass (given_at attr any_rule) old r new
    given_ends {y = y} h (Ok u) new m = record {
      meant = λ _. (see y, m.meant tt);
      means = tt;
      read = last_seen alone (λ (u : Unit {0}). (see y, m.meant tt)) (λ ps. (see y, ps)) tt refl (first alone after_location h) m.read;
    }
    given_ends {y = y} h (Err fault) new m = must_refuse alone (refuses_seen alone {sees = λ (u : Unit {0}). (None, [])} (λ ps. (see y, ps)) (first alone after_location h) m.read)

  -- ---- an entry
  -- what follows the head
  abbrev after_head : Mark ℕ → Text → Outcome (Entry ℕ A (Written A))
  after_head m t = cond (begins_given t) (mapped (λ g. of_item m g.0 g.1) (given_at attr any_rule t)) (mapped (of_once m) (attribute_at attr t))

  -- any index passes
  any_head : {Y : Type 0} {see : Y → Mark ℕ} {old new : StreamView} {r : Result Y (ParseFault A)} → MustRead itself replaced see entry_head_at old r new → MustRead itself replaced see (λ t. tested any_index (entry_head_at t)) old r new
  any_head {see = see} {old = old} {new = new} {r = r} h = record { answers = subst (λ o. Answers itself replaced see (demanded (unless_failed old.failed o)) old r new) (sym (tested_all (entry_head_at old.rest))) h.answers }

  module _ {Y : Type 0} {see : Y → Mark ℕ} where
    -- there is no head
    pub no_head : {old new : StreamView} {fault : ParseFault A} → MustRead itself replaced see entry_head_at old (Err fault) new → MustPass (entry_in attr) old (Err fault) new
    no_head h = must_refuse alone (first_refused alone {sees = λ (u : Unit {0}). of_once a_mark (ident [])} after_head (any_head h))

    module _ {old mid : StreamView} {y : Y} (h : MustRead {A = A} itself replaced see entry_head_at old (Ok y) mid) where
      following : Passed alone (entry_in attr) (after_head (see y)) old mid
      following = first alone after_head (any_head h)

      -- that of an item goes on, and what it gives was passed, or is an error
      pub item_ends : begins_given mid.rest ≡ true → (r : Result (Unit {0}) (ParseFault A)) (new : StreamView) → MustPass (given_at attr any_rule) mid r new → MustPass (entry_in attr) old r new
      item_ends e r new m = go r m
        where
          next : Passed alone (entry_in attr) (λ t. mapped (λ g. of_item (see y) g.0 g.1) (given_at attr any_rule t)) old mid
          next = turned alone (λ t. mapped (λ g. of_item (see y) g.0 g.1) (given_at attr any_rule t)) (rw e refl) following

          go : (r : Result (Unit {0}) (ParseFault A)) → MustPass (given_at attr any_rule) mid r new → MustPass (entry_in attr) old r new
          go (Ok u) m = record {
            meant = λ _. of_item (see y) (m.meant tt).0 (m.meant tt).1;
            means = tt;
            read = last_seen alone (λ (u : Unit {0}). of_item (see y) (m.meant tt).0 (m.meant tt).1) (λ g. of_item (see y) g.0 g.1) tt refl next m.read;
          }
          go (Err fault) m = must_refuse alone (refuses_seen alone {sees = λ (u : Unit {0}). of_once a_mark (ident [])} (λ g. of_item (see y) g.0 g.1) next m.read)

      -- that of an attribute goes on, which was passed, or is an error
      pub once_ends : begins_given mid.rest ≡ false → (r : Result (Unit {0}) (ParseFault A)) (new : StreamView) → MustPass (attribute_at attr) mid r new → MustPass (entry_in attr) old r new
      once_ends e r new m = go r m
        where
          next : Passed alone (entry_in attr) (λ t. mapped (of_once (see y)) (attribute_at attr t)) old mid
          next = turned alone (λ t. mapped (of_once (see y)) (attribute_at attr t)) (rw e refl) following

          go : (r : Result (Unit {0}) (ParseFault A)) → MustPass (attribute_at attr) mid r new → MustPass (entry_in attr) old r new
          go (Ok u) m = record {
            meant = λ _. of_once (see y) (m.meant tt);
            means = tt;
            read = last_seen alone (λ (u : Unit {0}). of_once (see y) (m.meant tt)) (of_once (see y)) tt refl next m.read;
          }
          go (Err fault) m = must_refuse alone (refuses_seen alone {sees = λ (u : Unit {0}). of_once a_mark (ident [])} (of_once (see y)) next m.read)

  -- ---- all entries
  -- all entries of a text
  abbrev all_at : Text → Outcome (List (Entry ℕ A (Written A)))
  all_at t = entries_in attr (length t) [] t

  -- what follows an entry
  abbrev after_entry : ℕ → List (Entry ℕ A (Written A)) → Entry ℕ A (Written A) → Text → Outcome (List (Entry ℕ A (Written A)))
  after_entry n found e t = followed (space_at t) (λ _ u. entries_in attr n (found ++ e ∷ []) u)

  -- the entries that were passed
  pub record EntriesPassed (old now : StreamView) : Type 0 where
    pub found : List (Entry ℕ A (Written A))
    pub room : ℕ
    pub enough : length now.rest ≤ room
    pub passed : Passed alone all_at (entries_in attr room found) old now

  -- none yet
  pub entries_begin : (old : StreamView) → old.failed ≡ false → EntriesPassed old old
  entries_begin old fine = record { found = []; room = length old.rest; enough = omega arith; passed = starts alone all_at (entries_in attr (length old.rest) []) old fine refl }

  entries_end : (n : ℕ) (found : List (Entry ℕ A (Written A))) (text : Text) → begins (the 33) text ≡ false → entries_in attr n found text ≡ Read found [] text
  entries_end zero found text e = refl
  entries_end (suc n) found text e = rw e refl

  some_room : (n : ℕ) (text : Text) → begins (the 33) text ≡ true → length text ≤ n → (k : ℕ) × (n ≡ suc k)
  some_room zero [] e h = absurd (true≢false (sym e))
  some_room zero (c ∷ text) e h = absurd (omega (arith, h))
  some_room (suc n) text e h = (n, refl)

  entries_go_on : (n : ℕ) (found : List (Entry ℕ A (Written A))) (text : Text) → begins (the 33) text ≡ true → entries_in attr (suc n) found text ≡ followed (entry_in attr text) (after_entry n found)
  entries_go_on n found text e = rw e refl

  module _ {old now : StreamView} (p : EntriesPassed old now) where
    -- these are all
    pub entries_all : begins (the 33) now.rest ≡ false → MustPass {A = A} all_at old (Ok tt) now
    entries_all stop = record {
      meant = λ _. p.found;
      means = tt;
      read = ends alone (λ (u : Unit {0}). p.found) tt (turned alone (λ t. Read p.found [] t) (entries_end p.room p.found now.rest stop) p.passed);
    }

    module _ (go : begins (the 33) now.rest ≡ true) where
      room_left : (k : ℕ) × (p.room ≡ suc k)
      room_left = some_room p.room now.rest go p.enough

      to_entry : Passed alone all_at (λ t. followed (entry_in attr t) (after_entry room_left.0 p.found)) old now
      to_entry = turned alone (λ t. followed (entry_in attr t) (after_entry room_left.0 p.found))
          (ap (λ n. entries_in attr n p.found now.rest) room_left.1 ∙ entries_go_on room_left.0 p.found now.rest go) p.passed

      -- the next one is an error
      pub entries_refused : {new : StreamView} {fault : ParseFault A} → MustPass (entry_in attr) now (Err fault) new → MustPass all_at old (Err fault) new
      entries_refused m = must_refuse alone (refuses alone {sees = λ (u : Unit {0}). []} (after_entry room_left.0 p.found) to_entry m.read)

      module _ {mid new : StreamView} (m : MustPass {A = A} (entry_in attr) now (Ok tt) mid) (s : Takes itself replaced (front is_whitespace mid.rest) (after is_whitespace mid.rest) mid new) where
        pub entries_fall : length new.rest < length now.rest
        entries_fall = entry_shorter attr [] (λ i. any_rule) {E = A} any_index m.read s

        -- it was passed, and the white space after it
        pub entries_more : EntriesPassed old new
        entries_more = record {
          found = p.found ++ m.meant tt ∷ [];
          room = room_left.0;
          enough = omega (arith, entries_fall, p.enough, room_left.1);
          passed = spaced alone (λ _ u. entries_in attr room_left.0 (p.found ++ m.meant tt ∷ []) u) (more alone (after_entry room_left.0 p.found) to_entry m.read) s;
        }

  -- ---- the section
  abbrev after_word : Unit {0} → Text → Outcome (List (Entry ℕ A (Written A)))
  after_word u t = entries_in attr (length t) [] t

  -- its first word is missing
  pub no_word_there : {old new : StreamView} {fault : ParseFault A} → MustRead {Y = Unit {0}} itself replaced (λ u. u) (spaced_at (codes "outlined_attributes:")) old (Err fault) new → MustPass (section_in attr) old (Err fault) new
  no_word_there h = must_refuse alone (first_refused alone {sees = λ (u : Unit {0}). []} after_word h)

  module _ {old mid : StreamView} (h : MustRead {A = A} {Y = Unit {0}} itself replaced (λ u. u) (spaced_at (codes "outlined_attributes:")) old (Ok tt) mid) where
    pub fine_after_word : mid.failed ≡ false
    fine_after_word = fine_there alone (first alone after_word h)

    -- its entries were passed, or are an error
    pub section_ends : {r : Result (Unit {0}) (ParseFault A)} {new : StreamView} → MustPass all_at mid r new → MustPass (section_in attr) old r new
    section_ends m = record { meant = m.meant; means = m.means; read = last alone (first alone after_word h) m.read }

  -- the section was passed
  pub section_there : {old new : StreamView} → MustPass {A = A} (section_in attr) old (Ok tt) new → SkipsSection attr old true new
  section_there m = let a = answered m.read in (m.meant tt, a.taken, a.is, record { taken = a.taken; takes = a.takes })

  -- its syntax is at fault
  pub section_not_there : {old new : StreamView} {fault : ParseFault A} → old.failed ≡ false → MustPass (section_in attr) old (Err fault) new → (fault_of fault.cause ≡ Memory → ⊥) → SkipsSection attr old false new
  section_not_there fine m other = elim (must_miss fine m.read) [ inl ran_out ↦ absurd (other ran_out.because) | inr missed ↦ missed ]
