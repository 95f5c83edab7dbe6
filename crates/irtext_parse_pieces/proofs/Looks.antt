-- What a search for names implies about a text from which nothing is parsed.
use Rattle.std.proofs.Common.{◌≡◌, ℕ, suc, Bool, true, false, cond, Result, Ok, Err, Option, Some, None, List, [], ◌∷◌, ◌++◌, length, refl, sym, ◌∙◌, ap, subst, ◌⊎◌, inl, inr, true≢false}
use Rattle.std.specs.Char.{is_whitespace}
use Rattle.irtext_base.specs.Text.{Text, begins, front, after, begins_word, in_word}
use Rattle.irtext_base.specs.Reading.{the}
use Rattle.irtext_base.specs.Stream.{advanced}
use Rattle.irtext_base.specs.Answers.{Outcome, Read, Missing, Bad, Takes, Gives, Commits, SameStream, RunsOut, RunsOutHere, Refuses, demanded, prefixed, mapped, followed, unless_failed}
use Rattle.irtext_base.specs.declared.parsable.fault.ParseFault.{ParseFault}
use Rattle.irtext_base.specs.Faults.{Failed}
use Rattle.irtext_base.proofs.Compose.{runs_out_in_rest, same_stream_after, takes_same_stream, takes_none, seen_after, runs_out_after}
use Rattle.irtext_tokens.specs.ListOutcomes.{item_after, items_after, or_empty, separated_at}
use Rattle.irtext_tokens.specs.MustRead.{MayRead}
use Rattle.irtext_tokens.specs.Tokens.{space_at, text_at, word_at}
use Rattle.irtext_tokens.proofs.ListOutcomes.{after_spaces}
use Rattle.irtext_tokens.proofs.Spelling.{begins_the}
use Rattle.irtext_tokens.proofs.Steps.{Lens, Passed, mapped_is_followed, turned, first, took, ends, begins_with, fine_there}
use Rattle.irtext_grammar.specs.Grammar.Tree.{Name}
use Rattle.irtext_grammar.specs.Heads.{name_at, results_at, named}
use Rattle.irtext_grammar.specs.declared.parsed.ReadName.{ReadName}
use Rattle.irtext_parse_pieces.specs.Lists.{IsAfterComma}
use Rattle.irtext_parse_pieces.specs.Named.{whole, MayMean, MayName, MustNames}
use Rattle.irtext_grammar.specs.Parsed.{Represents}
use Rattle.irtext_parse_pieces.specs.Results.{is_read, results_if_at, Looks, LooksAfter}
use Rattle.irtext_parse_pieces.proofs.Meanings.{takes_whole, may_whole}
use Rattle.irtext_parse_pieces.proofs.Listings.{Listing, after_first, first_read, list_names, list_none, listing_next}

read_demanded : {X : Type 0} (o : Outcome X) → is_read (demanded o) ≡ is_read o
read_demanded (Read x t r) = refl
read_demanded (Missing cause) = refl
read_demanded (Bad cause upto) = refl

read_prefixed : {X : Type 0} (t : Text) (o : Outcome X) → is_read (prefixed t o) ≡ is_read o
read_prefixed t (Read x u r) = refl
read_prefixed t (Missing cause) = refl
read_prefixed t (Bad cause upto) = refl

-- if the first part is not parsed, nothing is
unread_followed : {X Y : Type 0} (o : Outcome X) (k : X → Text → Outcome Y) → is_read o ≡ false → is_read (followed o k) ≡ false
unread_followed (Read x t r) k e = absurd (true≢false e)
unread_followed (Missing cause) k e = refl
unread_followed (Bad cause upto) k e = refl

-- without names and `=`, there are no results
pub no_results : (o : Outcome (List (Name ℕ))) (text : Text) → is_read o ≡ false → named o text ≡ Read [] [] text
no_results (Read x t r) text e = absurd (true≢false e)
no_results (Missing cause) text e = refl
no_results (Bad cause upto) text e = refl

-- a word with `.` after it is no list of results
pub dotted_unread : (text rest : Text) → begins begins_word text ≡ true → after in_word text ≡ 46 ∷ rest → is_read (results_at text) ≡ false
unfolding word_at
dotted_unread text rest b e = rw (b, e) refl

-- no item follows the separator
pub next_unread : (n : ℕ) (found : List (Name ℕ)) (text : Text) → is_read (name_at text) ≡ false → is_read (after_spaces 44 name_at n found tt text) ≡ false
next_unread n found text e =
    unread_followed (item_after 44 name_at found text) (λ more v. items_after 44 name_at n more v) (unread_followed (name_at text) (λ x t. mapped (λ _. found ++ (x ∷ [])) (space_at t)) e)

-- a character that does not come next is not parsed
unread_word : {X : Type 0} (k : Unit {0} → X) (c : ℕ) (text : Text) → begins (the c) text ≡ false → is_read (mapped k (text_at (c ∷ []) text)) ≡ false
unread_word k c [] e = refl
unread_word k c (d ∷ text) e = rw e refl

-- what follows the names of results
abbrev after_names : List (Name ℕ) → Text → Outcome (List (Name ℕ))
after_names names t = mapped (λ _. names) (text_at (61 ∷ []) t)

begun_read : (t text : Text) (o : Outcome (List (Name ℕ))) → is_read (prefixed t o) ≡ false → is_read (or_empty (prefixed t o) text) ≡ false
begun_read t text (Read x u r) e = absurd (true≢false e)
begun_read t text (Missing cause) e = refl
begun_read t text (Bad cause upto) e = refl

module _ {S : Type 0} (l : Lens S) where
  -- what is to be parsed is not there
  pub passed_unread : {V : Type 0} {outcome next : Text → Outcome V} {old mid : S} → Passed l outcome next old mid → is_read (next (l.view mid).rest) ≡ false → is_read (outcome (l.view old).rest) ≡ false
  passed_unread {outcome = outcome} {next = next} {old = old} {mid = mid} p e = sym (read_demanded (outcome (l.view old).rest)) ∙ (ap is_read p.so_far ∙ (read_prefixed p.taken (next (l.view mid).rest) ∙ e))

  -- the stream is over the same text
  pub passed_same_stream : {V : Type 0} {outcome next : Text → Outcome V} {old mid : S} → Passed l outcome next old mid → SameStream l.view l.at false old mid
  passed_same_stream {old = old} {mid = mid} p = subst (λ b. SameStream l.view l.at b old mid) p.fine (takes_same_stream l.view l.at l.view_at l.at_at old mid p.taken (l.view mid).rest p.takes)

  -- without names there are no results
  pub none_there : {old mid : S} → (is_read (separated_at 44 name_at (l.view old).rest) ≡ false) × SameStream l.view l.at false old mid → (is_read (results_at (l.view old).rest) ≡ false) × SameStream l.view l.at false old mid
  none_there {old = old} h = (unread_followed (separated_at 44 name_at (l.view old).rest) after_names h.0, h.1)

  -- a word was taken, and `.` follows
  pub dotted_there : (old mid : S) → begins begins_word (l.view old).rest ≡ true → Takes l.view l.at (front in_word (l.view old).rest) (after in_word (l.view old).rest) old mid → begins (the 46) (l.view mid).rest ≡ true → is_read (results_at (l.view old).rest) ≡ false
  dotted_there old mid b t e =
      let v : (l.view mid).rest ≡ after in_word (l.view old).rest = ap (λ w. w.rest) (seen_after l.view l.at l.view_at l.at_at old mid (front in_word (l.view old).rest) (after in_word (l.view old).rest) t) in
      let f = begins_the 46 (l.view mid).rest e in
      dotted_unread (l.view old).rest f.0 b (sym v ∙ f.1)

  begun_unread : (b : Bool) (o : Outcome (List (Name ℕ))) (k : List (Name ℕ) → Text → Outcome (List (Name ℕ))) (text : Text) (old new : S) (x : List (Name ℕ)) → Gives l.view l.at (unless_failed b o) old x new → is_read (followed o k) ≡ false → is_read (or_empty (followed o k) text) ≡ false
  begun_unread true o k text old new x h e = absurd h
  begun_unread false (Read y t r) k text old new x h e = begun_read t text (k y r) e
  begun_unread false (Missing cause) k text old new x h e = absurd h
  begun_unread false (Bad cause upto) k text old new x h e = absurd h

module _ {S A : Type 0} (l : Lens S) where
  unread : {X Y : Type 0} (b : Bool) (o : Outcome X) (see : Y → X) (old new : S) (fault : ParseFault A) → fault.committed ≡ false → RunsOut l.view l.at old fault new ⊎ Refuses l.view l.at (unless_failed b o) old fault new → (is_read o ≡ false) × (new ≡ old)
  unread b o see old new fault c (inl h) = absurd (true≢false (sym h.committed ∙ c))
  unread true o see old new fault c (inr h) = absurd (true≢false (sym h.committed ∙ c))
  unread false (Read x t r) see old new fault c (inr h) = absurd h
  unread false (Missing cause) see old new fault c (inr h) = (refl, h.left)
  unread false (Bad cause upto) see old new fault c (inr h) = absurd (true≢false (sym h.committed ∙ c))

  -- what is missing is not parsed, and the stream stays
  pub missing_unread : {X Y : Type 0} {see : Y → X} {f : Text → Outcome X} {old new : S} {fault : ParseFault A} → MayRead l.view l.at see f old (Err fault) new → fault.committed ≡ false → (is_read (f (l.view old).rest) ≡ false) × (new ≡ old)
  missing_unread {see = see} {f = f} {old = old} {new = new} {fault = fault} h c = unread (l.view old).failed (f (l.view old).rest) see old new fault c h.answers

  -- without `=` after the names there are no results
  pub no_equals : {names : List Text} {old mid : S} {found : List ReadName} → MustNames {A = A} l.view l.at names (separated_at 44 name_at) old (Ok found) mid → begins (the 61) (l.view mid).rest ≡ false → Looks {A = A} l.view l.at names results_at old (Ok None) mid
  no_equals {mid = mid} {found = found} h e =
      let p : Passed l results_at (after_names (h.meant found)) _ mid = first l after_names h.read in
      (passed_unread l p (unread_word (λ _. h.meant found) 61 (l.view mid).rest e), passed_same_stream l p)

  -- the names, and `=` after them
  pub equals_taken : {names : List Text} {old mid new : S} {found : List ReadName} → MustNames {A = A} l.view l.at names (separated_at 44 name_at) old (Ok found) mid → begins (the 61) (l.view mid).rest ≡ true → new ≡ l.at mid (advanced (l.view mid)) → MustNames {A = A} l.view l.at names results_at old (Ok found) new
  equals_taken {mid = mid} {found = found} h e n =
      let p : Passed l results_at (after_names (h.meant found)) _ mid = first l after_names h.read in
      let q = turned l (λ t. followed (text_at (61 ∷ []) t) (λ _ u. Read (h.meant found) [] u)) (mapped_is_followed (λ _. h.meant found) (text_at (61 ∷ []) (l.view mid).rest)) p in
      record { meant = λ _. h.meant found; means = h.means; read = ends l (λ _. h.meant found) found (took l 61 (λ _ u. Read (h.meant found) [] u) q e n) }

  bad_name : (b : Bool) (text : Text) (old new : S) (fault : ParseFault A) → begins begins_word text ≡ b → fault.committed ≡ true → RunsOut l.view l.at old fault new ⊎ Refuses l.view l.at (name_at text) old fault new → RunsOut l.view l.at old fault new
  unfolding word_at
  bad_name b text old new fault e c (inl h) = h
  bad_name true text old new fault e c (inr h) = absurd (rw e at h)
  bad_name false text old new fault e c (inr h) = let m = rw e at h in absurd (true≢false (sym c ∙ m.committed))

  -- a name is never bad: its committed error is out of memory
  pub name_runs_out : {Y : Type 0} {see : Y → Name ℕ} {old new : S} {fault : ParseFault A} → (l.view old).failed ≡ false → MayRead l.view l.at see name_at old (Err fault) new → fault.committed ≡ true → RunsOut l.view l.at old fault new
  name_runs_out {old = old} {new = new} {fault = fault} fine h c = bad_name (begins begins_word (l.view old).rest) (l.view old).rest old new fault refl c (rw fine at h.answers)

  pub passed_runs_out : {V : Type 0} {outcome next : Text → Outcome V} {old mid new : S} {fault : ParseFault A} → Passed l outcome next old mid → RunsOut l.view l.at mid fault new → RunsOut l.view l.at old fault new
  passed_runs_out {old = old} {mid = mid} {new = new} {fault = fault} p h = runs_out_in_rest l.view l.at l.view_at l.at_at old mid new p.taken (l.view mid).rest fault p.takes h

  -- there are none
  pub results_none : {names : List Text} {old new : S} (found : List ReadName) → found ≡ [] → (l.view old).failed ≡ false → is_read (results_at (l.view old).rest) ≡ false → new ≡ old → MustNames {A = A} l.view l.at names results_if_at old (Ok found) new
  results_none {names = names} {old = old} found none fine e n = record {
    meant = λ _. [];
    means = rw none tt;
    read = record { answers = rw (fine, no_results (results_at (l.view old).rest) (l.view old).rest e, n) (refl, takes_none l.view l.at l.view_at l.at_at l.at_view old) };
  }

  -- a stream that had failed is an error
  pub results_fail : {names : List Text} {old new : S} {fault : ParseFault A} → (l.view old).failed ≡ true → Commits l.view l.at Failed [] old fault new → MustNames {A = A} l.view l.at names results_if_at old (Err fault) new
  results_fail e h = record { meant = λ _. []; means = tt; read = record { answers = rw e (inr h) } }

  -- out of memory
  pub results_run_out : {names : List Text} {old start new : S} {fault : ParseFault A} → start ≡ old → RunsOut l.view l.at start fault new → MustNames {A = A} l.view l.at names results_if_at old (Err fault) new
  results_run_out {names = names} {new = new} {fault = fault} still h =
      subst (λ s. MustNames {A = A} l.view l.at names results_if_at s (Err fault) new) still (record { meant = λ _. []; means = tt; read = record { answers = inl h } })

  -- out of memory at the stream's position
  pub passed_here : {V : Type 0} {outcome next : Text → Outcome V} {old mid new : S} {fault : ParseFault A} → Passed l outcome next old mid → RunsOutHere l.view l.at mid fault new → RunsOut l.view l.at old fault new
  passed_here {old = old} {mid = mid} {new = new} {fault = fault} p h = runs_out_after l.view l.at l.view_at l.at_at old mid new p.taken (l.view mid).rest fault p.fine p.takes h

  -- there is a first name, and more are looked for after it
  pub list_looks : (before names : List Text) {old mid new : S} (last : S) {n : ReadName} (r : Result (Option (List ReadName)) (ParseFault A)) → MayName {A = A} l.view l.at before name_at old (Ok n) mid → Takes l.view l.at (front is_whitespace (l.view mid).rest) (after is_whitespace (l.view mid).rest) mid new
      → LooksAfter l.view l.at before names n new r last → Looks l.view l.at names (separated_at 44 name_at) old r last
  list_looks before names {old = old} {mid = mid} {new = new} last {n = n} r h k rest = go r rest
    where
      e : whole (l.view new) ≡ whole (l.view old)
      e = takes_whole l mid new (front is_whitespace (l.view mid).rest) (after is_whitespace (l.view mid).rest) k ∙ may_whole l h.read

      i : MayRead {A = A} {Y = ReadName} l.view l.at (λ _. h.meant n ∷ []) (item_after 44 name_at []) old (Ok n) new
      i = first_read l name_at h.read k

      p : Passed l (λ t. followed (item_after 44 name_at [] t) (after_first name_at)) (after_first name_at (h.meant n ∷ [])) old new
      p = begins_with l (after_first name_at) i

      go : (r : Result (Option (List ReadName)) (ParseFault A)) → LooksAfter l.view l.at before names n new r last → Looks l.view l.at names (separated_at 44 name_at) old r last
      go (Ok (Some found)) rest = list_names l name_at before names h k rest
      go (Ok None) rest =
          let x = rest (h.meant n) (subst (λ t. Represents before t n (h.meant n)) (sym e) h.means) (fine_there l p) in (
            begun_unread l (l.view old).failed (item_after 44 name_at [] (l.view old).rest) (after_first name_at) (l.view old).rest old new (h.meant n ∷ []) i.answers (passed_unread l p x.0),
            same_stream_after l.view l.at l.view_at l.at_at false old new last p.taken (l.view new).rest p.takes x.1,
          )
      go (Err fault) rest = passed_runs_out p (rest (h.meant n) (subst (λ t. Represents before t n (h.meant n)) (sym e) h.means) (fine_there l p))

  -- an uncommitted error in place of a name, after these: no names are found
  pub next_unlooked : (names : List Text) {Means Other : ReadName → Name ℕ → Type 0} {begun : List (Name ℕ)} {old now later new : S} {found : List ReadName} {fault : ParseFault A} (r : Result (Option (List ReadName)) (ParseFault A)) → IsAfterComma l.view l.at now later → Listing l name_at Means begun old now found
      → MayMean l.view l.at Other name_at later (Err fault) new → cond fault.committed (r ≡ Err fault) (r ≡ Ok None) → Looks l.view l.at names (λ t. items_after 44 name_at (length t) begun t) old r new
  next_unlooked names {begun = begun} {old = old} {later = later} {new = new} {fault = fault} r comma p m h = go fault.committed refl h
    where
      q : (n : ℕ) × (p.so_far.room ≡ suc n) × Passed l (λ t. items_after 44 name_at (length t) begun t) (after_spaces 44 name_at n p.items tt) old later
      q = listing_next l name_at comma.comes comma.taken comma.spaced p

      go : (b : Bool) → fault.committed ≡ b → cond b (r ≡ Err fault) (r ≡ Ok None) → Looks l.view l.at names (λ t. items_after 44 name_at (length t) begun t) old r new
      go true c e = rw e (passed_runs_out q.2 (name_runs_out (fine_there l q.2) m.read c))
      go false c e =
          let n = missing_unread m.read c in
          rw e (passed_unread l q.2 (next_unread q.0 p.items (l.view later).rest n.0), subst (λ s. SameStream l.view l.at false old s) (sym n.1) (passed_same_stream l q.2))

  -- the same of the first name: then there are none
  pub first_unlooked : (names : List Text) {Means : ReadName → Name ℕ → Type 0} {old new : S} {fault : ParseFault A} (none : List ReadName) (r : Result (Option (List ReadName)) (ParseFault A)) → none ≡ [] → (l.view old).failed ≡ false → MayMean l.view l.at Means name_at old (Err fault) new
      → cond fault.committed (r ≡ Err fault) (r ≡ Ok (Some none)) → Looks l.view l.at names (separated_at 44 name_at) old r new
  first_unlooked names {old = old} {new = new} {fault = fault} none r empty fine m h = go fault.committed refl h
    where
      go : (b : Bool) → fault.committed ≡ b → cond b (r ≡ Err fault) (r ≡ Ok (Some none)) → Looks l.view l.at names (separated_at 44 name_at) old r new
      go true c e = rw e (name_runs_out fine m.read c)
      go false c e = rw e (record { meant = λ _. []; means = rw empty tt; read = list_none l name_at (λ _. []) none refl c m.read })
