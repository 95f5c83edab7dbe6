-- How far the text of entries was parsed: one entry more, or none, or an error.
use Rattle.std.proofs.Common.{◌≡◌, ◌∙◌, ◌<◌, ◌≤◌, ℕ, zero, suc, Bool, true, false, Ok, Err, List, [], ◌∷◌, ◌++◌, length, length-append, refl, sym, ap, arith, true≢false}
use Rattle.std.specs.Char.{is_whitespace}
use Rattle.irtext_base.specs.Text.{Text, begins, front, after}
use Rattle.irtext_base.specs.Reading.{the}
use Rattle.irtext_base.specs.Stream.{StreamView}
use Rattle.irtext_base.specs.Answers.{Outcome, Read, Takes, RunsOutHere, followed}
use Rattle.irtext_base.specs.Locations.{AttrView}
use Rattle.irtext_base.specs.Paths.{Written}
use Rattle.irtext_base.specs.declared.parsable.fault.ParseFault.{ParseFault}
use Rattle.irtext_tokens.specs.MustRead.{MustRead}
use Rattle.irtext_tokens.specs.Tokens.{space_at}
use Rattle.irtext_tokens.proofs.Steps.{alone, Passed, starts, turned, more, spaced, ends, refuses, ran_out}
use Rattle.irtext_grammar.specs.Grammar.Section.{Entry}
use Rattle.irtext_grammar.specs.Names.Acts.{Rule}
use Rattle.irtext_grammar.specs.Readers.Streams.{itself, replaced}
use Rattle.irtext_grammar.proofs.Readers.Answered.{answered}
use Rattle.irtext_grammar.specs.Entries.{entry_at, may_have, entries_after}
use Rattle.irtext_grammar.proofs.Grows.{grows_entry, less_left}
use Rattle.irtext_parse_section.specs.Entries.{TextSoFar}

some_left : (n : ℕ) (text : Text) → begins (the 33) text ≡ true → length text ≤ n → (k : ℕ) × (n ≡ suc k)
some_left zero [] e h = absurd (true≢false (sym e))
some_left zero (c ∷ text) e h = absurd (omega (arith, h))
some_left (suc n) text e h = (n, refl)

module _ {A : Type 0} (attr : Text → Outcome (AttrView A)) (marks : List ℕ) (rules : ℕ → Rule A) where
  -- all entries of a text
  abbrev pub all_at : Text → Outcome (List (Entry ℕ A (Written A)))
  all_at t = entries_after attr marks rules (length t) [] t

  -- what follows an entry's white space
  abbrev after_spaces : ℕ → List (Entry ℕ A (Written A)) → Entry ℕ A (Written A) → Unit {0} → Text → Outcome (List (Entry ℕ A (Written A)))
  after_spaces n found e u t = entries_after attr marks rules n (found ++ e ∷ []) t

  -- what follows an entry
  abbrev after_entry : ℕ → List (Entry ℕ A (Written A)) → Entry ℕ A (Written A) → Text → Outcome (List (Entry ℕ A (Written A)))
  after_entry n found e t = followed (space_at t) (after_spaces n found e)

  -- where no `!` follows, there are no more entries
  entries_end : (n : ℕ) (found : List (Entry ℕ A (Written A))) (text : Text) → begins (the 33) text ≡ false → entries_after attr marks rules n found text ≡ Read found [] text
  entries_end zero found text e = refl
  entries_end (suc n) found text e = rw e refl

  -- where one follows, there is an entry
  entries_go_on : (n : ℕ) (found : List (Entry ℕ A (Written A))) (text : Text) → begins (the 33) text ≡ true → entries_after attr marks rules (suc n) found text ≡ followed (entry_at attr (may_have marks found) rules text) (after_entry n found)
  entries_go_on n found text e = rw e refl

  -- an entry and its white space consume at least one character
  pub entry_shorter : {Y E : Type 0} (test : ℕ → Bool) {see : Y → Entry ℕ A (Written A)} {now mid new : StreamView} {y : Y} → MustRead {A = E} itself replaced see (entry_at attr test rules) now (Ok y) mid
      → Takes itself replaced (front is_whitespace mid.rest) (after is_whitespace mid.rest) mid new → length new.rest < length now.rest
  entry_shorter test {see} {now} {mid} {new} {y} k s =
      let a = answered k in
      let less = less_left (entry_at attr test rules now.rest) (see y) a.taken mid.rest now.rest (grows_entry attr test rules now.rest) a.is a.takes.same in
      let left : new.rest ≡ after is_whitespace mid.rest = ap (λ v. v.rest) s.is in
      omega (arith, less, ap length left, ap length s.same, length-append (front is_whitespace mid.rest) (after is_whitespace mid.rest))

  -- no entry was parsed yet
  pub text_begins : (old : StreamView) → old.failed ≡ false → TextSoFar attr marks rules old old []
  text_begins old fine =
      let p = starts alone all_at (entries_after attr marks rules (length old.rest) []) old fine refl in
      record { fine = fine; moves = record { taken = p.taken; takes = p.takes }; room = length old.rest; enough = omega arith; completes = p.so_far }

  module _ {old now : StreamView} {found : List (Entry ℕ A (Written A))} (h : TextSoFar attr marks rules old now found) where
    so_far : Passed alone all_at (entries_after attr marks rules h.room found) old now
    so_far = record { fine = h.fine; taken = h.moves.taken; takes = h.moves.takes; so_far = h.completes }

    -- where no `!` follows, these are all
    pub text_ends : {Y E : Type 0} (sees : Y → List (Entry ℕ A (Written A))) (y : Y) → sees y ≡ found → begins (the 33) now.rest ≡ false → MustRead {A = E} itself replaced sees all_at old (Ok y) now
    text_ends sees y e stop = ends alone sees y (turned alone (λ t. Read (sees y) [] t) (entries_end h.room found now.rest stop ∙ ap (λ z. Read z [] now.rest) (sym e)) so_far)

    -- out of memory after them
    pub text_ran_out_here : {X F : Type 0} {new : StreamView} {fault : ParseFault F} (sees : X → List (Entry ℕ A (Written A))) → RunsOutHere itself replaced now fault new → MustRead itself replaced sees all_at old (Err fault) new
    text_ran_out_here sees s = ran_out alone {sees = sees} so_far s

    module _ (go : begins (the 33) now.rest ≡ true) (test : ℕ → Bool) (same : (j : ℕ) → test j ≡ may_have marks found j) where
      room_left : (k : ℕ) × (h.room ≡ suc k)
      room_left = some_left h.room now.rest go h.enough

      -- an entry is to be parsed, by this test of its index
      to_entry : Passed alone all_at (λ t. followed (entry_at attr test rules t) (after_entry room_left.0 found)) old now
      to_entry = turned alone (λ t. followed (entry_at attr test rules t) (after_entry room_left.0 found))
          (ap (λ n. entries_after attr marks rules n found now.rest) room_left.1 ∙ (entries_go_on room_left.0 found now.rest go
          ∙ ap (λ (test : ℕ → Bool). followed (entry_at attr test rules now.rest) (after_entry room_left.0 found)) (λ i j. sym (same j) i)))
          so_far

      -- it is an error
      pub text_refused : {X Y E : Type 0} {see : Y → Entry ℕ A (Written A)} {new : StreamView} {fault : ParseFault E} (sees : X → List (Entry ℕ A (Written A))) → MustRead itself replaced see (entry_at attr test rules) now (Err fault) new → MustRead itself replaced sees all_at old (Err fault) new
      text_refused sees k = refuses alone {sees = sees} (after_entry room_left.0 found) to_entry k

      module _ {Y E : Type 0} {see : Y → Entry ℕ A (Written A)} {mid : StreamView} {y : Y} (k : MustRead {A = E} itself replaced see (entry_at attr test rules) now (Ok y) mid) where
        to_space : Passed alone all_at (after_entry room_left.0 found (see y)) old mid
        to_space = more alone (after_entry room_left.0 found) to_entry k

        -- out of memory after it
        pub text_ran_out : {X F : Type 0} {new : StreamView} {fault : ParseFault F} (sees : X → List (Entry ℕ A (Written A))) → RunsOutHere itself replaced mid fault new → MustRead itself replaced sees all_at old (Err fault) new
        text_ran_out sees s = ran_out alone {sees = sees} to_space s

        module _ {new : StreamView} (s : Takes itself replaced (front is_whitespace mid.rest) (after is_whitespace mid.rest) mid new) where
          -- it was parsed, and the white space after it consumed
          pub text_more : TextSoFar attr marks rules old new (found ++ see y ∷ [])
          text_more =
              let p = spaced alone (after_spaces room_left.0 found (see y)) to_space s in
              record { fine = h.fine; moves = record { taken = p.taken; takes = p.takes }; room = room_left.0; enough = omega (arith, entry_shorter test k s, h.enough, room_left.1); completes = p.so_far }
