-- An operation's end, parsed and done: its results and then its mark, or which error there is in them.
use Rattle.std.proofs.Common.{◌≡◌, ◌∙◌, inl, inr, ℕ, true, false, List, [], ◌∷◌, ◌++◌, length, Option, Some, None, Ok, Err, sym, ap, subst}
use Rattle.irtext_base.specs.Text.{Text, begins}
use Rattle.irtext_base.specs.Reading.{the}
use Rattle.irtext_base.specs.Stream.{StreamView}
use Rattle.irtext_base.specs.Answers.{Outcome, Read, Refuses, demanded, unless_failed, Missing, Bad}
use Rattle.irtext_base.specs.Locations.{AttrView}
use Rattle.irtext_base.specs.declared.parsable.fault.ParseFault.{ParseFault}
use Rattle.irtext_base.proofs.Sincere.{Of, of_mapped}
use Rattle.irtext_tokens.specs.Demanded.{index_at}
use Rattle.irtext_tokens.specs.Infix.{◌▷◌}
use Rattle.irtext_tokens.specs.MustRead.{MustRead}
use Rattle.irtext_tokens.specs.Tokens.{space_at}
use Rattle.irtext_tokens.proofs.Honest.{Honest, ◌then◌, seen, honest_either, honest_space, honest_index}
use Rattle.irtext_tokens.proofs.Steps.{alone}
use Rattle.irtext_parse_state.specs.States.{marks_of}
use Rattle.irtext_parse_state.specs.declared.parsable.state.State as code
use Rattle.irtext_parse_state.specs.declared.parsable.state.StateStream.{StateStream}
use Rattle.irtext_grammar.specs.Contexts.Held.{whole}
use Rattle.irtext_grammar.specs.Grammar.Tree.{Mark}
use Rattle.irtext_grammar.specs.Promises.Root.{UnlessMemory}
use Rattle.irtext_grammar.specs.Promises.Section.{indices_of}
use Rattle.irtext_grammar.specs.Readers.Streams.{itself, replaced}
use Rattle.irtext_grammar.proofs.Readers.Answered.{Answered, answered}
use Rattle.irtext_grammar.proofs.Readers.Honest.{honest_nothing}
use Rattle.irtext_grammar.specs.Heads.{mark_at, mark_if_at}
use Rattle.irtext_grammar.specs.Resume.{OpenOperation}
use Rattle.irtext_grammar.specs.declared.parsed.ReadMark.{ReadMark}
use Rattle.irtext_grammar.specs.Parsed.{IsMarkIf}
use Rattle.irtext_parse_pieces.specs.Named.{MustMean}
use Rattle.irtext_parse_pieces.proofs.Meanings.{must_whole}
use Rattle.irtext_parse_nested.specs.declared.frame.BegunOperation.{BegunOperation}
use Rattle.irtext_parse_nested.specs.OpenOperation.{pledge_of}
use Rattle.irtext_names.specs.Carriers.{noted_as}
use Rattle.irtext_parse_nested.specs.Ends.{closes_at, NotesMark, RefusesMark}
use Rattle.irtext_names.specs.Items.{Names, Acts}
use Rattle.irtext_parse_nested.specs.Read.{EndsOperation, RefusesEnd, no_mark, same_mark}
use Rattle.irtext_parse_nested.proofs.OperationClosed.{noted_is}
use Rattle.irtext_parse_nested.proofs.Faults.{StaysWithin, must_demand}
use Rattle.irtext_parse_nested.proofs.Marking.{acts_then, fails_then, note_acts, mark_fails}

-- ---- the parser of the end
-- white space, and a mark if there is one
abbrev end_at : Text → Outcome (Option (Mark ℕ))
end_at = space_at ▷ mark_if_at

pub honest_mark : Honest mark_at
honest_mark = record { of = λ text. of_mapped text (λ i. record { place = length text; index = i }) (index_at text) (honest_index.of text) }

honest_end : Honest end_at
honest_end = ◌then◌ honest_space (honest_either (begins (the 33)) (seen Some honest_mark) (honest_nothing None))

-- what is of its text stays within it
pub within_honest : {X : Type 0} {f : Text → Outcome X} → Honest f → StaysWithin f
within_honest h = record { within = λ text cause upto e. (subst (Of text) e (h.of text)).says.1 }

-- the error of a required parser is committed
pub must_commit : {X Y A : Type 0} {see : Y → X} {f : Text → Outcome X} {old new : StreamView} {fault : ParseFault A} → old.failed ≡ false → MustRead {Y = Y} itself replaced see f old (Err fault) new → fault.committed ≡ true
must_commit {X} {f = f} {old = old} {new = new} {fault = fault} fine h = elim h.answers [
  | inl ran_out ↦ ran_out.committed
  | inr refused ↦ go (f old.rest) (subst (λ b. Refuses itself replaced (demanded (unless_failed b (f old.rest))) old fault new) fine refused)
]
  where
    go : (o : Outcome X) → Refuses itself replaced (demanded o) old fault new → fault.committed ≡ true
    go (Read x taken rest) r = absurd r
    go (Missing cause) r = r.committed
    go (Bad cause upto) r = r.committed

module _ {T A U X : Type 0} (types_at : Text → Outcome T) (attr : Text → Outcome (AttrView A)) (o : OpenOperation T A) (b : BegunOperation) (before names : Names) (old : StateStream T A U) (mid : code.State T A U) (item : X) (marks : List (ℕ × X))
    (closes : Acts (closes_at o old.state) before old.state (pledge_of b o.place ∷ []) names mid []) (were : indices_of (marks_of mid) ≡ indices_of marks) (s v : StreamView) (same : s ≡ old.stream) where
  -- the mark was parsed
  there : (read : Option ReadMark) (h : MustMean {A = A} itself replaced (IsMarkIf (whole s)) end_at s (Ok read) v) → Answered (end_at old.stream.rest) old.stream (h.meant read) v
  there read h = subst (λ w. Answered (end_at w.rest) w (h.meant read) v) same (answered {A = A} h.read)

  means : (read : Option ReadMark) (h : MustMean {A = A} itself replaced (IsMarkIf (whole s)) end_at s (Ok read) v) → IsMarkIf (whole old.stream) read (h.meant read)
  means read h = subst (λ w. IsMarkIf (whole w) read (h.meant read)) same h.means

  -- it was recorded
  pub end_read : (new : StateStream T A U) (read : Option ReadMark) (later : List (ℕ × X)) → new.stream ≡ v → MustMean {A = A} itself replaced (IsMarkIf (whole s)) end_at s (Ok read) v → NotesMark read item marks later
      → indices_of (marks_of new.state) ≡ indices_of later → new.state.ctx.now ≡ mid.ctx.now → EndsOperation types_at attr o b before old names new
  end_read new read later e h n are ctx =
      let a = subst (λ w. Answered (end_at old.stream.rest) old.stream (h.meant read) w) (sym e) (there read h) in
      record {
        mark = h.meant read;
        taken = a.taken;
        read = a.is;
        moves = record { taken = a.taken; takes = a.takes };
        acts = acts_then closes (note_acts names (whole old.stream) mid new.state item read (h.meant read) marks later (means read h) n were are ctx);
      }

  -- its index is recorded already
  pub end_marked : (fault : ParseFault A) (read : Option ReadMark) → MustMean {A = A} itself replaced (IsMarkIf (whole s)) end_at s (Ok read) v → UnlessMemory (RefusesMark (whole v) read marks) fault
      → UnlessMemory (RefusesEnd types_at attr o b before old) fault
  end_marked fault read h u = elim u [
    | inl ran_out ↦ inl ran_out
    | inr r ↦ let a = there read h in inr (same_mark (h.meant read) a.taken v.rest a.is (fails_then closes (mark_fails names (whole old.stream) mid mid fault read (h.meant read) marks (means read h) (subst (λ t. RefusesMark t read marks fault) (must_whole alone {A = A} h.read ∙ ap whole same) r) were)))
  ]

  -- none can be parsed
  pub end_unread : (fault : ParseFault A) (m : StateStream T A U) → m.state ≡ mid → s.failed ≡ false → MustMean {A = A} {Y = Option ReadMark} itself replaced (IsMarkIf (whole s)) end_at s (Err fault) v → UnlessMemory (RefusesEnd types_at attr o b before old) fault
  end_unread fault m e fine h = elim (must_demand alone end_at (within_honest honest_end) fine h.read) [
    | inl ran_out ↦ inl ran_out
    | inr d ↦ inr (no_mark names m (subst (λ z. Acts (closes_at o old.state) before old.state (pledge_of b o.place ∷ []) names z []) (sym e) closes) (rw (← same) d))
  ]

-- the mark that was recorded is the one in the text
pub end_noted : {T A U X : Type 0} (old : StateStream T A U) (mid : code.State T A U) (item : X) (s v : StreamView) (same : s ≡ old.stream) {were later : List (ℕ × X)} {before : List (ℕ × X)} → were ≡ before → (new : StateStream T A U) (read : Option ReadMark) → new.stream ≡ v
    → MustMean {A = A} itself replaced (IsMarkIf (whole s)) end_at s (Ok read) v → NotesMark read item were later → (mark : Option (Mark ℕ)) (taken : Text) → end_at old.stream.rest ≡ Read mark taken new.stream.rest → later ≡ before ++ noted_as mark item
end_noted {A = A} {X = X} old mid item s v same {were} {later} {before} marks new read e h n mark taken is =
    let a = subst (λ w. Answered (end_at w.rest) w (h.meant read) v) same (answered {A = A} h.read) in
    let means = subst (λ w. IsMarkIf (whole w) read (h.meant read)) same h.means in
    let one : h.meant read ≡ mark = let f = sym a.is ∙ (is ∙ ap (λ w. Read mark taken w.rest) e) in cc f in
    noted_is (whole old.stream) item read (h.meant read) were later means n ∙ (λ i. marks i ++ noted_as (one i) item)
