-- The id of an operation after a lead, found by its text or parsed and looked up.
use Rattle.std.proofs.Common.{◌≡◌, ℕ, Bool, true, false, List, Option, None, Some, is_some, IfOk, Result, Ok, Err, [], ◌∷◌, ◌++◌, length, not, eqb, refl, sym, ◌∙◌, ap, subst, cond, append_assoc, append-nil, ◌⊎◌, inl, inr, option_and_then}
use Rattle.std.specs.Prelude.{OnOk, IfErr, IfSome}
use Rattle.std.specs.Map.{lookup}
use Rattle.std.specs.Str.{encode_utf8_all}
use denote.Ref.{Bor}
use Rattle.irtext_base.specs.Text.{Text, begins, front, after, begins_word, in_word}
use Rattle.irtext_base.specs.Reading.{the}
use Rattle.irtext_base.specs.Stream.{advanced}
use Rattle.irtext_base.specs.Format.{Id}
use Rattle.irtext_base.specs.Faults.{Fault, UnregisteredOp, UnregisteredDialect, id_of}
use Rattle.irtext_base.specs.Answers.{Outcome, Read, Missing, Bad, Takes, Gives, SameStream, RunsOut, RunsOutHere, Refuses, Commits, Answers, DemandsOf, demanded, followed, mapped, prefixed, unless_failed}
use Rattle.irtext_base.specs.Places.{IsPlaceAfter}
use Rattle.irtext_base.specs.declared.base.identifier.OpId.{OpId}
use Rattle.irtext_base.specs.declared.parsable.fault.ParseFault.{ParseFault}
use Rattle.irtext_stream.specs.declared.position.Place.{Place}
use Rattle.irtext_base.proofs.Compose.{seen_after, takes_none, takes_more, takes_same_stream, runs_out_after, answers_after, answers_demanded, same_stream_failed, gives_mapped, refuses_mapped}
use Rattle.irtext_context.specs.Dialects.{Table, same_id}
use Rattle.irtext_context.specs.DialectTable as table
use Rattle.irtext_context.specs.DialectTable.{dialect_of, registered}
use Rattle.irtext_context.specs.Named.{id_of_texts}
use Rattle.irtext_tokens.specs.Tokens.{id_at, id_with, word_at, space_at}
use Rattle.irtext_tokens.proofs.SetBack.{set_within}
use Rattle.irtext_tokens.proofs.Spelling.{begins_the, takes_next, takes_none_is}
use Rattle.irtext_tokens.proofs.Steps.{Lens}
use Rattle.irtext_tokens.proofs.Words.{taken_since}
use Rattle.irtext_grammar.specs.Contexts.Formats.{op_id}
use Rattle.irtext_grammar.specs.Readers.Parts.{after_lead, is_led}
use Rattle.irtext_grammar.specs.Readers.Operations.{registered_after, Registers, RefusesAt}
use Rattle.std.specs.Char.{is_whitespace}
use Rattle.irtext_grammar.specs.Grammar.Tree.{Name}
use Rattle.irtext_grammar.specs.Heads.{lead_at, led_by, led_at}
use Rattle.irtext_grammar.proofs.Readers.Leads.{is_led-bytes}
use Rattle.irtext_grammar.specs.declared.parsed.ReadName.{ReadName}
use Rattle.irtext_parse_pieces.specs.Named.{whole, MayMean, MustMean, MustNames}
use Rattle.irtext_parse_pieces.specs.Results.{results_if_at}
use Rattle.irtext_parse_pieces.specs.Ids.{TakesId, IsLed, id_in, AnswersLed}

-- a word, `.` and a word are an id
id_there : (text name : Text) → begins begins_word text ≡ true → after in_word text ≡ 46 ∷ name → begins begins_word name ≡ true
    → id_at text ≡ Read (id_with (front in_word text) (front in_word name)) (front in_word text ++ (46 ∷ front in_word name)) (after in_word name)
unfolding id_at word_at
id_there text name b e c = rw (b, e, c) refl

module _ {S : Type 0} (l : Lens S) where
  -- a word was taken, and `.` after it
  pub record Dotted (old mid : S) : Type 0 where
    pub begun : begins begins_word (l.view old).rest ≡ true
    pub between : after in_word (l.view old).rest ≡ 46 ∷ (l.view mid).rest
    pub takes : Takes l.view l.at (front in_word (l.view old).rest ++ (46 ∷ [])) (l.view mid).rest old mid

  pub dotted : (old word mid : S) → begins begins_word (l.view old).rest ≡ true → Takes l.view l.at (front in_word (l.view old).rest) (after in_word (l.view old).rest) old word → begins (the 46) (l.view word).rest ≡ true → mid ≡ l.at word (advanced (l.view word)) → Dotted old mid
  dotted old word mid b t e n =
      let text = (l.view old).rest in
      let v : (l.view word).rest ≡ after in_word text = ap (λ w. w.rest) (seen_after l.view l.at l.view_at l.at_at old word (front in_word text) (after in_word text) t) in
      let f = begins_the 46 (l.view word).rest e in
      let k = takes_next l.view l.at l.view_at l.at_view l.at_at word mid 46 f.0 f.1 n in
      let r : (l.view mid).rest ≡ f.0 = ap (λ w. w.rest) (seen_after l.view l.at l.view_at l.at_at word mid (46 ∷ []) f.0 k) in
      record {
        begun = b;
        between = sym v ∙ (f.1 ∙ ap (λ z. 46 ∷ z) (sym r));
        takes = subst (λ z. Takes l.view l.at (front in_word text ++ (46 ∷ [])) z old mid) (sym r) (takes_more l.view l.at l.view_at l.at_at old word mid (front in_word text) (after in_word text) (46 ∷ []) f.0 t k);
      }

  -- nothing was consumed
  pub unmoved_same_stream : {old new : S} → new ≡ old → SameStream l.view l.at (l.view old).failed old new
  unmoved_same_stream {old = old} e =
      subst (λ s. SameStream l.view l.at (l.view old).failed old s) (sym e) (takes_same_stream l.view l.at l.view_at l.at_at old old [] (l.view old).rest (takes_none l.view l.at l.view_at l.at_at l.at_view old))

  -- after them the stream is over the same text
  pub dotted_same_stream : {old mid new : S} → Dotted old mid → new ≡ mid → SameStream l.view l.at (l.view old).failed old new
  dotted_same_stream {old = old} {mid = mid} d e =
      subst (λ s. SameStream l.view l.at (l.view old).failed old s) (sym e) (takes_same_stream l.view l.at l.view_at l.at_at old mid (front in_word (l.view old).rest ++ (46 ∷ [])) (l.view mid).rest d.takes)

  -- and after one more word
  pub word_same_stream : {old mid new : S} → Dotted old mid → Takes l.view l.at (front in_word (l.view mid).rest) (after in_word (l.view mid).rest) mid new → SameStream l.view l.at (l.view old).failed old new
  word_same_stream {old = old} {mid = mid} {new = new} d t =
      let first = front in_word (l.view old).rest ++ (46 ∷ []) in
      let name = (l.view mid).rest in
      takes_same_stream l.view l.at l.view_at l.at_at old new (first ++ front in_word name) (after in_word name) (takes_more l.view l.at l.view_at l.at_at old mid new first name (front in_word name) (after in_word name) d.takes t)

  takes_id : (old mid new : S) (i : OpId) → Dotted old mid → begins begins_word (l.view mid).rest ≡ true → Takes l.view l.at (front in_word (l.view mid).rest) (after in_word (l.view mid).rest) mid new
      → i ≡ id_of_texts (front in_word (l.view old).rest) (front in_word (l.view mid).rest) → TakesId l.view l.at old i new
  takes_id old mid new i d b t e =
      let text = (l.view old).rest in
      let name = (l.view mid).rest in
      let v : (l.view new).rest ≡ after in_word name = ap (λ w. w.rest) (seen_after l.view l.at l.view_at l.at_at mid new (front in_word name) (after in_word name) t) in
      record {
        taken = front in_word text ++ (46 ∷ front in_word name);
        read = rw (v, e) (id_there text name d.begun d.between b);
        takes = rw v (rw append_assoc at (takes_more l.view l.at l.view_at l.at_at old mid new (front in_word text ++ (46 ∷ [])) name (front in_word name) (after in_word name) d.takes t));
      }

  -- what is found by the texts that were taken has the id that was taken
  pub found_there : {X : Type 0} (old mid new : S) (r : Option (Bor OpId × X)) → Dotted old mid → begins begins_word (l.view mid).rest ≡ true → Takes l.view l.at (front in_word (l.view mid).rest) (after in_word (l.view mid).rest) mid new
      → IfSome r (λ op. op.0.now ≡ id_of_texts (front in_word (l.view old).rest) (front in_word (l.view mid).rest)) → IfSome r (λ op. TakesId l.view l.at old op.0.now new)
  found_there old mid new None d b t e = tt
  found_there old mid new (Some op) d b t e = takes_id old mid new op.0.now d b t e

after_holds : {X : Type 0} (lead : Text) (o : Outcome X) (x : X) (taken rest : Text) → o ≡ Read x taken rest → after_lead lead o ≡ Read x (lead ++ taken) rest
after_holds [] o x taken rest e = e
after_holds (c ∷ lead) o x taken rest e = ap (prefixed (c ∷ lead)) e

dialect_there : (o : Option Table) (id : OpId) → is_some (option_and_then (λ table. lookup (same_id id) table.entries) o) ≡ true → is_some o ≡ true
dialect_there None id e = e
dialect_there (Some table) id e = refl

module _ {S : Type 0} (dialects : List (Text × Table)) (l : Lens S) where
  found_led : (lead : Text) {i : OpId} (mid now : S) → is_some (registered dialects i) ≡ true → (h : TakesId l.view l.at mid i now) → registered_after dialects lead (after_lead lead (id_at (l.view mid).rest)) ≡ Read (id_of i) (lead ++ h.taken) (l.view now).rest
  found_led lead {i = i} mid now known h =
      let d : is_some (dialect_of dialects i.dialect) ≡ true = dialect_there (dialect_of dialects i.dialect) i known in
      let n : is_some (registered dialects (op_id (id_of i))) ≡ true = known in
      ap (registered_after dialects lead) (after_holds lead (id_at (l.view mid).rest) (id_of i) h.taken (l.view now).rest h.read) ∙ rw (d, n) refl

module _ {S A : Type 0} (dialects : List (Text × Table)) (l : Lens S) where
  led_answered : (lead text : Text) (old mid next new : S) (a r : Result OpId (ParseFault A)) → (l.view old).failed ≡ false → Takes l.view l.at lead text old mid → Answers l.view l.at id_of (unless_failed (l.view mid).failed (id_at (l.view mid).rest)) mid a next →
      cond (is_led lead) (DemandsOf l.view l.at a next r new) ((r ≡ a) × (new ≡ next)) → Answers l.view l.at id_of (after_lead lead (id_at text)) old r new
  led_answered [] text old mid next new a r f t h d =
      let e : mid ≡ old = takes_none_is l.view l.at l.view_at l.at_view l.at_at old mid text t in
      let b : Answers l.view l.at id_of (unless_failed (l.view old).failed (id_at (l.view old).rest)) old a next = subst (λ s. Answers l.view l.at id_of (unless_failed (l.view s).failed (id_at (l.view s).rest)) s a next) e h in
      rw (d.0, d.1, t.same) (rw f at b)
  led_answered (c ∷ lead) text old mid next new a r f t h d =
      let v = seen_after l.view l.at l.view_at l.at_at old mid (c ∷ lead) text t in
      let b : Answers l.view l.at id_of (demanded (unless_failed (l.view mid).failed (id_at (l.view mid).rest))) mid r new = answers_demanded l.view l.at l.view_at l.at_at id_of (unless_failed (l.view mid).failed (id_at (l.view mid).rest)) mid next new a r h d in
      let q : demanded (unless_failed (l.view mid).failed (id_at (l.view mid).rest)) ≡ demanded (id_at text) = rw (v, f) refl in
      answers_after l.view l.at l.view_at l.at_at id_of (id_at text) old mid new (c ∷ lead) text r t (subst (λ o. Answers l.view l.at id_of o mid r new) q b)

  refused_at : (cause : Fault) (upto more : Text) (place : Place) (old mid new : S) (fault : ParseFault A) (t r : Text) → upto ++ more ≡ (l.view old).rest → Takes l.view l.at t r old mid → IsPlaceAfter place ((l.view old).passed ++ upto) → RefusesAt l.view l.at cause place mid fault new → Commits l.view l.at cause upto old fault new
  refused_at cause upto more place old mid new fault t r e k p h =
      let s = takes_same_stream l.view l.at l.view_at l.at_at old mid t r k in
      let same = append_assoc (l.view old).passed upto more ∙ (ap (λ z. (l.view old).passed ++ z) e ∙ set_within l old mid s) in
      record { because = h.because; committed = h.committed; place = h.position ((l.view old).passed ++ upto) more same p; left = same_stream_failed l.view l.at l.view_at l.at_at (l.view old).failed old mid new s h.left }

  by_dialect : (b n : Bool) (lead more : Text) (start place : Place) (i : OpId) (t r : Text) (old mid new : S) (fault : ParseFault A) → lead ++ more ≡ (l.view old).rest → Takes l.view l.at t r old mid → IsPlaceAfter start (l.view old).passed → IsPlaceAfter place ((l.view old).passed ++ lead) →
      cond b ((n ≡ false) × RefusesAt l.view l.at (UnregisteredOp (id_of i)) start mid fault new) (RefusesAt l.view l.at (UnregisteredDialect i.dialect) place mid fault new) →
      RunsOut l.view l.at old fault new ⊎ Refuses l.view l.at (cond b (cond n (Read (id_of i) t r) (Bad (UnregisteredOp (id_of i)) [])) (Bad (UnregisteredDialect i.dialect) lead)) old fault new
  by_dialect true n lead more start place i t r old mid new fault e k p q h = inr (rw h.0 (refused_at (UnregisteredOp (id_of i)) [] (l.view old).rest start old mid new fault t r refl k (rw append-nil p) h.1))
  by_dialect false n lead more start place i t r old mid new fault e k p q h = inr (refused_at (UnregisteredDialect i.dialect) lead more place old mid new fault t r e k q h)

  registers : (lead more : Text) (o : Outcome Id) (start place : Place) (i : OpId) (old mid new : S) (r : Result OpId (ParseFault A)) → lead ++ more ≡ (l.view old).rest → IsPlaceAfter start (l.view old).passed → IsPlaceAfter place ((l.view old).passed ++ lead) → Gives l.view l.at o old (id_of i) mid → Registers l.view l.at dialects start place i mid r new
      → Answers l.view l.at id_of (registered_after dialects lead o) old r new
  registers lead more (Read x t q) start place i old mid new (Ok j) e p s h k =
      let d : is_some (dialect_of dialects x.dialect) ≡ true = subst (λ y. is_some (dialect_of dialects y.dialect) ≡ true) h.0 k.0 in
      let n : is_some (table.registered dialects (op_id x)) ≡ true = subst (λ y. is_some (table.registered dialects (op_id y)) ≡ true) h.0 k.1 in
      rw (d, n) (rw k.2 h.0, rw k.3 h.1)
  registers lead more (Read x t q) start place i old mid new (Err fault) e p s h k =
      subst (λ y. RunsOut l.view l.at old fault new ⊎ Refuses l.view l.at (registered_after dialects lead (Read y t q)) old fault new) h.0
      (by_dialect (is_some (dialect_of dialects i.dialect)) (is_some (table.registered dialects i)) lead more start place i t q old mid new fault e h.1 p s k)
  registers lead more (Missing cause) start place i old mid new r e p s h k = absurd h
  registers lead more (Bad cause upto) start place i old mid new r e p s h k = absurd h

  unregistered : (lead : Text) (o : Outcome Id) (old new : S) (fault : ParseFault A) → RunsOut l.view l.at old fault new ⊎ Refuses l.view l.at o old fault new → RunsOut l.view l.at old fault new ⊎ Refuses l.view l.at (registered_after dialects lead o) old fault new
  unregistered lead o old new fault (inl h) = inl h
  unregistered lead (Read x t r) old new fault (inr h) = absurd h
  unregistered lead (Missing cause) old new fault (inr h) = inr h
  unregistered lead (Bad cause upto) old new fault (inr h) = inr h

  -- an id that is found is parsed, unless out of memory
  pub found_after : {X : Type 0} {mid now new : S} {i : OpId} (start : Place) (led : Bool) (r : Result (OpId × X) (ParseFault A)) → TakesId l.view l.at mid i now → is_some (registered dialects i) ≡ true → IfOk r (λ op. op.0 ≡ i) → OnOk r (new ≡ now) → IfErr r (λ fault. RunsOutHere l.view l.at now fault new)
      → AnswersLed {A = A} l.view l.at dialects start led mid (id_in r) new
  found_after {mid = mid} {now = now} {new = new} {i = i} start led (Ok op) h known e n s = record {
    answers = λ old lead fine takes same at.
        rw (found_led dialects l lead mid now known h, n) (ap id_of e, takes_more l.view l.at l.view_at l.at_at old mid now lead (l.view mid).rest h.taken (l.view now).rest takes h.takes);
  }
  found_after {mid = mid} {now = now} {new = new} {i = i} start led (Err fault) h known e n s = record {
    answers = λ old lead fine takes same at.
        inl (runs_out_after l.view l.at l.view_at l.at_at old now new (lead ++ h.taken) (l.view now).rest fault fine (takes_more l.view l.at l.view_at l.at_at old mid now lead (l.view mid).rest h.taken (l.view now).rest takes h.takes) s);
  }

  -- the id is an error
  pub refused_after : {mid new : S} (next : S) (a : Result OpId (ParseFault A)) {fault : ParseFault A} (start : Place) (led : Bool) → Answers l.view l.at id_of (unless_failed (l.view mid).failed (id_at (l.view mid).rest)) mid a next → cond led (DemandsOf l.view l.at a next (Err fault) new) ((Err fault ≡ a) × (new ≡ next))
      → AnswersLed {A = A} l.view l.at dialects start led mid (Err fault) new
  refused_after {mid = mid} {new = new} next a {fault = fault} start led h d = record {
    answers = λ old lead fine takes same at.
        unregistered lead (after_lead lead (id_at (l.view mid).rest)) old new fault (led_answered lead (l.view mid).rest old mid next new a (Err fault) fine takes h (subst (λ b. cond b (DemandsOf l.view l.at a next (Err fault) new) ((Err fault ≡ a) × (new ≡ next))) same d));
  }

  -- the id is parsed, and looked up
  pub registered_led : {mid new : S} (next now : S) (a : Result OpId (ParseFault A)) (i : OpId) (start place : Place) (led : Bool) (r : Result OpId (ParseFault A)) → Answers l.view l.at id_of (unless_failed (l.view mid).failed (id_at (l.view mid).rest)) mid a next → cond led (DemandsOf l.view l.at a next (Ok i) now) ((Ok i ≡ a) × (now ≡ next))
      → IsPlaceAfter place (l.view mid).passed → Registers l.view l.at dialects start place i now r new → AnswersLed {A = A} l.view l.at dialects start led mid r new
  registered_led {mid = mid} {new = new} next now a i start place led r h d q k = record {
    answers = λ old lead fine takes same at.
        let v = seen_after l.view l.at l.view_at l.at_at old mid lead (l.view mid).rest takes in
        let p : IsPlaceAfter place ((l.view old).passed ++ lead) = subst (λ t. IsPlaceAfter place t) (ap (λ w. w.passed) v) q in
        let n = led_answered lead (l.view mid).rest old mid next now a (Ok i) fine takes h (subst (λ b. cond b (DemandsOf l.view l.at a next (Ok i) now) ((Ok i ≡ a) × (now ≡ next))) same d) in
        registers lead (l.view mid).rest (after_lead lead (id_at (l.view mid).rest)) start place i old now new r takes.same at p n k;
  }

-- a lead is never missing
led_refused : {S A : Type 0} (l : Lens S) (dialects : List (Text × Table)) (b : Bool) (t : Text) (o : Outcome (List (Name ℕ))) (old new : S) (fault : ParseFault A) → RunsOut l.view l.at old fault new ⊎ Refuses l.view l.at (demanded (unless_failed b (prefixed t o))) old fault new
    → RunsOut l.view l.at old fault new ⊎ Refuses l.view l.at (unless_failed b (led_by dialects (prefixed t o))) old fault new
led_refused l dialects b t o old new fault (inl h) = inl h
led_refused l dialects true t o old new fault (inr h) = inr h
led_refused l dialects false t (Read x u r) old new fault (inr h) = absurd h
led_refused l dialects false t (Missing cause) old new fault (inr h) = inr h
led_refused l dialects false t (Bad cause upto) old new fault (inr h) = inr h

-- what was taken of a text that was parsed
pub record TookOf {S X : Type 0} (l : Lens S) (outcome : Text → Outcome X) (old : S) (x : X) (new : S) : Type 0 where
  pub fine : (l.view old).failed ≡ false
  pub taken : Text
  pub is : outcome (l.view old).rest ≡ Read x taken (l.view new).rest
  pub takes : Takes l.view l.at taken (l.view new).rest old new

module _ {S : Type 0} (l : Lens S) where
  took_of : {X : Type 0} (outcome : Text → Outcome X) (b : Bool) (o : Outcome X) (old new : S) (x : X) → (l.view old).failed ≡ b → outcome (l.view old).rest ≡ o → Gives l.view l.at (demanded (unless_failed b o)) old x new → TookOf l outcome old x new
  took_of outcome true o old new x f e h = absurd h
  took_of outcome false (Read y t r) old new x f e h =
      let v : (l.view new).rest ≡ r = ap (λ w. w.rest) (seen_after l.view l.at l.view_at l.at_at old new t r h.1) in
      record { fine = f; taken = t; is = rw (h.0, v) e; takes = rw v h.1 }
  took_of outcome false (Missing cause) old new x f e h = absurd h
  took_of outcome false (Bad cause upto) old new x f e h = absurd h

module _ {S A : Type 0} (l : Lens S) where
  -- what was taken for a lead
  pub lead_taken : {names : List Text} {old mid : S} {ns : List ReadName} → (h : MustNames {A = A} l.view l.at names lead_at old (Ok ns) mid) → TookOf l lead_at old (h.meant ns) mid
  lead_taken {old = old} {mid = mid} {ns = ns} h = took_of l lead_at (l.view old).failed (lead_at (l.view old).rest) old mid (h.meant ns) refl refl h.read.answers

  -- whether it is not empty, by the bytes since its beginning
  pub lead_since : {names : List Text} {old mid : S} {ns : List ReadName} (h : MustNames {A = A} l.view l.at names lead_at old (Ok ns) mid) (start : Place) (bytes : List ℕ) (empty : Bool) → IsPlaceAfter start (l.view old).passed
      → ((passed taken : Text) → passed ++ taken ≡ (l.view mid).passed → IsPlaceAfter start passed → bytes ≡ encode_utf8_all taken) → empty ≡ eqb (length bytes) 0 → not empty ≡ is_led (lead_taken h).taken
  lead_since {old = old} {mid = mid} h start bytes empty at since e =
      let t = lead_taken h in
      let w = taken_since l.view l.at l.view_at l.at_at old mid start bytes t.taken (l.view mid).rest t.takes at since in
      ap not e ∙ (ap (λ z. not (eqb (length z) 0)) w ∙ is_led-bytes t.taken)

  -- the lead is an error
  pub lead_refused : {Y : Type 0} {Means : Y → List (Name ℕ) × Id → Type 0} {MeansLead : List ReadName → List (Name ℕ) → Type 0} {old new : S} {fault : ParseFault A} (dialects : List (Text × Table)) → MustMean l.view l.at MeansLead lead_at old (Err fault) new → MayMean l.view l.at Means (led_at dialects) old (Err fault) new
  lead_refused {old = old} {new = new} {fault = fault} dialects h =
      record {
        meant = λ _. ([], record { dialect = []; name = [] });
        means = tt;
        read = record { answers = led_refused l dialects (l.view old).failed (front is_whitespace (l.view old).rest) (followed (results_if_at (after is_whitespace (l.view old).rest)) (λ x v. mapped (λ _. x) (space_at v))) old new fault h.read.answers };
      }

  -- a lead, and the id after it
  pub led_read : {X : Type 0} {names : List Text} {old mid new : S} {ns : List ReadName} {id : OpId} (info : X) (dialects : List (Text × Table)) (start : Place) (led : Bool) (h : MustNames {A = A} l.view l.at names lead_at old (Ok ns) mid) → led ≡ is_led (lead_taken h).taken → IsPlaceAfter start (l.view old).passed → AnswersLed {A = A} l.view l.at dialects start led mid (Ok id) new
      → MayMean {A = A} l.view l.at (IsLed names (whole (l.view old))) (led_at dialects) old (Ok (ns, id, info)) new
  led_read {old = old} {mid = mid} {new = new} {ns = ns} {id = id} info dialects start led h e at k =
      let t = lead_taken h in
      let a = k.answers old t.taken t.fine t.takes e at in
      record {
        meant = λ _. (h.meant ns, id_of id);
        means = (h.means, refl);
        read = record { answers = rw (t.fine, t.is) (gives_mapped l.view l.at l.view_at l.at_at (λ i. (h.meant ns, i)) false (registered_after dialects t.taken (after_lead t.taken (id_at (l.view mid).rest))) old new (id_of id) (h.meant ns, id_of id) refl a) };
      }

  -- a lead, and an error of the id after it
  pub led_missed : {Y : Type 0} {Means : Y → List (Name ℕ) × Id → Type 0} {names : List Text} {old mid new : S} {ns : List ReadName} {fault : ParseFault A} (dialects : List (Text × Table)) (start : Place) (led : Bool) (h : MustNames {A = A} l.view l.at names lead_at old (Ok ns) mid) → led ≡ is_led (lead_taken h).taken → IsPlaceAfter start (l.view old).passed → AnswersLed {A = A} l.view l.at dialects start led mid (Err fault) new
      → MayMean l.view l.at Means (led_at dialects) old (Err fault) new
  led_missed {old = old} {mid = mid} {new = new} {ns = ns} {fault = fault} dialects start led h e at k =
      let t = lead_taken h in
      let a = k.answers old t.taken t.fine t.takes e at in
      record {
        meant = λ _. ([], record { dialect = []; name = [] });
        means = tt;
        read = record { answers = rw (t.fine, t.is) (refuses_mapped l.view l.at l.view_at l.at_at (λ i. (h.meant ns, i)) false (registered_after dialects t.taken (after_lead t.taken (id_at (l.view mid).rest))) old new fault a) };
      }
