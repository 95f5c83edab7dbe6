-- How far a parser of several required parts has come.
use Rattle.std.proofs.Common.{◌≡◌, ℕ, Bool, true, false, Result, Ok, Err, [], ◌∷◌, ◌++◌, refl, sym, ◌∙◌, ap, subst, append-nil, ◌⊎◌, inl, inr}
use Rattle.std.specs.Char.{is_whitespace}
use Rattle.irtext_base.specs.Text.{Text, begins, front, after}
use Rattle.irtext_base.specs.Reading.{the}
use Rattle.irtext_base.specs.Stream.{StreamView, advanced, after_taken}
use Rattle.irtext_base.specs.Answers.{Outcome, Read, Missing, Bad, Takes, RunsOut, RunsOutHere, Refuses, Answers, Gives, DemandsOf, demanded, prefixed, mapped, followed, unless_failed}
use Rattle.irtext_base.specs.declared.parsable.fault.ParseFault.{ParseFault}
use Rattle.irtext_base.proofs.Compose.{takes_none, takes_fine, seen_after, takes_more, answers_after, answers_demanded, runs_out_after, refuses_first, refuses_mapped_demanded}
use Rattle.irtext_base.proofs.Along.{front_after}
use Rattle.irtext_stream.specs.Classes.{after_spaces}
use Rattle.irtext_tokens.specs.Tokens.{space_at, text_at}
use Rattle.irtext_tokens.specs.MustRead.{MustRead, MayRead}
use Rattle.irtext_tokens.proofs.Grammar.{text_at-literal}
use Rattle.irtext_tokens.proofs.Spelling.{prefixed-prefixed, begins_the, takes_next, whole_gives}

-- if nothing was taken, what follows is required
prefixed-none : {X : Type 0} (o : Outcome X) → prefixed [] o ≡ demanded o
prefixed-none (Read x taken rest) = refl
prefixed-none (Missing cause) = refl
prefixed-none (Bad cause upto) = refl

-- a value seen by a function is parsed, and then nothing
pub mapped_is_followed : {X Y : Type 0} (f : X → Y) (o : Outcome X) → mapped f o ≡ followed o (λ x t. Read (f x) [] t)
mapped_is_followed f (Read x taken rest) = ap (λ z. Read (f x) z rest) (sym (append-nil taken))
mapped_is_followed f (Missing cause) = refl
mapped_is_followed f (Bad cause upto) = refl

-- a function of the value is applied to the last of two parts
pub mapped_prefixed : {X Y : Type 0} (f : X → Y) (t : Text) (o : Outcome X) → mapped f (prefixed t o) ≡ prefixed t (mapped f o)
mapped_prefixed f t (Read x taken rest) = refl
mapped_prefixed f t (Missing cause) = refl
mapped_prefixed f t (Bad cause upto) = refl

pub mapped_followed : {X Y V : Type 0} (f : Y → V) (o : Outcome X) (k : X → Text → Outcome Y) → mapped f (followed o k) ≡ followed o (λ x t. mapped f (k x t))
mapped_followed f (Read x taken rest) k = mapped_prefixed f taken (k x rest)
mapped_followed f (Missing cause) k = refl
mapped_followed f (Bad cause upto) k = refl

-- two functions of the value are one
pub mapped_mapped : {X Y V : Type 0} (f : Y → V) (g : X → Y) (h : X → V) (o : Outcome X) → ((x : X) → f (g x) ≡ h x) → mapped f (mapped g o) ≡ mapped h o
mapped_mapped f g h (Read x taken rest) e = ap (λ y. Read y taken rest) (e x)
mapped_mapped f g h (Missing cause) e = refl
mapped_mapped f g h (Bad cause upto) e = refl

-- a stream's view, and the rules that it keeps
pub record Lens (S : Type 0) : Type 0 where
  pub view : S → StreamView
  pub at : S → StreamView → S
  pub view_at : (s : S) (v : StreamView) → view (at s v) ≡ v
  pub at_view : (s : S) → at s (view s) ≡ s
  pub at_at : (s : S) (v w : StreamView) → at (at s v) w ≡ at s w

-- the lens of these
abbrev pub lens : {S : Type 0} (view : S → StreamView) (at : S → StreamView → S) → ((s : S) (v : StreamView) → view (at s v) ≡ v) → ((s : S) → at s (view s) ≡ s) → ((s : S) (v w : StreamView) → at (at s v) w ≡ at s w) → Lens S
lens view at view_at at_view at_at = record { view = view; at = at; view_at = view_at; at_view = at_view; at_at = at_at }

module _ {S : Type 0} (l : Lens S) where
  -- the parser of `outcome` has come to where `next` is to be parsed
  pub record Passed {V : Type 0} (outcome next : Text → Outcome V) (old mid : S) : Type 0 where
    pub fine : (l.view old).failed ≡ false
    pub taken : Text
    pub takes : Takes l.view l.at taken (l.view mid).rest old mid
    pub so_far : demanded (outcome (l.view old).rest) ≡ prefixed taken (next (l.view mid).rest)

  -- what is parsed is parsed on a stream that has not failed
  not_failed : {X : Type 0} (b : Bool) (o : Outcome X) (old mid : S) (x : X) → Gives l.view l.at (demanded (unless_failed b o)) old x mid → b ≡ false
  not_failed true o old mid x h = absurd h
  not_failed false o old mid x h = refl

  -- the parser has not begun
  pub starts : {V : Type 0} (outcome next : Text → Outcome V) (old : S) → (l.view old).failed ≡ false → outcome (l.view old).rest ≡ next (l.view old).rest → Passed outcome next old old
  starts outcome next old f e = record { fine = f; taken = []; takes = takes_none l.view l.at l.view_at l.at_at l.at_view old; so_far = ap demanded e ∙ sym (prefixed-none (next (l.view old).rest)) }

  passed : {X V : Type 0} (outcome : Text → Outcome V) (o : Outcome X) (b : Bool) (k : X → Text → Outcome V) (old mid new : S) (taken : Text) (x : X) → (l.view old).failed ≡ false → Takes l.view l.at taken (l.view mid).rest old mid → demanded (outcome (l.view old).rest) ≡ prefixed taken (followed o k) → Gives l.view l.at (demanded (unless_failed b o)) mid x new → Passed outcome (k x) old new
  passed outcome o true k old mid new taken x f t e h = absurd h
  passed outcome (Read y u r) false k old mid new taken x f t e h =
      let v : (l.view new).rest ≡ r = ap (λ w. w.rest) (seen_after l.view l.at l.view_at l.at_at mid new u r h.1) in
      record {
        fine = f;
        taken = taken ++ u;
        takes = rw v (takes_more l.view l.at l.view_at l.at_at old mid new taken (l.view mid).rest u r t h.1);
        so_far = rw (h.0, v) (e ∙ prefixed-prefixed taken u (k y r));
      }
  passed outcome (Missing cause) false k old mid new taken x f t e h = absurd h
  passed outcome (Bad cause upto) false k old mid new taken x f t e h = absurd h

  -- what is to be parsed may be stated in other words
  pub turned : {V : Type 0} {outcome next : Text → Outcome V} {old mid : S} (other : Text → Outcome V) → next (l.view mid).rest ≡ other (l.view mid).rest → Passed outcome next old mid → Passed outcome other old mid
  turned other e p = record { fine = p.fine; taken = p.taken; takes = p.takes; so_far = p.so_far ∙ ap (prefixed p.taken) e }

  -- one more part is parsed
  pub more : {X Y V A : Type 0} {see : Y → X} {f : Text → Outcome X} {outcome : Text → Outcome V} {old mid new : S} {y : Y} (k : X → Text → Outcome V) → Passed outcome (λ t. followed (f t) k) old mid → MustRead {A = A} l.view l.at see f mid (Ok y) new → Passed outcome (k (see y)) old new
  more {see = see} {f = f} {outcome = outcome} {old = old} {mid = mid} {new = new} {y = y} k p h = passed outcome (f (l.view mid).rest) (l.view mid).failed k old mid new p.taken (see y) p.fine p.takes p.so_far h.answers

  -- the first part is parsed
  pub first : {X Y V A : Type 0} {see : Y → X} {f : Text → Outcome X} {old mid : S} {y : Y} (k : X → Text → Outcome V) → MustRead {A = A} l.view l.at see f old (Ok y) mid → Passed (λ t. followed (f t) k) (k (see y)) old mid
  first {see = see} {f = f} {old = old} {mid = mid} {y = y} k h =
      more k (starts (λ t. followed (f t) k) (λ t. followed (f t) k) old (not_failed (l.view old).failed (f (l.view old).rest) old mid (see y) h.answers) refl) h

  -- white space is passed
  pub spaced : {V : Type 0} {outcome : Text → Outcome V} {old mid new : S} (k : Unit {0} → Text → Outcome V) → Passed outcome (λ t. followed (space_at t) k) old mid → Takes l.view l.at (front is_whitespace (l.view mid).rest) (after is_whitespace (l.view mid).rest) mid new → Passed outcome (k tt) old new
  spaced {outcome = outcome} {old = old} {mid = mid} {new = new} k p h = passed outcome (space_at (l.view mid).rest) false k old mid new p.taken tt p.fine p.takes p.so_far (refl, h)

  -- the result of the last part is the result of all
  pub last : {V Y A : Type 0} {see : Y → V} {f outcome : Text → Outcome V} {old mid new : S} {r : Result Y (ParseFault A)} → Passed outcome f old mid → MustRead l.view l.at see f mid r new → MustRead l.view l.at see outcome old r new
  last {see = see} {f = f} {outcome = outcome} {old = old} {mid = mid} {new = new} {r = r} p h =
      let v : (l.view mid).failed ≡ false = takes_fine l.view l.at l.view_at l.at_at old mid p.taken (l.view mid).rest p.takes p.fine in
      let a : Answers l.view l.at see (demanded (f (l.view mid).rest)) mid r new = rw v at h.answers in
      record { answers = rw (p.fine, p.so_far) (answers_after l.view l.at l.view_at l.at_at see (f (l.view mid).rest) old mid new p.taken (l.view mid).rest r p.takes a) }

  refused : {X V A : Type 0} (o : Outcome X) (k : X → Text → Outcome V) (s : S) (fault : ParseFault A) (new : S) → RunsOut l.view l.at s fault new ⊎ Refuses l.view l.at (demanded o) s fault new → RunsOut l.view l.at s fault new ⊎ Refuses l.view l.at (demanded (followed o k)) s fault new
  refused o k s fault new (inl h) = inl h
  refused (Read x taken rest) k s fault new (inr h) = absurd h
  refused (Missing cause) k s fault new (inr h) = inr h
  refused (Bad cause upto) k s fault new (inr h) = inr h

  -- one more part is an error
  pub refuses : {X Y W V A : Type 0} {see : Y → X} {sees : W → V} {f : Text → Outcome X} {outcome : Text → Outcome V} {old mid new : S} {fault : ParseFault A} (k : X → Text → Outcome V) → Passed outcome (λ t. followed (f t) k) old mid → MustRead l.view l.at see f mid (Err fault) new → MustRead l.view l.at sees outcome old (Err fault) new
  refuses {see = see} {sees = sees} {f = f} {outcome = outcome} {old = old} {mid = mid} {new = new} {fault = fault} k p h =
      let v : (l.view mid).failed ≡ false = takes_fine l.view l.at l.view_at l.at_at old mid p.taken (l.view mid).rest p.takes p.fine in
      let a : Answers l.view l.at see (demanded (f (l.view mid).rest)) mid (Err fault) new = rw v at h.answers in
      let b : Answers l.view l.at sees (demanded (followed (f (l.view mid).rest) k)) mid (Err fault) new = refused (f (l.view mid).rest) k mid fault new a in
      record { answers = rw (p.fine, p.so_far) (answers_after l.view l.at l.view_at l.at_at sees (followed (f (l.view mid).rest) k) old mid new p.taken (l.view mid).rest (Err fault) p.takes b) }

  -- one more part is an error, however its value would be seen
  pub refuses_seen : {X Y W V A : Type 0} {see : Y → X} {sees : W → V} {f : Text → Outcome X} {outcome : Text → Outcome V} {old mid new : S} {fault : ParseFault A} (k : X → V) → Passed outcome (λ t. mapped k (f t)) old mid → MustRead l.view l.at see f mid (Err fault) new → MustRead l.view l.at sees outcome old (Err fault) new
  refuses_seen {see = see} {sees = sees} {f = f} {mid = mid} {new = new} {fault = fault} k p h =
      last p (record { answers = refuses_mapped_demanded l.view l.at l.view_at l.at_at k (l.view mid).failed (f (l.view mid).rest) mid new fault h.answers })

  seen_so : {X V W : Type 0} (sees : W → V) (b : Bool) (o : Outcome X) (k : X → V) (s new : S) (x : X) (w : W) → sees w ≡ k x → Gives l.view l.at (demanded (unless_failed b o)) s x new → Gives l.view l.at (demanded (unless_failed b (mapped k o))) s (sees w) new
  seen_so sees true o k s new x w e h = absurd h
  seen_so sees false (Read y t r) k s new x w e h = (e ∙ ap k h.0, h.1)
  seen_so sees false (Missing cause) k s new x w e h = absurd h
  seen_so sees false (Bad cause upto) k s new x w e h = absurd h

  -- the last part is parsed, and nothing is left to be parsed
  pub more_seen : {X Y V A : Type 0} {see : Y → X} {f : Text → Outcome X} {outcome : Text → Outcome V} {old mid new : S} {y : Y} (k : X → V) → Passed outcome (λ t. mapped k (f t)) old mid → MustRead {A = A} l.view l.at see f mid (Ok y) new → Passed outcome (λ t. Read (k (see y)) [] t) old new
  more_seen {f = f} {mid = mid} k p h = more (λ x t. Read (k x) [] t) (turned (λ t. followed (f t) (λ x u. Read (k x) [] u)) (mapped_is_followed k (f (l.view mid).rest)) p) h

  -- the last part is parsed, and its value seen by a function
  pub last_seen : {X Y W V A : Type 0} {see : Y → X} (sees : W → V) {f : Text → Outcome X} {outcome : Text → Outcome V} {old mid new : S} {y : Y} (k : X → V) (w : W) → sees w ≡ k (see y) → Passed outcome (λ t. mapped k (f t)) old mid → MustRead {A = A} l.view l.at see f mid (Ok y) new → MustRead {A = A} l.view l.at sees outcome old (Ok w) new
  last_seen {A = A} {see = see} sees {f = f} {mid = mid} {new = new} {y = y} k w e p h =
      last p (record { answers = seen_so sees (l.view mid).failed (f (l.view mid).rest) k mid new (see y) w e h.answers })

  -- the only part is parsed, and its value seen by a function
  pub seen_alone : {X Y W V A : Type 0} {see : Y → X} (sees : W → V) {f : Text → Outcome X} {old new : S} {y : Y} (k : X → V) (w : W) → sees w ≡ k (see y) → MustRead {A = A} l.view l.at see f old (Ok y) new → MustRead {A = A} l.view l.at sees (λ t. mapped k (f t)) old (Ok w) new
  seen_alone {see = see} sees {f = f} {old = old} {new = new} {y = y} k w e h = record { answers = seen_so sees (l.view old).failed (f (l.view old).rest) k old new (see y) w e h.answers }

  -- after the characters taken nothing more is to be parsed
  pub ends : {W V A : Type 0} (sees : W → V) {outcome : Text → Outcome V} {old mid : S} (w : W) → Passed outcome (λ t. Read (sees w) [] t) old mid → MustRead {A = A} l.view l.at sees outcome old (Ok w) mid
  ends {A = A} sees {outcome = outcome} {old = old} {mid = mid} w p =
      let g : Gives l.view l.at (prefixed p.taken (Read (sees w) [] (l.view mid).rest)) old (sees w) mid = (refl, rw append-nil p.takes) in
      record { answers = rw (p.fine, p.so_far) g }

  read_demanded : {X : Type 0} (b : Bool) (o : Outcome X) (s new : S) (x : X) → Gives l.view l.at (unless_failed b o) s x new → Gives l.view l.at (demanded (unless_failed b o)) s x new
  read_demanded true o s new x h = h
  read_demanded false (Read y t r) s new x h = h
  read_demanded false (Missing cause) s new x h = h
  read_demanded false (Bad cause upto) s new x h = h

  -- white space was consumed, and after it the whole of a fixed text
  pub spaced_whole : {V : Type 0} (k : Unit {0} → Text → Outcome V) (word rest : Text) (old new : S) → (l.view old).failed ≡ false → after is_whitespace (l.view old).rest ≡ word ++ rest → new ≡ l.at old (after_taken (after_spaces (l.view old)) word rest) → Passed (λ t. followed (space_at t) (λ _ u. followed (text_at word u) k)) (k tt) old new
  spaced_whole k word rest old new f e n =
      let out : Text → Outcome _ = λ t. followed (space_at t) (λ _ u. followed (text_at word u) k) in
      let v = after_spaces (l.view old) in
      let mid = l.at old v in
      let seen = l.view_at old v in
      let p = spaced {new = mid} (λ _ u. followed (text_at word u) k) (starts out out old f refl) (record { is = refl; same = front_after is_whitespace (l.view old).rest }) in
      let there : new ≡ l.at mid (after_taken (l.view mid) word rest) = n ∙ (sym (l.at_at old v (after_taken v word rest)) ∙ ap (λ w. l.at mid (after_taken w word rest)) (sym seen)) in
      let g = whole_gives l.view l.at l.view_at l.at_view l.at_at word rest mid new (ap (λ w. w.rest) seen ∙ e) there in
      passed out (text_at word (l.view mid).rest) false k old mid new p.taken tt p.fine p.takes p.so_far (read_demanded false (text_at word (l.view mid).rest) mid new tt g)

  begun : {X V : Type 0} (b : Bool) (o : Outcome X) (k : X → Text → Outcome V) (s new : S) (x : X) → Gives l.view l.at (unless_failed b o) s x new → demanded (unless_failed b (followed o k)) ≡ unless_failed b (followed o k)
  begun true o k s new x h = refl
  begun false (Read y t r) k s new x h = sym (prefixed-none (prefixed t (k y r))) ∙ prefixed-prefixed [] t (k y r)
  begun false (Missing cause) k s new x h = absurd h
  begun false (Bad cause upto) k s new x h = absurd h

  -- the first part, which may be missing, is parsed
  pub begins_with : {X Y V A : Type 0} {see : Y → X} {f : Text → Outcome X} {old mid : S} {y : Y} (k : X → Text → Outcome V) → MayRead {A = A} l.view l.at see f old (Ok y) mid → Passed (λ t. followed (f t) k) (k (see y)) old mid
  begins_with {Y = Y} {A = A} {see = see} {f = f} {old = old} {mid = mid} {y = y} k h = first {Y = Y} {A = A} {see = see} {f = f} {old = old} {mid = mid} {y = y} k (record { answers = read_demanded (l.view old).failed (f (l.view old).rest) old mid (see y) h.answers })

  -- where it is parsed, nothing is missing
  pub begun_by : {X Y W V A : Type 0} {see : Y → X} {sees : W → V} {f : Text → Outcome X} {old mid new : S} {y : Y} {r : Result W (ParseFault A)} (k : X → Text → Outcome V) → MayRead {A = A} l.view l.at see f old (Ok y) mid → MustRead l.view l.at sees (λ t. followed (f t) k) old r new → MayRead l.view l.at sees (λ t. followed (f t) k) old r new
  begun_by {see = see} {sees = sees} {f = f} {old = old} {mid = mid} {new = new} {y = y} {r = r} k h m =
      record { answers = subst (λ o. Answers l.view l.at sees o old r new) (begun (l.view old).failed (f (l.view old).rest) k old mid (see y) h.answers) m.answers }

  -- the first part, which may be missing, is an error
  pub begins_refused : {X Y W V A : Type 0} {see : Y → X} (sees : W → V) {f : Text → Outcome X} {old new : S} {fault : ParseFault A} (k : X → Text → Outcome V) → MayRead {Y = Y} l.view l.at see f old (Err fault) new → MayRead {Y = W} l.view l.at sees (λ t. followed (f t) k) old (Err fault) new
  begins_refused {see = see} sees {f = f} {old = old} {new = new} {fault = fault} k h =
      record { answers = refuses_first l.view l.at l.view_at l.at_at see sees (l.view old).failed (f (l.view old).rest) k old new fault h.answers }

  -- white space is the last part
  pub last_spaced : {W V A : Type 0} (sees : W → V) {outcome : Text → Outcome V} {old mid new : S} (k : Unit {0} → V) (w : W) → sees w ≡ k tt → Passed outcome (λ t. mapped k (space_at t)) old mid → Takes l.view l.at (front is_whitespace (l.view mid).rest) (after is_whitespace (l.view mid).rest) mid new → MustRead {A = A} l.view l.at sees outcome old (Ok w) new
  last_spaced sees {outcome = outcome} {old = old} {mid = mid} {new = new} k w e p h =
      let g : Gives l.view l.at (prefixed p.taken (mapped k (space_at (l.view mid).rest))) old (sees w) new = (e, takes_more l.view l.at l.view_at l.at_at old mid new p.taken (l.view mid).rest (front is_whitespace (l.view mid).rest) (after is_whitespace (l.view mid).rest) p.takes h) in
      record { answers = rw (p.fine, p.so_far) g }

  -- out of memory at the stream's position
  pub ran_out : {W V A : Type 0} {sees : W → V} {outcome next : Text → Outcome V} {old mid new : S} {fault : ParseFault A} → Passed outcome next old mid → RunsOutHere l.view l.at mid fault new → MustRead l.view l.at sees outcome old (Err fault) new
  ran_out {old = old} {mid = mid} {new = new} {fault = fault} p h = record { answers = inl (runs_out_after l.view l.at l.view_at l.at_at old mid new p.taken (l.view mid).rest fault p.fine p.takes h) }

  -- what is to be parsed is seen in another way
  pub onward : {V : Type 0} {outcome : Text → Outcome V} {old mid : S} (next last : Text → Outcome V) → next (l.view mid).rest ≡ last (l.view mid).rest → Passed outcome next old mid → Passed outcome last old mid
  onward next last e p = record { fine = p.fine; taken = p.taken; takes = p.takes; so_far = p.so_far ∙ ap (prefixed p.taken) e }

  -- the character that comes next is taken
  pub took : {V : Type 0} {outcome : Text → Outcome V} {old mid new : S} (c : ℕ) (k : Unit {0} → Text → Outcome V) → Passed outcome (λ t. followed (text_at (c ∷ []) t) k) old mid → begins (the c) (l.view mid).rest ≡ true → new ≡ l.at mid (advanced (l.view mid)) → Passed outcome (k tt) old new
  took {outcome = outcome} {old = old} {mid = mid} {new = new} c k p b n =
      let f = begins_the c (l.view mid).rest b in
      let t = takes_next l.view l.at l.view_at l.at_view l.at_at mid new c f.0 f.1 n in
      let g : Gives l.view l.at (demanded (text_at (c ∷ []) (l.view mid).rest)) mid tt new = rw (text_at-literal (c ∷ []) (l.view mid).rest f.0 f.1) (refl, t) in
      passed outcome (text_at (c ∷ []) (l.view mid).rest) false k old mid new p.taken tt p.fine p.takes p.so_far g

  -- a result, as that of an optional parser
  pub may_read : {X Y A : Type 0} (see : Y → X) (f : Text → Outcome X) (old new : S) (a : Result Y (ParseFault A)) → Answers l.view l.at see (unless_failed (l.view old).failed (f (l.view old).rest)) old a new → MayRead l.view l.at see f old a new
  may_read see f old new a h = record { answers = h }

  still : {X : Type 0} (b : Bool) (o : Outcome X) → demanded o ≡ o → demanded (unless_failed b o) ≡ unless_failed b o
  still true o e = refl
  still false o e = e

  -- what is never missing
  pub never_missing : {X Y A : Type 0} {see : Y → X} (f : Text → Outcome X) {old new : S} {r : Result Y (ParseFault A)} → ((t : Text) → demanded (f t) ≡ f t) → MayRead l.view l.at see f old r new → MustRead l.view l.at see f old r new
  never_missing {see = see} f {old = old} {new = new} {r = r} e h =
      record { answers = subst (λ o. Answers l.view l.at see o old r new) (sym (still (l.view old).failed (f (l.view old).rest) (e (l.view old).rest))) h.answers }

  -- an optional value is required
  pub insisted : {X Y A : Type 0} {see : Y → X} {f : Text → Outcome X} {old mid new : S} {a r : Result Y (ParseFault A)} → MayRead l.view l.at see f old a mid → DemandsOf l.view l.at a mid r new → MustRead l.view l.at see f old r new
  insisted {see = see} {f = f} {old = old} {mid = mid} {new = new} {a = a} {r = r} h d =
      record { answers = answers_demanded l.view l.at l.view_at l.at_at see (unless_failed (l.view old).failed (f (l.view old).rest)) old mid new a r h.answers d }

  -- the stream has not failed there
  pub fine_there : {V : Type 0} {outcome next : Text → Outcome V} {old mid : S} → Passed outcome next old mid → (l.view mid).failed ≡ false
  fine_there {old = old} {mid = mid} p = takes_fine l.view l.at l.view_at l.at_at old mid p.taken (l.view mid).rest p.takes p.fine

-- a text's stream alone
abbrev pub alone : Lens StreamView
alone = lens (λ s. s) (λ s v. v) (λ s v. refl) (λ s. refl) (λ s v w. refl)
