-- One parser after another, and a required parser.
use Rattle.std.proofs.Common.{◌≡◌, Bool, true, false, Result, Ok, Err, [], ◌++◌, refl, sym, ◌∙◌, ap, subst, append_assoc, append-nil, ◌⊎◌, inl, inr}
use Rattle.irtext_base.specs.Text.{Text}
use Rattle.irtext_base.specs.Stream.{StreamView, IsAt, after_taken, after_failure}
use Rattle.irtext_base.specs.Faults.{Fault, fault_of}
use Rattle.irtext_base.specs.Answers.{Outcome, Read, Missing, Bad, Takes, SameStream, RunsOut, FailsAfter, RunsOutHere, Commits, Demands, DemandsOf, Answers, Gives, Refuses, demanded, prefixed, mapped, followed, unless_failed}
use Rattle.irtext_base.specs.declared.parsable.fault.ParseFault.{ParseFault}

-- what follows characters that were taken is required already
demanded-prefixed : {X : Type 0} (t : Text) (o : Outcome X) → demanded (prefixed t o) ≡ prefixed t o
demanded-prefixed t (Read x taken rest) = refl
demanded-prefixed t (Missing cause) = refl
demanded-prefixed t (Bad cause upto) = refl

module _ {S : Type 0} (view : S → StreamView) (at : S → StreamView → S) (view_at : (s : S) (v : StreamView) → view (at s v) ≡ v) (at_at : (s : S) (v w : StreamView) → at (at s v) w ≡ at s w) where
  -- nothing is taken
  pub takes_none : ((s : S) → at s (view s) ≡ s) → (s : S) → Takes view at [] (view s).rest s s
  takes_none at_view s = record { is = sym (at_view s) ∙ ap (λ (p : Text). at s (let v : StreamView = record { passed = p; rest = (view s).rest; failed = (view s).failed } in v)) (sym (append-nil (view s).passed)); same = refl }

  -- what a stream is after the characters taken
  pub seen_after : (old mid : S) (t r : Text) → Takes view at t r old mid → view mid ≡ after_taken (view old) t r
  seen_after old mid t r k = ap view k.is ∙ view_at old (after_taken (view old) t r)

  -- characters taken leave a stream that has not failed so
  pub takes_fine : (old mid : S) (t r : Text) → Takes view at t r old mid → (view old).failed ≡ false → (view mid).failed ≡ false
  takes_fine old mid t r k f = ap (λ v. v.failed) (seen_after old mid t r k) ∙ f

  -- a stream that has not failed after characters taken had not failed before
  pub fine_before : (old mid : S) (t r : Text) → Takes view at t r old mid → (view mid).failed ≡ false → (view old).failed ≡ false
  fine_before old mid t r k f = sym (ap (λ v. v.failed) (seen_after old mid t r k)) ∙ f

  -- a stream over the rest of a text is over the whole text
  pub same_stream_after : (b : Bool) (old mid new : S) (t r : Text) → Takes view at t r old mid → SameStream view at b mid new → SameStream view at b old new
  same_stream_after b old mid new t r k s =
      let v : view mid ≡ after_taken (view old) t r = seen_after old mid t r k in
      record {
        seen = s.seen;
        is = s.is ∙ (ap (λ z. at z s.seen) k.is ∙ at_at old (after_taken (view old) t r) s.seen);
        fails = s.fails;
        same = s.same ∙ (ap (λ w. w.passed ++ w.rest) v ∙ (append_assoc (view old).passed t r ∙ ap (λ z. (view old).passed ++ z) k.same));
      }

  -- characters taken after others
  pub takes_more : (old mid new : S) (t r u q : Text) → Takes view at t r old mid → Takes view at u q mid new → Takes view at (t ++ u) q old new
  takes_more old mid new t r u q k l =
      let v : view mid ≡ after_taken (view old) t r = seen_after old mid t r k in
      let w : after_taken (view mid) u q ≡ after_taken (view old) (t ++ u) q = ap (λ z. after_taken z u q) v ∙ ap (λ (p : Text). let x : StreamView = record { passed = p; rest = q; failed = (view old).failed } in x) (append_assoc (view old).passed t u) in
      record {
        is = l.is ∙ (ap (λ z. at z (after_taken (view mid) u q)) k.is ∙ (at_at old (after_taken (view old) t r) (after_taken (view mid) u q) ∙ ap (at old) w));
        same = append_assoc t u q ∙ (ap (λ z. t ++ z) (l.same ∙ ap (λ z. z.rest) v) ∙ k.same);
      }

  -- a stream that fails at its position
  pub same_stream_failed : (b : Bool) (old mid new : S) → SameStream view at b old mid → new ≡ at mid (after_failure (view mid)) → SameStream view at true old new
  same_stream_failed b old mid new s n =
      let v : view mid ≡ s.seen = ap view s.is ∙ view_at old s.seen in
      record {
        seen = after_failure s.seen;
        is = n ∙ (ap (λ z. at z (after_failure (view mid))) s.is ∙ (at_at old s.seen (after_failure (view mid)) ∙ ap (λ z. at old (after_failure z)) v));
        fails = refl;
        same = s.same;
      }

  -- a stream that fails at its position has consumed no more
  passed_still : (mid new : S) → new ≡ at mid (after_failure (view mid)) → (view mid).passed ≡ (view new).passed
  passed_still mid new n = sym (ap (λ z. (view z).passed) n ∙ ap (λ v. v.passed) (view_at mid (after_failure (view mid))))

  -- what a stream is in which only the text was changed
  beside : (old new : S) (v : StreamView) → new ≡ at old v → new ≡ at old (view new)
  beside old new v e = e ∙ ap (at old) (sym (ap view e ∙ view_at old v))

  -- a stream after characters taken is over the same text
  pub takes_same_stream : (old mid : S) (t r : Text) → Takes view at t r old mid → SameStream view at (view old).failed old mid
  takes_same_stream old mid t r k = record { seen = after_taken (view old) t r; is = k.is; fails = refl; same = append_assoc (view old).passed t r ∙ ap (λ z. (view old).passed ++ z) k.same }

  -- a parser whose value is seen in another way
  pub gives_mapped : {X V : Type 0} (g : X → V) (b : Bool) (o : Outcome X) (old new : S) (x : X) (v : V) → v ≡ g x → Gives view at (unless_failed b o) old x new → Gives view at (unless_failed b (mapped g o)) old v new
  gives_mapped g true o old new x v e h = absurd h
  gives_mapped g false (Read y taken rest) old new x v e h = (e ∙ ap g h.0, h.1)
  gives_mapped g false (Missing cause) old new x v e h = absurd h
  gives_mapped g false (Bad cause upto) old new x v e h = absurd h

  module _ {A : Type 0} where
    -- out of memory in what follows is out of memory in the whole
    pub runs_out_in_rest : (old mid new : S) (t r : Text) (fault : ParseFault A) → Takes view at t r old mid → RunsOut view at mid fault new → RunsOut view at old fault new
    runs_out_in_rest old mid new t r fault k s = record {
      because = s.because;
      committed = s.committed;
      fine = fine_before old mid t r k s.fine;
      place = s.place;
      left = same_stream_after true old mid new t r k s.left;
    }

    -- out of memory after characters taken from a stream that had not failed
    pub runs_out_after : (old mid new : S) (t r : Text) (fault : ParseFault A) → (view old).failed ≡ false → Takes view at t r old mid → RunsOutHere view at mid fault new → RunsOut view at old fault new
    runs_out_after old mid new t r fault f k s = record {
      because = s.because;
      committed = s.committed;
      fine = f;
      place = subst (IsAt fault.pos.line fault.pos.column) (passed_still mid new s.left) s.place;
      left = same_stream_failed (view old).failed old mid new (takes_same_stream old mid t r k) s.left;
    }

    -- out of memory at the position of a stream that had not failed
    pub runs_out_here : (at_view : (s : S) → at s (view s) ≡ s) (old new : S) (fault : ParseFault A) → (view old).failed ≡ false → RunsOutHere view at old fault new → RunsOut view at old fault new
    runs_out_here at_view old new fault f s = runs_out_after old old new [] (view old).rest fault f (takes_none at_view old) s

    -- a committed fault of what follows is after the characters taken
    pub commits_after : (cause : Fault) (upto : Text) (old mid new : S) (t r : Text) (fault : ParseFault A) → Takes view at t r old mid → Commits view at cause upto mid fault new → Commits view at cause (t ++ upto) old fault new
    commits_after cause upto old mid new t r fault k s =
        let p : (view mid).passed ++ upto ≡ (view old).passed ++ (t ++ upto) = ap (λ v. v.passed ++ upto) (seen_after old mid t r k) ∙ append_assoc (view old).passed t upto in
        record { because = s.because; committed = s.committed; place = subst (IsAt fault.pos.line fault.pos.column) p s.place; left = same_stream_after true old mid new t r k s.left }

    -- a fault at the place before the characters taken, or out of memory after them
    pub refuses_before : (cause : Fault) (old mid new : S) (t r : Text) (fault : ParseFault A) → (view old).failed ≡ false → Takes view at t r old mid → RunsOutHere view at mid fault new ⊎ FailsAfter view at cause (view old).passed mid fault new → RunsOut view at old fault new ⊎ Commits view at cause [] old fault new
    refuses_before cause old mid new t r fault f k (inl s) = inl (runs_out_after old mid new t r fault f k s)
    refuses_before cause old mid new t r fault f k (inr e) = inr (record { because = e.because; committed = e.committed; place = rw append-nil e.place; left = same_stream_failed (view old).failed old mid new (takes_same_stream old mid t r k) e.left })

    -- a required parser after the characters taken
    pub answers_after : {X Y : Type 0} (see : Y → X) (o : Outcome X) (old mid new : S) (t r : Text) (a : Result Y (ParseFault A)) → Takes view at t r old mid → Answers view at see (demanded o) mid a new → Answers view at see (prefixed t o) old a new
    answers_after see (Read x more rest) old mid new t r (Ok y) k h = (h.0, takes_more old mid new t r more rest k h.1)
    answers_after see (Read x more rest) old mid new t r (Err fault) k (inl s) = inl (runs_out_in_rest old mid new t r fault k s)
    answers_after see (Read x more rest) old mid new t r (Err fault) k (inr e) = absurd e
    answers_after see (Missing cause) old mid new t r (Ok y) k h = absurd h
    answers_after see (Missing cause) old mid new t r (Err fault) k (inl s) = inl (runs_out_in_rest old mid new t r fault k s)
    answers_after see (Missing cause) old mid new t r (Err fault) k (inr e) = inr (subst (λ z. Commits view at cause z old fault new) (append-nil t) (commits_after cause [] old mid new t r fault k e))
    answers_after see (Bad cause upto) old mid new t r (Ok y) k h = absurd h
    answers_after see (Bad cause upto) old mid new t r (Err fault) k (inl s) = inl (runs_out_in_rest old mid new t r fault k s)
    answers_after see (Bad cause upto) old mid new t r (Err fault) k (inr e) = inr (commits_after cause upto old mid new t r fault k e)

    -- a parser changes nothing beside the text
    pub answers_beside : (at_view : (s : S) → at s (view s) ≡ s) {X Y : Type 0} (see : Y → X) (o : Outcome X) (old new : S) (a : Result Y (ParseFault A)) → Answers view at see o old a new → new ≡ at old (view new)
    answers_beside at_view see (Read x taken rest) old new (Ok y) h = beside old new (after_taken (view old) taken rest) h.1.is
    answers_beside at_view see (Missing cause) old new (Ok y) h = absurd h
    answers_beside at_view see (Bad cause upto) old new (Ok y) h = absurd h
    answers_beside at_view see o old new (Err fault) (inl s) = beside old new s.left.seen s.left.is
    answers_beside at_view see (Read x taken rest) old new (Err fault) (inr e) = absurd e
    answers_beside at_view see (Missing cause) old new (Err fault) (inr e) = beside old new (view old) (e.left ∙ sym (at_view old))
    answers_beside at_view see (Bad cause upto) old new (Err fault) (inr e) = beside old new e.left.seen e.left.is

    -- if the first of two parsers returns an error, both do
    pub refuses_first : {X Y V W : Type 0} (see : Y → X) (sees : W → V) (b : Bool) (o : Outcome X) (next : X → Text → Outcome V) (old new : S) (fault : ParseFault A) → Answers view at see (unless_failed b o) old (Err fault) new → Answers view at sees (unless_failed b (followed o next)) old (Err fault) new
    refuses_first see sees true o next old new fault h = h
    refuses_first see sees false (Read x taken rest) next old new fault (inl s) = inl s
    refuses_first see sees false (Read x taken rest) next old new fault (inr e) = absurd e
    refuses_first see sees false (Missing cause) next old new fault h = h
    refuses_first see sees false (Bad cause upto) next old new fault h = h

    follows : {X Y V W : Type 0} (see : Y → X) (sees : W → V) (b : Bool) (o : Outcome X) (next : X → Text → Outcome V) (old mid new : S) (y : Y) (a : Result W (ParseFault A)) → (view old).failed ≡ b → Answers view at {A = A} see (unless_failed b o) old (Ok y) mid → Answers view at sees (demanded (unless_failed (view mid).failed (next (see y) (view mid).rest))) mid a new → Answers view at sees (unless_failed b (followed o next)) old a new
    follows see sees true o next old mid new y a e h k = absurd h
    follows see sees false (Read x t r) next old mid new y a e h k =
        let v : view mid ≡ after_taken (view old) t r = seen_after old mid t r h.1 in
        let q : demanded (unless_failed (view mid).failed (next (see y) (view mid).rest)) ≡ demanded (next x r) = rw (h.0, v, e) refl in
        answers_after sees (next x r) old mid new t r a h.1 (subst (λ z. Answers view at sees z mid a new) q k)
    follows see sees false (Missing cause) next old mid new y a e h k = absurd h
    follows see sees false (Bad cause upto) next old mid new y a e h k = absurd h

    -- if the first of two parsers parses, the result of the second is that of both
    pub answers_second : {X Y V W : Type 0} (see : Y → X) (sees : W → V) (o : Outcome X) (next : X → Text → Outcome V) (old mid new : S) (y : Y) (a : Result W (ParseFault A)) → Answers view at {A = A} see (unless_failed (view old).failed o) old (Ok y) mid → Answers view at sees (demanded (unless_failed (view mid).failed (next (see y) (view mid).rest))) mid a new → Answers view at sees (unless_failed (view old).failed (followed o next)) old a new
    answers_second see sees o next old mid new y a h k = follows see sees (view old).failed o next old mid new y a refl h k

    -- a fault is the same, however the value is seen
    pub refuses_mapped : {X V : Type 0} (g : X → V) (b : Bool) (o : Outcome X) (old new : S) (fault : ParseFault A) → RunsOut view at old fault new ⊎ Refuses view at (unless_failed b o) old fault new → RunsOut view at old fault new ⊎ Refuses view at (unless_failed b (mapped g o)) old fault new
    refuses_mapped g true o old new fault h = h
    refuses_mapped g false (Read x taken rest) old new fault h = h
    refuses_mapped g false (Missing cause) old new fault h = h
    refuses_mapped g false (Bad cause upto) old new fault h = h

    demanded_is_failed : {X : Type 0} (o : Outcome X) (old mid new : S) (fault last : ParseFault A) → RunsOut view at old fault mid ⊎ Refuses view at o old fault mid → Demands view at fault mid last new → RunsOut view at old last new ⊎ Refuses view at (demanded o) old last new
    demanded_is_failed o old mid new fault last (inl s) d =
        inl (record {
          because = ap fault_of d.cause ∙ s.because;
          committed = d.committed;
          fine = s.fine;
          place = rw d.place (subst (IsAt fault.pos.line fault.pos.column) (passed_still mid new d.left) s.place);
          left = same_stream_failed true old mid new s.left d.left;
        })
    demanded_is_failed (Read x taken rest) old mid new fault last (inr e) d = absurd e
    demanded_is_failed (Missing cause) old mid new fault last (inr p) d =
        inr (record {
          because = ap fault_of d.cause ∙ p.because;
          committed = d.committed;
          place = rw (d.place, append-nil) p.place;
          left = record { seen = after_failure (view old); is = d.left ∙ ap (λ z. at z (after_failure (view z))) p.left; fails = refl; same = refl };
        })
    demanded_is_failed (Bad cause upto) old mid new fault last (inr e) d =
        inr (record {
          because = ap fault_of d.cause ∙ e.because;
          committed = d.committed;
          place = rw d.place e.place;
          left = same_stream_failed true old mid new e.left d.left;
        })

    -- a result that is required is what the required parser returns
    pub answers_demanded : {X Y : Type 0} (see : Y → X) (o : Outcome X) (old mid new : S) (a r : Result Y (ParseFault A)) → Answers view at see o old a mid → DemandsOf view at a mid r new → Answers view at see (demanded o) old r new
    answers_demanded see (Read x taken rest) old mid new (Ok y) r h d = rw (d.0, d.1) h
    answers_demanded see (Missing cause) old mid new (Ok y) r h d = absurd h
    answers_demanded see (Bad cause upto) old mid new (Ok y) r h d = absurd h
    answers_demanded see o old mid new (Err fault) r h d = rw d.1 (demanded_is_failed o old mid new fault d.0 h d.2)

    -- if the first of two required parsers returns an error, both do
    pub refuses_first_demanded : {X Y V W : Type 0} (see : Y → X) (sees : W → V) (b : Bool) (o : Outcome X) (next : X → Text → Outcome V) (old new : S) (fault : ParseFault A) → Answers view at see (demanded (unless_failed b o)) old (Err fault) new → Answers view at sees (demanded (unless_failed b (followed o next))) old (Err fault) new
    refuses_first_demanded see sees true o next old new fault h = h
    refuses_first_demanded see sees false (Read x taken rest) next old new fault (inl s) = inl s
    refuses_first_demanded see sees false (Read x taken rest) next old new fault (inr e) = absurd e
    refuses_first_demanded see sees false (Missing cause) next old new fault h = h
    refuses_first_demanded see sees false (Bad cause upto) next old new fault h = h

    follows_demanded : {X Y V W : Type 0} (see : Y → X) (sees : W → V) (b : Bool) (o : Outcome X) (next : X → Text → Outcome V) (old mid new : S) (y : Y) (a : Result W (ParseFault A)) → (view old).failed ≡ b → Answers view at {A = A} see (demanded (unless_failed b o)) old (Ok y) mid → Answers view at sees (demanded (unless_failed (view mid).failed (next (see y) (view mid).rest))) mid a new → Answers view at sees (demanded (unless_failed b (followed o next))) old a new
    follows_demanded see sees true o next old mid new y a e h k = absurd h
    follows_demanded see sees false (Read x t r) next old mid new y a e h k = rw (demanded-prefixed t (next x r)) (follows see sees false (Read x t r) next old mid new y a e h k)
    follows_demanded see sees false (Missing cause) next old mid new y a e h k = absurd h
    follows_demanded see sees false (Bad cause upto) next old mid new y a e h k = absurd h

    -- if the first of two required parsers parses, the result of the second is that of both
    pub answers_second_demanded : {X Y V W : Type 0} (see : Y → X) (sees : W → V) (o : Outcome X) (next : X → Text → Outcome V) (old mid new : S) (y : Y) (a : Result W (ParseFault A)) → Answers view at {A = A} see (demanded (unless_failed (view old).failed o)) old (Ok y) mid → Answers view at sees (demanded (unless_failed (view mid).failed (next (see y) (view mid).rest))) mid a new → Answers view at sees (demanded (unless_failed (view old).failed (followed o next))) old a new
    answers_second_demanded see sees o next old mid new y a h k = follows_demanded see sees (view old).failed o next old mid new y a refl h k

    -- a required parser's fault is the same, however the value is seen
    pub refuses_mapped_demanded : {X V : Type 0} (g : X → V) (b : Bool) (o : Outcome X) (old new : S) (fault : ParseFault A) → RunsOut view at old fault new ⊎ Refuses view at (demanded (unless_failed b o)) old fault new → RunsOut view at old fault new ⊎ Refuses view at (demanded (unless_failed b (mapped g o))) old fault new
    refuses_mapped_demanded g true o old new fault h = h
    refuses_mapped_demanded g false (Read x taken rest) old new fault h = h
    refuses_mapped_demanded g false (Missing cause) old new fault h = h
    refuses_mapped_demanded g false (Bad cause upto) old new fault h = h
