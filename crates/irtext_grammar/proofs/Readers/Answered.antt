-- What a parser that succeeded has found, and why one that did not returned an error.
use Rattle.std.proofs.Common.{◌≡◌, ◌≤◌, Bool, true, false, Ok, Err, [], ◌++◌, refl, sym, ◌∙◌, ap, subst, ◌⊎◌, inl, inr, append-nil, true≢false, length, length-append, arith}
use Rattle.irtext_base.specs.Text.{Text}
use Rattle.irtext_base.specs.Stream.{StreamView}
use Rattle.irtext_base.specs.Answers.{Outcome, Read, Missing, Bad, Takes, RunsOut, Refuses, Gives, demanded, unless_failed}
use Rattle.irtext_base.specs.declared.parsable.fault.ParseFault.{ParseFault}
use Rattle.irtext_base.proofs.Compose.{takes_more}
use Rattle.irtext_tokens.specs.MustRead.{MustRead, MayRead}
use Rattle.irtext_grammar.specs.Readers.Streams.{itself, replaced}
use Rattle.irtext_grammar.specs.Promises.Section.{Moves, IsOutOfMemory, Faults}
use Rattle.irtext_grammar.specs.Promises.Supported.{RefusedAs}
use Rattle.irtext_grammar.proofs.Readers.PlainStream.{alone}

-- a value was parsed from the stream's text
pub record Answered {X : Type 0} (o : Outcome X) (old : StreamView) (x : X) (new : StreamView) : Type 0 where
  pub fine : old.failed ≡ false
  pub taken : Text
  pub is : o ≡ Read x taken new.rest
  pub takes : Takes itself replaced taken new.rest old new

read_there : {X : Type 0} (o : Outcome X) (old new : StreamView) (x y : X) (t r : Text) → o ≡ Read x t r → old.failed ≡ false → y ≡ x → Takes itself replaced t r old new → Answered o old y new
read_there o old new x y t r e f same k =
    let left : new.rest ≡ r = ap (λ v. v.rest) k.is in
    record {
      fine = f;
      taken = t;
      is = e ∙ (ap (λ x. Read x t r) (sym same) ∙ ap (Read y t) (sym left));
      takes = subst (λ r. Takes itself replaced t r old new) (sym left) k;
    }

demanded_there : {X : Type 0} (b : Bool) (o : Outcome X) (old new : StreamView) (x : X) → old.failed ≡ b → Gives itself replaced (demanded (unless_failed b o)) old x new → Answered o old x new
demanded_there true o old new x e h = absurd h
demanded_there false (Read y t r) old new x e h = read_there (Read y t r) old new y x t r refl e h.0 h.1
demanded_there false (Missing cause) old new x e h = absurd h
demanded_there false (Bad cause upto) old new x e h = absurd h

may_there : {X : Type 0} (b : Bool) (o : Outcome X) (old new : StreamView) (x : X) → old.failed ≡ b → Gives itself replaced (unless_failed b o) old x new → Answered o old x new
may_there true o old new x e h = absurd h
may_there false (Read y t r) old new x e h = read_there (Read y t r) old new y x t r refl e h.0 h.1
may_there false (Missing cause) old new x e h = absurd h
may_there false (Bad cause upto) old new x e h = absurd h

-- a required value that was parsed
pub answered : {X Y A : Type 0} {see : Y → X} {f : Text → Outcome X} {old new : StreamView} {y : Y} → MustRead {A = A} itself replaced see f old (Ok y) new → Answered (f old.rest) old (see y) new
answered {see = see} {f = f} {old = old} {new = new} {y = y} h = demanded_there old.failed (f old.rest) old new (see y) refl h.answers

-- an optional value that was parsed
pub may_answered : {X Y A : Type 0} {see : Y → X} {f : Text → Outcome X} {old new : StreamView} {y : Y} → MayRead {A = A} itself replaced see f old (Ok y) new → Answered (f old.rest) old (see y) new
may_answered {see = see} {f = f} {old = old} {new = new} {y = y} h = may_there old.failed (f old.rest) old new (see y) refl h.answers

module _ {A : Type 0} where
  -- out of memory, as each parser reports it
  pub ran_out_fault : {old new : StreamView} {fault : ParseFault A} → RunsOut itself replaced old fault new → IsOutOfMemory fault
  ran_out_fault h = record { because = h.because; flag = h.committed }

  demanded_not : {X : Type 0} (b : Bool) (o : Outcome X) (old new : StreamView) (fault : ParseFault A) → b ≡ false → RunsOut itself replaced old fault new ⊎ Refuses itself replaced (demanded (unless_failed b o)) old fault new → Faults true (RefusedAs o) old fault
  demanded_not b o old new fault e (inl h) = inl (ran_out_fault h)
  demanded_not true o old new fault e (inr h) = absurd (true≢false e)
  demanded_not false (Read x t r) old new fault e (inr h) = absurd h
  demanded_not false (Missing cause) old new fault e (inr h) = inr (cause, [], (refl, refl), record { because = h.because; flag = h.committed; place = h.place })
  demanded_not false (Bad cause upto) old new fault e (inr h) = inr (cause, upto, (refl, refl), record { because = h.because; flag = h.committed; place = h.place })

  -- why a required value was not parsed
  pub not_answered : {X Y : Type 0} {see : Y → X} {f : Text → Outcome X} {old new : StreamView} {fault : ParseFault A} → old.failed ≡ false → MustRead itself replaced see f old (Err fault) new → Faults true (RefusedAs (f old.rest)) old fault
  not_answered {f = f} {old = old} {new = new} {fault = fault} e h = demanded_not old.failed (f old.rest) old new fault e h.answers

-- nothing was taken yet
pub moves_none : (v : StreamView) → Moves v v
moves_none v = record { taken = []; takes = record { is = ap (λ (p : Text). let w : StreamView = record { passed = p; rest = v.rest; failed = v.failed } in w) (sym (append-nil v.passed)); same = refl } }

-- characters taken, and others after them
pub moves_more : {old mid new : StreamView} → Moves old mid → Moves mid new → Moves old new
moves_more {old = old} {mid = mid} {new = new} h k = record { taken = h.taken ++ k.taken; takes = takes_more itself replaced alone.view_at alone.at_at old mid new h.taken mid.rest k.taken new.rest h.takes k.takes }

-- what is left is no longer
left_of : (t r w : Text) → t ++ r ≡ w → length r ≤ length w
left_of t r w e = omega (arith, length-append t r, ap length e)

-- a parser leaves no more text than there was
pub no_longer : {X Y A : Type 0} {see : Y → X} {f : Text → Outcome X} {old new : StreamView} {y : Y} → MustRead {A = A} itself replaced see f old (Ok y) new → length new.rest ≤ length old.rest
no_longer {old = old} {new = new} h = let a = answered h in left_of a.taken new.rest old.rest a.takes.same
