-- How far the loop over the places that wait has come.
use Rattle.std.proofs.Common.{◌≡◌, ℕ, zero, suc, ◌<◌, Bool, true, false, Ok, Err, List, [], ◌∷◌, ◌++◌, length, refl, sym, ap, subst, arith}
use Rattle.irtext_base.specs.Answers.{Outcome, Read, Missing, Bad, Gives, RunsOutHere, demanded, prefixed, followed, unless_failed}
use Rattle.irtext_base.specs.Own.{Sincere}
use Rattle.irtext_base.specs.Stream.{StreamView}
use Rattle.irtext_base.specs.Text.{Text, after_space, front}
use Rattle.irtext_base.specs.declared.parsable.fault.ParseFault.{ParseFault}
use Rattle.std.specs.Char.{is_whitespace}
use Rattle.irtext_tokens.proofs.Steps.{alone, Passed, starts, more, turned, refuses, ran_out}
use Rattle.irtext_tokens.specs.Infix.{Reader, ◌▷◌}
use Rattle.irtext_tokens.specs.MustRead.{MustRead}
use Rattle.irtext_tokens.specs.Tokens.{space_at}
use Rattle.irtext_tree.specs.GrammarLaws.{IfMore}
use Rattle.irtext_tree.specs.Growths.{Growth, waiting, heads_within}
use Rattle.irtext_tree.specs.TreeLaws.{left_less, fewer_after_space}
use Rattle.irtext_tree.specs.Trees.{grown, grown_after}

-- a head that is read after white space is read where that ends
pub spaced_read : {H : Type 0} (before : Text) (o : Outcome H) (h : H) (taken left : Text) → prefixed before o ≡ Read h taken left → (t : Text) × (o ≡ Read h t left)
spaced_read before (Read y u r) h taken left e =
    let p : (y ≡ h) × (r ≡ left) = (cc, cc) in
    (u, rw (p.0, p.1) refl)
spaced_read before (Missing cause) h taken left e = absurd (cc)
spaced_read before (Bad cause upto) h taken left e = absurd (cc)

-- what was read, with what is left
read_there : {H : Type 0} (b : Bool) (o : Outcome H) (now new : StreamView) (h : H) → Gives (λ s. s) (λ s v. v) (demanded (unless_failed b o)) now h new → (taken : Text) × (o ≡ Read h taken new.rest)
read_there true o now new h g = absurd g
read_there false (Read y t r) now new h g =
    let e : new.rest ≡ r = ap (λ v. v.rest) g.1.is in
    (t, rw (g.0, e) refl)
read_there false (Missing cause) now new h g = absurd g
read_there false (Bad cause upto) now new h g = absurd g

module _ {S H : Type 0} (growth : Growth S H) (reading : S → Reader H) (first : H) where
  pub record Growing (old now : StreamView) (left : List S) (before : List H) : Type 0 where
    pub room : ℕ
    pub enough : heads_within left now.rest < room
    pub passed : Passed alone (grown_after growth reading first) (grown growth reading room left before) old now

  pub growing_starts : (old : StreamView) (left : List S) (before : List H) → old.failed ≡ false → left ≡ waiting (growth.waits first) [] → before ≡ first ∷ [] → Growing old old left before
  growing_starts old left before e p q = record {
    room = suc (heads_within left old.rest);
    enough = omega arith;
    passed = starts alone (grown_after growth reading first) (grown growth reading (suc (heads_within left old.rest)) left before) old e (rw (p, q) refl);
  }

  has_one : (n m : ℕ) → m < n → (k : ℕ) × (n ≡ suc k)
  has_one zero m l = absurd (omega (arith, l))
  has_one (suc k) m l = (k, refl)

  -- a head for the next place, and what comes after it
  abbrev on : ℕ → List S → List H → H → Reader (List H)
  on n left before h u = grown growth reading n (waiting (growth.waits h) left) (before ++ (h ∷ [])) u

  goes_on : {old now : StreamView} {s : S} {left : List S} {before : List H} → (f : Growing old now (s ∷ left) before) → (n : ℕ) × (f.room ≡ suc n) × Passed alone (grown_after growth reading first) (λ t. followed ((space_at ▷ reading s) t) (on n left before)) old now
  goes_on {now = now} {s = s} {left = left} {before = before} f =
      let n = has_one f.room (heads_within (s ∷ left) now.rest) f.enough in
      (n.0, n.1, turned alone (λ t. followed ((space_at ▷ reading s) t) (on n.0 left before)) (ap (λ z. grown growth reading z (s ∷ left) before now.rest) n.1) f.passed)

  pub growing_refused : {A W : Type 0} {sees : W → List H} {old now new : StreamView} {s : S} {left : List S} {before : List H} {fault : ParseFault A} → Growing old now (s ∷ left) before → MustRead {Y = H} (λ s. s) (λ s v. v) (λ x. x) (space_at ▷ reading s) now (Err fault) new → MustRead {Y = W} (λ s. s) (λ s v. v) sees (grown_after growth reading first) old (Err fault) new
  growing_refused {left = left} {before = before} f h = let g = goes_on f in refuses alone (on g.0 left before) g.2 h

  module _ (sincere : (s : S) → Sincere (reading s)) (advances : (s : S) (text : Text) (h : H) (taken left : Text) → reading s text ≡ Read h taken left → IfMore (growth.waits h) (length left < length text)) where
    pub growing_falls : {A : Type 0} {now new : StreamView} (s : S) (left : List S) {h : H} → MustRead {A = A} (λ s. s) (λ s v. v) (λ x. x) (space_at ▷ reading s) now (Ok h) new → heads_within (waiting (growth.waits h) left) new.rest < heads_within (s ∷ left) now.rest
    growing_falls {now = now} {new = new} s left {h = h} m =
        let k = read_there now.failed ((space_at ▷ reading s) now.rest) now new h m.answers in
        let r = spaced_read (front is_whitespace now.rest) (reading s (after_space now.rest)) h k.0 new.rest k.1 in
        fewer_after_space (growth.waits h) s left new.rest now.rest (left_less (reading s) (sincere s) (after_space now.rest) h r.0 new.rest r.1) (advances s (after_space now.rest) h r.0 new.rest r.1)

    pub growing_smaller : {A : Type 0} {now new : StreamView} {s : S} {left next whole : List S} {h : H} → whole ≡ s ∷ left → MustRead {A = A} (λ s. s) (λ s v. v) (λ x. x) (space_at ▷ reading s) now (Ok h) new → next ≡ waiting (growth.waits h) left → heads_within next new.rest < heads_within whole now.rest
    growing_smaller {now = now} {new = new} {s = s} {left = left} {next = next} {whole = whole} {h = h} q m p =
        subst (λ z. heads_within z new.rest < heads_within whole now.rest) (sym p) (subst (λ z. heads_within (waiting (growth.waits h) left) new.rest < heads_within z now.rest) (sym q) (growing_falls s left m))

    pub growing_more : {A : Type 0} {old now new : StreamView} {s : S} {left next : List S} {before now_found : List H} {h : H} → Growing old now (s ∷ left) before → MustRead {A = A} (λ s. s) (λ s v. v) (λ x. x) (space_at ▷ reading s) now (Ok h) new → next ≡ waiting (growth.waits h) left → now_found ≡ before ++ (h ∷ []) → Growing old new next now_found
    growing_more {now = now} {new = new} {s = s} {left = left} {next = next} {before = before} {now_found = now_found} {h = h} f m p q =
        let g = goes_on f in
        let l = growing_falls s left m in
        record {
          room = g.0;
          enough = let e = g.1 in let r = f.enough in let k = subst (λ z. heads_within z new.rest < heads_within (s ∷ left) now.rest) (sym p) l in omega (arith, k, e, r);
          passed = turned alone (grown growth reading g.0 next now_found) (rw (p, q) refl) (more alone (on g.0 left before) g.2 m);
        }

    pub growing_full : {A W : Type 0} {sees : W → List H} {old now mid new : StreamView} {s : S} {left : List S} {before : List H} {h : H} {fault : ParseFault A} → Growing old now (s ∷ left) before → MustRead {A = A} (λ s. s) (λ s v. v) (λ x. x) (space_at ▷ reading s) now (Ok h) mid → RunsOutHere (λ s. s) (λ s v. v) mid fault new → MustRead {Y = W} (λ s. s) (λ s v. v) sees (grown_after growth reading first) old (Err fault) new
    growing_full {left = left} {before = before} f m r = let g = goes_on f in ran_out alone (more alone (on g.0 left before) g.2 m) r
