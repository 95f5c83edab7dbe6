-- Where each call of an item parses what a function says, a list with a separator parses what another says of it.
use Rattle.std.proofs.Common.{◌≡◌, ℕ, Bool, true, false, Result, Ok, Err, List, map, refl, sym, subst, inl, inr, Vec}
use Rattle.std.specs.Fn.{CalledAtMut, Mut}
use Rattle.std.specs.Borrow.{MutBor}
use Rattle.irtext_base.specs.Text.{Text}
use Rattle.irtext_base.specs.Answers.{Outcome, Read, Missing, Bad, Gives, Refuses, Answers, unless_failed}
use Rattle.irtext_base.specs.declared.parsable.fault.ParseFault.{ParseFault}
use Rattle.irtext_tokens.specs.Lists.{Calls, Separated, UnlessFailed, listed}
use Rattle.irtext_tokens.specs.ListOutcomes.{separated_at}
use Rattle.irtext_tokens.specs.ListTexts.{SeparatedAt}
use Rattle.irtext_tokens.specs.MustRead.{MayRead}
use Rattle.irtext_tokens.proofs.ItemsMet.{Each}
use Rattle.irtext_tokens.proofs.SeparatedMet.{Whole, separated_met}
use Rattle.irtext_tokens.proofs.Steps.{Lens}
use Rattle.irtext_tokens.proofs.ListsAsOutcomes.{Says, separated_is}

module _ {S X Y A : Type 0} (l : Lens S) (see : X → Y) (item : Text → Outcome Y) where
  -- one result, as the relation has it
  each_says : (sep : ℕ) (s : S) (o : Outcome Y) (r : Result X (ParseFault A)) (t : S) → item (l.view s).rest ≡ o → Answers l.view l.at see o s r t → Each {A = A} l.view l.at see (Says sep item) s r t
  each_says sep s (Read y k q) (Ok x) t e h = (k, q, record { is = subst (λ z. item (l.view s).rest ≡ Read z k q) (sym h.0) e; fits = h.1.same }, h.1)
  each_says sep s (Missing cause) (Ok x) t e h = absurd h
  each_says sep s (Bad cause upto) (Ok x) t e h = absurd h
  each_says sep s o (Err fault) t e (inl h) = inl h
  each_says sep s (Read y k q) (Err fault) t e (inr h) = absurd h
  each_says sep s (Missing cause) (Err fault) t e (inr h) = inr (inl (cause, record { is = e; fits = tt }, h))
  each_says sep s (Bad cause upto) (Err fault) t e (inr h) = inr (inr (cause, upto, record { is = e; fits = tt }, h))

module _ {S F R X Y A : Type 0} (l : Lens S) (see : X → Y) (sep : ℕ) (item : Text → Outcome Y) (seen : R → Result X (ParseFault A)) (call : Mut F (MutBor S × Unit {0}) (R × (MutBor S × Unit {0}))) where
  -- each call of the item parses what the function says
  abbrev pub AlwaysReads : Type 0
  AlwaysReads = (f : F) (s : S) (answer : R) (g : F) (t : S) → CalledAtMut call f s answer g t → MayRead l.view l.at see item s (seen answer) t

  one_call : AlwaysReads → (f : F) (s : S) (r : Result X (ParseFault A)) (g : F) (t : S) → (l.view s).failed ≡ false → Calls seen call f s r g t → Each {A = A} l.view l.at see (Says sep item) s r t
  one_call always f s r g t fine k =
      let a = (always f s k.answer g t k.called).answers in
      let b : Answers l.view l.at see (unless_failed false (item (l.view s).rest)) s (seen k.answer) t = subst (λ z. Answers l.view l.at see (unless_failed z (item (l.view s).rest)) s (seen k.answer) t) fine a in
      each_says l see item sep s (item (l.view s).rest) r t refl (subst (λ z. Answers l.view l.at see (item (l.view s).rest) s z t) k.is b)

  module _ {Z : Type 0} where
    answered : (s : S) (q : Result (Vec X Z) (ParseFault A)) (u : S) → Whole {A = A} l.view l.at see (SeparatedAt (Says sep item) sep) s (listed q) u
        → Answers l.view l.at (λ v. map see v.items) (separated_at sep item (l.view s).rest) s q u
    answered s (Ok v) u h = subst (λ o. Gives l.view l.at o s (map see v.items) u) (separated_is sep item (l.view s).rest _ h.2) (refl, h.3)
    answered s (Err fault) u (inl h) = inl h
    answered s (Err fault) u (inr h) = inr (subst (λ o. Refuses l.view l.at o s fault u) (separated_is sep item (l.view s).rest _ h.2) h.3)

    by_failed : (b : Bool) (f : F) (s : S) (q : Result (Vec X Z) (ParseFault A)) (u : S) → (l.view s).failed ≡ b → AlwaysReads → UnlessFailed l.view l.at (Separated l.view l.at (Calls seen call) sep f) b s (listed q) u
        → Answers l.view l.at (λ v. map see v.items) (unless_failed b (separated_at sep item (l.view s).rest)) s q u
    by_failed true f s (Ok v) u e always h = absurd h
    by_failed true f s (Err fault) u e always h = inr h
    by_failed false f s q u e always h = answered s q u (separated_met l.view l.at l.view_at l.at_view l.at_at (Calls seen call) see (Says sep item) (one_call always) sep f s (listed q) u e h)

    shown_so : (sees : Vec X Z → List Y) → ((v : Vec X Z) → sees v ≡ map see v.items) → (o : Outcome (List Y)) (s : S) (q : Result (Vec X Z) (ParseFault A)) (u : S) → Answers l.view l.at (λ v. map see v.items) o s q u → Answers l.view l.at sees o s q u
    shown_so sees e o s (Ok v) u h = subst (λ z. Gives l.view l.at o s z u) (sym (e v)) h
    shown_so sees e o s (Err fault) u h = h

    -- what the list's parser returns, in the words of outcomes
    pub list_reads : (sees : Vec X Z → List Y) → ((v : Vec X Z) → sees v ≡ map see v.items) → (f : F) (s : S) (q : Result (Vec X Z) (ParseFault A)) (u : S) → AlwaysReads → UnlessFailed l.view l.at (Separated l.view l.at (Calls seen call) sep f) (l.view s).failed s (listed q) u
        → MayRead l.view l.at sees (separated_at sep item) s q u
    list_reads sees e f s q u always h = record { answers = shown_so sees e (unless_failed (l.view s).failed (separated_at sep item (l.view s).rest)) s q u (by_failed (l.view s).failed f s q u refl always h) }
