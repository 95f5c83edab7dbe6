-- Outcomes whose cause does not say that the stream had failed, put together.
use Rattle.std.proofs.Common.{ℕ, zero, suc, Bool, true, false, cond, List, [], ◌∷◌, length}
use Rattle.irtext_base.specs.Text.{Text, begins, after_space}
use Rattle.irtext_base.specs.Reading.{the}
use Rattle.irtext_base.specs.Faults.{Fault}
use Rattle.irtext_base.specs.Answers.{Outcome, Read, Missing, Bad, prefixed, followed, mapped}
use Rattle.irtext_tokens.specs.Infix.{Reader}
use Rattle.irtext_tokens.specs.ListOutcomes.{or_empty, item_after, items_after, separated_at}
pub use Rattle.irtext_tokens.proofs.Honest.{CauseIs, NotFailed}
use Rattle.irtext_tokens.proofs.Honest.{Honest, never_failed, honest_word}

-- the cause of the outcome is not that the stream had failed
pub record Fine {X : Type 0} (o : Outcome X) : Type 0 where
  pub spares : CauseIs NotFailed o

-- no cause of a parser whose outcomes are of their texts does
pub fine_honest : {X : Type 0} {f : Reader X} → Honest f → (text : Text) → Fine (f text)
fine_honest h text = record { spares = never_failed h text }

module _ {X : Type 0} where
  -- what is parsed is no cause
  pub fine_read : (x : X) (taken rest : Text) → Fine (Read x taken rest)
  fine_read x taken rest = record { spares = tt }

  -- a missing value with a cause other than a failed stream
  pub fine_missing : (cause : Fault) → NotFailed cause → Fine {X = X} (Missing cause)
  fine_missing cause h = record { spares = h }

  -- a bad text with a cause other than a failed stream
  pub fine_bad : (cause : Fault) (upto : Text) → NotFailed cause → Fine {X = X} (Bad cause upto)
  fine_bad cause upto h = record { spares = h }

  -- either of two outcomes
  pub fine_either : (test : Bool) (o p : Outcome X) → Fine o → Fine p → Fine (cond test o p)
  fine_either true o p h k = h
  fine_either false o p h k = k

  -- the same after a prefix that was taken
  pub fine_prefixed : (t : Text) (o : Outcome X) → Fine o → Fine (prefixed t o)
  fine_prefixed t (Read x taken rest) h = fine_read _ _ _
  fine_prefixed t (Missing cause) h = fine_bad cause t h.spares
  fine_prefixed t (Bad cause upto) h = fine_bad cause _ h.spares

module _ {X Y : Type 0} where
  -- the same for one parser and then another
  pub fine_followed : (o : Outcome X) (k : X → Text → Outcome Y)
      → Fine o → ((x : X) (t : Text) → Fine (k x t)) → Fine (followed o k)
  fine_followed (Read x taken rest) k h g = fine_prefixed taken (k x rest) (g x rest)
  fine_followed (Missing cause) k h g = fine_missing cause h.spares
  fine_followed (Bad cause upto) k h g = fine_bad cause upto h.spares

  -- the same for a function of what was parsed
  pub fine_mapped : (f : X → Y) (o : Outcome X) → Fine o → Fine (mapped f o)
  fine_mapped f (Read x taken rest) h = fine_read _ _ _
  fine_mapped f (Missing cause) h = fine_missing cause h.spares
  fine_mapped f (Bad cause upto) h = fine_bad cause upto h.spares

-- ---- lists
fine_or_empty : {X : Type 0} (o : Outcome (List X)) (text : Text) → Fine o → Fine (or_empty o text)
fine_or_empty (Read xs taken rest) text h = fine_read _ _ _
fine_or_empty (Missing cause) text h = fine_read _ _ _
fine_or_empty (Bad cause upto) text h = h

module _ {X : Type 0} (separator : ℕ) (item : Text → Outcome X)
    (items : (text : Text) → Fine (item text)) where
  fine_item : (found : List X) (text : Text) → Fine (item_after separator item found text)
  fine_item found text = fine_followed (item text) _ (items text) (λ x t. fine_read _ _ _)

  fine_items : (n : ℕ) (found : List X) (text : Text) → Fine (items_after separator item n found text)
  fine_items zero found text = fine_read _ _ _
  fine_items (suc n) found text = fine_either (begins (the separator) text) _ _
      (fine_followed _ _ (fine_honest (honest_word (separator ∷ [])) text) (λ _ t.
      fine_prefixed _ _ (fine_followed _ _ (fine_item found (after_space t)) (fine_items n)))) (fine_read _ _ _)

  -- no list's does, where no item's does
  pub fine_separated : (text : Text) → Fine (separated_at separator item text)
  fine_separated text = fine_or_empty _ text
      (fine_followed _ _ (fine_item [] text) (λ found t. fine_items (length t) found t))
