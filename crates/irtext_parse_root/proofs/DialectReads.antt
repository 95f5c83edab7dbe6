-- What the parser of a dialect's name returns after the identifier.
use Rattle.std.proofs.Common.{◌≡◌, Bool, true, false, is_some, List, [], subst, ◌⊎◌, inl, inr}
use Rattle.irtext_base.specs.Text.{Text}
use Rattle.irtext_base.specs.Faults.{UnregisteredDialect}
use Rattle.irtext_base.specs.Stream.{StreamView}
use Rattle.irtext_base.specs.Answers.{Outcome, Read, Missing, Bad, Gives, RunsOut, Commits, Refuses, unless_failed}
use Rattle.irtext_base.specs.declared.parsable.fault.ParseFault.{ParseFault}
use Rattle.irtext_stream.specs.Places.{IsPlaceAfter}
use Rattle.irtext_stream.specs.declared.position.Place.{Place}
use Rattle.irtext_context.specs.Dialects.{Table}
use Rattle.irtext_context.specs.DialectTable.{dialect_of}
use Rattle.irtext_grammar.specs.Readers.DialectNames.{known_name}
use Rattle.irtext_grammar.specs.Readers.Operations.{RefusesAt}
use Rattle.irtext_grammar.specs.Readers.Streams.{itself, replaced}
use Rattle.irtext_parse_section.proofs.HeadSteps.{refused_there}

-- a dialect with this name is registered
pub registered : (dialects : List (Text × Table)) (b : Bool) (o : Outcome Text) (old new : StreamView) (name : Text) → Gives itself replaced (unless_failed b o) old name new → is_some (dialect_of dialects name) ≡ true → Gives itself replaced (unless_failed b (known_name dialects o)) old name new
registered dialects true o old new name h k = absurd h
registered dialects false (Read x t q) old new name h k = rw (subst (λ n. is_some (dialect_of dialects n) ≡ true) h.0 k) h
registered dialects false (Missing cause) old new name h k = absurd h
registered dialects false (Bad cause upto) old new name h k = absurd h

module _ {A : Type 0} (dialects : List (Text × Table)) where
  -- there is no identifier
  pub unnamed : (b : Bool) (o : Outcome Text) (old new : StreamView) (fault : ParseFault A) → RunsOut itself replaced old fault new ⊎ Refuses itself replaced (unless_failed b o) old fault new
      → RunsOut itself replaced old fault new ⊎ Refuses itself replaced (unless_failed b (known_name dialects o)) old fault new
  unnamed b o old new fault (inl h) = inl h
  unnamed true o old new fault (inr h) = inr h
  unnamed false (Read x t q) old new fault (inr h) = absurd h
  unnamed false (Missing cause) old new fault (inr h) = inr h
  unnamed false (Bad cause upto) old new fault (inr h) = inr h

  -- none is
  pub unregistered : (b : Bool) (o : Outcome Text) (name : Text) (place : Place) (old mid new : StreamView) (fault : ParseFault A) → Gives itself replaced (unless_failed b o) old name mid → is_some (dialect_of dialects name) ≡ false → IsPlaceAfter place old.passed
      → RefusesAt itself replaced (UnregisteredDialect name) place mid fault new → Refuses itself replaced (unless_failed b (known_name dialects o)) old fault new
  unregistered true o name place old mid new fault h k p r = absurd h
  unregistered false (Read x t q) name place old mid new fault h k p r =
      rw (subst (λ n. is_some (dialect_of dialects n) ≡ false) h.0 k)
      (subst (λ n. Commits itself replaced (UnregisteredDialect n) [] old fault new) h.0 (refused_there (UnregisteredDialect name) place old mid new fault t q h.1 p r))
  unregistered false (Missing cause) name place old mid new fault h k p r = absurd h
  unregistered false (Bad cause upto) name place old mid new fault h k p r = absurd h
