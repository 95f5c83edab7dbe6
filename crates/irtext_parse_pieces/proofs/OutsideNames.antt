-- A name that is used outside of every region.
use Rattle.std.proofs.Common.{◌≡◌, ℕ, Bool, true, false, [], subst, length, ◌⊎◌, inl, inr}
use Rattle.irtext_base.specs.Text.{Text}
use Rattle.irtext_base.specs.Faults.{NoActiveScope}
use Rattle.irtext_base.specs.Answers.{Outcome, Read, Missing, Bad, Gives, RunsOut, Commits, Refuses, mapped, unless_failed}
use Rattle.irtext_base.specs.declared.parsable.fault.ParseFault.{ParseFault}
use Rattle.irtext_stream.specs.Places.{IsPlaceAfter}
use Rattle.irtext_stream.specs.declared.position.Place.{Place}
use Rattle.irtext_tokens.specs.Tokens.{identifier_at}
use Rattle.irtext_tokens.proofs.Steps.{Lens}
use Rattle.irtext_grammar.specs.Grammar.Tree.{Name}
use Rattle.irtext_grammar.specs.Heads.{name_of, outside, used_at}
use Rattle.irtext_grammar.specs.Readers.Operations.{RefusesAt}
use Rattle.irtext_parse_pieces.specs.Named.{Misses}
use Rattle.irtext_parse_pieces.proofs.AllowedSteps.{refused_there}

module _ {S A : Type 0} (l : Lens S) where
  unnamed : (b : Bool) (o : Outcome Text) (place : ℕ) (old new : S) (fault : ParseFault A) → RunsOut l.view l.at old fault new ⊎ Refuses l.view l.at (unless_failed b o) old fault new
      → RunsOut l.view l.at old fault new ⊎ Refuses l.view l.at (unless_failed b (outside (mapped (name_of place) o))) old fault new
  unnamed b o place old new fault (inl h) = inl h
  unnamed true o place old new fault (inr h) = inr h
  unnamed false (Read x t q) place old new fault (inr h) = absurd h
  unnamed false (Missing cause) place old new fault (inr h) = inr h
  unnamed false (Bad cause upto) place old new fault (inr h) = inr h

  -- no name was parsed
  pub none_outside : {old new : S} {fault : ParseFault A} → RunsOut l.view l.at old fault new ⊎ Refuses l.view l.at (unless_failed (l.view old).failed (identifier_at (l.view old).rest)) old fault new → Misses l.view l.at (used_at false) old fault new
  none_outside {old} {new} {fault} h = unnamed (l.view old).failed (identifier_at (l.view old).rest) (length (l.view old).rest) old new fault h

  named : (b : Bool) (o : Outcome Text) (count : ℕ) (name : Text) (place : Place) (old mid new : S) (fault : ParseFault A) → Gives l.view l.at (unless_failed b o) old name mid → IsPlaceAfter place (l.view old).passed
      → RefusesAt l.view l.at (NoActiveScope name) place mid fault new → Refuses l.view l.at (unless_failed b (outside (mapped (name_of count) o))) old fault new
  named true o count name place old mid new fault h p r = absurd h
  named false (Read x t q) count name place old mid new fault h p r =
      subst (λ n. Commits l.view l.at (NoActiveScope n) [] old fault new) h.0 (refused_there l (NoActiveScope name) place old mid new fault t q h.1 p r)
  named false (Missing cause) count name place old mid new fault h p r = absurd h
  named false (Bad cause upto) count name place old mid new fault h p r = absurd h

  -- a name was parsed, and is rejected at its place
  pub name_outside : {old mid new : S} {fault : ParseFault A} (name : Text) (place : Place) → Gives l.view l.at (unless_failed (l.view old).failed (identifier_at (l.view old).rest)) old name mid → IsPlaceAfter place (l.view old).passed
      → RefusesAt l.view l.at (NoActiveScope name) place mid fault new → Misses l.view l.at (used_at false) old fault new
  name_outside {old} {mid} {new} {fault} name place h p r =
      inr (named (l.view old).failed (identifier_at (l.view old).rest) (length (l.view old).rest) name place old mid new fault h p r)
