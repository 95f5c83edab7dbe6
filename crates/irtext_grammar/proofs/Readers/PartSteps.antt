-- What is parsed as the whole of something, or as a part of it.
use Rattle.std.proofs.Common.{[], refl, Ok, Err}
use Rattle.irtext_base.specs.Text.{Text}
use Rattle.irtext_base.specs.Stream.{StreamView}
use Rattle.irtext_base.specs.Answers.{Outcome, Read, RunsOutHere, mapped}
use Rattle.irtext_base.specs.declared.parsable.fault.ParseFault.{ParseFault}
use Rattle.irtext_base.proofs.Compose.{refuses_mapped_demanded}
use Rattle.irtext_tokens.specs.MustRead.{MustRead}
use Rattle.irtext_grammar.specs.Readers.Streams.{itself, replaced}
use Rattle.irtext_grammar.proofs.Readers.PlainStream.{alone}
use Rattle.irtext_grammar.proofs.Readers.Steps.{Passed, first, starts, more_seen, ran_out}

module _ {A : Type 0} where
  module _ {X Y V : Type 0} {see : Y → X} {f : Text → Outcome X} {old : StreamView} where
    -- what was parsed is all that the whole parses
    pub part_read : {y : Y} {mid : StreamView} (k : X → V) → MustRead {A = A} itself replaced see f old (Ok y) mid → Passed alone (λ t. mapped k (f t)) (λ t. Read (k (see y)) [] t) old mid
    part_read k h =
        let whole : Text → Outcome V = λ t. mapped k (f t) in
        more_seen alone k (starts alone whole whole old ((first alone (λ x t. Read x [] t) h).fine) refl) h

  module _ {X Y V W : Type 0} {see : Y → X} {f : Text → Outcome X} {old : StreamView} where
    -- what was parsed is a part of the whole, and then out of memory
    pub part_ran_out : {sees : W → V} {y : Y} {mid new : StreamView} {fault : ParseFault A} (k : X → V) → MustRead {A = A} itself replaced see f old (Ok y) mid → RunsOutHere itself replaced mid fault new → MustRead itself replaced sees (λ t. mapped k (f t)) old (Err fault) new
    part_ran_out k h s = ran_out alone (part_read k h) s

    -- what was to be parsed is an error
    pub part_refused : {sees : W → V} {new : StreamView} {fault : ParseFault A} (k : X → V) → MustRead {Y = Y} itself replaced see f old (Err fault) new → MustRead {Y = W} itself replaced sees (λ t. mapped k (f t)) old (Err fault) new
    part_refused {new = new} {fault = fault} k h = record { answers = refuses_mapped_demanded itself replaced alone.view_at alone.at_at k old.failed (f old.rest) old new fault h.answers }
