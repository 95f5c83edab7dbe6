-- A source, for each form that its first character tells.
use Rattle.std.proofs.Common.{◌≡◌, refl, ℕ, true, false, Result, Ok, Err, None, List, codes}
use Rattle.irtext_base.specs.Text.{Text, begins}
use Rattle.irtext_base.specs.Reading.{the}
use Rattle.irtext_base.specs.Stream.{StreamView, first_of}
use Rattle.irtext_base.specs.Faults.{Unexpected, ASource}
use Rattle.irtext_base.specs.Answers.{Missing, Passes, Demands, mapped}
use Rattle.irtext_base.specs.Paths.{path_of, is_known}
use Rattle.irtext_base.specs.declared.location.Source.{Source}
use Rattle.irtext_base.specs.declared.location.Source.TheVariants.{InMemory}
use Rattle.irtext_base.specs.declared.parsable.fault.ParseFault.{ParseFault}
use Rattle.irtext_tokens.specs.MustRead.{MustRead}
use Rattle.irtext_tokens.specs.Tokens.{text_at}
use Rattle.irtext_grammar.specs.Readers.Locations.{path_at, source_at}
use Rattle.irtext_grammar.specs.Readers.NewPaths.{MustReadOver}
use Rattle.irtext_grammar.specs.Readers.Streams.{itself, replaced}
use Rattle.irtext_grammar.proofs.Readers.PartSteps.{part_refused}
use Rattle.irtext_grammar.proofs.Readers.PlainStream.{alone}
use Rattle.irtext_grammar.proofs.Readers.Steps.{seen_alone}
use Rattle.irtext_parse_locations.proofs.Refusals.{in_words, none_comes}

is_path : (text : Text) → begins (the 34) text ≡ true → path_at text ≡ source_at text
is_path text b = rw b refl

is_memory : (text : Text) → begins (the 34) text ≡ false → begins (the 60) text ≡ true → mapped (λ _. None) (text_at (codes "<in-memory>") text) ≡ source_at text
is_memory text not_path b = rw (not_path, b) refl

is_nothing : (text : Text) → begins (the 34) text ≡ false → begins (the 60) text ≡ false → source_at text ≡ Missing (Unexpected (first_of text) ASource)
is_nothing text not_path b = rw (not_path, b) refl

module _ {B : Type 0} (paths : List (List ℕ)) {old new : StreamView} where
  -- a path
  pub path_is_source : {r : Result Source (ParseFault B)} → begins (the 34) old.rest ≡ true → MustReadOver is_known path_of path_at paths old r new → MustReadOver is_known path_of source_at paths old r new
  path_is_source b h = record { known = h.known; read = in_words source_at (is_path old.rest b) h.read }

  module _ (not_path : begins (the 34) old.rest ≡ false) where
    -- the source in memory
    pub memory_refused : {fault : ParseFault B} → begins (the 60) old.rest ≡ true → MustRead {Y = Unit {0}} itself replaced (λ u. u) (text_at (codes "<in-memory>")) old (Err fault) new → MustReadOver is_known path_of source_at paths old (Err fault) new
    memory_refused b h = record { known = tt; read = in_words source_at (is_memory old.rest not_path b) (part_refused (λ _. None) h) }

    pub memory_read : begins (the 60) old.rest ≡ true → MustRead {A = B} {Y = Unit {0}} itself replaced (λ u. u) (text_at (codes "<in-memory>")) old (Ok tt) new → MustReadOver {A = B} is_known path_of source_at paths old (Ok InMemory) new
    memory_read b h = record { known = refl; read = in_words source_at (is_memory old.rest not_path b) (seen_alone alone (path_of paths) (λ _. None) InMemory refl h) }

    -- nothing that is a source comes next
    pub no_source : {mid : StreamView} {fault last : ParseFault B} → old.failed ≡ false → begins (the 60) old.rest ≡ false → Passes itself replaced (Unexpected (first_of old.rest) ASource) old fault mid → Demands itself replaced fault mid last new → MustReadOver is_known path_of source_at paths old (Err last) new
    no_source fine b h k = record { known = tt; read = none_comes (path_of paths) source_at (Unexpected (first_of old.rest) ASource) fine (is_nothing old.rest not_path b) h k }
