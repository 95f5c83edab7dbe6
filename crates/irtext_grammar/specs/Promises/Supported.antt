-- For callers: the language that the dialects of a context support, and which error an outcome of a parser allows.
use Rattle.std.specs.Prelude.{◌≡◌, ℕ, Bool, true, false, List, []}
use Rattle.irtext_base.specs.Text.{Text}
use Rattle.irtext_base.specs.Own.{Verdict, verdict, Texts, Language, language}
use Rattle.irtext_context.specs.Dialects.{Table}
use Rattle.irtext_base.specs.Faults.{Fault}
use Rattle.irtext_base.specs.Answers.{Outcome, Read, Missing, Bad}
use Rattle.irtext_base.specs.Locations.{AttrView}
use Rattle.irtext_base.specs.Paths.{Written}
use Rattle.irtext_grammar.specs.Contexts.Formats.{format_of}
use Rattle.irtext_grammar.specs.Readers.Locations.{location_at}

-- the language of the texts that are parsed with these dialects
abbrev pub supported : {T A : Type 0} → List (Text × Table) → Texts T → Texts A → Language ℕ T A
supported dialects types owns = language types owns (format_of dialects)

-- the outcome of the parser of locations, in the form that the grammar uses
abbrev pub location_verdict : {A : Type 0} → (Text → Outcome (AttrView A)) → Text → Verdict (Written A)
location_verdict attr text = verdict (location_at attr text)

-- the outcome is an error with this cause: nothing of the kind where the text begins, or something bad after these characters
abbrev pub RefusedAs : {X : Type 0} → Outcome X → Fault → Text → Type 0
RefusedAs (Read x taken rest) cause upto = ⊥
RefusedAs (Missing c) cause upto = (c ≡ cause) × (upto ≡ [])
RefusedAs (Bad c u) cause upto = (c ≡ cause) × (u ≡ upto)

-- whether a fault of this outcome is committed: each is, unless nothing of the kind was found
abbrev pub is_committed : {X : Type 0} → Outcome X → Bool
is_committed (Read x taken rest) = true
is_committed (Missing cause) = false
is_committed (Bad cause upto) = true
