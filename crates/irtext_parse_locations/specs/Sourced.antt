-- Between functions: parsers of what the context keeps paths of.
use Rattle.std.specs.Prelude.{◌≡◌, ℕ, Bool, Result, IfOk, List, Option}
use Rattle.irtext_base.specs.Text.{Text}
use Rattle.irtext_base.specs.Stream.{StreamView}
use Rattle.irtext_base.specs.Answers.{Outcome}
use Rattle.irtext_base.specs.Moves.{path_kept, all_kept}
use Rattle.irtext_base.specs.Paths.{Written, path_of, is_known}
use Rattle.irtext_base.specs.declared.location.Location.{Location}
use Rattle.irtext_base.specs.declared.location.Source.{Source}
use Rattle.irtext_base.specs.declared.parsable.fault.ParseFault.{ParseFault}
use Rattle.irtext_context.specs.Context.{ContextView}
use Rattle.irtext_grammar.specs.Contexts.Held.{location_over}
use Rattle.irtext_grammar.specs.Readers.NewPaths.{AddsPaths, MustReadOver, MustReadWithin, known_location}
use Rattle.irtext_grammar.specs.Promises.Section.{known_given, given_over}
use Rattle.irtext_grammar.specs.Readers.Locations.{location_within}
use Rattle.irtext_grammar.specs.Readers.Section.{entry_location_at}
use Rattle.irtext_tokens.specs.AttrTexts.{attr_at}

-- of what was parsed, the paths are kept
abbrev pub Keeps : {A X Y : Type 0} → (List (List ℕ) → X → Y) → (List (List ℕ) → Y → List (List ℕ)) → List (List ℕ) → List (List ℕ) → Result X (ParseFault A) → Type 0
Keeps over keep old new result = IfOk result (λ x. new ≡ keep old (over new x))

module _ {T A X Y : Type 0} (known : ℕ → X → Bool) (over : List (List ℕ) → X → Y) (keep : List (List ℕ) → Y → List (List ℕ)) (outcome : Text → Outcome Y) where
  -- what is required was parsed, and of the context only its paths were added
  pub record KeepsWhatIsRead (ctx : ContextView T A) (old : StreamView) (left : ContextView T A) (result : Result X (ParseFault A)) (new : StreamView) : Type 0 where
    pub adds : AddsPaths ctx left
    pub read : MustReadOver known over outcome left.paths old result new
    pub paths : Keeps over keep ctx.paths left.paths result

module _ {A : Type 0} where
  -- a location of any kind, however deep, is parsed
  abbrev pub ReadsWithin : (Text → Outcome A) → List (List ℕ) → StreamView → Result (Location A) (ParseFault A) → StreamView → Type 0
  ReadsWithin reading = MustReadWithin known_location location_over (location_within (attr_at reading))

  -- the location of an entry is parsed, if there is one
  abbrev pub ReadsGiven : (Text → Outcome A) → List (List ℕ) → StreamView → Result (Option (Location A)) (ParseFault A) → StreamView → Type 0
  ReadsGiven reading = MustReadOver known_given given_over (entry_location_at (attr_at reading))

module _ {T A : Type 0} where
  -- a source was parsed, and of the context only its path was added
  abbrev pub ReadsSource : (Text → Outcome (Option (List ℕ))) → ContextView T A → StreamView → ContextView T A → Result Source (ParseFault A) → StreamView → Type 0
  ReadsSource = KeepsWhatIsRead is_known path_of path_kept

  -- a location was parsed, and of the context only its paths were added
  abbrev pub ReadsLocation : (Text → Outcome (Written A)) → ContextView T A → StreamView → ContextView T A → Result (Location A) (ParseFault A) → StreamView → Type 0
  ReadsLocation = KeepsWhatIsRead known_location location_over all_kept

  -- the same of a location of any kind
  pub record ReadsNested (reading : Text → Outcome A) (ctx : ContextView T A) (old : StreamView) (left : ContextView T A) (result : Result (Location A) (ParseFault A)) (new : StreamView) : Type 0 where
    pub adds : AddsPaths ctx left
    pub read : ReadsWithin reading left.paths old result new
    pub paths : Keeps location_over all_kept ctx.paths left.paths result
