-- For callers: what parsing a location does to the context: it may add paths.
use Rattle.std.specs.Prelude.{◌≡◌, ℕ, ◌≤◌, Bool, Result, Ok, Err, List, IfOk, IsTrue, length, Vec, [], ◌∷◌, ◌++◌}
use Rattle.std.specs.Global.{Global}
use Rattle.std.specs.Char.{is_whitespace}
use Rattle.irtext_base.specs.Text.{Text, front, after}
use Rattle.irtext_base.specs.Stream.{StreamView}
use Rattle.irtext_base.specs.Answers.{Outcome, RunsOutHere, Takes}
use Rattle.irtext_context.specs.Context.{ContextView, with_paths}
use Rattle.irtext_base.specs.Paths.{KeepsPaths, are_known}
use Rattle.irtext_base.specs.Locations.{LocationView, LocationsOf, no_location, location, location_view}
use Rattle.irtext_base.specs.declared.location.Location.{Location}
use Rattle.irtext_base.specs.declared.parsable.fault.ParseFault.{ParseFault}
use Rattle.irtext_tokens.specs.MustRead.{MustRead, MayRead}
use Rattle.irtext_grammar.specs.Readers.Streams.{itself, replaced}

-- each path keeps its key, and all else is unchanged
pub record AddsPaths {T A : Type 0} (old new : ContextView T A) : Type 0 where
  pub kept : KeepsPaths old.paths new.paths
  pub rest : new ≡ with_paths old new.paths

-- the keys of the location's files are below this count
abbrev pub known_location : {A : Type 0} → ℕ → Location A → Bool
known_location count l = are_known count (location_view l)

module _ {A X Y : Type 0} (is_known : ℕ → Y → Bool) (see : List (List ℕ) → Y → X) (outcome : Text → Outcome X) where
  -- what is required was parsed: its paths are among these, and with them it is what the text says
  pub record MustReadOver (paths : List (List ℕ)) (old : StreamView) (result : Result Y (ParseFault A)) (new : StreamView) : Type 0 where
    pub known : IfOk result (λ y. IsTrue (is_known (length paths) y))
    pub read : MustRead itself replaced (see paths) outcome old result new

  -- the same of what may be missing
  pub record MayReadOver (paths : List (List ℕ)) (old : StreamView) (result : Result Y (ParseFault A)) (new : StreamView) : Type 0 where
    pub known : IfOk result (λ y. IsTrue (is_known (length paths) y))
    pub read : MayRead itself replaced (see paths) outcome old result new

module _ {A X Y : Type 0} (is_known : ℕ → Y → Bool) (see : List (List ℕ) → Y → X) (outcome : ℕ → Text → Outcome X) where
  -- the same, with an outcome for each bound of the depth: it holds for each bound from the length of the text on
  pub record MustReadWithin (paths : List (List ℕ)) (old : StreamView) (result : Result Y (ParseFault A)) (new : StreamView) : Type 0 where
    pub within : (depth : ℕ) → length old.rest ≤ depth → MustReadOver is_known see (outcome depth) paths old result new

module _ {A : Type 0} where
  -- a location of this form was made, or an allocation failed
  abbrev pub Makes : LocationView A → StreamView → Result (Location A) (ParseFault A) → StreamView → Type 0
  Makes view old (Ok l) new = (location_view l ≡ view) × (new ≡ old)
  Makes view old (Err fault) new = RunsOutHere itself replaced old fault new

-- the locations of one list, and then those of the other
abbrev pub joined_rows : {S A : Type 0} → LocationsOf S A → LocationsOf S A → LocationsOf S A
joined_rows no_location ls = ls
joined_rows (location k ks) ls = location k (joined_rows ks ls)

module _ {A : Type 0} where
  -- a location was appended to a list, and the white space after it was consumed; or an allocation failed
  abbrev pub PushesRow : Vec (Location A) Global → Location A → StreamView → Vec (Location A) Global → Result Unit (ParseFault A) → StreamView → Type 0
  PushesRow found l old more (Ok done) new = (more.items ≡ found.items ++ (l ∷ [])) × Takes itself replaced (front is_whitespace old.rest) (after is_whitespace old.rest) old new
  PushesRow found l old more (Err fault) new = RunsOutHere itself replaced old fault new
