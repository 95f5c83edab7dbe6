-- Between functions: what the parsed names represent, and the results of parsers whose values contain names.
use Rattle.std.specs.Prelude.{◌≡◌, ◌⊎◌, ℕ, true, false, List, [], ◌∷◌, ◌++◌, length, slice_get, Some, Result, IfOk}
use Rattle.irtext_base.specs.Text.{Text, is_identifier}
use Rattle.irtext_base.specs.Stream.{StreamView}
use Rattle.irtext_base.specs.Answers.{Outcome, RunsOut, Refuses, unless_failed}
use Rattle.irtext_base.specs.declared.parsable.fault.ParseFault.{ParseFault}
use Rattle.irtext_scopes.specs.Names.{KeepsNames}
use Rattle.irtext_scopes.specs.declared.tracker.NameTracker.{NameTracker}
use Rattle.irtext_tokens.specs.ListOutcomes.{items_after}
use Rattle.irtext_tokens.specs.MustRead.{MayRead, MustRead}
use Rattle.irtext_grammar.specs.Grammar.Tree.{Name}
use Rattle.irtext_grammar.specs.declared.parsed.ReadName.{ReadName}
use Rattle.irtext_grammar.specs.Parsed.{Represents, Each}

-- the whole text of a stream
abbrev pub whole : StreamView → Text
whole v = v.passed ++ v.rest

-- each name is an identifier
abbrev pub AreWords : List Text → Type 0
AreWords names = (i : ℕ) (text : Text) → slice_get names i ≡ Some text → is_identifier text ≡ true

-- names may have been added, which are identifiers, and the scopes are unchanged
pub record NamesRead {V B : Type 0} (old new : NameTracker V B) : Type 0 where
  pub kept : KeepsNames old.names new.names
  pub words : AreWords old.names → AreWords new.names
  pub values : new.values ≡ old.values
  pub labels : new.labels ≡ old.labels

-- an allocation failed, or the fault is the one that `outcome` gives for the text
abbrev pub Misses : {S A X : Type 0} → (S → StreamView) → (S → StreamView → S) → (Text → Outcome X) → S → ParseFault A → S → Type 0
Misses view at outcome old fault new = RunsOut view at old fault new ⊎ Refuses view at (unless_failed (view old).failed (outcome (view old).rest)) old fault new

module _ {S A X Y : Type 0} (view : S → StreamView) (at : S → StreamView → S) (Means : Y → X → Type 0) (outcome : Text → Outcome X) (old : S) (result : Result Y (ParseFault A)) (new : S) where
  -- the result for the text is as `outcome` says, and a value represents that of `outcome`
  pub record MayMean : Type 0 where
    pub meant : Y → X
    pub means : IfOk result (λ y. Means y (meant y))
    pub read : MayRead view at meant outcome old result new

  -- the same for what is required: if it is missing, the fault is committed
  pub record MustMean : Type 0 where
    pub meant : Y → X
    pub means : IfOk result (λ y. Means y (meant y))
    pub read : MustRead view at meant outcome old result new

module _ {S A : Type 0} (view : S → StreamView) (at : S → StreamView → S) (names : List Text) (outcome : Text → Outcome (Name ℕ)) (old : S) (result : Result ReadName (ParseFault A)) (new : S) where
  -- the result is a name, which may be missing, or its fault
  abbrev pub MayName : Type 0
  MayName = MayMean view at (Represents names (whole (view old))) outcome old result new

  -- the result is a name, which is required, or its fault
  abbrev pub MustName : Type 0
  MustName = MustMean view at (Represents names (whole (view old))) outcome old result new

module _ {S A : Type 0} (view : S → StreamView) (at : S → StreamView → S) where
  -- the result is the list of names that comes next, or its fault
  abbrev pub MustNames : List Text → (Text → Outcome (List (Name ℕ))) → S → Result (List ReadName) (ParseFault A) → S → Type 0
  MustNames names outcome old result new = MustMean view at (Each (Represents names (whole (view old)))) outcome old result new

  -- given a first name, the result is the list of names that continues it, or its fault
  abbrev pub NamesAfter : List Text → List Text → (Text → Outcome (Name ℕ)) → ReadName → S → Result (List ReadName) (ParseFault A) → S → Type 0
  NamesAfter before names item first old result new = (name : Name ℕ) → Represents before (whole (view old)) first name → (view old).failed ≡ false
      → MustNames names (λ t. items_after 44 item (length t) (name ∷ []) t) old result new
