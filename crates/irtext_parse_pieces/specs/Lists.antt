-- Between functions: the turns of a loop over items that are separated by `,`.
use Rattle.std.specs.Prelude.{◌≡◌, Bool, true, false, List, [], ◌∷◌, ◌++◌, MatchBool, Result, Ok, Err}
use Rattle.std.specs.Char.{is_whitespace}
use Rattle.irtext_base.specs.Answers.{RunsOutHere, DemandsOf}
use Rattle.irtext_base.specs.Reading.{the}
use Rattle.irtext_base.specs.Stream.{StreamView, advanced}
use Rattle.irtext_base.specs.Text.{begins}
use Rattle.irtext_base.specs.declared.parsable.fault.ParseFault.{ParseFault}
use Rattle.irtext_tokens.specs.Reads.{TakesFront}

module _ {S : Type 0} (view : S → StreamView) (at : S → StreamView → S) where
  -- `,` came next, and was consumed with the white space after it
  pub record IsAfterComma (old new : S) : Type 0 where
    pub comes : begins (the 44) (view old).rest ≡ true
    pub mid : S
    pub taken : mid ≡ at old (advanced (view old))
    pub spaced : TakesFront view at is_whitespace mid new

  -- if `,` comes next, it was consumed with the white space after it; otherwise the stream is unchanged
  abbrev pub TakesComma : S → Bool → S → Type 0
  TakesComma old result new = MatchBool result (IsAfterComma old new) ((begins (the 44) (view old).rest ≡ false) × (new ≡ old))

module _ {S X A : Type 0} (view : S → StreamView) (at : S → StreamView → S) (items : List X) (item : X) where
  -- the item was appended to the others, and the stream is unchanged; or an allocation failed
  abbrev pub Appended : S → Result (List X) (ParseFault A) → S → Type 0
  Appended old (Ok more) new = (more ≡ items ++ item ∷ []) × (new ≡ old)
  Appended old (Err fault) new = RunsOutHere view at old fault new

  -- the white space after the item was consumed, and then the item was appended to the others, or an allocation failed
  pub record Appends (old : S) (result : Result (List X) (ParseFault A)) (new : S) : Type 0 where
    pub mid : S
    pub spaced : TakesFront view at is_whitespace old mid
    pub appended : Appended mid result new

module _ {S X A : Type 0} (view : S → StreamView) (at : S → StreamView → S) (items : List X) where
  -- a required item was appended to the others, with the white space after it consumed; or it is the error
  abbrev pub KeptNext : Result X (ParseFault A) → S → Result (List X) (ParseFault A) → S → Type 0
  KeptNext (Ok item) mid result new = Appends view at items item mid result new
  KeptNext (Err fault) mid result new = (result ≡ Err fault) × (new ≡ mid)

  -- the next item was demanded and appended to the others
  pub record KeepsNext (answer : Result X (ParseFault A)) (old : S) (result : Result (List X) (ParseFault A)) (new : S) : Type 0 where
    pub item : Result X (ParseFault A)
    pub mid : S
    pub demands : DemandsOf view at answer old item mid
    pub kept : KeptNext item mid result new
