-- For callers: the marker in place of an attribute that is printed in the section.
use Rattle.std.specs.Prelude.{◌≡◌, Bool, true, false, cond, Option, Some, None, Result, Ok, Err, [], ◌∷◌, codes}
use Rattle.irtext_base.specs.Text.{Text, after_space}
use Rattle.irtext_base.specs.Reading.{the}
use Rattle.irtext_base.specs.Stream.{StreamView}
use Rattle.irtext_base.specs.Answers.{Takes}
use Rattle.irtext_base.specs.declared.parsable.fault.ParseFault.{ParseFault}
use Rattle.irtext_tokens.specs.Lists.{Skips}

-- the marker
abbrev pub marker : Text
marker = codes "!outlined"

-- the text begins with the word
abbrev pub starts_with : Text → Text → Bool
starts_with [] text = true
starts_with (c ∷ word) [] = false
starts_with (c ∷ word) (d ∷ text) = cond (the c d) (starts_with word text) false

module _ {S : Type 0} (view : S → StreamView) (at : S → StreamView → S) where
  -- white space and the word were consumed, or the stream is unchanged
  abbrev pub TakesOr : Bool → Text → S → S → Type 0
  TakesOr true word old new = (mid : S) × Skips view at old mid × Takes view at word (view new).rest mid new
  TakesOr false word old new = new ≡ old

  -- whether the word comes next, after white space; if it does, both were consumed
  pub record TakesWord (word : Text) (old : S) (result : Bool) (new : S) : Type 0 where
    pub tells : result ≡ starts_with word (after_space (view old).rest)
    pub left : TakesOr result word old new

  module _ {F X A : Type 0} (calls : F → S → Result X (ParseFault A) → F → S → Type 0) where
    -- White space and the marker; or, if the marker does not come next, the call on the unchanged stream.
    pub data MarkerOr (f : F) (s : S) : Result (Option X) (ParseFault A) → S → Type 0 where
      marked : (b u : S) → Skips view at s b → starts_with marker (view b).rest ≡ true → Takes view at marker (view u).rest b u → MarkerOr f s (Ok None) u
      unmarked : (x : X) (g : F) (u : S) → starts_with marker (after_space (view s).rest) ≡ false → calls f s (Ok x) g u → MarkerOr f s (Ok (Some x)) u
      refused : (fault : ParseFault A) (g : F) (u : S) → starts_with marker (after_space (view s).rest) ≡ false → calls f s (Err fault) g u → MarkerOr f s (Err fault) u
