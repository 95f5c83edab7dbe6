-- For callers: a stream at a line and a column of a text.
use Rattle.std.specs.Prelude.{◌≡◌, ◌⊎◌, ℕ, false, [], ◌∷◌, ◌++◌}
use Rattle.irtext_base.specs.Text.{Text}
use Rattle.irtext_base.specs.Stream.{StreamView, IsAt}
use Rattle.irtext_stream.specs.declared.position.SourcePosition.{SourcePosition}

-- The stream has passed as little of this text as ends at this line and this column, or all of it if no beginning of the text ends there.
pub record StandsAt (text : Text) (at : SourcePosition) (v : StreamView) : Type 0 where
  pub fine : v.failed ≡ false
  pub same : v.passed ++ v.rest ≡ text
  pub there : IsAt at.line at.column v.passed ⊎ (v.rest ≡ [])
  pub first : (before : Text) (c : ℕ) (more : Text) → before ++ (c ∷ more) ≡ v.passed → IsAt at.line at.column before → ⊥
