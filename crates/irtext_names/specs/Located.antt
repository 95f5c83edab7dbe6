-- Between functions: the location of what was parsed.
use Rattle.std.specs.Prelude.{◌≡◌, ℕ, ◌-◌, length, take}
use Rattle.irtext_base.specs.Text.{Text}
use Rattle.irtext_base.specs.Stream.{IsAt}
use Rattle.irtext_base.specs.declared.location.Location.{Location, SrcPos}
use Rattle.irtext_base.specs.declared.location.Source.{Source}
use Rattle.irtext_stream.specs.Places.{AtOffset}
use Rattle.irtext_stream.specs.declared.position.Place.{Place}
use Rattle.irtext_stream.specs.declared.position.SourcePosition.{SourcePosition}
use Rattle.irtext_grammar.specs.Promises.Root.{position_after}

-- the location is this place of the text, in a source
abbrev pub IsLocated : {A : Type 0} → Source → Text → ℕ → Location A → Type 0
IsLocated source text place loc = loc ≡ SrcPos source (position_after (take (length text - place) text))

-- the same for a position of the stream
pub record IsLocatedAt {A : Type 0} (source : Source) (text : Text) (place : Place) (loc : Location A) : Type 0 where
  pub at : SourcePosition
  pub is : loc ≡ SrcPos source at
  pub positioned : AtOffset place.offset text (λ passed rest. IsAt at.line at.column passed)
