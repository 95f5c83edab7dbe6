-- Two grammars as one.
use Rattle.std.specs.Prelude.{Bool, true, false, cond, List}
use Rattle.irtext_base.specs.Answers.{mapped}
use Rattle.irtext_base.specs.Text.{Text}
use Rattle.irtext_tokens.specs.Infix.{Reader}
use Rattle.irtext_tokens.specs.Eithers.{right, either_at, either_of}
use Rattle.irtext_tokens.specs.declared.either.Either.{Either}
use Rattle.irtext_tokens.specs.declared.either.Either.TheVariants.{Left}
use Rattle.irtext_tree.specs.Growths.{Growth}
use Rattle.irtext_tree.specs.declared.places.Places.{Places}
use Rattle.irtext_tree.specs.declared.places.Places.TheVariants as place
use Rattle.irtext_tree.specs.declared.waits.Waits.{Waits}
use Rattle.irtext_tree.specs.declared.waits.Waits.TheVariants as waits

-- what waits, with a function applied to the places
abbrev pub waits_by : {S T : Type 0} → (S → T) → Waits S → Waits T
waits_by see waits.Nothing = waits.Nothing
waits_by see (waits.One s) = waits.One (see s)
waits_by see (waits.Two s t) = waits.Two (see s) (see t)

module _ {S R L M : Type 0} (gl : Growth S L) (gr : Growth R M) where
  -- a place of the first grammar; that of a whole tree is shared
  abbrev pub left_place : S → Places S R
  left_place s = cond (gl.same gl.start s) place.Whole (place.Left s)

  abbrev pub right_place : R → Places S R
  right_place s = cond (gr.same gr.start s) place.Whole (place.Right s)

  abbrev pub same_places : Places S R → Places S R → Bool
  same_places place.Whole place.Whole = true
  same_places (place.Left s) (place.Left t) = gl.same s t
  same_places (place.Right s) (place.Right t) = gr.same s t
  same_places _ _ = false

  -- the places of both, of which that of a whole tree is shared, and what comes after each head
  abbrev pub pair_growth : {W : Type 0} → Growth (Places S R) (Either L M W)
  pair_growth = record {
    start = place.Whole;
    same = same_places;
    place = either_of (λ h. left_place (gl.place h)) (λ h. right_place (gr.place h));
    waits = either_of (λ h. waits_by left_place (gl.waits h)) (λ h. waits_by right_place (gr.waits h));
  }

  -- a head at a place
  abbrev pub pair_at : {W : Type 0} → List Text → (S → Reader L) → (R → Reader M) → Places S R → Reader (Either L M W)
  pair_at words first second place.Whole = either_at words (first gl.start) (second gr.start)
  pair_at words first second (place.Left s) = λ t. mapped Left (first s t)
  pair_at words first second (place.Right s) = λ t. mapped right (second s t)
