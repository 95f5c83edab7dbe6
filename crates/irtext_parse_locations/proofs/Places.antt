-- Places of sources, of which those in memory are seen at once.
use Rattle.std.proofs.Common.{◌≡◌, ℕ, zero, suc, ◌≤◌, true, false, Option, None, List, Result, Ok, [], ◌∷◌, codes, length, refl, sym, subst, arith}
use Rattle.irtext_base.specs.Text.{Text, begins}
use Rattle.std.specs.Str.{chars}
use Rattle.irtext_base.specs.Stream.{StreamView}
use Rattle.irtext_stream.specs.Stream.{Comes}
use Rattle.irtext_base.specs.Answers.{Outcome, Gives, followed, mapped}
use Rattle.irtext_base.specs.Locations.{AttrView, src_pos}
use Rattle.irtext_base.specs.Paths.{Written, path_of}
use Rattle.irtext_base.specs.declared.location.Location.{Location}
use Rattle.irtext_base.specs.declared.location.Source.TheVariants.{InMemory}
use Rattle.irtext_base.specs.declared.parsable.fault.ParseFault.{ParseFault}
use Rattle.irtext_grammar.specs.Contexts.Held.{location_over}
use Rattle.irtext_tokens.specs.MustRead.{MustRead}
use Rattle.irtext_tokens.proofs.Steps.{Passed, alone, first, turned, mapped_followed}
use Rattle.irtext_grammar.specs.Readers.Locations.{begins_source, source_at, place_at, location_within, more_within}
use Rattle.irtext_grammar.specs.Readers.NewPaths.{MustReadOver, MustReadWithin, known_location}
use Rattle.irtext_grammar.specs.Readers.Positions.{spaced_at, position_at}
use Rattle.irtext_grammar.specs.Readers.Streams.{itself, replaced}
use Rattle.irtext_grammar.proofs.Locations.Begins.{is_place}
use Rattle.irtext_parse_locations.specs.Plain.{after_source_at}
use Rattle.irtext_parse_locations.proofs.Plain.{gets_must}

chars_memory : chars (codes "<in-memory>") ≡ codes "<in-memory>"
unfolding chars
chars_memory = refl

-- the source in memory was passed
pub memory_comes : {A : Type 0} (old mid : StreamView) → old.failed ≡ false → Comes (chars (codes "<in-memory>")) old (λ v. mid ≡ v) → MustRead {A = A} itself replaced (path_of []) source_at old (Ok InMemory) mid
memory_comes {A} old mid fine h =
    let k : Comes (codes "<in-memory>") old (λ v. mid ≡ v) = subst (λ t. Comes t old (λ v. mid ≡ v)) chars_memory h in
    let g : Gives itself replaced (source_at old.rest) old None mid = subst (λ t. Gives itself replaced (source_at t) old None mid) (sym k.1) (refl, record { is = k.2; same = sym k.1 }) in
    record { answers = (gets_must {A = A} source_at old mid None fine g).answers }

-- a source was parsed, and its line and column come next
pub source_passed : {A Y : Type 0} {see : Y → Option (List ℕ)} {old mid : StreamView} {y : Y} → MustRead {A = A} itself replaced see source_at old (Ok y) mid → Passed alone {V = Written A} place_at (λ t. mapped (src_pos (see y)) (after_source_at t)) old mid
source_passed {see = see} {mid = mid} {y = y} h =
    let s = see y in
    turned alone (λ t. mapped (src_pos s) (after_source_at t)) (sym (mapped_followed (src_pos s) (spaced_at (codes ":") mid.rest) (λ _ u. position_at u)))
    (first alone (λ s t. followed (spaced_at (codes ":") t) (λ _ u. mapped (src_pos s) (position_at u))) h)

-- where a source begins, a location is a place
place_within : {A : Type 0} (attr : Text → Outcome (AttrView A)) (depth : ℕ) (text : Text) → length text ≤ depth → begins begins_source text ≡ true → location_within attr depth text ≡ place_at text
place_within attr depth [] h b = absurd (cc)
place_within attr zero (c ∷ text) h b = absurd (omega (arith, h))
place_within attr (suc n) (c ∷ text) h b = is_place (location_within attr n) (more_within attr n) attr (c ∷ text) b

-- the place that was parsed is the location
pub place_is : {A : Type 0} (attr : Text → Outcome (AttrView A)) {paths : List (List ℕ)} {old new : StreamView} {r : Result (Location A) (ParseFault A)} → begins begins_source old.rest ≡ true → MustReadOver known_location location_over place_at paths old r new → MustReadWithin known_location location_over (location_within attr) paths old r new
place_is attr {old = old} b h = record { within = λ depth enough. record { known = h.known; read = record { answers = rw (place_within attr depth old.rest enough b) h.read.answers } } }
