-- A bound on the nesting of a location changes nothing if the text is within it.
use Rattle.std.proofs.Common.{◌≡◌, ℕ, zero, suc, ◌≤◌, cond, Option, Result, List, [], ◌∷◌, length, refl, ◌∙◌, ap, ap₂, arith}
use Rattle.std.proofs.Math.Nat.{le_refl}
use Rattle.std.specs.Prelude.{codes}
use Rattle.std.specs.Char.{is_whitespace}
use Rattle.irtext_base.specs.Text.{Text, begins, after_space, front}
use Rattle.irtext_base.specs.Reading.{the}
use Rattle.irtext_base.specs.Stream.{StreamView}
use Rattle.irtext_base.specs.Answers.{Outcome, Read, Missing, Bad, followed, prefixed, mapped}
use Rattle.irtext_base.specs.Locations.{AttrView, fused, call_site, no_location, location}
use Rattle.irtext_base.specs.Paths.{Written}
use Rattle.irtext_base.specs.declared.location.Location.{Location}
use Rattle.irtext_base.specs.declared.parsable.fault.ParseFault.{ParseFault}
use Rattle.irtext_tokens.specs.Tokens.{text_at}
use Rattle.irtext_tokens.proofs.Honest.{honest_word, honest_spaced}
use Rattle.irtext_grammar.specs.Readers.RestLengths.{Leaves, LeavesNoMore}
use Rattle.irtext_grammar.specs.Readers.Positions.{space_at, spaced_at}
use Rattle.irtext_grammar.specs.Contexts.Held.{location_over}
use Rattle.irtext_grammar.specs.Readers.NewPaths.{MustReadOver, MustReadWithin, known_location}
use Rattle.irtext_grammar.specs.Readers.Locations.{WrittenRow, begins_source, after_location, row_of, row_at, more_at, fused_at, named_at, call_site_at, kind_at, location_within, more_within, location_at}
use Rattle.irtext_grammar.proofs.Readers.Honest.{honest_title}
use Rattle.irtext_grammar.proofs.Locations.RestLengths.{Within, leaves_honest, leaves_followed, followed_same, first_same, leaves_word, space_bound}
use Rattle.irtext_grammar.proofs.Locations.LocationRests.{within_metadata, within_location}

-- ---- two parsers of inner locations that agree on texts of so many characters
module _ {A : Type 0} (inner other : Text → Outcome (Written A)) (more others : Text → Outcome (WrittenRow A)) (b : ℕ)
    (inner_within : Within b inner)
    (same : (text : Text) → length text ≤ b → inner text ≡ other text) (same_more : (text : Text) → length text ≤ b → more text ≡ others text) where
  after_same : (l : Written A) (text : Text) → length text ≤ b → after_location inner more l text ≡ after_location other others l text
  after_same l text h = ap (λ o. prefixed (front is_whitespace text) (mapped (location l) o)) (same_more (after_space text) (space_bound b text h))

  row_of_same : (o : Outcome (Written A)) (text : Text) → Leaves b o → row_of inner more o text ≡ row_of other others o text
  row_of_same (Read l taken rest) text k = ap (prefixed taken) (after_same l rest (k.by l taken rest refl))
  row_of_same (Missing cause) text k = refl
  row_of_same (Bad cause upto) text k = refl

  row_same : (text : Text) → length text ≤ b → row_at inner more text ≡ row_at other others text
  row_same text h = row_of_same (inner text) text (inner_within.leaves text h) ∙ ap (λ o. row_of other others o text) (same text h)

  -- further locations of a list are parsed the same under each bound that their text is within
  pub more_same : (text : Text) → length text ≤ suc b → more_at inner more text ≡ more_at other others text
  more_same text h = ap (λ o. cond (begins (the 44) text) o (Read no_location [] text)) (followed_same b _ _ _ (leaves_word b 44 [] text h)
      (λ _ t i. let u = after_space t in let j = space_bound b t i in ap (prefixed (front is_whitespace t)) (followed_same b (inner u) _ _ (inner_within.leaves u j) after_same ∙ first_same _ _ _ (same u j))))

  module _ (attr : Text → Outcome (AttrView A)) (no_more : LeavesNoMore attr) where
    listed_same : (m : Option (AttrView A)) (v : Text) → length v ≤ b
        → followed (text_at (codes "[") v) (λ _ w. followed (space_at w) (λ _ x. followed (row_at inner more x) (λ ls y. mapped (λ _. fused m ls) (text_at (codes "]") y))))
        ≡ followed (text_at (codes "[") v) (λ _ w. followed (space_at w) (λ _ x. followed (row_at other others x) (λ ls y. mapped (λ _. fused m ls) (text_at (codes "]") y))))
    listed_same m v h = followed_same b _ _ _ (leaves_honest (honest_word (codes "[")) b v h) (λ _ w i. ap (prefixed (front is_whitespace w)) (first_same _ _ _ (row_same (after_space w) (space_bound b w i))))

    fused_same : (text : Text) → length text ≤ suc b → fused_at inner more attr text ≡ fused_at other others attr text
    fused_same text h = followed_same b _ _ _ (leaves_word b 102 (codes "used") text h)
        (λ _ t i. ap (prefixed (front is_whitespace t)) (followed_same b _ _ _ ((within_metadata no_more).leaves (after_space t) (space_bound b t i)) listed_same))

    named_same : (text : Text) → length text ≤ suc b → named_at inner more text ≡ named_at other others text
    named_same text h = followed_same b _ _ _ (leaves_followed b _ _ (leaves_word b 110 (codes "ame") text h) (λ _. leaves_honest honest_title b)) (λ name t i. first_same _ _ _ (same t i))

    caller_same : (callee : Written A) (v : Text) → length v ≤ b
        → followed (spaced_at (codes "at") v) (λ _ w. followed (inner w) (λ caller x. mapped (λ _. call_site callee caller) (spaced_at (codes ")") x)))
        ≡ followed (spaced_at (codes "at") v) (λ _ w. followed (other w) (λ caller x. mapped (λ _. call_site callee caller) (spaced_at (codes ")") x)))
    caller_same callee v h = followed_same b _ _ _ (leaves_honest (honest_spaced (codes "at")) b v h) (λ _ w i. first_same _ _ _ (same w i))

    call_site_same : (text : Text) → length text ≤ suc b → call_site_at inner more text ≡ call_site_at other others text
    call_site_same text h = followed_same b _ _ _ (leaves_word b 99 (codes "allsite") text h) (λ _ t i. followed_same b _ _ _ (leaves_honest (honest_spaced (codes "(")) b t i)
        (λ _ u j. followed_same b (inner u) _ _ (inner_within.leaves u j) caller_same ∙ first_same _ _ _ (same u j)))

    -- a location is parsed the same under each bound that its text is within
    pub kind_same : (text : Text) → length text ≤ suc b → kind_at inner more attr text ≡ kind_at other others attr text
    kind_same text h = ap (cond (begins begins_source text) _) (ap₂ (cond (begins (the 102) text)) (fused_same text h) (ap₂ (cond (begins (the 110) text)) (named_same text h) (ap₂ (cond (begins (the 99) text)) (call_site_same text h) refl)))

-- ---- every bound that the text is within
module _ {A : Type 0} (attr : Text → Outcome (AttrView A)) (no_more : LeavesNoMore attr) where
  -- two bounds give one result
  abbrev Same : ℕ → ℕ → Text → Type 0
  Same m n text = (location_within attr m text ≡ location_within attr n text) × (more_within attr m text ≡ more_within attr n text)

  same_within : (b m n : ℕ) (text : Text) → b ≤ m → b ≤ n → length text ≤ b → Same m n text
  same_within zero zero zero [] h k l = (refl, refl)
  same_within zero zero (suc n) [] h k l = (refl, refl)
  same_within zero (suc m) zero [] h k l = (refl, refl)
  same_within zero (suc m) (suc n) [] h k l = (refl, refl)
  same_within zero m n (c ∷ text) h k l = absurd (omega (arith, l))
  same_within (suc b) zero n text h k l = absurd (omega (arith, h))
  same_within (suc b) (suc m) zero text h k l = absurd (omega (arith, k))
  same_within (suc b) (suc m) (suc n) text h k l =
      let up : b ≤ m = omega (arith, h) in
      let to : b ≤ n = omega (arith, k) in
      let same : (text : Text) → length text ≤ b → location_within attr m text ≡ location_within attr n text = λ t i. (same_within b m n t up to i).0 in
      let same_more : (text : Text) → length text ≤ b → more_within attr m text ≡ more_within attr n text = λ t i. (same_within b m n t up to i).1 in (
        kind_same (location_within attr m) (location_within attr n) (more_within attr m) (more_within attr n) b (within_location no_more m) same same_more attr no_more text l,
        more_same (location_within attr m) (location_within attr n) (more_within attr m) (more_within attr n) b (within_location no_more m) same same_more text l,
      )

  -- bounds that a text is within make no difference
  pub within_enough : (m n : ℕ) (text : Text) → length text ≤ m → length text ≤ n → Same m n text
  within_enough m n text h k = same_within (length text) m n text h k (le_refl (length text))

-- what was parsed at every depth that is enough is parsed at the depth of the text's length
pub at_length : {A : Type 0} (attr : Text → Outcome (AttrView A)) {paths : List (List ℕ)} {old new : StreamView} {r : Result (Location A) (ParseFault A)} → MustReadWithin known_location location_over (location_within attr) paths old r new
    → MustReadOver known_location location_over (location_at attr) paths old r new
at_length attr {old = old} h = let m = h.within (length old.rest) (omega arith) in record { known = m.known; read = record { answers = m.read.answers } }
