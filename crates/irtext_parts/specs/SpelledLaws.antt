-- The law of texts that are kept as they are spelled.
use Rattle.std.proofs.Common.{◌≡◌, ◌∙◌, ℕ, Bool, true, false, cond, Option, Some, None, [], ◌∷◌, ◌++◌, refl, sym, ap, ap₂, true≢false, inl, inr}
use Rattle.std.specs.Char.{is_whitespace}
use Rattle.std.specs.List.{list_all}
use Rattle.std.specs.Prelude.{◌↔◌, IsTrue, not}
use Rattle.std.specs.Str.{IsAscii, encode_utf8_all}
use Rattle.std.proofs.lemmas.Str.{encodes-IsAscii}
use Rattle.std.proofs.lemmas.Str.Ascii.{IsAscii-nil}
use Rattle.irtext_base.specs.Text.{Text, begins, front, after}
use Rattle.irtext_base.specs.Stream.{first_of}
use Rattle.irtext_base.specs.Faults.{Unexpected, OwnText}
use Rattle.irtext_base.specs.Answers.{Outcome, Read, Missing}
use Rattle.irtext_base.specs.Own.{verdict, can_follow, Ends}
use Rattle.irtext_base.proofs.Along.{front_after}
use Rattle.irtext_base.proofs.Characters.{and_left, and_right, or_left, is_false, front_all, after_all}
use Rattle.irtext_base.proofs.Scalars.{scalars_ascii}
use Rattle.irtext_base.proofs.Sincere.{Of, of_either, of_here, of_missing, of_read, sincere_of}
use Rattle.irtext_syntax.specs.CloserTests.{closer_follows}
use Rattle.irtext_syntax.specs.PartLaws.{PartLaw, MissesClosers, EndsAnywhere}
use Rattle.irtext_syntax.specs.PartSteps.{not_true, ascii-cons}
use Rattle.irtext_syntax.specs.ReadHere.{read_here}
use Rattle.irtext_syntax.specs.ScalarTexts.{ScalarText, scalar_text, scalar_text_found}
use Rattle.irtext_syntax.specs.Words.{chosen}
use Rattle.irtext_parts.specs.Spellings.{Rules, RulesLaw, ends_spelled}
use Rattle.irtext_parts.specs.SpelledOf.{spelled_of, spelled_at, spelled_found, spelled_same}
use Rattle.irtext_parts.specs.declared.spelling.Spelling as spelling
use Rattle.irtext_parts.specs.declared.spelled.Spelled.{Spelled}

module _ (rules : Rules) (law : RulesLaw rules) where
  -- a text of these characters is ASCII
  pub ascii_spelled : (text : Text) → list_all rules.later text ≡ true → IsAscii text
  ascii_spelled [] e = IsAscii-nil
  ascii_spelled (c ∷ text) e = ascii-cons c text (law.small c (and_left (rules.later c) (list_all rules.later text) e)) (ascii_spelled text (and_right (rules.later c) (list_all rules.later text) e))

  -- what can follow a value's text does not go on with these characters
  follows : (rest : Text) → begins can_follow rest ≡ true → begins rules.later rest ≡ false
  follows [] e = refl
  follows (c ∷ rest) e = law.apart c e

  ends : (rest : Text) → Ends rest → begins rules.later rest ≡ false
  ends [] e = refl
  ends (c ∷ rest) (inl e) = absurd (cc)
  ends (c ∷ rest) (inr e) = law.apart c e

  -- what can follow a value's text does not begin one of these
  no_first : (c : ℕ) → can_follow c ≡ true → rules.first c ≡ false
  no_first c e = is_false (rules.first c) (λ f. true≢false (sym (law.within c f) ∙ law.apart c e))

  space_follows : (c : ℕ) → is_whitespace c ≡ true → can_follow c ≡ true
  space_follows c e = or_left (is_whitespace c) _ e

  no_space : (text : Text) → begins rules.first text ≡ true → begins is_whitespace text ≡ false
  no_space [] e = refl
  no_space (c ∷ text) e = is_false (is_whitespace c) (λ f. true≢false (sym e ∙ no_first c (space_follows c f)))

  begun : (text rest : Text) → begins rules.first text ≡ true → begins rules.first (text ++ rest) ≡ true
  begun [] rest e = absurd (true≢false (sym e))
  begun (c ∷ text) rest e = e

  -- whatever can follow a value's text can follow one of these
  pub spelled_last : EndsAnywhere (ends_spelled rules)
  spelled_last = record { anywhere = λ rest e. ap not (ends rest e) }

module _ {K : Type 0} (g : spelling.Ghosts K) where
  -- a text that was read, or characters that are none
  of_chosen : (text : Text) (o : Option (Spelled K g)) → Of text (chosen g.rules.refusal (front g.rules.later text) (after g.rules.later text) o)
  of_chosen text (Some x) = of_read text x (front g.rules.later text) (after g.rules.later text) (front_after g.rules.later text)
  of_chosen text None = of_here text (OwnText (g.rules.refusal ++ front g.rules.later text)) refl

  module _ (law : RulesLaw g.rules) where
    first_is : (x : Spelled K g) → begins g.rules.first x.text.characters ≡ true
    first_is x = and_left (begins g.rules.first x.text.characters) _ x.spelled

    every : (x : Spelled K g) → list_all g.rules.later x.text.characters ≡ true
    every x = and_left (list_all g.rules.later x.text.characters) _ (and_right (begins g.rules.first x.text.characters) _ x.spelled)

    spelled-here : (x : Spelled K g) (rest : Text) → begins g.rules.later rest ≡ false → spelled_at g (x.text.characters ++ rest) ≡ Read x x.text.characters rest
    spelled-here x rest stop =
        let t = x.text.characters ++ rest in
        let later = g.rules.later in
        ap (λ b. let o : Outcome (Spelled K g) = cond b (chosen g.rules.refusal (front later t) (after later t) (spelled_of g (scalar_text (front later t)))) (Missing (Unexpected (first_of t) g.rules.demand)) in o) (begun g.rules law x.text.characters rest (first_is x))
        ∙ (ap₂ (λ f a. chosen g.rules.refusal f a (spelled_of g (scalar_text f))) (front_all later x.text.characters rest (every x) stop) (after_all later x.text.characters rest (every x) stop)
        ∙ ap (chosen g.rules.refusal x.text.characters rest) (ap (spelled_of g) (scalar_text_found x.text) ∙ spelled_found g x))

    pub spelled_law : PartLaw (spelled_at g) (λ x. x.text.characters) (ends_spelled g.rules)
    spelled_law = record {
      back = λ x rest e. read_here (spelled_at g) x (x.text.characters ++ rest) x.text.characters rest (no_space g.rules law (x.text.characters ++ rest) (begun g.rules law x.text.characters rest (first_is x))) (spelled-here x rest (not_true (begins g.rules.later rest) e));
      closed = λ rest e. ap not (follows g.rules law rest (and_left (begins can_follow rest) _ e));
      scalars = λ x. scalars_ascii x.text.characters (ascii_spelled g.rules law x.text.characters (every x));
      sincere = sincere_of (spelled_at g) (λ text. of_either text (begins g.rules.first text) _ _ (of_chosen text (spelled_of g (scalar_text (front g.rules.later text)))) (of_missing text _ refl));
    }

    -- the bytes of such a text are its characters
    pub encodes-spelled : (x : Spelled K g) → encode_utf8_all x.text.characters ≡ x.text.characters
    encodes-spelled x = encodes-IsAscii x.text.characters (ascii_spelled g.rules law x.text.characters (every x))

    pub spelled_misses : MissesClosers (spelled_at g)
    spelled_misses = record {
      misses = λ c rest e. ap (λ b. verdict (cond b (chosen g.rules.refusal (front g.rules.later (c ∷ rest)) (after g.rules.later (c ∷ rest)) (spelled_of g (scalar_text (front g.rules.later (c ∷ rest))))) (Missing (Unexpected (Some c) g.rules.demand)))) (no_first g.rules law c (closer_follows c e));
    }

  -- two are equal exactly if their texts are
  pub spelled_decides : (test : ScalarText → ScalarText → Bool) → ((s t : ScalarText) → IsTrue (test s t) ↔ (s ≡ t)) → (x y : Spelled K g) → IsTrue (test x.text y.text) ↔ (x ≡ y)
  spelled_decides test decides x y = (λ e. spelled_same g x y ((decides x.text y.text).0 e), λ e. (decides x.text y.text).1 (ap (λ z. z.text) e))
