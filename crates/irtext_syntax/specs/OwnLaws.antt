-- The law of the caller's types and attributes as parts.
use Rattle.std.proofs.Common.{◌≡◌, ℕ, Bool, true, false, ◌∷◌, [], ◌++◌, refl, ◌∙◌, ap, inl, inr, arith}
use Rattle.std.proofs.lemmas.Bool.Decides.{nat_tests}
use Rattle.std.specs.Prelude.{◌↔◌, IsTrue}
use Rattle.irtext_base.specs.Text.{Text, begins_word}
use Rattle.irtext_base.specs.Own.{verdict, texts_of, can_follow, Ends, Lawful, Sincere}
use Rattle.irtext_base.proofs.Characters.{and_left, word_tight}
use Rattle.irtext_tokens.specs.Infix.{Reader}
use Rattle.irtext_syntax.specs.Owns.{own_with, own_at, own_text, ends_text}
use Rattle.irtext_syntax.specs.PartLaws.{is_closer, closes, IsRead, PartLaw, MissesClosers, EndsAnywhere}
use Rattle.irtext_syntax.specs.MappedLaws.{mapped_law, mapped_misses, mapped_decides}
use Rattle.irtext_syntax.specs.declared.own.Own.{Own}

-- the test says what the grammar's relation does
pub ends_if : (rest : Text) → ends_text rest ≡ true → Ends rest
ends_if [] e = inl refl
ends_if (c ∷ rest) e = inr e

pub ends_of : (rest : Text) → Ends rest → ends_text rest ≡ true
ends_of [] e = refl
ends_of (c ∷ rest) (inl e) = absurd (cc)
ends_of (c ∷ rest) (inr e) = e

-- what closes a part ends a text
pub ends_closing : (rest : Text) → closes rest ≡ true → ends_text rest ≡ true
ends_closing [] e = refl
ends_closing (c ∷ rest) e = and_left (can_follow c) _ e

closer_no_word : (c : ℕ) → is_closer c ≡ true → begins_word c ≡ false
closer_no_word c e = grind (arith, nat_tests)

module _ {T : Type 0} (reading : Reader T) (written : T → Text) where
  -- the law of a type's or an attribute's texts, as the law of a part
  pub text_law : Lawful T (texts_of reading written) → Sincere reading → PartLaw reading written ends_text
  text_law l s = record { back = back; closed = ends_closing; scalars = l.scalars; sincere = s }
    where
      back : (x : T) (rest : Text) → ends_text rest ≡ true → IsRead reading x (written x ++ rest) rest
      back x rest e =
          let k = l.again x rest (ends_if rest e) in
          (k.0, ap (λ z. verdict (reading z)) (word_tight (written x ++ rest) (l.starts x rest)) ∙ k.1, k.2)

  pub text_misses : Lawful T (texts_of reading written) → MissesClosers reading
  text_misses l = record { misses = λ c rest e. l.misses (c ∷ rest) (closer_no_word c e) }

  pub own_law : Lawful T (texts_of reading written) → Sincere reading → PartLaw (own_at reading) (own_text written) ends_text
  own_law l s = mapped_law own_with (λ x. x.value) (λ x. refl) (text_law l s)

  pub own_misses : Lawful T (texts_of reading written) → MissesClosers (own_at reading)
  own_misses l = mapped_misses own_with (text_misses l)

pub own_last : EndsAnywhere ends_text
own_last = record { anywhere = ends_of }

pub own_decides : {T : Type 0} (value_eq : T → T → Bool) (eq : Own T → Own T → Bool) → ((x y : Own T) → eq x y ≡ value_eq x.value y.value) → ((x y : T) → IsTrue (value_eq x y) ↔ (x ≡ y)) → (x y : Own T) → IsTrue (eq x y) ↔ (x ≡ y)
own_decides value_eq eq is d = mapped_decides value_eq eq own_with (λ x. x.value) (λ x. refl) is d
