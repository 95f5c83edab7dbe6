-- The texts of two families keep the law of texts as one.
use Rattle.std.proofs.Common.{◌≡◌, Bool, true, false, cond, List, [], ◌++◌, refl, sym, ◌∙◌, ap, subst, true≢false, codes}
use Rattle.std.specs.Prelude.{◌↔◌, IsTrue}
use Rattle.std.specs.Str.{all_scalars}
use Rattle.irtext_base.specs.Text.{Text, begins, front, after_space, begins_word, in_dotted}
use Rattle.irtext_base.specs.Reading.{keyword}
use Rattle.irtext_base.specs.Answers.{Outcome, Read, Missing, Bad, mapped}
use Rattle.irtext_base.specs.Own.{found, missing, verdict, texts_of, Ends, Lawful, Sincere, Unreserved}
use Rattle.irtext_base.proofs.Characters.{or_left}
use Rattle.irtext_base.proofs.Sincere.{of_either, of_mapped, of_sincere, sincere_of}
use Rattle.irtext_base.specs.Families.{is_one_of, AreApart, BeginsWithWord}
use Rattle.irtext_tokens.specs.EitherWords.{one_of_both, none_shared, not_one_of, or_right}
use Rattle.irtext_tokens.specs.Eithers.{right, either_at, either_of}
use Rattle.irtext_tokens.specs.declared.either.Either.{Either}
use Rattle.irtext_tokens.specs.declared.either.Either.TheVariants.{Left, Right}

-- an outcome that is missing is so under each view
mapped_missing : {X Y : Type 0} (see : X → Y) (o : Outcome X) → verdict o ≡ missing → verdict (mapped see o) ≡ missing
mapped_missing see (Read x taken left) e = absurd (cc)
mapped_missing see (Missing cause) e = refl
mapped_missing see (Bad cause upto) e = absurd (cc)

-- a value that is found is found under each view
mapped_found : {X Y : Type 0} (see : X → Y) (o : Outcome X) (x : X) (left : Text) → verdict o ≡ found x left → verdict (mapped see o) ≡ found (see x) left
mapped_found see (Read y taken more) x left e = cc
mapped_found see (Missing cause) x left e = absurd (cc)
mapped_found see (Bad cause upto) x left e = absurd (cc)

missed_by : {X : Type 0} (test : Bool) (o p : Outcome X) → verdict o ≡ missing → verdict p ≡ missing → verdict (cond test o p) ≡ missing
missed_by true o p h k = h
missed_by false o p h k = k

module _ {L R W : Type 0} (words others : List Text) (left_at : Text → Outcome L) (left_text : L → Text) (right_at : Text → Outcome R) (right_text : R → Text) where
  abbrev at : Text → Outcome (Either L R W)
  at = either_at words left_at right_at

  abbrev text_of : Either L R W → Text
  text_of = either_of left_text right_text

  pub either_led : BeginsWithWord words left_text → BeginsWithWord others right_text → BeginsWithWord (words ++ others) text_of
  either_led l r = record { leads = by }
    where
      by : (x : Either L R W) (rest : Text) → Ends rest → is_one_of (words ++ others) (front in_dotted (text_of x ++ rest)) ≡ true
      by (Left x) rest e = one_of_both words others _ ∙ or_left _ _ (l.leads x rest e)
      by (Right y p) rest e = one_of_both words others _ ∙ or_right _ _ (r.leads y rest e)

  pub either_lawful : Lawful L (texts_of left_at left_text) → Lawful R (texts_of right_at right_text) → BeginsWithWord words left_text → BeginsWithWord others right_text → AreApart words others → Lawful (Either L R W) (texts_of at text_of)
  either_lawful l r ll rl d = record { starts = starts; misses = misses; again = again; scalars = scalars }
    where
      starts : (x : Either L R W) (rest : Text) → begins begins_word (text_of x ++ rest) ≡ true
      starts (Left x) rest = l.starts x rest
      starts (Right y p) rest = r.starts y rest

      misses : (text : Text) → begins begins_word text ≡ false → verdict (at text) ≡ missing
      misses text e = missed_by (is_one_of words (front in_dotted text)) _ _ (mapped_missing Left (left_at text) (l.misses text e)) (mapped_missing right (right_at text) (r.misses text e))

      ours : (text : Text) (x : L) (left : Text) → is_one_of words (front in_dotted text) ≡ true → verdict (left_at text) ≡ found x left → verdict (at text) ≡ found (Left x) left
      ours text x left b e = ap (λ z. verdict (cond z (mapped Left (left_at text)) (mapped right (right_at text)))) b ∙ mapped_found Left (left_at text) x left e

      theirs : (text : Text) (y : R) (left : Text) → is_one_of words (front in_dotted text) ≡ false → verdict (right_at text) ≡ found y left → verdict (at text) ≡ found (right y) left
      theirs text y left b e = ap (λ z. verdict (cond z (mapped Left (left_at text)) (mapped right (right_at text)))) b ∙ mapped_found right (right_at text) y left e

      again : (x : Either L R W) (rest : Text) → Ends rest → (left : Text) × (verdict (at (text_of x ++ rest)) ≡ found x left) × (after_space left ≡ after_space rest)
      again (Left x) rest e = let k = l.again x rest e in (k.0, ours (left_text x ++ rest) x k.0 (ll.leads x rest e) k.1, k.2)
      again (Right y p) rest e = let k = r.again y rest e in (k.0, theirs (right_text y ++ rest) y k.0 (not_one_of words others _ (none_shared words others d) (rl.leads y rest e)) k.1, k.2)

      scalars : (x : Either L R W) → all_scalars (text_of x) ≡ true
      scalars (Left x) = l.scalars x
      scalars (Right y p) = r.scalars y

  pub either_unreserved : Unreserved L (texts_of left_at left_text) → Unreserved R (texts_of right_at right_text) → Unreserved (Either L R W) (texts_of at text_of)
  either_unreserved l r = record { given_names = given_names; identifier = identifier }
    where
      given_names : (x : Either L R W) (rest left : Text) → keyword (codes "builtin.given_names") (text_of x ++ rest) left → ⊥
      given_names (Left x) rest left k = l.given_names x rest left k
      given_names (Right y p) rest left k = r.given_names y rest left k

      identifier : (x : Either L R W) (rest left : Text) → keyword (codes "builtin.identifier") (text_of x ++ rest) left → ⊥
      identifier (Left x) rest left k = l.identifier x rest left k
      identifier (Right y p) rest left k = r.identifier y rest left k

pub either_sincere : {L R W : Type 0} (words : List Text) (left_at : Text → Outcome L) (right_at : Text → Outcome R) → Sincere left_at → Sincere right_at → Sincere (either_at {W = W} words left_at right_at)
either_sincere {W = W} words left_at right_at l r = sincere_of (either_at {W = W} words left_at right_at) (λ text. of_either text (is_one_of words (front in_dotted text)) _ _ (of_mapped text _ _ (of_sincere left_at l text)) (of_mapped text _ _ (of_sincere right_at r text)))

-- equality that compares like with like decides where both families' equalities do
pub either_decides : {L R W : Type 0} (left_eq : L → L → Bool) (right_eq : R → R → Bool) (eq : Either L R W → Either L R W → Bool) → ((x y : L) → eq (Left x) (Left y) ≡ left_eq x y) → ((x : L) (y : R) → eq (Left x) (right y) ≡ false) → ((x : R) (y : L) → eq (right x) (Left y) ≡ false) → ((x y : R) → eq (right x) (right y) ≡ right_eq x y)
    → ((x y : L) → IsTrue (left_eq x y) ↔ (x ≡ y)) → ((x y : R) → IsTrue (right_eq x y) ↔ (x ≡ y)) → (x y : Either L R W) → IsTrue (eq x y) ↔ (x ≡ y)
either_decides {L} {R} {W} left_eq right_eq eq ll lr rl rr l r x y = (same x y, λ e. subst (λ z. eq x z ≡ true) e (own x))
  where
    own : (x : Either L R W) → eq x x ≡ true
    own (Left x) = ll x x ∙ (l x x).1 refl
    own (Right x p) = rr x x ∙ (r x x).1 refl

    same : (x y : Either L R W) → eq x y ≡ true → x ≡ y
    same (Left x) (Left y) e = ap Left ((l x y).0 (sym (ll x y) ∙ e))
    same (Left x) (Right y p) e = absurd (true≢false (sym e ∙ lr x y))
    same (Right x p) (Left y) e = absurd (true≢false (sym e ∙ rl x y))
    same (Right x p) (Right y q) e = ap right ((r x y).0 (sym (rr x y) ∙ e))
