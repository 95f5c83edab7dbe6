-- The words of two families.
use Rattle.std.proofs.Common.{◌≡◌, Bool, true, false, cond, ◌||◌, List, [], ◌∷◌, ◌++◌, refl, sym, ◌∙◌, ap, subst, true≢false}
use Rattle.std.specs.Prelude.{map}
use Rattle.std.specs.Cmp.Lexicographic.{bytes_decides}
use Rattle.std.specs.Str.{bytes_eq}
use Rattle.irtext_base.specs.Text.{Text}
use Rattle.irtext_base.specs.Families.{is_one_of, readable, shared, AreApart}

joined : (a b c : Bool) (x y : Bool) → x ≡ b || c → y ≡ (a || b) || c → (a || x) ≡ y
joined true b c x y e f = sym f
joined false b c x y e f = e ∙ sym f

-- a word of both families' words is one of the one's or of the other's
pub one_of_both : (words others : List Text) (word : Text) → is_one_of (words ++ others) word ≡ (is_one_of words word || is_one_of others word)
one_of_both [] others word = refl
one_of_both (w ∷ words) others word = joined (bytes_eq word w) (is_one_of words word) (is_one_of others word) (is_one_of (words ++ others) word) _ (one_of_both words others word) refl

split : (b c : Bool) → (b ≡ true → ⊥) → c ≡ false → (b || c) ≡ false
split true c h e = absurd (h refl)
split false c h e = e

-- where no word is shared, a word of the others is none of the words
pub not_one_of : (words others : List Text) (word : Text) → shared words others ≡ [] → is_one_of others word ≡ true → is_one_of words word ≡ false
not_one_of [] others word e f = refl
not_one_of (w ∷ words) others word e f = by (is_one_of others w) refl (λ k. not_one_of words others word k f)
  where
    apart : (b : Bool) → is_one_of others w ≡ b → cond b (w ∷ shared words others) (shared words others) ≡ []
    apart b h = ap (λ z. cond z (w ∷ shared words others) (shared words others)) (sym h) ∙ e

    by : (b : Bool) → is_one_of others w ≡ b → (shared words others ≡ [] → is_one_of words word ≡ false) → (bytes_eq word w || is_one_of words word) ≡ false
    by true h more = let k : (w ∷ shared words others) ≡ [] = apart true h in absurd (cc)
    by false h more =
        split (bytes_eq word w) (is_one_of words word)
        (λ k. true≢false (sym (subst (λ z. is_one_of others z ≡ true) ((bytes_decides word w).0 k) f) ∙ h))
        (more (apart false h))

none_readable : (words : List Text) → map readable words ≡ [] → words ≡ []
none_readable [] e = refl
none_readable (w ∷ words) e = absurd (cc)

-- no word is shared by families that are apart
pub none_shared : (words others : List Text) → AreApart words others → shared words others ≡ []
none_shared words others e = none_readable (shared words others) e

pub or_right : (a b : Bool) → b ≡ true → (a || b) ≡ true
or_right true b e = refl
or_right false b e = e

pub or_false : (a b : Bool) → a ≡ false → (a || b) ≡ b
or_false true b e = absurd (true≢false e)
or_false false b e = refl
