-- What follows a list neither begins an item nor separates items.
use Rattle.std.specs.Prelude.{◌≡◌, ℕ, Bool, true, false, cond, not, ◌==◌, ◌||◌, ◌⊎◌, List, [], ◌∷◌, ◌++◌, refl}
use Rattle.std.proofs.Common.{inl, inr, sym, ◌∙◌, ap, true≢false}
use Rattle.irtext_base.specs.Text.{Text, begins, begins_word}
use Rattle.irtext_base.specs.Reading.{the, more}
use Rattle.irtext_base.specs.Format.{has, kind, disjoint}
use Rattle.irtext_grammar.specs.Spelling.Writable.{OneOf}
use Rattle.irtext_base.proofs.Characters.{is_false, and_left, and_right}
use Rattle.irtext_base.proofs.Numbers.{same_character}

-- the next character is of none of these kinds
abbrev pub NoneOf : List ℕ → Text → Type 0
NoneOf kinds t = begins (λ c. has ◌==◌ (kind c) kinds) t ≡ false

-- nothing is in both lists
abbrev pub Disjoint : List ℕ → List ℕ → Type 0
Disjoint cs ds = (k : ℕ) → has ◌==◌ k cs ≡ true → has ◌==◌ k ds ≡ true → ⊥

not_and : (b : Bool) → not b ≡ true → b ≡ true → ⊥
not_and true e f = true≢false (sym e)
not_and false e f = true≢false (sym f)

-- lists that the test calls disjoint have no member in common
pub disjoint_law : (cs ds : List ℕ) → disjoint cs ds ≡ true → Disjoint cs ds
disjoint_law [] ds e k f g = true≢false (sym f)
disjoint_law (c ∷ cs) ds e k f g = go (k == c) refl f (λ h. disjoint_law cs ds (and_right (not (has ◌==◌ c ds)) (disjoint cs ds) e) k h g)
  where
    go : (b : Bool) → (k == c) ≡ b → (b || has ◌==◌ k cs) ≡ true → (has ◌==◌ k cs ≡ true → ⊥) → ⊥
    go true q h more = not_and (has ◌==◌ c ds) (and_left (not (has ◌==◌ c ds)) (disjoint cs ds) e) (ap (λ c. has ◌==◌ c ds) (sym (same_character k c q)) ∙ g)
    go false q h more = more h

-- a text that begins with one of some kinds begins with none of kinds that are disjoint from them
pub apart_none : (cs ds : List ℕ) (t : Text) → Disjoint cs ds → OneOf ds t → NoneOf cs t
apart_none cs ds [] e o = refl
apart_none cs ds (c ∷ t) e (inl o) = absurd (cc o)
apart_none cs ds (c ∷ t) e (inr o) = is_false (has ◌==◌ (kind c) cs) (λ f. e (kind c) f o)

-- the same, by the test
pub disjoint_none : (cs ds : List ℕ) (t : Text) → disjoint cs ds ≡ true → OneOf ds t → NoneOf cs t
disjoint_none cs ds t e = apart_none cs ds t (disjoint_law cs ds e)

-- a member of the first list is one of both joined
pub has_left : (k : ℕ) (xs ys : List ℕ) → has ◌==◌ k xs ≡ true → has ◌==◌ k (xs ++ ys) ≡ true
has_left k [] ys e = absurd (true≢false (sym e))
has_left k (x ∷ xs) ys e = go (k == x) e (has_left k xs ys)
  where
    go : (b : Bool) → (b || has ◌==◌ k xs) ≡ true → (has ◌==◌ k xs ≡ true → has ◌==◌ k (xs ++ ys) ≡ true) → (b || has ◌==◌ k (xs ++ ys)) ≡ true
    go true e more = refl
    go false e more = more e

-- a disjunction holds where its second half does
pub or_right : (a b : Bool) → b ≡ true → (a || b) ≡ true
or_right true b e = refl
or_right false b e = e

-- a member of the second list is one of both joined
pub has_right : (k : ℕ) (xs ys : List ℕ) → has ◌==◌ k ys ≡ true → has ◌==◌ k (xs ++ ys) ≡ true
has_right k [] ys e = e
has_right k (x ∷ xs) ys e = or_right (k == x) (has ◌==◌ k (xs ++ ys)) (has_right k xs ys e)

-- a member of two lists joined is one of the first or of the second
pub has_either : (k : ℕ) (xs ys : List ℕ) → has ◌==◌ k (xs ++ ys) ≡ true → (has ◌==◌ k xs ≡ true) ⊎ (has ◌==◌ k ys ≡ true)
has_either k [] ys e = inr e
has_either k (x ∷ xs) ys e = go (k == x) e (has_either k xs ys)
  where
    go : (b : Bool) → (b || has ◌==◌ k (xs ++ ys)) ≡ true → (has ◌==◌ k (xs ++ ys) ≡ true → (has ◌==◌ k xs ≡ true) ⊎ (has ◌==◌ k ys ≡ true)) → ((b || has ◌==◌ k xs) ≡ true) ⊎ (has ◌==◌ k ys ≡ true)
    go true e more = inl refl
    go false e more = more e

-- the kind of a character that begins a word is that of `_`
pub word_kind : (c : ℕ) → begins_word c ≡ true → kind c ≡ 95
word_kind c e = ap (λ b. cond b 95 c) e

-- nothing begins here that a word's list could go on with
pub none_word : (kinds : List ℕ) (t : Text) → has ◌==◌ 95 kinds ≡ true → NoneOf kinds t → begins begins_word t ≡ false
none_word kinds [] e n = refl
none_word kinds (c ∷ t) e n = is_false (begins_word c) (λ f. true≢false (sym e ∙ ap (λ k. has ◌==◌ k kinds) (sym (word_kind c f)) ∙ n))

-- a text that begins with none of some kinds of characters does not begin with a character of one of these kinds
pub none_the : (kinds : List ℕ) (d : ℕ) (t : Text) → has ◌==◌ (kind d) kinds ≡ true → NoneOf kinds t → begins (the d) t ≡ false
none_the kinds d [] e n = refl
none_the kinds d (c ∷ t) e n = is_false (c == d) (λ f. true≢false (sym e ∙ ap (λ c. has ◌==◌ (kind c) kinds) (sym (same_character c d f)) ∙ n))
