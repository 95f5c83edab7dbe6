-- Characters and splits of texts.
use Rattle.std.specs.Prelude.{◌≡◌, ℕ, ◌<◌, Bool, true, false, cond, not, ◌==◌, ◌&&◌, ◌||◌, [], ◌∷◌, ◌++◌, codes, refl}
use Rattle.std.proofs.Common.{inl, inr, sym, ◌∙◌, ap, true≢false, arith}
use Rattle.std.proofs.lemmas.Bool.Decides.{nat_tests}
use Rattle.std.specs.Char.{is_whitespace}
use Rattle.std.specs.List.{list_all}
use Rattle.irtext_base.specs.Text.{Text, begins, front, after, after_space, begins_word, in_word, is_identifier}
use Rattle.irtext_base.specs.Format.{has}
use Rattle.irtext_base.specs.Own.{can_follow, Ends}
pub use Rattle.irtext_stream.proofs.Ascii.{and_left, and_right, ascii}

pub in_word_small : (c : ℕ) → in_word c ≡ true → c < 128
in_word_small c e = grind (arith, nat_tests)

pub not_both : (a b : Bool) → not (a && b) ≡ true → a ≡ true → b ≡ true → ⊥
not_both true true e f g = true≢false (sym e)
not_both true false e f g = true≢false (sym g)
not_both false b e f g = true≢false (sym f)

pub is_false : (b : Bool) → (b ≡ true → ⊥) → b ≡ false
is_false true h = absurd (h refl)
is_false false h = refl

-- no character of a word ends a value's text
pub follow_no_word : (c : ℕ) → can_follow c ≡ true → in_word c ≡ false
follow_no_word c e = is_false (in_word c) (λ f. not_both (in_word c) (can_follow c) (ascii (λ c. not (in_word c && can_follow c)) refl c (in_word_small c f)) f e)

pub or_left : (a b : Bool) → a ≡ true → (a || b) ≡ true
or_left true b e = refl
or_left false b e = absurd (true≢false (sym e))

pub word_no_space : (c : ℕ) → in_word c ≡ true → is_whitespace c ≡ false
word_no_space c e = is_false (is_whitespace c) (λ f. true≢false (sym e ∙ follow_no_word c (or_left (is_whitespace c) (has ◌==◌ c (codes ",;:)]}>")) f)))

pub implied : (a b : Bool) → (not a || b) ≡ true → a ≡ true → b ≡ true
implied true b e f = e
implied false b e f = absurd (true≢false (sym f))

begins_small : (c : ℕ) → begins_word c ≡ true → c < 128
begins_small c e = grind (arith, nat_tests)

pub begins_in : (c : ℕ) → begins_word c ≡ true → in_word c ≡ true
begins_in c e = implied (begins_word c) (in_word c) (ascii (λ c. not (begins_word c) || in_word c) refl c (begins_small c e)) e

-- splits
pub after_stops : (test : ℕ → Bool) (c : ℕ) (t : Text) → test c ≡ false → after test (c ∷ t) ≡ c ∷ t
after_stops test c t e = ap (λ b. cond b (after test t) (c ∷ t)) e

pub after_twice : (test : ℕ → Bool) (t : Text) → after test (after test t) ≡ after test t
after_twice test [] = refl
after_twice test (c ∷ t) = go (test c) refl (after_twice test t)
  where
    go : (b : Bool) → test c ≡ b → after test (after test t) ≡ after test t → after test (cond b (after test t) (c ∷ t)) ≡ cond b (after test t) (c ∷ t)
    go true e h = h
    go false e h = after_stops test c t e

pub front_all : (test : ℕ → Bool) (s f : Text) → list_all test s ≡ true → begins test f ≡ false → front test (s ++ f) ≡ s
front_all test [] [] e h = refl
front_all test [] (c ∷ f) e h = ap (λ b. cond b (c ∷ front test f) []) h
front_all test (c ∷ s) f e h = ap (λ b. cond b (c ∷ front test (s ++ f)) []) (and_left (test c) (list_all test s) e) ∙ ap (λ t. c ∷ t) (front_all test s f (and_right (test c) (list_all test s) e) h)

pub after_all : (test : ℕ → Bool) (s f : Text) → list_all test s ≡ true → begins test f ≡ false → after test (s ++ f) ≡ f
after_all test [] [] e h = refl
after_all test [] (c ∷ f) e h = after_stops test c f h
after_all test (c ∷ s) f e h = ap (λ b. cond b (after test (s ++ f)) (c ∷ (s ++ f))) (and_left (test c) (list_all test s) e) ∙ after_all test s f (and_right (test c) (list_all test s) e) h

pub ends_word : (f : Text) → Ends f → begins in_word f ≡ false
ends_word [] e = refl
ends_word (c ∷ f) (inl e) = absurd (cc e)
ends_word (c ∷ f) (inr e) = follow_no_word c e

pub identifier_every : (s : Text) → is_identifier s ≡ true → list_all in_word s ≡ true
identifier_every [] e = refl
identifier_every (c ∷ s) e = and_both (in_word c) (list_all in_word s) (begins_in c (and_left (begins_word c) (list_all in_word s) e)) (and_right (begins_word c) (list_all in_word s) e)
  where
    and_both : (a b : Bool) → a ≡ true → b ≡ true → (a && b) ≡ true
    and_both true b e f = f
    and_both false b e f = absurd (true≢false (sym e))

pub identifier_begins : (s f : Text) → is_identifier s ≡ true → begins begins_word (s ++ f) ≡ true
identifier_begins [] f e = absurd (true≢false (sym e))
identifier_begins (c ∷ s) f e = and_left (begins_word c) (list_all in_word s) e

-- what begins with a letter or `_` begins with no white space
pub word_tight : (t : Text) → begins begins_word t ≡ true → after_space t ≡ t
word_tight [] e = refl
word_tight (c ∷ t) e = after_stops is_whitespace c t (word_no_space c (begins_in c e))
