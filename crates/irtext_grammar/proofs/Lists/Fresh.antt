-- Lists in which each item is new at its position: it does not occur before it.
use Rattle.std.proofs.Common.{◌≡◌, Bool, true, false, not, ◌&&◌, ◌||◌, List, [], ◌∷◌, ◌++◌, refl, sym, ◌∙◌, subst, append_assoc, append-nil, true≢false}
use Rattle.std.specs.Prelude.{⊤}
use Rattle.irtext_base.specs.Format.{has, distinct}
use Rattle.irtext_base.proofs.Characters.{and_left, and_right}

-- a truth value whose negation holds is false
pub is_not : (b : Bool) → not b ≡ true → b ≡ false
is_not true e = sym e
is_not false e = refl

-- the negation of a false truth value holds
pub not_is : (b : Bool) → b ≡ false → not b ≡ true
not_is true e = sym e
not_is false e = refl

-- where a disjunction fails, its first half does
pub neither_left : (a b : Bool) → (a || b) ≡ false → a ≡ false
neither_left true b e = e
neither_left false b e = refl

-- where a disjunction fails, its second half does
pub neither_right : (a b : Bool) → (a || b) ≡ false → b ≡ false
neither_right true b e = absurd (true≢false e)
neither_right false b e = e

-- a disjunction fails where both halves do
pub neither : (a b : Bool) → a ≡ false → b ≡ false → (a || b) ≡ false
neither true b e f = e
neither false b e f = f

-- a conjunction holds where both halves do
pub both : (a b : Bool) → a ≡ true → b ≡ true → (a && b) ≡ true
both true b e f = f
both false b e f = e

module _ {X : Type 0} (same : X → X → Bool) where
  -- each item is none of those before it
  abbrev pub Fresh : List X → List X → Type 0
  Fresh before [] = ⊤
  Fresh before (x ∷ xs) = (has same x before ≡ false) × Fresh (before ++ x ∷ []) xs

  -- two lists joined are new if the first is, and the second is after the first
  pub fresh_join : (before xs ys : List X) → Fresh before xs → Fresh (before ++ xs) ys → Fresh before (xs ++ ys)
  fresh_join before [] ys f g = subst (λ b. Fresh b ys) (append-nil before) g
  fresh_join before (x ∷ xs) ys f g = (f.0, fresh_join (before ++ x ∷ []) xs ys f.1 (subst (λ b. Fresh b ys) (sym (append_assoc before (x ∷ []) xs)) g))

  -- the front of a list that is new is new
  pub fresh_left : (before xs ys : List X) → Fresh before (xs ++ ys) → Fresh before xs
  fresh_left before [] ys f = tt
  fresh_left before (x ∷ xs) ys f = (f.0, fresh_left (before ++ x ∷ []) xs ys f.1)

  -- the rest of a list that is new is new after its beginning
  pub fresh_right : (before xs ys : List X) → Fresh before (xs ++ ys) → Fresh (before ++ xs) ys
  fresh_right before [] ys f = subst (λ b. Fresh b ys) (sym (append-nil before)) f
  fresh_right before (x ∷ xs) ys f = subst (λ b. Fresh b ys) (append_assoc before (x ∷ []) xs) (fresh_right (before ++ x ∷ []) xs ys f.1)

  module _ (symmetric : (x y : X) → same x y ≡ same y x) where
    -- whether an item is in two lists joined
    pub has_both : (x : X) (xs ys : List X) → has same x (xs ++ ys) ≡ (has same x xs || has same x ys)
    has_both x [] ys = refl
    has_both x (y ∷ xs) ys = go (same x y) (has_both x xs ys)
      where
        go : (b : Bool) → has same x (xs ++ ys) ≡ (has same x xs || has same x ys) → (b || has same x (xs ++ ys)) ≡ ((b || has same x xs) || has same x ys)
        go true e = refl
        go false e = e

    -- none of the list is among those before it
    abbrev Apart : List X → List X → Type 0
    Apart before [] = ⊤
    Apart before (x ∷ xs) = (has same x before ≡ false) × Apart before xs

    apart_less : (before : List X) (x : X) (xs : List X) → Apart (before ++ x ∷ []) xs → Apart before xs × (has same x xs ≡ false)
    apart_less before x [] a = (tt, refl)
    apart_less before x (y ∷ xs) a =
        let r = apart_less before x xs a.1 in
        let e : (has same y before || (same y x || false)) ≡ false = sym (has_both y before (x ∷ [])) ∙ a.0 in
        let f = neither_left (same y x) false (neither_right (has same y before) (same y x || false) e) in
        ((neither_left (has same y before) (same y x || false) e, r.0), neither (same x y) (has same x xs) (symmetric x y ∙ f) r.1)

    apart_more : (before : List X) (x : X) (xs : List X) → Apart before xs → has same x xs ≡ false → Apart (before ++ x ∷ []) xs
    apart_more before x [] a h = tt
    apart_more before x (y ∷ xs) a h =
        let f : (same y x || false) ≡ false = neither (same y x) false (symmetric y x ∙ neither_left (same x y) (has same x xs) h) refl in
        (has_both y before (x ∷ []) ∙ neither (has same y before) (same y x || false) a.0 f, apart_more before x xs a.1 (neither_right (same x y) (has same x xs) h))

    fresh_is : (before xs : List X) → Fresh before xs → Apart before xs × (distinct same xs ≡ true)
    fresh_is before [] f = (tt, refl)
    fresh_is before (x ∷ xs) f =
        let r = fresh_is (before ++ x ∷ []) xs f.1 in
        let k = apart_less before x xs r.0 in
        ((f.0, k.0), both (not (has same x xs)) (distinct same xs) (not_is (has same x xs) k.1) r.1)

    is_fresh : (before xs : List X) → Apart before xs → distinct same xs ≡ true → Fresh before xs
    is_fresh before [] a d = tt
    is_fresh before (x ∷ xs) a d =
        (a.0, is_fresh (before ++ x ∷ []) xs (apart_more before x xs a.1 (is_not (has same x xs) (and_left (not (has same x xs)) (distinct same xs) d))) (and_right (not (has same x xs)) (distinct same xs) d))

    apart_nothing : (xs : List X) → Apart [] xs
    apart_nothing [] = tt
    apart_nothing (x ∷ xs) = (refl, apart_nothing xs)

    -- a list that is new has no item twice
    pub fresh_distinct : (xs : List X) → Fresh [] xs → distinct same xs ≡ true
    fresh_distinct xs f = (fresh_is [] xs f).1

    -- a list without an item twice is new
    pub distinct_fresh : (xs : List X) → distinct same xs ≡ true → Fresh [] xs
    distinct_fresh xs d = is_fresh [] xs (apart_nothing xs) d
