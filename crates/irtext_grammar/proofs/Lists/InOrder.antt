-- A list of places, each from 0 to one below its length once, has each of them; so the elements at these places, in order, are a prefix of
-- the list.
use Rattle.std.proofs.Common.{◌≡◌, ℕ, zero, suc, ◌+◌, ◌<◌, ◌≤◌, Bool, true, false, cond, not, ◌||◌, ◌==◌, nat_lt, eqb, List, [], ◌∷◌, ◌++◌, take, drop, length, slice_get, Some, option_to_list, refl, sym, ap, ap₂, ◌∙◌, subst, true≢false, arith}
use Rattle.std.specs.Prelude.{⊤}
use Rattle.std.specs.List.{IsDistinct, list_any, AllByRecursion, list_all}
use Rattle.std.proofs.lemmas.Map.Steps.{length-le_from_distinct_below}
use Rattle.std.proofs.lemmas.Option.{slice_get-get_or}
use Rattle.std.proofs.Math.Seq.{drop-cons}
use Rattle.irtext_base.specs.Format.{has, distinct, are_places}
use Rattle.irtext_grammar.specs.Grammar.Tree.{at_place, in_order_from, in_order}
use Rattle.irtext_grammar.proofs.Graphs.FitsFormat.{and_left, and_right, below}
use Rattle.irtext_grammar.proofs.Lists.SameText.{same_character, same_itself}

or_left : (a b : Bool) → (a || b) ≡ false → a ≡ false
or_left true b e = e
or_left false b e = refl

or_right : (a b : Bool) → (a || b) ≡ false → b ≡ false
or_right true b e = absurd (true≢false e)
or_right false b e = e

none_is : (k : ℕ) (ks : List ℕ) → has ◌==◌ k ks ≡ false → AllByRecursion (λ y. eqb k y ≡ false) ks
none_is k [] e = tt
none_is k (i ∷ ks) e = (or_left (k == i) (has ◌==◌ k ks) e, none_is k ks (or_right (k == i) (has ◌==◌ k ks) e))

-- a truth value whose negation holds is false
pub not_true : (b : Bool) → not b ≡ true → b ≡ false
not_true true e = absurd (true≢false (sym e))
not_true false e = refl

distinct_is : (ks : List ℕ) → distinct ◌==◌ ks ≡ true → IsDistinct eqb ks
unfolding IsDistinct
distinct_is [] e = tt
distinct_is (k ∷ ks) e = (none_is k ks (not_true (has ◌==◌ k ks) (and_left (not (has ◌==◌ k ks)) (distinct ◌==◌ ks) e)), distinct_is ks (and_right (not (has ◌==◌ k ks)) (distinct ◌==◌ ks) e))

distinct_more : (k : ℕ) (ks : List ℕ) → has ◌==◌ k ks ≡ false → distinct ◌==◌ ks ≡ true → IsDistinct eqb (k ∷ ks)
unfolding IsDistinct
distinct_more k ks e f = (none_is k ks e, distinct_is ks f)

-- a member of a list of numbers below a bound is below it
pub each_below : (n : ℕ) (ks : List ℕ) → list_all (λ i. nat_lt i n) ks ≡ true → (q : ℕ) → list_any (eqb q) ks ≡ true → q < n
each_below n [] e q h = absurd (true≢false (sym h))
each_below n (k ∷ ks) e q h = go (q == k) refl h (each_below n ks (and_right (nat_lt k n) (list_all (λ i. nat_lt i n) ks) e) q)
  where
    go : (b : Bool) → (q == k) ≡ b → (b || list_any (eqb q) ks) ≡ true → (list_any (eqb q) ks ≡ true → q < n) → q < n
    go true c h f = subst (λ z. z < n) (sym (same_character q k c)) (below k n (and_left (nat_lt k n) (list_all (λ i. nat_lt i n) ks) e))
    go false c h f = f h

-- each place below the length is there
pub all_there : (ks : List ℕ) → are_places ks ≡ true → (k : ℕ) → k < length ks → has ◌==◌ k ks ≡ true
all_there ks e k low = go (has ◌==◌ k ks) refl
  where
    d : distinct ◌==◌ ks ≡ true
    d = and_left (distinct ◌==◌ ks) (list_all (λ k. nat_lt k (length ks)) ks) e

    b : list_all (λ k. nat_lt k (length ks)) ks ≡ true
    b = and_right (distinct ◌==◌ ks) (list_all (λ k. nat_lt k (length ks)) ks) e

    within : has ◌==◌ k ks ≡ false → (q : ℕ) → list_any (eqb q) (k ∷ ks) ≡ true → q < length ks
    within absent q h = one (q == k) refl h
      where
        one : (c : Bool) → (q == k) ≡ c → (c || list_any (eqb q) ks) ≡ true → q < length ks
        one true c h = subst (λ z. z < length ks) (sym (same_character q k c)) low
        one false c h = each_below (length ks) ks b q h

    go : (c : Bool) → has ◌==◌ k ks ≡ c → c ≡ true
    go true c = refl
    go false c = let h = length-le_from_distinct_below (k ∷ ks) (length ks) (distinct_more k ks c d) (within c) in absurd (omega arith)

-- each entry is the element at its place in the list
abbrev pub AllFrom : {X : Type 0} → List X → List (ℕ × X) → Type 0
AllFrom xs [] = ⊤
AllFrom xs (e ∷ es) = (slice_get xs e.0 ≡ Some e.1) × AllFrom xs es

-- the places of a list of placed items
abbrev pub firsts : {X : Type 0} → List (ℕ × X) → List ℕ
firsts [] = []
firsts (e ∷ es) = e.0 ∷ firsts es

-- there are as many places as items
pub firsts_length : {X : Type 0} (es : List (ℕ × X)) → length (firsts es) ≡ length es
firsts_length [] = refl
firsts_length (e ∷ es) = ap suc (firsts_length es)

module _ {X : Type 0} (xs : List X) where
  at_there : (k : ℕ) (es : List (ℕ × X)) → AllFrom xs es → has ◌==◌ k (firsts es) ≡ true → at_place k es ≡ slice_get xs k
  at_there k [] a h = absurd (true≢false (sym h))
  at_there k (e ∷ es) a h = go (e.0 == k) refl (k == e.0) refl h (at_there k es a.1)
    where
      go : (b : Bool) → (e.0 == k) ≡ b → (c : Bool) → (k == e.0) ≡ c → (c || has ◌==◌ k (firsts es)) ≡ true → (has ◌==◌ k (firsts es) ≡ true → at_place k es ≡ slice_get xs k) → cond b (Some e.1) (at_place k es) ≡ slice_get xs k
      go true i c j h f = sym a.0 ∙ ap (slice_get xs) (same_character e.0 k i)
      go false i true j h f = absurd (true≢false (sym (same_itself k) ∙ (ap (λ z. z == k) (same_character k e.0 j) ∙ i)))
      go false i false j h f = f h

front_step : {X : Type 0} (xs : List X) (n k : ℕ) → k < length xs → option_to_list (slice_get xs k) ++ take n (drop (suc k) xs) ≡ take (suc n) (drop k xs)
front_step [] n k h = absurd (omega arith)
front_step (x ∷ xs) n k h =
    ap (λ o. option_to_list o ++ take n (drop (suc k) (x ∷ xs))) (slice_get-get_or (x ∷ xs) k x h)
    ∙ sym (ap (take (suc n)) (drop-cons (x ∷ xs) k x h))

from_front : {X : Type 0} (xs : List X) (es : List (ℕ × X)) (n k : ℕ) → k + n ≤ length xs → ((j : ℕ) → j < k + n → at_place j es ≡ slice_get xs j) → in_order_from n k es ≡ take n (drop k xs)
from_front xs es zero k h all = refl
from_front xs es (suc n) k h all =
    ap₂ (λ o z. option_to_list o ++ z) (all k (omega arith)) (from_front xs es n (suc k) (omega arith) (λ j l. all j (omega arith)))
    ∙ front_step xs n k (omega arith)

-- the elements at places in the list, in order, are a prefix of the list
pub in_order_front : {X : Type 0} (xs : List X) (es : List (ℕ × X)) → are_places (firsts es) ≡ true → AllFrom xs es → length es ≤ length xs → in_order es ≡ take (length es) xs
in_order_front xs es e a h =
    let f = firsts_length es in
    from_front xs es (length es) 0 (omega arith) (λ j l. at_there xs j es a (all_there (firsts es) e j (omega arith)))
