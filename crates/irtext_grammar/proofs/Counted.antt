-- How often a value or a block is among several; where each is once at most, they are distinct.
use Rattle.std.proofs.Common.{◌≡◌, ◌+◌, ◌≤◌, ℕ, Bool, true, false, cond, not, ◌&&◌, ◌||◌, ◌==◌, refl, ap, ap₂, arith, List, [], ◌∷◌, ◌++◌}
use Rattle.std.proofs.lemmas.Bool.Decides.{nat_tests}
use Rattle.irtext_base.specs.Format.{has, distinct}
use Rattle.irtext_grammar.specs.Graphs.Closed.{Thing, a_value, a_block, same_thing}
use Rattle.irtext_grammar.proofs.Graphs.FitsFormat.{and_left, and_right}

-- how often x is among these
abbrev pub counted : Thing → List Thing → ℕ
counted x [] = 0
counted x (y ∷ ys) = cond (same_thing x y) 1 0 + counted x ys

pub counted_append : (x : Thing) (xs ys : List Thing) → counted x (xs ++ ys) ≡ counted x xs + counted x ys
counted_append x [] ys = omega arith
counted_append x (y ∷ xs) ys = let r = counted_append x xs ys in omega (arith, r)

same_number : (n : ℕ) → (n == n) ≡ true
same_number n = grind (arith, nat_tests)

pub thing_itself : (x : Thing) → same_thing x x ≡ true
thing_itself (a_value v) = same_number v
thing_itself (a_block b) = ap₂ ◌&&◌ (same_number b.0) (same_number b.1)

equal_number : (m n : ℕ) → (m == n) ≡ true → m ≡ n
equal_number m n e = grind (arith, nat_tests)

pub thing_same : (x y : Thing) → same_thing x y ≡ true → x ≡ y
thing_same (a_value v) (a_value w) e = ap a_value (equal_number v w e)
thing_same (a_value v) (a_block b) e = absurd (cc)
thing_same (a_block b) (a_value v) e = absurd (cc)
thing_same (a_block b) (a_block c) e =
    let left = equal_number b.0 c.0 (and_left (b.0 == c.0) (b.1 == c.1) e) in
    let right = equal_number b.1 c.1 (and_right (b.0 == c.0) (b.1 == c.1) e) in
    ap₂ (λ i j. a_block (i, j)) left right

none_has : (y : Thing) (ys : List Thing) → counted y ys ≡ 0 → has same_thing y ys ≡ false
none_has y [] e = refl
none_has y (z ∷ zs) e = go (same_thing y z) e (none_has y zs)
  where
    go : (b : Bool) → cond b 1 0 + counted y zs ≡ 0 → (counted y zs ≡ 0 → has same_thing y zs ≡ false) → (b || has same_thing y zs) ≡ false
    go true f more = absurd (omega (arith, f))
    go false f more = more (omega (arith, f))

once_own : (b : Bool) (n : ℕ) → b ≡ true → cond b 1 0 + n ≤ 1 → n ≡ 0
once_own true n e h = omega (arith, h)
once_own false n e h = absurd (cc)

once_on : (b : Bool) (n : ℕ) → cond b 1 0 + n ≤ 1 → n ≤ 1
once_on true n h = omega (arith, h)
once_on false n h = omega (arith, h)

-- where each is once at most
pub distinct_counted : (xs : List Thing) → ((x : Thing) → counted x xs ≤ 1) → distinct same_thing xs ≡ true
distinct_counted [] h = refl
distinct_counted (y ∷ ys) h = ap₂ (λ p q. not p && q) (none_has y ys (once_own (same_thing y y) (counted y ys) (thing_itself y) (h y))) (distinct_counted ys (λ x. once_on (same_thing x y) (counted x ys) (h x)))
