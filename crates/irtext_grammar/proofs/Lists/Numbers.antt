-- Numbers in a row: joined, counted, and which are among them.
use Rattle.std.proofs.Common.{◌≡◌, ℕ, zero, suc, ◌+◌, ◌<◌, ◌≤◌, Bool, true, false, cond, nat_eq, true≢false, List, [], ◌∷◌, ◌++◌, refl, sym, ap, ◌∙◌, arith}
use Rattle.std.proofs.lemmas.Bool.Decides.{nat_tests}
use Rattle.irtext_grammar.specs.Names.Scopes.{is_among}
use Rattle.irtext_grammar.specs.Spelling.SectionEntries.{numbers}

-- two runs of numbers, one after the other, are one run
pub numbers_both : (n a b : ℕ) → numbers n a ++ numbers (n + a) b ≡ numbers n (a + b)
numbers_both n zero b = let e : n + 0 ≡ n = omega arith in let f : b ≡ 0 + b = omega arith in ap (λ k. numbers k b) e ∙ ap (numbers n) f
numbers_both n (suc a) b =
    let e : n + suc a ≡ suc n + a = omega arith in
    let f : suc (a + b) ≡ suc a + b = omega arith in
    ap (λ z. n ∷ z) (ap (λ k. numbers (suc n) a ++ numbers k b) e ∙ numbers_both (suc n) a b) ∙ ap (numbers n) f

differ : (m n : ℕ) → m < n → nat_eq m n ≡ false
differ m n h = grind (arith, nat_tests)

-- a number in the row is among it
pub among_numbers : (i n k : ℕ) → n ≤ i → i < n + k → is_among i (numbers n k) ≡ true
among_numbers i n zero h l = absurd (omega arith)
among_numbers i n (suc k) h l = go (nat_eq n i) refl (λ q. among_numbers i (suc n) k q (omega arith))
  where
    later : (n i : ℕ) → n ≤ i → nat_eq n i ≡ false → suc n ≤ i
    later n i h e = grind (arith, nat_tests)

    go : (b : Bool) → nat_eq n i ≡ b → (suc n ≤ i → is_among i (numbers (suc n) k) ≡ true) → cond b true (is_among i (numbers (suc n) k)) ≡ true
    go true e more = refl
    go false e more = more (later n i h e)

-- a number past the end of the run is not in it
pub beyond_numbers : (i n k : ℕ) → n + k ≤ i → is_among i (numbers n k) ≡ false
beyond_numbers i n zero h = refl
beyond_numbers i n (suc k) h = ap (λ b. cond b true (is_among i (numbers (suc n) k))) (differ n i (omega arith)) ∙ beyond_numbers i (suc n) k (omega arith)

-- a number that is among the first of two lists, or the second, is among them joined
pub among_left : (i : ℕ) (xs ys : List ℕ) → is_among i xs ≡ true → is_among i (xs ++ ys) ≡ true
among_left i [] ys h = absurd (true≢false (sym h))
among_left i (x ∷ xs) ys h = go (nat_eq x i) h (among_left i xs ys)
  where
    go : (b : Bool) → cond b true (is_among i xs) ≡ true → (is_among i xs ≡ true → is_among i (xs ++ ys) ≡ true) → cond b true (is_among i (xs ++ ys)) ≡ true
    go true h f = refl
    go false h f = f h

pub among_right : (i : ℕ) (xs ys : List ℕ) → is_among i ys ≡ true → is_among i (xs ++ ys) ≡ true
among_right i [] ys h = h
among_right i (x ∷ xs) ys h = go (nat_eq x i) (among_right i xs ys h)
  where
    go : (b : Bool) → is_among i (xs ++ ys) ≡ true → cond b true (is_among i (xs ++ ys)) ≡ true
    go true r = refl
    go false r = r
