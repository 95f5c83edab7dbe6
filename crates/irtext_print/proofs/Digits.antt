-- The digits of numbers below 1,000,000, as slices of the text of all pairs of digits.
use Rattle.std.proofs.Common.{◌≡◌, ◌+◌, ◌-◌, ◌*◌, ◌/◌, ◌%◌, ◌<◌, ◌≤◌, ◌∷◌, [], ◌++◌, ◌∙◌, ℕ, zero, suc, List, take, drop, ap, sym, arith, append_assoc}
use Rattle.std.specs.Fmt.{decimal}
use Rattle.std.specs.List.{slice_range}
use Rattle.std.specs.Str.{IsAscii}
use Rattle.std.proofs.lemmas.Fmt.{decimal_digit, decimal_step}
use Rattle.std.proofs.lemmas.List.{drop-drop}

-- the two digits of a number below 100
abbrev pub pair : ℕ → List ℕ
pair p = (48 + p / 10) ∷ (48 + p % 10) ∷ []

-- the digits of so many numbers, from one on
abbrev pub pairs : ℕ → ℕ → List ℕ
pairs from zero = []
pairs from (suc n) = (48 + from / 10) ∷ (48 + from % 10) ∷ pairs (suc from) n

pub pairs-ascii : (from n : ℕ) → from + n ≤ 100 → IsAscii (pairs from n)
pairs-ascii from zero h i = omega arith
pairs-ascii from (suc n) h zero = omega (arith, h)
pairs-ascii from (suc n) h (suc zero) = omega (arith, h)
pairs-ascii from (suc n) h (suc (suc i)) = pairs-ascii (suc from) n (omega (arith, h)) i

-- the pairs after the first ones
pairs-left : (k from n m : ℕ) → m ≡ k + n → drop (2 * k) (pairs from m) ≡ pairs (from + k) n
pairs-left zero from n m e =
    let all : m ≡ n = omega (arith, e) in
    let place : from ≡ from + zero = omega arith in
    ap (λ z. pairs from z) all ∙ ap (λ z. pairs z n) place
pairs-left (suc k) from n zero e = absurd (omega (arith, e))
pairs-left (suc k) from n (suc m) e =
    let size : 2 * suc k ≡ suc (suc (2 * k)) = omega arith in
    let place : suc from + k ≡ from + suc k = omega arith in
    let rest : m ≡ k + n = omega (arith, e) in
    ap (λ z. drop z (pairs from (suc m))) size ∙ (pairs-left k (suc from) n m rest ∙ ap (λ z. pairs z n) place)

-- the pairs from a number below 100 on
pub pairs-from : (k : ℕ) → k < 100 → drop (2 * k) (pairs 0 100) ≡ pair k ++ pairs (suc k) (99 - k)
pairs-from k h =
    let count : 100 ≡ k + suc (99 - k) = omega (arith, h) in
    let place : 0 + k ≡ k = omega arith in
    pairs-left k 0 (suc (99 - k)) 100 count ∙ ap (λ z. pairs z (suc (99 - k))) place

-- a slice of one pair
pub pair-slice : (k : ℕ) → k < 100 → slice_range {X = ℕ} (pairs 0 100) (2 * k) (2 * k + 2) ≡ pair k
pair-slice k h =
    let size : 2 * k + 2 - 2 * k ≡ 2 = omega arith in
    ap (λ z. take z (drop (2 * k) (pairs 0 100))) size ∙ ap (λ z. take 2 z) (pairs-from k h)

-- its second digit alone, where it is the only one
pub one-slice : (k : ℕ) → k < 10 → slice_range {X = ℕ} (pairs 0 100) (2 * k + 1) (2 * k + 1 + 1) ≡ decimal k
one-slice k h =
    let size : 2 * k + 1 + 1 - (2 * k + 1) ≡ 1 = omega arith in
    let digit : k % 10 ≡ k = omega (arith, h) in
    let next : drop (2 * k + 1) (pairs 0 100) ≡ drop 1 (drop (2 * k) (pairs 0 100)) = sym (drop-drop 1 (2 * k) (pairs 0 100)) in
    ap (λ z. take z (drop (2 * k + 1) (pairs 0 100))) size
    ∙ (ap (λ z. take 1 z) (next ∙ ap (λ z. drop 1 z) (pairs-from k (omega (arith, h))))
    ∙ (ap (λ d. (48 + d) ∷ []) digit ∙ sym (decimal_digit k h)))

pub decimal-two : (n : ℕ) → 10 ≤ n → n < 100 → decimal n ≡ pair n
decimal-two n lo hi = rw (decimal_step n lo (omega (arith, hi)), decimal_digit (n / 10) (omega (arith, hi)))

-- the last two digits of a number
pub decimal-hundreds : (n : ℕ) → 100 ≤ n → n < 1000000 → decimal n ≡ decimal (n / 100) ++ pair (n % 100)
decimal-hundreds n lo hi =
    let a : n / 10 / 10 ≡ n / 100 = omega arith in
    let b : n / 10 % 10 ≡ n % 100 / 10 = omega arith in
    let c : n % 10 ≡ n % 100 % 10 = omega arith in
    rw (decimal_step n (omega arith) (omega arith), decimal_step (n / 10) (omega arith) (omega arith), append_assoc, a, b, ← c)

-- a number's digits before its last four, and these four
pub digits-joined : (n : ℕ) (f0 f1 f2 : List ℕ) → 10000 ≤ n → n < 1000000 → f1 ≡ f0 ++ decimal (n / 100 / 100) → f2 ≡ f1 ++ (pair (n / 100 % 100) ++ pair (n % 100)) → f2 ≡ f0 ++ decimal n
digits-joined n f0 f1 f2 lo hi p q =
    let high : 100 ≤ n / 100 = omega (arith, lo) in
    let few : n / 100 < 1000000 = omega (arith, hi) in
    let some : 100 ≤ n = omega (arith, lo) in
    let whole : decimal n ≡ (decimal (n / 100 / 100) ++ pair (n / 100 % 100)) ++ pair (n % 100) = decimal-hundreds n some hi ∙ ap (λ z. z ++ pair (n % 100)) (decimal-hundreds (n / 100) high few) in
    q ∙ ap (λ z. z ++ (pair (n / 100 % 100) ++ pair (n % 100))) p
    ∙ (append_assoc f0 (decimal (n / 100 / 100)) (pair (n / 100 % 100) ++ pair (n % 100))
    ∙ ap (λ z. f0 ++ z) (sym (append_assoc (decimal (n / 100 / 100)) (pair (n / 100 % 100)) (pair (n % 100))) ∙ sym whole))

-- a number's last two digits, put after the others
pub hundreds-put : (n : ℕ) (b0 b1 b2 two : List ℕ) → 100 ≤ n → n < 1000000 → b1 ≡ b0 ++ decimal (n / 100) → two ≡ pair (n % 100) → b2 ≡ b1 ++ two → b2 ≡ b0 ++ decimal n
hundreds-put n b0 b1 b2 two lo hi p q r =
    r ∙ ap (λ z. b1 ++ z) q ∙ ap (λ z. z ++ pair (n % 100)) p
    ∙ (append_assoc b0 (decimal (n / 100)) (pair (n % 100)) ∙ ap (λ z. b0 ++ z) (sym (decimal-hundreds n lo hi)))
