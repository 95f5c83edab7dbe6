-- The numbers of a row's names, by their index.
use Rattle.std.proofs.Common.{◌≡◌, ◌<◌, ◌≤◌, ◌+◌, ℕ, zero, suc, List, [], ◌∷◌, ◌++◌, length, take, drop, Some, refl, sym, ap, subst, arith, slice_get, slice_index_or}
use Rattle.irtext_names.specs.Rows.{AreKnown}
use Rattle.irtext_names.specs.Definitions.{numbers_of}
use Rattle.irtext_grammar.specs.declared.parsed.ReadName.{ReadName}

-- each number is known
pub known_at : (count : ℕ) (ns : List ℕ) (i n : ℕ) → slice_get ns i ≡ Some n → AreKnown count ns → n < count
known_at count [] i n e k = absurd (cc)
known_at count (m ∷ ns) zero n e k = let same : m ≡ n = cc in subst (λ x. x < count) same k.0
known_at count (m ∷ ns) (suc i) n e k = known_at count ns i n e k.1

-- one number more
one_more : (ns : List ℕ) (i n : ℕ) → slice_get ns i ≡ Some n → take (suc i) ns ≡ take i ns ++ n ∷ []
one_more [] i n e = absurd (cc)
one_more (m ∷ ns) zero n e = let same : m ≡ n = cc in ap (λ x. x ∷ []) same
one_more (m ∷ ns) (suc i) n e = ap (λ xs. m ∷ xs) (one_more ns i n e)

pub number_more : (ns : List ℕ) (i n : ℕ) → slice_get ns i ≡ Some n → take (i + 1) ns ≡ take i ns ++ n ∷ []
number_more ns i n e = let same : suc i ≡ i + 1 = omega arith in subst (λ k. take k ns ≡ take i ns ++ n ∷ []) same (one_more ns i n e)

-- the numbers before one, that one, and those after it
pub number_here : (ns : List ℕ) (i n : ℕ) → slice_get ns i ≡ Some n → take i ns ++ n ∷ drop (suc i) ns ≡ ns
number_here [] i n e = absurd (cc)
number_here (m ∷ ns) zero n e = let same : m ≡ n = cc in ap (λ x. x ∷ ns) (sym same)
number_here (m ∷ ns) (suc i) n e = ap (λ xs. m ∷ xs) (number_here ns i n e)

-- as many numbers precede it as its index says
pub numbers_before : (ns : List ℕ) (i n : ℕ) → slice_get ns i ≡ Some n → length (take i ns) ≡ i
numbers_before [] i n e = absurd (cc)
numbers_before (m ∷ ns) zero n e = refl
numbers_before (m ∷ ns) (suc i) n e = ap suc (numbers_before ns i n e)

-- an index with a number is one of the row's
pub numbered_within : (ns : List ReadName) (i n : ℕ) → slice_get (numbers_of ns) i ≡ Some n → i < length ns
numbered_within [] i n e = absurd (cc)
numbered_within (m ∷ ns) zero n e = omega arith
numbered_within (m ∷ ns) (suc i) n e = let l = numbered_within ns i n e in omega (arith, l)

-- all of a row
pub take_numbers : (ns : List ReadName) (i : ℕ) → length ns ≤ i → take i (numbers_of ns) ≡ numbers_of ns
take_numbers [] zero l = refl
take_numbers [] (suc i) l = refl
take_numbers (n ∷ ns) zero l = absurd (omega (arith, l))
take_numbers (n ∷ ns) (suc i) l = ap (λ xs. n.name ∷ xs) (take_numbers ns i (omega (arith, l)))

-- the item of an index, and its number
pub item_there : {X : Type 0} (xs : List X) (i : ℕ) (x : X) → i < length xs → x ≡ slice_index_or xs i x → slice_get xs i ≡ Some x
item_there [] i x l e = absurd (omega (arith, l))
item_there (y ∷ xs) zero x l e = ap (λ z. Some z) (sym e)
item_there (y ∷ xs) (suc i) x l e = item_there xs i x (omega (arith, l)) e

pub number_there : (ns : List ReadName) (i : ℕ) (n : ReadName) → slice_get ns i ≡ Some n → slice_get (numbers_of ns) i ≡ Some n.name
number_there [] i n e = absurd (cc)
number_there (m ∷ ns) zero n e = let same : m ≡ n = cc in ap (λ z. Some z.name) same
number_there (m ∷ ns) (suc i) n e = number_there ns i n e
