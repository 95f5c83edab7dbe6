-- Marks that count from 0 on with others after them: look-up, one more, and the first ones.
use Rattle.std.specs.Prelude.{◌≡◌, ℕ, zero, suc, ◌+◌, ◌-◌, ◌<◌, ◌≤◌, Bool, true, false, cond, List, [], ◌∷◌, ◌++◌, length, take, Some, None, slice_index_or, refl}
use Rattle.std.specs.List.{enumerate_from}
use Rattle.std.specs.Map.{lookup}
use Rattle.std.proofs.Common.{ap, sym, ◌∙◌, arith, true≢false, is_some}
use Rattle.std.proofs.lemmas.Bool.{eq-eqb, ne_eqb}
use Rattle.irtext_parse_state.specs.Numbered.{all_numbered}
use Rattle.irtext_parse_state.specs.States.{same_index}

none_taken : {Y : Type 0} (ys : List Y) → take 0 ys ≡ []
none_taken [] = refl
none_taken (y ∷ ys) = refl

module _ {X : Type 0} where
  found_at : (n i j : ℕ) (xs : List X) (es : List (ℕ × X)) (d : X) → j ≡ n + i → i < length xs → lookup (same_index j) (enumerate_from n xs ++ es) ≡ Some (slice_index_or xs i d)
  found_at n i j [] es d e h = absurd (omega (arith, h))
  found_at n zero j (x ∷ xs) es d e h = ap (λ b. cond b (Some x) (lookup (same_index j) (enumerate_from (n + 1) xs ++ es))) (eq-eqb j n (omega (arith, e)))
  found_at n (suc i) j (x ∷ xs) es d e h =
      ap (λ b. cond b (Some x) (lookup (same_index j) (enumerate_from (n + 1) xs ++ es))) (ne_eqb j n (λ same. absurd (omega (arith, e, same))))
      ∙ found_at (n + 1) i j xs es d (omega (arith, e)) (omega (arith, h))

  passed_over : (n j : ℕ) (xs : List X) (es : List (ℕ × X)) → n + length xs ≤ j → lookup (same_index j) (enumerate_from n xs ++ es) ≡ lookup (same_index j) es
  passed_over n j [] es h = refl
  passed_over n j (x ∷ xs) es h =
      ap (λ b. cond b (Some x) (lookup (same_index j) (enumerate_from (n + 1) xs ++ es))) (ne_eqb j n (λ same. absurd (omega (arith, h, same))))
      ∙ passed_over (n + 1) j xs es (omega (arith, h))

  -- below the number of those that count from 0 on, a mark is one of them
  pub dense_found : (i : ℕ) (xs : List X) (es : List (ℕ × X)) (d : X) → i < length xs → lookup (same_index i) (all_numbered xs es) ≡ Some (slice_index_or xs i d)
  dense_found i xs es d h = found_at 0 i i xs es d (omega arith) h

  -- from there on it is one of the others
  pub dense_passed : (i : ℕ) (xs : List X) (es : List (ℕ × X)) → length xs ≤ i → lookup (same_index i) (all_numbered xs es) ≡ lookup (same_index i) es
  dense_passed i xs es h = passed_over 0 i xs es (omega (arith, h))

  -- and there is none where there are no others
  pub dense_only : (i : ℕ) (xs : List X) (es : List (ℕ × X)) → length es ≡ 0 → length xs ≤ i → None ≡ lookup (same_index i) (all_numbered xs es)
  dense_only i xs [] none h = sym (dense_passed i xs [] h)
  dense_only i xs (e ∷ es) none h = absurd (omega (arith, none))

  length_counted : (n : ℕ) (xs : List X) (es : List (ℕ × X)) → length (enumerate_from n xs ++ es) ≡ length xs + length es
  length_counted n [] es = omega arith
  length_counted n (x ∷ xs) es = ap suc (length_counted (n + 1) xs es) ∙ omega arith

  -- how many marks there are
  pub length_marks : (xs : List X) (es : List (ℕ × X)) → length (all_numbered xs es) ≡ length xs + length es
  length_marks xs es = length_counted 0 xs es

  counts_on : (n j : ℕ) (xs : List X) (x : X) → j ≡ n + length xs → enumerate_from n (xs ++ x ∷ []) ++ [] ≡ (enumerate_from n xs ++ []) ++ (j, x) ∷ []
  counts_on n j [] x e = let same : n ≡ j = omega (arith, e) in ap (λ k. (k, x) ∷ []) same
  counts_on n j (y ∷ xs) x e = ap (λ l. (n, y) ∷ l) (counts_on (n + 1) j xs x (omega (arith, e)))

  -- the next one, where there are no others
  pub dense_more : (i : ℕ) (xs : List X) (x : X) (es : List (ℕ × X)) → length es ≡ 0 → i ≡ length xs → all_numbered (xs ++ x ∷ []) es ≡ all_numbered xs es ++ (i, x) ∷ []
  dense_more i xs x [] none e = counts_on 0 i xs x (omega (arith, e))
  dense_more i xs x (y ∷ ys) none e = absurd (omega (arith, none))

  following : (n : ℕ) (xs : List X) (es fs : List (ℕ × X)) → enumerate_from n xs ++ (es ++ fs) ≡ (enumerate_from n xs ++ es) ++ fs
  following n [] es fs = refl
  following n (x ∷ xs) es fs = ap (λ l. (n, x) ∷ l) (following (n + 1) xs es fs)

  -- one more of the others
  pub others_more : (xs : List X) (es fs : List (ℕ × X)) → all_numbered xs (es ++ fs) ≡ all_numbered xs es ++ fs
  others_more xs es fs = following 0 xs es fs

  none_of_others : (t : ℕ → Bool) (n : ℕ) (xs : List X) (es : List (ℕ × X)) → lookup t (enumerate_from n xs ++ es) ≡ None → lookup t es ≡ None
  none_of_others t n [] es h = h
  none_of_others t n (x ∷ xs) es h = go (t n) h (none_of_others t (n + 1) xs es)
    where
      go : (b : Bool) → cond b (Some x) (lookup t (enumerate_from (n + 1) xs ++ es)) ≡ None → (lookup t (enumerate_from (n + 1) xs ++ es) ≡ None → lookup t es ≡ None) → lookup t es ≡ None
      go true p deeper = absurd (true≢false (ap is_some p))
      go false p deeper = deeper p

  -- a mark that isn't recorded is none of the others
  pub not_other : (i : ℕ) (xs : List X) (es : List (ℕ × X)) → lookup (same_index i) (all_numbered xs es) ≡ None → lookup (same_index i) es ≡ None
  not_other i xs es h = none_of_others (same_index i) 0 xs es h

  taken : (n k j : ℕ) (xs : List X) (es : List (ℕ × X)) → j ≡ k - length xs → enumerate_from n (take k xs) ++ take j es ≡ take k (enumerate_from n xs ++ es)
  taken n zero j [] es e = let same : j ≡ 0 = omega (arith, e) in ap (λ i. take i es) same
  taken n (suc k) j [] es e = let same : j ≡ suc k = omega (arith, e) in ap (λ i. take i es) same
  taken n zero j (x ∷ xs) es e = let same : j ≡ 0 = omega (arith, e) in ap (λ i. take i es) same ∙ none_taken es
  taken n (suc k) j (x ∷ xs) es e = ap (λ l. (n, x) ∷ l) (taken (n + 1) k j xs es (omega (arith, e)))

  -- the first ones
  pub first_marks : (k j : ℕ) (xs : List X) (es : List (ℕ × X)) → j ≡ k - length xs → all_numbered (take k xs) (take j es) ≡ take k (all_numbered xs es)
  first_marks k j xs es e = taken 0 k j xs es e
