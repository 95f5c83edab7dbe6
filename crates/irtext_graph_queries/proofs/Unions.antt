-- Lists and counts of what is meant by one of two relations that exclude one another.
use Rattle.std.proofs.Common.{◌≡◌, ◌<◌, ◌≤◌, ◌+◌, ◌++◌, ◌∷◌, ◌⊎◌, ℕ, zero, suc, refl, ap, inl, inr, arith, Some, List, [], slice_get}
use Rattle.std.proofs.lemmas.List.{length-append}
use Rattle.irtext_graph.specs.Chained.{Among, Lists, Counts}
use Rattle.irtext_graph_queries.proofs.Preds.{met_at}

module _ {U : Type 0} where
  among_first : (xs ys : List U) (u : U) → Among u xs → Among u (xs ++ ys)
  among_first [] ys u m = absurd m
  among_first (x ∷ xs) ys u m = elim m [ inl e ↦ inl e | inr later ↦ inr (among_first xs ys u later) ]

  among_second : (xs ys : List U) (u : U) → Among u ys → Among u (xs ++ ys)
  among_second [] ys u m = m
  among_second (x ∷ xs) ys u m = inr (among_second xs ys u m)

  among_either : (xs ys : List U) (u : U) → Among u (xs ++ ys) → Among u xs ⊎ Among u ys
  among_either [] ys u m = inr m
  among_either (x ∷ xs) ys u m = elim m [
    | inl e ↦ inl (inl e)
    | inr later ↦ elim (among_either xs ys u later) [ inl first ↦ inl (inr first) | inr second ↦ inr second ]
  ]

  -- an element at an index of both lists is at this index in the first, or is a member of the second
  at_either : (xs ys : List U) (i : ℕ) (u : U) → slice_get (xs ++ ys) i ≡ Some u → (slice_get xs i ≡ Some u) ⊎ Among u ys
  at_either [] ys i u e = inr (met_at ys i u e)
  at_either (x ∷ xs) ys zero u e = inl e
  at_either (x ∷ xs) ys (suc i) u e = at_either xs ys i u e

  -- no item is at two indices
  abbrev IsOnce : List U → Type 0
  IsOnce us = (i j : ℕ) (u : U) → slice_get us i ≡ Some u → slice_get us j ≡ Some u → i ≡ j

  once_first : (x : U) (xs ys : List U) → IsOnce (x ∷ xs) → ((u : U) → Among u (x ∷ xs) → Among u ys → ⊥) → (j : ℕ) (u : U) → Some x ≡ Some u → slice_get (xs ++ ys) j ≡ Some u → ⊥
  once_first x xs ys once apart j u e f = elim (at_either xs ys j u f) [
    | inl g ↦ let same : zero ≡ suc j = once zero (suc j) u e g in absurd (cc)
    | inr m ↦ let same : u ≡ x = cc in apart u (inl same) m
  ]

  both_once : (xs ys : List U) → IsOnce xs → IsOnce ys → ((u : U) → Among u xs → Among u ys → ⊥) → (i j : ℕ) (u : U) → slice_get (xs ++ ys) i ≡ Some u → slice_get (xs ++ ys) j ≡ Some u → i ≡ j
  both_once [] ys first second apart i j u e f = second i j u e f
  both_once (x ∷ xs) ys first second apart zero zero u e f = refl
  both_once (x ∷ xs) ys first second apart zero (suc j) u e f = absurd (once_first x xs ys first apart j u e f)
  both_once (x ∷ xs) ys first second apart (suc i) zero u e f = absurd (once_first x xs ys first apart i u f e)
  both_once (x ∷ xs) ys first second apart (suc i) (suc j) u e f = ap suc (both_once xs ys following second (λ w m. apart w (inr m)) i j u e f)
    where
      following : IsOnce xs
      following i j w e f = let same : suc i ≡ suc j = first (suc i) (suc j) w e f in omega (arith, same)

  -- a list of what has the one property, before a list of what has the other
  pub lists_both : {P Q : U → Type 0} (xs ys : List U) → ((u : U) → P u → Q u → ⊥) → Lists P xs → Lists Q ys → Lists (λ u. P u ⊎ Q u) (xs ++ ys)
  lists_both xs ys apart first second = record {
    all = λ u m. elim m [ inl p ↦ among_first xs ys u (first.all u p) | inr q ↦ among_second xs ys u (second.all u q) ];
    only = λ u m. elim (among_either xs ys u m) [ inl l ↦ inl (first.only u l) | inr r ↦ inr (second.only u r) ];
    once = both_once xs ys first.once second.once (λ u l r. apart u (first.only u l) (second.only u r));
  }

  -- how many the one and the other mean together
  pub counts_both : {P Q : U → Type 0} (m n both : ℕ) → both ≤ m + n → (both < 18446744073709551615 → both ≡ m + n) → ((u : U) → P u → Q u → ⊥) → Counts P m → Counts Q n → Counts (λ u. P u ⊎ Q u) both
  counts_both m n both most exact apart first second = record {
    list = first.list ++ second.list;
    lists = lists_both first.list second.list apart first.lists second.lists;
    within =
        let l = length-append first.list second.list in
        let a = first.within in
        let b = second.within in
        omega (arith, l, a, b, most);
    exact = λ few.
        let l = length-append first.list second.list in
        let k = exact few in
        let a = first.exact (omega (arith, few, k)) in
        let b = second.exact (omega (arith, few, k)) in
        omega (arith, l, k, a, b);
  }

  -- a count of what is meant by other words
  pub counts_alike : {P Q : U → Type 0} (n : ℕ) → ((u : U) → P u → Q u) → ((u : U) → Q u → P u) → Counts P n → Counts Q n
  counts_alike n there back c = record {
    list = c.list;
    lists = record { all = λ u q. c.lists.all u (back u q); only = λ u m. there u (c.lists.only u m); once = c.lists.once };
    within = c.within;
    exact = c.exact;
  }
