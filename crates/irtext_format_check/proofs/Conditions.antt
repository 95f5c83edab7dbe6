-- Each condition on formats holds exactly where what its words say holds.
use Rattle.std.proofs.Common.{◌≡◌, ℕ, zero, suc, ◌+◌, ◌<◌, ◌≤◌, Bool, true, false, cond, not, ◌&&◌, ◌||◌, ◌==◌, nat_lt, eqb, List, [], ◌∷◌, length, slice_get, filter_map, Option, Some, None, refl, sym, ap, ◌∙◌, subst, inl, inr, ⊎_elim, true≢false, arith}
use Rattle.std.specs.Prelude.{◌⊎◌, nat_le}
use Rattle.std.specs.List.{list_all, list_any, cons_option, IsDistinct, AllByRecursion}
use Rattle.std.specs.Char.{is_ascii_graphic}
use Rattle.std.proofs.lemmas.Bool.{and_parts, and_from, or_cases, or_left, or_right, not-true, not_from_false, false_from_ne_true, ltb-true, lt-ltb, leb-true, le-leb, eqb-true, eq-eqb, cases_lt, or_parts}
use Rattle.std.proofs.lemmas.Map.Steps.{length-le_from_distinct_below}
use Rattle.irtext_base.specs.Text.{Text}
use Rattle.irtext_base.specs.Format as format
use Rattle.irtext_base.specs.Format.{Directive, has, distinct, same_text, are_places, ascend, count, none_follows, word_prints, keys, region_places, is_operands, is_successors, is_regions, is_dictionary, is_header, is_any_region, given_names_key, sym_name_key, c1, c2, c3, c4, c5, c6, c7}
use Rattle.irtext_format_check.specs.Directives.{place_of, key_of, is_region, is_named}
use Rattle.irtext_format_check.specs.declared.format.parts.Part.TheVariants as part
use Rattle.irtext_format_check.specs.Conditions.{IsListedAt, IsListed, IsListedOnce, NameAllBelow, C1, C2, C3, C4, C5, C6, C7, WritesRegions, WritesNamesOrType}

-- ---- lists and tests
pub some_inside : {X : Type 0} (x y : X) → Some x ≡ Some y → x ≡ y
some_inside x y e = cc

pub nothing : {X : Type 0} (i : ℕ) (x : X) → slice_get [] i ≡ Some x → ⊥
nothing zero x h = cc
nothing (suc i) x h = cc

pub not_both : (b : Bool) → b ≡ true → not b ≡ true → ⊥
not_both b e f = true≢false (sym e ∙ not-true b f)

all_at : {X : Type 0} (test : X → Bool) (xs : List X) → list_all test xs ≡ true → (i : ℕ) (x : X) → slice_get xs i ≡ Some x → test x ≡ true
all_at test [] e i x h = absurd (nothing i x h)
all_at test (y ∷ xs) e zero x h = subst (λ z. test z ≡ true) (some_inside y x h) ((and_parts (test y) (list_all test xs) e).0)
all_at test (y ∷ xs) e (suc i) x h = all_at test xs ((and_parts (test y) (list_all test xs) e).1) i x h

all_from : {X : Type 0} (test : X → Bool) (xs : List X) → ((i : ℕ) (x : X) → slice_get xs i ≡ Some x → test x ≡ true) → list_all test xs ≡ true
all_from test [] f = refl
all_from test (y ∷ xs) f = and_from (test y) (list_all test xs) (f zero y refl) (all_from test xs (λ i x h. f (suc i) x h))

-- ---- directives that occur at most once
more : (b : Bool) (n : ℕ) → b ≡ true → cond b (suc n) n ≡ suc n
more true n e = refl
more false n e = absurd (true≢false (sym e))

fewer : (b : Bool) (n : ℕ) → n ≤ cond b (suc n) n
fewer true n = omega arith
fewer false n = omega arith

module _ (D : Directive) (test : Directive → Bool) (own : test D ≡ true) (only : (d : Directive) → test d ≡ true → d ≡ D) where
  passes : (d : Directive) → Some d ≡ Some D → test d ≡ true
  passes d h = ap test (some_inside d D h) ∙ own

  counted_none : (ds : List Directive) → count test ds ≡ 0 → (i : ℕ) → IsListedAt D ds i → ⊥
  counted_none [] e i h = nothing i D h
  counted_none (d ∷ ds) e zero h = let m = more (test d) (count test ds) (passes d h) in omega (arith, e, m)
  counted_none (d ∷ ds) e (suc i) h = let m = fewer (test d) (count test ds) in counted_none ds (omega (arith, e, m)) i h

  none_counted : (ds : List Directive) → ((i : ℕ) → IsListedAt D ds i → ⊥) → count test ds ≡ 0
  none_counted [] f = refl
  none_counted (d ∷ ds) f = go (test d) refl (none_counted ds (λ i h. f (suc i) h))
    where
      go : (b : Bool) → test d ≡ b → count test ds ≡ 0 → cond b (suc (count test ds)) (count test ds) ≡ 0
      go true t e = absurd (f zero (ap Some (only d t)))
      go false t e = e

  once_at : (ds : List Directive) → count test ds < 2 → IsListedOnce D ds
  once_at [] l i j h k = absurd (nothing i D h)
  once_at (d ∷ ds) l zero zero h k = refl
  once_at (d ∷ ds) l zero (suc j) h k = let m = more (test d) (count test ds) (passes d h) in absurd (counted_none ds (omega (arith, l, m)) j k)
  once_at (d ∷ ds) l (suc i) zero h k = let m = more (test d) (count test ds) (passes d k) in absurd (counted_none ds (omega (arith, l, m)) i h)
  once_at (d ∷ ds) l (suc i) (suc j) h k = let m = fewer (test d) (count test ds) in ap suc (once_at ds (omega (arith, l, m)) i j h k)

  at_once : (ds : List Directive) → IsListedOnce D ds → count test ds < 2
  at_once [] f = omega arith
  at_once (d ∷ ds) f = go (test d) refl (at_once ds (λ i j h k. omega (arith, f (suc i) (suc j) h k)))
    where
      go : (b : Bool) → test d ≡ b → count test ds < 2 → cond b (suc (count test ds)) (count test ds) < 2
      go true t l = let z = none_counted ds (λ i h. omega (arith, f zero (suc i) (ap Some (only d t)) h)) in omega (arith, z)
      go false t l = l

  once : (ds : List Directive) → nat_lt (count test ds) 2 ≡ true → IsListedOnce D ds
  once ds e = once_at ds (ltb-true (count test ds) 2 e)

  is_once : (ds : List Directive) → IsListedOnce D ds → nat_lt (count test ds) 2 ≡ true
  is_once ds f = lt-ltb (count test ds) 2 (at_once ds f)

  some_counted : (ds : List Directive) → nat_lt 0 (count test ds) ≡ true → IsListed D ds
  some_counted [] e = let l = ltb-true 0 0 e in absurd (omega (arith, l))
  some_counted (d ∷ ds) e = go (test d) refl e (some_counted ds)
    where
      go : (b : Bool) → test d ≡ b → nat_lt 0 (cond b (suc (count test ds)) (count test ds)) ≡ true → (nat_lt 0 (count test ds) ≡ true → IsListed D ds) → IsListed D (d ∷ ds)
      go true t e f = (zero, ap Some (only d t))
      go false t e f = let s = f e in (suc s.0, s.1)

  counted_some : (ds : List Directive) → IsListed D ds → nat_lt 0 (count test ds) ≡ true
  counted_some ds s = go (count test ds) refl
    where
      go : (n : ℕ) → count test ds ≡ n → nat_lt 0 n ≡ true
      go zero e = absurd (counted_none ds e s.0 s.1)
      go (suc n) e = lt-ltb 0 (suc n) (omega arith)

-- ---- what directives of one kind name
module _ {X : Type 0} (same : X → X → Bool) (sound : (x y : X) → same x y ≡ true → x ≡ y) (self : (x : X) → same x x ≡ true)
    (named : Directive → Option X) (single : X → Directive) (own : (x : X) → named (single x) ≡ Some x) (only : (d : Directive) (x : X) → named d ≡ Some x → d ≡ single x) where
  abbrev names : List Directive → List X
  names = filter_map named

  names_it : (d : Directive) (x : X) → Some d ≡ Some (single x) → named d ≡ Some x
  names_it d x h = ap named (some_inside d (single x) h) ∙ own x

  has_listed : (x : X) (ds : List Directive) → has same x (names ds) ≡ true → IsListed (single x) ds
  has_listed x [] e = absurd (true≢false (sym e))
  has_listed x (d ∷ ds) e = go (named d) refl e (has_listed x ds)
    where
      go : (o : Option X) → named d ≡ o → has same x (cons_option o (names ds)) ≡ true → (has same x (names ds) ≡ true → IsListed (single x) ds) → IsListed (single x) (d ∷ ds)
      go None p e f = let s = f e in (suc s.0, s.1)
      go (Some y) p e f =
          ⊎_elim (λ (q : same x y ≡ true). (zero, ap Some (only d y p ∙ ap single (sym (sound x y q))))) (λ (q : has same x (names ds) ≡ true). let s = f q in (suc s.0, s.1)) (or_cases (same x y) (has same x (names ds)) e)

  listed_has : (x : X) (ds : List Directive) (i : ℕ) → IsListedAt (single x) ds i → has same x (names ds) ≡ true
  listed_has x [] i h = absurd (nothing i (single x) h)
  listed_has x (d ∷ ds) zero h = subst (λ o. has same x (cons_option o (names ds)) ≡ true) (sym (names_it d x h)) (or_left (same x x) (has same x (names ds)) (self x))
  listed_has x (d ∷ ds) (suc i) h = go (named d) (listed_has x ds i h)
    where
      go : (o : Option X) → has same x (names ds) ≡ true → has same x (cons_option o (names ds)) ≡ true
      go None e = e
      go (Some y) e = or_right (same x y) (has same x (names ds)) e

  -- the head names a value, so no other directive names it
  named_no_more : (d : Directive) (ds : List Directive) (x : X) → distinct same (cons_option (named d) (names ds)) ≡ true → named d ≡ Some x → has same x (names ds) ≡ true → ⊥
  named_no_more d ds x e p h =
      let q : (not (has same x (names ds)) && distinct same (names ds)) ≡ true = subst (λ o. distinct same (cons_option o (names ds)) ≡ true) p e in
      not_both (has same x (names ds)) h ((and_parts (not (has same x (names ds))) (distinct same (names ds)) q).0)

  distinct_tail : (o : Option X) (xs : List X) → distinct same (cons_option o xs) ≡ true → distinct same xs ≡ true
  distinct_tail None xs e = e
  distinct_tail (Some y) xs e = (and_parts (not (has same y xs)) (distinct same xs) e).1

  differ_once : (ds : List Directive) → distinct same (names ds) ≡ true → (x : X) → IsListedOnce (single x) ds
  differ_once [] e x i j h k = absurd (nothing i (single x) h)
  differ_once (d ∷ ds) e x zero zero h k = refl
  differ_once (d ∷ ds) e x zero (suc j) h k = absurd (named_no_more d ds x e (names_it d x h) (listed_has x ds j k))
  differ_once (d ∷ ds) e x (suc i) zero h k = absurd (named_no_more d ds x e (names_it d x k) (listed_has x ds i h))
  differ_once (d ∷ ds) e x (suc i) (suc j) h k = ap suc (differ_once ds (distinct_tail (named d) (names ds) e) x i j h k)

  once_differ : (ds : List Directive) → ((x : X) → IsListedOnce (single x) ds) → distinct same (names ds) ≡ true
  once_differ [] f = refl
  once_differ (d ∷ ds) f = go (named d) refl (once_differ ds (λ x i j h k. omega (arith, f x (suc i) (suc j) h k)))
    where
      again : (y : X) → named d ≡ Some y → has same y (names ds) ≡ true → ⊥
      again y p q = let s = has_listed y ds q in omega (arith, f y zero (suc s.0) (ap Some (only d y p)) s.1)

      go : (o : Option X) → named d ≡ o → distinct same (names ds) ≡ true → distinct same (cons_option o (names ds)) ≡ true
      go None p e = e
      go (Some y) p e = and_from (not (has same y (names ds))) (distinct same (names ds)) (not_from_false (has same y (names ds)) (false_from_ne_true (has same y (names ds)) (again y p))) e

-- ---- places
any_has : (k : ℕ) (ks : List ℕ) → list_any (eqb k) ks ≡ has ◌==◌ k ks
any_has k [] = refl
any_has k (i ∷ ks) = ap (λ b. (k == i) || b) (any_has k ks)

none_is : (k : ℕ) (ks : List ℕ) → has ◌==◌ k ks ≡ false → AllByRecursion (λ y. eqb k y ≡ false) ks
none_is k [] e = tt
none_is k (i ∷ ks) e = let p = or_parts (k == i) (has ◌==◌ k ks) e in (p.0, none_is k ks p.1)

distinct_is : (ks : List ℕ) → distinct ◌==◌ ks ≡ true → IsDistinct eqb ks
unfolding IsDistinct
distinct_is [] e = tt
distinct_is (k ∷ ks) e = let p = and_parts (not (has ◌==◌ k ks)) (distinct ◌==◌ ks) e in (none_is k ks (not-true (has ◌==◌ k ks) p.0), distinct_is ks p.1)

distinct_more : (k : ℕ) (ks : List ℕ) → has ◌==◌ k ks ≡ false → distinct ◌==◌ ks ≡ true → IsDistinct eqb (k ∷ ks)
unfolding IsDistinct
distinct_more k ks e f = (none_is k ks e, distinct_is ks f)

below : (n k : ℕ) (ks : List ℕ) → list_all (λ i. nat_lt i n) ks ≡ true → has ◌==◌ k ks ≡ true → k < n
below n k [] e h = absurd (true≢false (sym h))
below n k (i ∷ ks) e h =
    let p = and_parts (nat_lt i n) (list_all (λ i. nat_lt i n) ks) e in
    ⊎_elim (λ (q : (k == i) ≡ true). subst (λ z. z < n) (sym (eqb-true k i q)) (ltb-true i n p.0)) (λ (q : has ◌==◌ k ks ≡ true). below n k ks p.1 q) (or_cases (k == i) (has ◌==◌ k ks) h)

are_below : (n : ℕ) (ks : List ℕ) → ((k : ℕ) → has ◌==◌ k ks ≡ true → k < n) → list_all (λ i. nat_lt i n) ks ≡ true
are_below n [] f = refl
are_below n (i ∷ ks) f =
    and_from (nat_lt i n) (list_all (λ i. nat_lt i n) ks) (lt-ltb i n (f i (or_left (i == i) (has ◌==◌ i ks) (eq-eqb i i refl)))) (are_below n ks (λ k h. f k (or_right (k == i) (has ◌==◌ k ks) h)))

-- each place below the length is there
all_there : (ks : List ℕ) → distinct ◌==◌ ks ≡ true → list_all (λ k. nat_lt k (length ks)) ks ≡ true → (k : ℕ) → k < length ks → has ◌==◌ k ks ≡ true
all_there ks d b k low = go (has ◌==◌ k ks) refl
  where
    within : (q : ℕ) → list_any (eqb q) (k ∷ ks) ≡ true → q < length ks
    within q h =
        ⊎_elim (λ (e : eqb q k ≡ true). subst (λ z. z < length ks) (sym (eqb-true q k e)) low) (λ (e : list_any (eqb q) ks ≡ true). below (length ks) q ks b (sym (any_has q ks) ∙ e)) (or_cases (eqb q k) (list_any (eqb q) ks) h)

    go : (c : Bool) → has ◌==◌ k ks ≡ c → c ≡ true
    go true c = refl
    go false c = let h = length-le_from_distinct_below (k ∷ ks) (length ks) (distinct_more k ks c d) within in absurd (omega arith)

-- the list without the first that is this number
abbrev without : ℕ → List ℕ → List ℕ
without m [] = []
without m (k ∷ ks) = cond (m == k) ks (k ∷ without m ks)

length_without : (m : ℕ) (ks : List ℕ) → has ◌==◌ m ks ≡ true → length ks ≡ suc (length (without m ks))
length_without m [] e = absurd (true≢false (sym e))
length_without m (k ∷ ks) e = go (m == k) e (length_without m ks)
  where
    go : (b : Bool) → (b || has ◌==◌ m ks) ≡ true → (has ◌==◌ m ks ≡ true → length ks ≡ suc (length (without m ks))) → suc (length ks) ≡ suc (length (cond b ks (k ∷ without m ks)))
    go true e f = refl
    go false e f = ap suc (f e)

has_without : (k m : ℕ) (ks : List ℕ) → k < m → has ◌==◌ k ks ≡ true → has ◌==◌ k (without m ks) ≡ true
has_without k m [] l e = e
has_without k m (j ∷ ks) l e = go (m == j) refl (or_cases (k == j) (has ◌==◌ k ks) e) (has_without k m ks l)
  where
    go : (b : Bool) → (m == j) ≡ b → ((k == j) ≡ true) ⊎ (has ◌==◌ k ks ≡ true) → (has ◌==◌ k ks ≡ true → has ◌==◌ k (without m ks) ≡ true) → has ◌==◌ k (cond b ks (j ∷ without m ks)) ≡ true
    go true q (inl h) f = absurd (omega (arith, l, eqb-true m j q, eqb-true k j h))
    go true q (inr h) f = h
    go false q (inl h) f = or_left (k == j) (has ◌==◌ k (without m ks)) h
    go false q (inr h) f = or_right (k == j) (has ◌==◌ k (without m ks)) (f h)

covers : (n : ℕ) (ks : List ℕ) → ((k : ℕ) → k < n → has ◌==◌ k ks ≡ true) → n ≤ length ks
covers zero ks f = omega arith
covers (suc m) ks f =
    let l = length_without m ks (f m (omega arith)) in
    let r = covers m (without m ks) (λ k h. has_without k m ks h (f k (omega arith))) in
    omega arith

-- ---- places that directives name
module _ (named : Directive → Option ℕ) (single : ℕ → Directive) (own : (k : ℕ) → named (single k) ≡ Some k) (only : (d : Directive) (k : ℕ) → named d ≡ Some k → d ≡ single k) where
  name_places : (ds : List Directive) → are_places (filter_map named ds) ≡ true → NameAllBelow single ds
  name_places ds e =
      let ks = filter_map named ds in
      let p = and_parts (distinct ◌==◌ ks) (list_all (λ k. nat_lt k (length ks)) ks) e in (
        length ks,
        (λ k l. (has_listed ◌==◌ eqb-true (λ x. eq-eqb x x refl) named single own only k ds (all_there ks p.0 p.1 k l), differ_once ◌==◌ eqb-true (λ x. eq-eqb x x refl) named single own only ds p.0 k)),
        (λ k l s. let q = below (length ks) k ks p.1 (listed_has ◌==◌ eqb-true (λ x. eq-eqb x x refl) named single own only k ds s.0 s.1) in omega (arith, l, q)),
      )

  places_named : (ds : List Directive) → NameAllBelow single ds → are_places (filter_map named ds) ≡ true
  places_named ds f =
      let ks = filter_map named ds in
      let room : f.0 ≤ length ks = covers f.0 ks (λ k l. let s = (f.1 k l).0 in listed_has ◌==◌ eqb-true (λ x. eq-eqb x x refl) named single own only k ds s.0 s.1) in
      and_from (distinct ◌==◌ ks) (list_all (λ k. nat_lt k (length ks)) ks)
      (once_differ ◌==◌ eqb-true (λ x. eq-eqb x x refl) named single own only ds (λ k. ⊎_elim (λ (l : k < f.0). (f.1 k l).1) (λ (l : f.0 ≤ k). (λ i j h m. absurd (f.2 k l (i, h)))) (cases_lt k f.0)))
      (are_below (length ks) ks
      (λ k h. ⊎_elim (λ (l : k < f.0). omega (arith, l, room)) (λ (l : f.0 ≤ k). absurd (f.2 k l (has_listed ◌==◌ eqb-true (λ x. eq-eqb x x refl) named single own only k ds h))) (cases_lt k f.0)))

-- ---- no early directive is after a late one
module _ (late early : Directive → Bool) where
  none_at : (ds : List Directive) → none_follows late early ds ≡ true → (i j : ℕ) (d e : Directive) → IsListedAt d ds i → IsListedAt e ds j → i < j → late d ≡ true → early e ≡ true → ⊥
  none_at [] n i j d e h k l p q = nothing i d h
  none_at (x ∷ ds) n i zero d e h k l p q = omega (arith, l)
  none_at (x ∷ ds) n zero (suc j) d e h k l p q =
      let a = and_parts (not (late x) || list_all (λ e. not (early e)) ds) (none_follows late early ds) n in
      let t : late x ≡ true = ap late (some_inside x d h) ∙ p in
      ⊎_elim (λ (f : not (late x) ≡ true). not_both (late x) t f) (λ (f : list_all (λ e. not (early e)) ds ≡ true). not_both (early e) q (all_at (λ e. not (early e)) ds f j e k))
      (or_cases (not (late x)) (list_all (λ e. not (early e)) ds) a.0)
  none_at (x ∷ ds) n (suc i) (suc j) d e h k l p q =
      let a = and_parts (not (late x) || list_all (λ e. not (early e)) ds) (none_follows late early ds) n in
      none_at ds a.1 i j d e h k (omega (arith, l)) p q

  at_none : (ds : List Directive) → ((i j : ℕ) (d e : Directive) → IsListedAt d ds i → IsListedAt e ds j → i < j → late d ≡ true → early e ≡ true → ⊥) → none_follows late early ds ≡ true
  at_none [] f = refl
  at_none (x ∷ ds) f =
      and_from (not (late x) || list_all (λ e. not (early e)) ds) (none_follows late early ds) (go (late x) refl)
      (at_none ds (λ i j d e h k l p q. f (suc i) (suc j) d e h k (omega (arith, l)) p q))
    where
      go : (b : Bool) → late x ≡ b → (not b || list_all (λ e. not (early e)) ds) ≡ true
      go true p = all_from (λ e. not (early e)) ds (λ j e k. not_from_false (early e) (false_from_ne_true (early e) (λ q. f zero (suc j) x e refl k (omega arith) p q)))
      go false p = refl

-- ---- C1
graphic : (c : ℕ) → is_ascii_graphic c ≡ true → (33 ≤ c) × (c ≤ 126)
graphic c e = let p = and_parts (nat_le 33 c) (nat_le c 126) e in (leb-true 33 c p.0, leb-true c 126 p.1)

is_graphic : (c : ℕ) → (33 ≤ c) × (c ≤ 126) → is_ascii_graphic c ≡ true
is_graphic c p = and_from (nat_le 33 c) (nat_le c 126) (le-leb 33 c p.0) (le-leb c 126 p.1)

pub c1_says : (ds : List Directive) → c1 ds ≡ true → C1 ds
c1_says ds e s h =
    let p = and_parts (nat_lt 0 (length s)) (list_all is_ascii_graphic s) (all_at word_prints ds e h.0 (format.word s) h.1) in
    (ltb-true 0 (length s) p.0, (λ i c k. graphic c (all_at is_ascii_graphic s p.1 i c k)))

pub says_c1 : (ds : List Directive) → C1 ds → c1 ds ≡ true
says_c1 ds f = all_from word_prints ds prints
  where
    prints : (i : ℕ) (d : Directive) → IsListedAt d ds i → word_prints d ≡ true
    prints i (format.word s) h =
        let p = f s (i, h) in
        and_from (nat_lt 0 (length s)) (list_all is_ascii_graphic s) (lt-ltb 0 (length s) p.0) (all_from is_ascii_graphic s (λ j c k. is_graphic c (p.1 j c k)))
    prints i _ h = refl

-- ---- what tests of directives say
none_inside : {X Y : Type 0} (x : X) → None ≡ Some x → Y
none_inside x e = absurd (cc)

-- a directive that names a place is the one with that place
record Placed (d : Directive) (k : ℕ) : Type 0 where
  operand : place_of part.Operand d ≡ Some k → d ≡ format.operand k
  successor : place_of part.Successor d ≡ Some k → d ≡ format.successor k
  result_type : place_of part.ResultType d ≡ Some k → d ≡ format.result_type k

placed : (d : Directive) (k : ℕ) → Placed d k
placed (format.operand i) k = record { operand = λ e. ap format.operand (some_inside i k e); successor = none_inside k; result_type = none_inside k }
placed (format.successor i) k = record { operand = none_inside k; successor = λ e. ap format.successor (some_inside i k e); result_type = none_inside k }
placed (format.result_type i) k = record { operand = none_inside k; successor = none_inside k; result_type = λ e. ap format.result_type (some_inside i k e) }
placed _ k = record { operand = none_inside k; successor = none_inside k; result_type = none_inside k }

is_key : (d : Directive) (k : Text) → key_of d ≡ Some k → d ≡ format.attribute k
is_key (format.attribute i) k e = ap format.attribute (some_inside i k e)
is_key _ k e = absurd (cc)

not_so : {X : Type 0} → false ≡ true → X
not_so e = absurd (true≢false (sym e))

-- a directive for all of a kind, for the dictionary or for the header is that one
record Bare (d : Directive) : Type 0 where
  operands : is_operands d ≡ true → d ≡ format.operands
  successors : is_successors d ≡ true → d ≡ format.successors
  regions : is_regions d ≡ true → d ≡ format.regions
  dictionary : is_dictionary d ≡ true → d ≡ format.dictionary
  header : is_header d ≡ true → d ≡ format.header

bare : (d : Directive) → Bare d
bare format.operands = record { operands = λ e. refl; successors = not_so; regions = not_so; dictionary = not_so; header = not_so }
bare format.successors = record { operands = not_so; successors = λ e. refl; regions = not_so; dictionary = not_so; header = not_so }
bare format.regions = record { operands = not_so; successors = not_so; regions = λ e. refl; dictionary = not_so; header = not_so }
bare format.dictionary = record { operands = not_so; successors = not_so; regions = not_so; dictionary = λ e. refl; header = not_so }
bare format.header = record { operands = not_so; successors = not_so; regions = not_so; dictionary = not_so; header = λ e. refl }
bare _ = record { operands = not_so; successors = not_so; regions = not_so; dictionary = not_so; header = not_so }

-- ---- C2 to C4
-- the directives of one kind are places, and at most one directive is for all of them
module _ (named : Directive → Option ℕ) (single : ℕ → Directive) (sees : (k : ℕ) → named (single k) ≡ Some k) (is_single : (d : Directive) (k : ℕ) → named d ≡ Some k → d ≡ single k)
    (all : Directive) (test : Directive → Bool) (tested : test all ≡ true) (is_all : (d : Directive) → test d ≡ true → d ≡ all) (ds : List Directive) where
  places_say : (are_places (filter_map named ds) && nat_lt (count test ds) 2) ≡ true → NameAllBelow single ds × IsListedOnce all ds
  places_say e = let p = and_parts (are_places (filter_map named ds)) (nat_lt (count test ds) 2) e in (name_places named single sees is_single ds p.0, once all test tested is_all ds p.1)

  say_places : NameAllBelow single ds × IsListedOnce all ds → (are_places (filter_map named ds) && nat_lt (count test ds) 2) ≡ true
  say_places f = and_from (are_places (filter_map named ds)) (nat_lt (count test ds) 2) (places_named named single sees is_single ds f.0) (is_once all test tested is_all ds f.1)

pub c2_says : (ds : List Directive) → c2 ds ≡ true → C2 ds
c2_says ds e = places_say (place_of part.Operand) format.operand (λ k. refl) (λ d k. (placed d k).operand) format.operands is_operands refl (λ d. (bare d).operands) ds e

pub says_c2 : (ds : List Directive) → C2 ds → c2 ds ≡ true
says_c2 ds f = say_places (place_of part.Operand) format.operand (λ k. refl) (λ d k. (placed d k).operand) format.operands is_operands refl (λ d. (bare d).operands) ds f

pub c3_says : (ds : List Directive) → c3 ds ≡ true → C3 ds
c3_says ds e = places_say (place_of part.Successor) format.successor (λ k. refl) (λ d k. (placed d k).successor) format.successors is_successors refl (λ d. (bare d).successors) ds e

pub says_c3 : (ds : List Directive) → C3 ds → c3 ds ≡ true
says_c3 ds f = say_places (place_of part.Successor) format.successor (λ k. refl) (λ d k. (placed d k).successor) format.successors is_successors refl (λ d. (bare d).successors) ds f

pub c4_says : (ds : List Directive) → c4 ds ≡ true → C4 ds
c4_says ds e = name_places (place_of part.ResultType) format.result_type (λ k. refl) (λ d k. (placed d k).result_type) ds e

pub says_c4 : (ds : List Directive) → C4 ds → c4 ds ≡ true
says_c4 ds f = places_named (place_of part.ResultType) format.result_type (λ k. refl) (λ d k. (placed d k).result_type) ds f

-- ---- C5
ascends : (n : ℕ) (ks : List ℕ) → ascend n ks ≡ true → (j k : ℕ) → slice_get ks j ≡ Some k → k ≡ n + j
ascends n [] e j k h = absurd (nothing j k h)
ascends n (i ∷ ks) e zero k h =
    let q = eqb-true i n ((and_parts (i == n) (ascend (suc n) ks) e).0) in
    omega (arith, q, some_inside i k h)
ascends n (i ∷ ks) e (suc j) k h = omega (arith, ascends (suc n) ks ((and_parts (i == n) (ascend (suc n) ks) e).1) j k h)

ascending : (n : ℕ) (ks : List ℕ) → ((j k : ℕ) → slice_get ks j ≡ Some k → k ≡ n + j) → ascend n ks ≡ true
ascending n [] f = refl
ascending n (i ∷ ks) f = and_from (i == n) (ascend (suc n) ks) (eq-eqb i n (omega (arith, f zero i refl))) (ascending (suc n) ks (λ j k h. omega (arith, f (suc j) k h)))

region_is : (d : Directive) → is_region d ≡ true → (k : ℕ) × (d ≡ format.region k)
region_is (format.region k) e = (k, refl)
region_is _ e = absurd (true≢false (sym e))

pub c5_says : (ds : List Directive) → c5 ds ≡ true → C5 ds
c5_says ds e =
    let p = and_parts (ascend 0 (region_places ds) && nat_lt (count is_regions ds) 2) (none_follows is_regions is_region ds) e in
    let q = and_parts (ascend 0 (region_places ds)) (nat_lt (count is_regions ds) 2) p.0 in (
      (λ j k h. omega (arith, ascends 0 (region_places ds) q.0 j k h)),
      once format.regions is_regions refl (λ d. (bare d).regions) ds q.1,
      (λ i j k h m l. none_at is_regions is_region ds p.1 i j format.regions (format.region k) h m l refl refl),
    )

pub says_c5 : (ds : List Directive) → C5 ds → c5 ds ≡ true
says_c5 ds f =
    and_from (ascend 0 (region_places ds) && nat_lt (count is_regions ds) 2) (none_follows is_regions is_region ds)
    (and_from (ascend 0 (region_places ds)) (nat_lt (count is_regions ds) 2) (ascending 0 (region_places ds) (λ j k h. omega (arith, f.0 j k h))) (is_once format.regions is_regions refl (λ d. (bare d).regions) ds f.1))
    (at_none is_regions is_region ds
    (λ i j d e h k l p q.
    let r = region_is e q in
    f.2 i j r.0 (subst (λ x. IsListedAt x ds i) ((bare d).regions p) h) (subst (λ x. IsListedAt x ds j) r.1 k) l))

-- ---- C6
same_sound : (s t : Text) → same_text s t ≡ true → s ≡ t
same_sound [] [] e = refl
same_sound [] (d ∷ t) e = absurd (true≢false (sym e))
same_sound (c ∷ s) [] e = absurd (true≢false (sym e))
same_sound (c ∷ s) (d ∷ t) e = let p = and_parts (c == d) (same_text s t) e in ap (λ z. z ∷ s) (eqb-true c d p.0) ∙ ap (λ z. d ∷ z) (same_sound s t p.1)

same_self : (s : Text) → same_text s s ≡ true
same_self [] = refl
same_self (c ∷ s) = and_from (c == c) (same_text s s) (eq-eqb c c refl) (same_self s)

key_listed : (k : Text) (ds : List Directive) → has same_text k (keys ds) ≡ true → IsListed (format.attribute k) ds
key_listed k ds e = has_listed same_text same_sound same_self key_of format.attribute (λ k. refl) is_key k ds e

listed_key : (k : Text) (ds : List Directive) → IsListed (format.attribute k) ds → has same_text k (keys ds) ≡ true
listed_key k ds s = listed_has same_text same_sound same_self key_of format.attribute (λ k. refl) is_key k ds s.0 s.1

module _ (ds : List Directive) where
  -- the five tests of C6, in their order
  abbrev keys_differ : Bool
  keys_differ = distinct same_text (keys ds)

  abbrev no_given_names : Bool
  no_given_names = not (has same_text given_names_key (keys ds))

  abbrev one_dictionary : Bool
  one_dictionary = nat_lt (count is_dictionary ds) 2

  abbrev one_header : Bool
  one_header = nat_lt (count is_header ds) 2

  abbrev header_alone : Bool
  header_alone = not (nat_lt 0 (count is_header ds)) || not (has same_text sym_name_key (keys ds))

  pub c6_says : c6 ds ≡ true → C6 ds
  c6_says e =
      let p = and_parts (keys_differ && no_given_names && one_dictionary && one_header) header_alone e in
      let q = and_parts (keys_differ && no_given_names && one_dictionary) one_header p.0 in
      let r = and_parts (keys_differ && no_given_names) one_dictionary q.0 in
      let t = and_parts keys_differ no_given_names r.0 in (
        (λ k. differ_once same_text same_sound same_self key_of format.attribute (λ k. refl) is_key ds t.0 k),
        (λ s. not_both (has same_text given_names_key (keys ds)) (listed_key given_names_key ds s) t.1),
        once format.dictionary is_dictionary refl (λ d. (bare d).dictionary) ds r.1,
        once format.header is_header refl (λ d. (bare d).header) ds q.1,
        (λ h s.
            ⊎_elim (λ (f : not (nat_lt 0 (count is_header ds)) ≡ true). not_both (nat_lt 0 (count is_header ds)) (counted_some format.header is_header refl (λ d. (bare d).header) ds h) f)
            (λ (f : not (has same_text sym_name_key (keys ds)) ≡ true). not_both (has same_text sym_name_key (keys ds)) (listed_key sym_name_key ds s) f)
            (or_cases (not (nat_lt 0 (count is_header ds))) (not (has same_text sym_name_key (keys ds))) p.1)),
      )

  pub says_c6 : C6 ds → c6 ds ≡ true
  says_c6 f =
      and_from (keys_differ && no_given_names && one_dictionary && one_header) header_alone
      (and_from (keys_differ && no_given_names && one_dictionary) one_header
      (and_from (keys_differ && no_given_names) one_dictionary
      (and_from keys_differ no_given_names (once_differ same_text same_sound same_self key_of format.attribute (λ k. refl) is_key ds f.0)
      (not_from_false (has same_text given_names_key (keys ds)) (false_from_ne_true (has same_text given_names_key (keys ds)) (λ q. f.1 (key_listed given_names_key ds q)))))
      (is_once format.dictionary is_dictionary refl (λ d. (bare d).dictionary) ds f.2))
      (is_once format.header is_header refl (λ d. (bare d).header) ds f.3))
      (go (nat_lt 0 (count is_header ds)) refl)
    where
      go : (x : Bool) → nat_lt 0 (count is_header ds) ≡ x → (not x || not (has same_text sym_name_key (keys ds))) ≡ true
      go true x =
          not_from_false (has same_text sym_name_key (keys ds)) (false_from_ne_true (has same_text sym_name_key (keys ds)) (λ q. f.4 (some_counted format.header is_header refl (λ d. (bare d).header) ds x) (key_listed sym_name_key ds q)))
      go false x = refl

-- ---- C7
writes_regions : (d : Directive) → WritesRegions d → is_any_region d ≡ true
writes_regions (format.region k) w = refl
writes_regions format.regions w = refl
writes_regions _ w = absurd w

regions_written : (d : Directive) → is_any_region d ≡ true → WritesRegions d
regions_written (format.region k) e = tt
regions_written format.regions e = tt
regions_written _ e = absurd (true≢false (sym e))

writes_names : (d : Directive) → WritesNamesOrType d → is_named d ≡ true
writes_names (format.operand k) w = refl
writes_names format.operands w = refl
writes_names (format.successor k) w = refl
writes_names format.successors w = refl
writes_names (format.result_type k) w = refl
writes_names _ w = absurd w

names_written : (d : Directive) → is_named d ≡ true → WritesNamesOrType d
names_written (format.operand k) e = tt
names_written format.operands e = tt
names_written (format.successor k) e = tt
names_written format.successors e = tt
names_written (format.result_type k) e = tt
names_written _ e = absurd (true≢false (sym e))

pub c7_says : (ds : List Directive) → c7 ds ≡ true → C7 ds
c7_says ds n i j d e h k l p q = none_at is_any_region is_named ds n i j d e h k l (writes_regions d p) (writes_names e q)

pub says_c7 : (ds : List Directive) → C7 ds → c7 ds ≡ true
says_c7 ds f = at_none is_any_region is_named ds (λ i j d e h k l p q. f i j d e h k l (regions_written d p) (names_written e q))
