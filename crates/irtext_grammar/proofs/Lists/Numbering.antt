-- Places numbered from 0 on, each once: the elements at them, in order, are a list in which each is at its own number. And what is looked
-- up among the items of a list, each with the user of its number.
use Rattle.std.proofs.Common.{◌≡◌, ℕ, zero, suc, ◌+◌, ◌<◌, Bool, true, false, cond, not, ◌||◌, ◌==◌, nat_lt, List, [], ◌∷◌, ◌++◌, map, length, slice_get, Option, Some, None, is_some, option_to_list, refl, sym, ap, ◌∙◌, subst, inl, inr, true≢false, arith, flat_map}
use Rattle.std.specs.Prelude.{⊤}
use Rattle.std.proofs.lemmas.List.{append-nil, length-map, map-append}
use Rattle.std.specs.List.{list_all}
use Rattle.irtext_base.specs.Format.{has, distinct, are_places}
use Rattle.irtext_base.proofs.Characters.{or_left}
use Rattle.irtext_grammar.specs.Grammar.Tree.{at_place, in_order_from, in_order}
use Rattle.irtext_grammar.specs.Names.Script.{User}
use Rattle.irtext_grammar.specs.Names.Placeholders.{In}
use Rattle.irtext_grammar.proofs.Grammar.Follows.{or_right}
use Rattle.irtext_grammar.proofs.Graphs.FitsFormat.{and_left, and_right, below}
use Rattle.irtext_grammar.proofs.Lists.InOrder.{not_true, all_there, firsts, firsts_length}
use Rattle.irtext_grammar.proofs.Lists.SameText.{same_character, same_itself}
use Rattle.irtext_grammar.proofs.Lists.Sets.{Same, same_path, same_then, same_both}

-- what is inside of equal options is equal
pub some_inside : {X : Type 0} (x y : X) → Some x ≡ Some y → x ≡ y
some_inside x y e = cc

-- each item with the user of its number, from k on
abbrev pub numbered : {X : Type 0} → (ℕ → User) → ℕ → List X → List (User × X)
numbered u k [] = []
numbered u k (x ∷ xs) = (u k, x) ∷ numbered u (suc k) xs

-- two lists joined are numbered on
pub numbered_both : {X : Type 0} (u : ℕ → User) (k n : ℕ) (xs ys : List X) → n ≡ k + length xs → numbered u k (xs ++ ys) ≡ numbered u k xs ++ numbered u n ys
numbered_both u k n [] ys e = ap (λ z. numbered u z ys) (omega arith)
numbered_both u k n (x ∷ xs) ys e = ap (λ z. (u k, x) ∷ z) (numbered_both u (suc k) n xs ys (omega arith))

in_numbered : {X Y : Type 0} (F : X → Y) (u : ℕ → User) (k n i : ℕ) (xs : List X) (x : X) → n ≡ k + i → slice_get xs i ≡ Some x → In (u n, F x) (numbered u k (map F xs))
in_numbered F u k n i [] x e h = absurd (none i x h)
  where
    none : {Z : Type 0} (i : ℕ) (z : Z) → slice_get [] i ≡ Some z → ⊥
    none zero z h = cc
    none (suc i) z h = cc
in_numbered F u k n zero (y ∷ xs) x e h = let m : n ≡ k = omega arith in inl (λ i. (u (m i), F (some_inside x y (sym h) i)))
in_numbered F u k n (suc i) (y ∷ xs) x e h = inr (in_numbered F u (suc k) n i xs x (omega arith) h)

-- a member of a numbered list is at its own number
pub numbered_in : {X Y : Type 0} (F : X → Y) (u : ℕ → User) (k : ℕ) (xs : List X) (w : User) (y : Y) → In (w, y) (numbered u k (map F xs)) → (i : ℕ) × (x : X) × (slice_get xs i ≡ Some x) × (w ≡ u (k + i)) × (y ≡ F x)
numbered_in F u k [] w y h = absurd h
numbered_in F u k (x ∷ xs) w y (inl e) = let m : k ≡ k + 0 = omega arith in (0, x, refl, ap (λ z. z.0) e ∙ ap u m, ap (λ z. z.1) e)
numbered_in F u k (x ∷ xs) w y (inr h) = let r = numbered_in F u (suc k) xs w y h in let m : suc k + r.0 ≡ k + suc r.0 = omega arith in (suc r.0, r.1, r.2, r.3 ∙ ap u m, r.4)

-- each entry is what `get` gives at its number
abbrev AllGot : {X : Type 0} → (ℕ → Option X) → List (ℕ × X) → Type 0
AllGot get [] = ⊤
AllGot get (e ∷ es) = (get e.0 ≡ Some e.1) × AllGot get es

differs : (k : ℕ) (e : ℕ) (ks : List ℕ) → has ◌==◌ e ks ≡ false → has ◌==◌ k ks ≡ true → (e == k) ≡ false
differs k e ks n h = go (e == k) refl
  where
    go : (b : Bool) → (e == k) ≡ b → b ≡ false
    go true q = absurd (true≢false (sym h ∙ (ap (λ z. has ◌==◌ z ks) (sym (same_character e k q)) ∙ n)))
    go false q = refl

all_got : {X : Type 0} (get : ℕ → Option X) (es : List (ℕ × X)) → distinct ◌==◌ (firsts es) ≡ true → ((k : ℕ) → has ◌==◌ k (firsts es) ≡ true → get k ≡ at_place k es) → AllGot get es
all_got get [] d h = tt
all_got get (e ∷ es) d h =
    let n = not_true (has ◌==◌ e.0 (firsts es)) (and_left (not (has ◌==◌ e.0 (firsts es))) (distinct ◌==◌ (firsts es)) d) in (
      h e.0 (or_left (e.0 == e.0) (has ◌==◌ e.0 (firsts es)) (same_itself e.0)) ∙ ap (λ b. cond b (Some e.1) (at_place e.0 es)) (same_itself e.0),
      all_got get es (and_right (not (has ◌==◌ e.0 (firsts es))) (distinct ◌==◌ (firsts es)) d)
          (λ k i. h k (or_right (k == e.0) (has ◌==◌ k (firsts es)) i) ∙ ap (λ b. cond b (Some e.1) (at_place k es)) (differs k e.0 (firsts es) n i)),
    )

-- ---- the elements at places, in order
there : {X : Type 0} (k : ℕ) (es : List (ℕ × X)) → has ◌==◌ k (firsts es) ≡ true → is_some (at_place k es) ≡ true
there k [] h = absurd (true≢false (sym h))
there k (e ∷ es) h = go (e.0 == k) refl (k == e.0) refl h (there k es)
  where
    go : (b : Bool) → (e.0 == k) ≡ b → (c : Bool) → (k == e.0) ≡ c → (c || has ◌==◌ k (firsts es)) ≡ true → (has ◌==◌ k (firsts es) ≡ true → is_some (at_place k es) ≡ true) → is_some (cond b (Some e.1) (at_place k es)) ≡ true
    go true i c j h f = refl
    go false i true j h f = absurd (true≢false (sym (same_itself k) ∙ (ap (λ z. z == k) (same_character k e.0 j) ∙ i)))
    go false i false j h f = f h

from_length : {X : Type 0} (n k : ℕ) (es : List (ℕ × X)) → ((j : ℕ) → j < k + n → is_some (at_place j es) ≡ true) → length (in_order_from n k es) ≡ n
from_length zero k es h = refl
from_length (suc n) k es h = go (at_place k es) (h k (omega arith)) (from_length n (suc k) es (λ j l. h j (omega arith)))
  where
    go : (o : Option _) → is_some o ≡ true → length (in_order_from n (suc k) es) ≡ n → length (option_to_list o ++ in_order_from n (suc k) es) ≡ suc n
    go None s e = absurd (true≢false (sym s))
    go (Some x) s e = ap suc e

from_get : {X : Type 0} (n k i m : ℕ) (es : List (ℕ × X)) → ((j : ℕ) → j < k + n → is_some (at_place j es) ≡ true) → i < n → m ≡ k + i → slice_get (in_order_from n k es) i ≡ at_place m es
from_get zero k i m es h l e = absurd (omega arith)
from_get (suc n) k zero m es h l e = go (at_place k es) (h k (omega arith)) ∙ ap (λ z. at_place z es) (omega arith)
  where
    go : (o : Option _) → is_some o ≡ true → slice_get (option_to_list o ++ in_order_from n (suc k) es) zero ≡ o
    go None s = absurd (true≢false (sym s))
    go (Some x) s = refl
from_get (suc n) k (suc i) m es h l e = go (at_place k es) (h k (omega arith)) (from_get n (suc k) i m es (λ j l. h j (omega arith)) (omega arith) (omega arith))
  where
    go : (o : Option _) → is_some o ≡ true → slice_get (in_order_from n (suc k) es) i ≡ at_place m es → slice_get (option_to_list o ++ in_order_from n (suc k) es) (suc i) ≡ at_place m es
    go None s e = absurd (true≢false (sym s))
    go (Some x) s e = e

each_below : (n k : ℕ) (ks : List ℕ) → list_all (λ i. nat_lt i n) ks ≡ true → has ◌==◌ k ks ≡ true → k < n
each_below n k [] e h = absurd (true≢false (sym h))
each_below n k (i ∷ ks) e h = go (k == i) refl h (each_below n k ks (and_right (nat_lt i n) (list_all (λ i. nat_lt i n) ks) e))
  where
    go : (b : Bool) → (k == i) ≡ b → (b || has ◌==◌ k ks) ≡ true → (has ◌==◌ k ks ≡ true → k < n) → k < n
    go true q h f = subst (λ z. z < n) (sym (same_character k i q)) (below i n (and_left (nat_lt i n) (list_all (λ i. nat_lt i n) ks) e))
    go false q h f = f h

-- what is looked up of an item, with the user of its number
abbrev pub own : {X Y : Type 0} → (X → Y) → (ℕ → User) → ℕ × X → List (User × Y)
own F u e = (u e.0, F e.1) ∷ []

module _ {X : Type 0} (es : List (ℕ × X)) (places : are_places (firsts es) ≡ true) where
  at_all : (j : ℕ) → j < 0 + length es → is_some (at_place j es) ≡ true
  at_all j l = let f = firsts_length es in there j es (all_there (firsts es) places j (omega arith))

  -- as many items in order as there are
  pub in_order_length : length (in_order es) ≡ length es
  in_order_length = from_length (length es) 0 es at_all

  -- each is at its own number
  pub in_order_got : AllGot (slice_get (in_order es)) es
  in_order_got =
      let d = and_left (distinct ◌==◌ (firsts es)) (list_all (λ k. nat_lt k (length (firsts es))) (firsts es)) places in
      let b = and_right (distinct ◌==◌ (firsts es)) (list_all (λ k. nat_lt k (length (firsts es))) (firsts es)) places in
      let f = firsts_length es in
      all_got (slice_get (in_order es)) es d (λ k h. let l = each_below (length (firsts es)) k (firsts es) b h in from_get (length es) 0 k k es at_all (omega arith) (omega arith))

  module _ {Y : Type 0} (F : X → Y) (u : ℕ → User) where
    abbrev owns : ℕ × X → List (User × Y)
    owns = own F u

    to_numbered : (xs : List X) (ds : List (ℕ × X)) → AllGot (slice_get xs) ds → (z : User × Y) → In z (flat_map owns ds) → In z (numbered u 0 (map F xs))
    to_numbered xs [] h z i = absurd i
    to_numbered xs (d ∷ ds) h z (inl e) = subst (λ w. In w (numbered u 0 (map F xs))) (sym e) (in_numbered F u 0 d.0 d.0 xs d.1 (omega arith) h.0)
    to_numbered xs (d ∷ ds) h z (inr i) = to_numbered xs ds h.1 z i

    find_own : (xs : List X) (ds : List (ℕ × X)) → AllGot (slice_get xs) ds → (k : ℕ) (x : X) → has ◌==◌ k (firsts ds) ≡ true → slice_get xs k ≡ Some x → In (u k, F x) (flat_map owns ds)
    find_own xs [] h k x i g = absurd (true≢false (sym i))
    find_own xs (d ∷ ds) h k x i g = go (k == d.0) refl i (find_own xs ds h.1 k x)
      where
        go : (b : Bool) → (k == d.0) ≡ b → (b || has ◌==◌ k (firsts ds)) ≡ true → (has ◌==◌ k (firsts ds) ≡ true → slice_get xs k ≡ Some x → In (u k, F x) (flat_map owns ds)) → In (u k, F x) (flat_map owns (d ∷ ds))
        go true q i f =
            let e = same_character k d.0 q in
            inl (λ j. (u (e j), F (some_inside x d.1 (sym g ∙ (ap (slice_get xs) e ∙ h.0)) j)))
        go false q i f = inr (f i g)

    short : {Z : Type 0} (xs : List Z) (i : ℕ) (x : Z) → slice_get xs i ≡ Some x → i < length xs
    short [] zero x e = cc
    short [] (suc i) x e = cc
    short (y ∷ xs) zero x e = omega arith
    short (y ∷ xs) (suc i) x e = let h = short xs i x e in omega arith

    from_numbered : (z : User × Y) → In z (numbered u 0 (map F (in_order es))) → In z (flat_map owns es)
    from_numbered z h =
        let r = numbered_in F u 0 (in_order es) z.0 z.1 h in
        let f = firsts_length es in
        let l = short (in_order es) r.0 r.1 r.2 in
        let m = in_order_length in
        let n : 0 + r.0 ≡ r.0 = omega arith in
        subst (λ w. In w (flat_map owns es)) (λ i. (sym (r.3 ∙ ap u n) i, sym r.4 i))
        (find_own (in_order es) es in_order_got r.0 r.1 (all_there (firsts es) places r.0 (omega arith)) r.2)

    -- places with what is looked up of their items, and the items in order, numbered
    pub own_numbered : Same (flat_map owns es) (numbered u 0 (map F (in_order es)))
    own_numbered = record { into = to_numbered (in_order es) es in_order_got; back = from_numbered }

module _ {X Y : Type 0} (F : X → Y) (u : ℕ → User) (k : ℕ) where
  -- a list that is numbered on, with what each of its items means
  abbrev pub listed : List X → List (User × Y)
  listed xs = numbered u k (map F xs)

  -- of one list at most
  lists_numbered : (ls : List (List X)) → length ls < 2 → flat_map listed ls ≡ numbered u k (map F (flat_map (λ xs. xs) ls))
  lists_numbered [] l = refl
  lists_numbered (xs ∷ []) l = append-nil (numbered u k (map F xs)) ∙ ap (λ z. numbered u k (map F z)) (sym (append-nil xs))
  lists_numbered (xs ∷ ys ∷ ls) l = absurd (omega arith)

-- singles with their own numbers, and a list after them
pub all_numbered : {X Y : Type 0} (F : X → Y) (u : ℕ → User) (es : List (ℕ × X)) (ls : List (List X)) → are_places (firsts es) ≡ true → length ls < 2
    → Same (flat_map (own F u) es ++ flat_map (listed F u (length es)) ls) (numbered u 0 (map F (in_order es ++ flat_map (λ xs. xs) ls)))
all_numbered F u es ls p l =
    let xs = flat_map (λ xs. xs) ls in
    let n : length es ≡ 0 + length (map F (in_order es)) = sym (in_order_length es p) ∙ (sym (length-map (in_order es) F) ∙ omega arith) in
    same_then (same_both (own_numbered es p F u) (same_path _ _ (lists_numbered F u (length es) ls l)))
    (same_path _ _ (sym (ap (numbered u 0) (map-append F (in_order es) xs) ∙ numbered_both u 0 (length es) (map F (in_order es)) (map F xs) n)))
