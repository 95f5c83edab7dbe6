-- Items with places, taken out one after another in the order of their places.
use Rattle.std.proofs.Common.{◌≡◌, ◌<◌, ◌≤◌, ◌+◌, ◌-◌, ◌∙◌, ◌==◌, ℕ, zero, suc, Bool, true, false, cond, List, [], ◌∷◌, ◌++◌, length, map, option_to_list, Option, Some, None, refl, sym, ap, ap₂, subst, arith, eqb-true, append_assoc, append-nil, slice_get, inl, inr, ◌⊎◌}
use Rattle.std.specs.Map.{lookup, remove_entry}
use Rattle.irtext_graph.specs.Chained.{Among}
use Rattle.irtext_grammar.specs.Grammar.Tree.{at_place, in_order_from, in_order}

-- the element at a place is found by this place
pub place_looked_up : {X : Type 0} (k : ℕ) (es : List (ℕ × X)) → at_place k es ≡ lookup (λ i. i == k) es
place_looked_up k [] = refl
place_looked_up k (e ∷ es) = ap (cond (e.0 == k) (Some e.1)) (place_looked_up k es)

-- the elements at other places stay if one is removed
pub others_stay : {X : Type 0} (k j : ℕ) (es : List (ℕ × X)) → (j ≡ k → ⊥) → at_place j (remove_entry (λ i. i == k) es) ≡ at_place j es
others_stay k j [] n = refl
others_stay k j (e ∷ es) n = go (e.0 == k) refl (others_stay k j es n)
  where
    not_here : e.0 ≡ k → (b : Bool) → (e.0 == j) ≡ b → b ≡ false
    not_here same true f = let h = eqb-true e.0 j f in absurd (n (sym h ∙ same))
    not_here same false f = refl

    go : (b : Bool) → (e.0 == k) ≡ b → at_place j (remove_entry (λ i. i == k) es) ≡ at_place j es → at_place j (cond b es (e ∷ remove_entry (λ i. i == k) es)) ≡ at_place j (e ∷ es)
    go true f h = let c = not_here (eqb-true e.0 k f) (e.0 == j) refl in sym (ap (λ b. cond b (Some e.1) (at_place j es)) c)
    go false f h = ap (cond (e.0 == j) (Some e.1)) h

-- the elements at places from k on are the same if each of these places has the same
from_same : {X : Type 0} (n k : ℕ) (es fs : List (ℕ × X)) → ((j : ℕ) → k ≤ j → at_place j fs ≡ at_place j es) → in_order_from n k fs ≡ in_order_from n k es
from_same zero k es fs h = refl
from_same (suc n) k es fs h = ap₂ (λ o xs. option_to_list o ++ xs) (h k (omega arith)) (from_same n (suc k) es fs (λ j l. h j (omega (arith, l))))

-- one place more
pub next_place : {X : Type 0} (n i : ℕ) (es fs : List (ℕ × X)) → i < n → ((j : ℕ) → (j ≡ i → ⊥) → at_place j fs ≡ at_place j es) → in_order_from (n - i) i es ≡ option_to_list (at_place i es) ++ in_order_from (n - (i + 1)) (i + 1) fs
next_place n i es fs l h =
    let a : n - i ≡ suc (n - (i + 1)) = omega (arith, l) in
    let b : suc i ≡ i + 1 = omega arith in
    ap (λ m. in_order_from m i es) a
    ∙ ap (λ xs. option_to_list (at_place i es) ++ xs) (ap (λ k. in_order_from (n - (i + 1)) k es) b ∙ sym (from_same (n - (i + 1)) (i + 1) es fs (λ j le. h j (λ e. absurd (omega (arith, le, e))))))

-- the loop goes on
module _ {X : Type 0} (n i : ℕ) (all more whole : List X) (es fs : List (ℕ × X)) where
  pub next_taken : i < n → ((j : ℕ) → (j ≡ i → ⊥) → at_place j fs ≡ at_place j es) → all ++ in_order_from (n - i) i es ≡ whole → more ≡ all ++ option_to_list (at_place i es) → more ++ in_order_from (n - (i + 1)) (i + 1) fs ≡ whole
  next_taken l h so e =
      ap (λ xs. xs ++ in_order_from (n - (i + 1)) (i + 1) fs) e
      ∙ (append_assoc all (option_to_list (at_place i es)) (in_order_from (n - (i + 1)) (i + 1) fs) ∙ (ap (λ xs. all ++ xs) (sym (next_place n i es fs l h)) ∙ so))

-- ---- what is among those in order is among those with places
at_place_among : {X : Type 0} (k : ℕ) (es : List (ℕ × X)) (x : X) → at_place k es ≡ Some x → (e : ℕ × X) × Among e es × (e.1 ≡ x)
at_place_among k [] x f = absurd (cc)
at_place_among k (e ∷ es) x f = go (e.0 == k) f (at_place_among k es x)
  where
    go : (b : Bool) → cond b (Some e.1) (at_place k es) ≡ Some x → (at_place k es ≡ Some x → (d : ℕ × _) × Among d es × (d.1 ≡ x)) → (d : ℕ × _) × Among d (e ∷ es) × (d.1 ≡ x)
    go true f h = (e, inl refl, cc)
    go false f h = let r = h f in (r.0, inr r.1, r.2)

from_among : {X : Type 0} (n k i : ℕ) (es : List (ℕ × X)) (x : X) → slice_get (in_order_from n k es) i ≡ Some x → (e : ℕ × X) × Among e es × (e.1 ≡ x)
from_among zero k zero es x f = absurd (cc)
from_among zero k (suc i) es x f = absurd (cc)
from_among (suc n) k i es x f = go (at_place k es) refl i (λ j. from_among n (suc k) j es x) f
  where
    go : (o : Option _) → at_place k es ≡ o → (i : ℕ) → ((j : ℕ) → slice_get (in_order_from n (suc k) es) j ≡ Some x → (e : ℕ × _) × Among e es × (e.1 ≡ x))
        → slice_get (option_to_list o ++ in_order_from n (suc k) es) i ≡ Some x → (e : ℕ × _) × Among e es × (e.1 ≡ x)
    go None g i r f = r i f
    go (Some y) g zero r f = at_place_among k es x (g ∙ f)
    go (Some y) g (suc i) r f = r i f

list_among : {X : Type 0} (xs : List X) (i : ℕ) (x : X) → slice_get xs i ≡ Some x → Among x xs
list_among [] zero x f = absurd (cc)
list_among [] (suc i) x f = absurd (cc)
list_among (y ∷ xs) zero x f = inl (cc)
list_among (y ∷ xs) (suc i) x f = inr (list_among xs i x f)

both_among : {X : Type 0} (xs ys : List X) (i : ℕ) (x : X) → slice_get (xs ++ ys) i ≡ Some x → ((j : ℕ) × (slice_get xs j ≡ Some x)) ⊎ Among x ys
both_among [] ys i x f = inr (list_among ys i x f)
both_among (y ∷ xs) ys zero x f = inl (zero, f)
both_among (y ∷ xs) ys (suc i) x f = elim (both_among xs ys i x f) [ inl r ↦ inl (suc r.0, r.1) | inr a ↦ inr a ]

-- what holds of each that has a place and of each of the list holds of each in order
pub all_in_order : {X : Type 0} (P : X → Type 0) (single : List (ℕ × X)) (list : List X) → ((e : ℕ × X) → Among e single → P e.1) → ((x : X) → Among x list → P x) → (i : ℕ) (x : X) → slice_get (in_order single ++ list) i ≡ Some x → P x
all_in_order P single list h k i x f = elim (both_among (in_order single) list i x f) [
  | inl r ↦ let e = from_among (length single) 0 r.0 single x r.1 in subst P e.2 (h e.0 e.1)
  | inr a ↦ k x a
]

-- ---- a part of each item
-- the next item's was added
pub split_more : {X Y : Type 0} (part : X → Y) (parts more whole : List Y) (x : X) (left rest : List X) → more ≡ parts ++ part x ∷ [] → left ≡ x ∷ rest → parts ++ map part left ≡ whole → more ++ map part rest ≡ whole
split_more part parts more whole x left rest e s so = ap (λ ys. ys ++ map part rest) e ∙ (append_assoc parts (part x ∷ []) (map part rest) ∙ (ap (λ xs. parts ++ map part xs) (sym s) ∙ so))

-- those of all items were added
pub split_all : {X Y : Type 0} (part : X → Y) (parts whole : List Y) (left : List X) → left ≡ [] → parts ++ map part left ≡ whole → parts ≡ whole
split_all part parts whole left none so = sym (append-nil parts) ∙ (ap (λ xs. parts ++ map part xs) (sym none) ∙ so)

-- a list without items
pub none_left : {X : Type 0} (xs : List X) → length xs ≡ 0 → xs ≡ []
none_left [] e = refl
none_left (x ∷ xs) e = absurd (omega (arith, e))
