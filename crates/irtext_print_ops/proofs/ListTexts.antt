-- The texts of lists, item by item, and as the definitions of printing have them.
use Rattle.std.proofs.Common.{◌≡◌, ◌<◌, ◌≤◌, ◌∙◌, ◌+◌, ◌++◌, ◌∷◌, ◌&&◌, not, ℕ, zero, suc, refl, sym, ap, arith, Bool, true, false, List, [], Option, Some, None, IsSome, is_some, map, drop, length, slice_get, filter_map}
use Rattle.std.specs.List.{cons_option}
use Rattle.std.specs.Option.{option_map, option_and_then}
use Rattle.std.specs.Str.{encode_utf8_all}
use Rattle.std.proofs.lemmas.List.{append-nil}
use Rattle.irtext_base.specs.Text.{Text}
use Rattle.irtext_grammar.specs.Contexts.Held.{known_types}
use Rattle.irtext_grammar.specs.Spelling.Spell.{comma, joined}
use Rattle.irtext_print.proofs.Printers.Locations.{left_text}
use Rattle.irtext_print.proofs.Printers.PieceTexts.{row_written}
use Rattle.irtext_print_ops.specs.Listed.{next_text, are_none}

-- ---- items, one after another

-- one item more
left_next : (first left : Bool) (x : Option Text) (xs : List (Option Text)) (now next all : List ℕ) → next ≡ now ++ encode_utf8_all (next_text first x) → left ≡ (first && not (is_some x))
    → now ++ encode_utf8_all (left_text first (known_types (x ∷ xs))) ≡ all → next ++ encode_utf8_all (left_text left (known_types xs)) ≡ all
left_next first left None xs now next all p l h =
    ap (λ b. next ++ encode_utf8_all (left_text b (known_types xs))) (l ∙ still first) ∙ ap (λ z. z ++ encode_utf8_all (left_text first (known_types xs))) (p ∙ append-nil now) ∙ h
  where
    still : (b : Bool) → (b && true) ≡ b
    still true = refl
    still false = refl
left_next first left (Some t) xs now next all p l h =
    ap (λ b. next ++ encode_utf8_all (left_text b (known_types xs))) (l ∙ never first) ∙ row_written first t (known_types xs) now next all p h
  where
    never : (b : Bool) → (b && false) ≡ false
    never true = refl
    never false = refl

step : (texts : List (Option Text)) (i : ℕ) (first left : Bool) (now next all : List ℕ) → i < length texts
    → next ≡ now ++ encode_utf8_all (next_text first (option_and_then (λ t. t) (slice_get texts i))) → left ≡ (first && not (is_some (option_and_then (λ t. t) (slice_get texts i))))
    → now ++ encode_utf8_all (left_text first (known_types (drop i texts))) ≡ all → next ++ encode_utf8_all (left_text left (known_types (drop (suc i) texts))) ≡ all
step [] i first left now next all less p l h = absurd (omega (arith, less))
step (x ∷ xs) zero first left now next all less p l h = left_next first left x xs now next all p l h
step (x ∷ xs) (suc i) first left now next all less p l h = step xs i first left now next all (omega (arith, less)) p l h

-- the item at an index was written
pub item_written : (texts : List (Option Text)) (i : ℕ) (first left : Bool) (now next all : List ℕ) → i < length texts
    → next ≡ now ++ encode_utf8_all (next_text first (option_and_then (λ t. t) (slice_get texts i))) → left ≡ (first && not (is_some (option_and_then (λ t. t) (slice_get texts i))))
    → now ++ encode_utf8_all (left_text first (known_types (drop i texts))) ≡ all → next ++ encode_utf8_all (left_text left (known_types (drop (i + 1) texts))) ≡ all
item_written texts i first left now next all less p l h =
    let after : i + 1 ≡ suc i = omega arith in
    ap (λ n. next ++ encode_utf8_all (left_text left (known_types (drop n texts)))) after ∙ step texts i first left now next all less p l h

-- past the end of a list nothing is left
pub none_left : {X : Type 0} (xs : List X) (i : ℕ) → length xs ≤ i → drop i xs ≡ []
none_left [] zero h = refl
none_left [] (suc i) h = refl
none_left (x ∷ xs) zero h = absurd (omega (arith, h))
none_left (x ∷ xs) (suc i) h = none_left xs i (omega (arith, h))

-- nothing is written where there is no item
pub nothing_listed : (texts : List (Option Text)) → length texts ≡ 0 → joined comma (known_types (drop 0 texts)) ≡ []
nothing_listed [] e = refl
nothing_listed (x ∷ xs) e = absurd (omega (arith, e))

-- all items were written
pub all_written : (texts : List (Option Text)) (i : ℕ) (first : Bool) (now all : List ℕ) → length texts ≤ i → now ++ encode_utf8_all (left_text first (known_types (drop i texts))) ≡ all → now ≡ all
all_written texts i first now all past h = sym (append-nil now) ∙ sym (ap (λ t. now ++ encode_utf8_all t) (nothing first)) ∙ ap (λ z. now ++ encode_utf8_all (left_text first (known_types z))) (sym (none_left texts i past)) ∙ h
  where
    nothing : (b : Bool) → left_text b [] ≡ []
    nothing true = refl
    nothing false = refl

-- ---- whether there is none

none_after : (first left : Bool) (x : Option Text) (xs : List (Option Text)) (all : Bool) → left ≡ (first && not (is_some x)) → (first && are_none (known_types (x ∷ xs))) ≡ all → (left && are_none (known_types xs)) ≡ all
none_after first left None xs all l h = ap (λ b. b && are_none (known_types xs)) l ∙ either first h
  where
    either : (b : Bool) → (b && are_none (known_types xs)) ≡ all → ((b && true) && are_none (known_types xs)) ≡ all
    either true h = h
    either false h = h
none_after first left (Some t) xs all l h = ap (λ b. b && are_none (known_types xs)) l ∙ either first h
  where
    either : (b : Bool) → (b && false) ≡ all → ((b && false) && are_none (known_types xs)) ≡ all
    either true h = h
    either false h = h

none_step : (texts : List (Option Text)) (i : ℕ) (first left all : Bool) → i < length texts → left ≡ (first && not (is_some (option_and_then (λ t. t) (slice_get texts i))))
    → (first && are_none (known_types (drop i texts))) ≡ all → (left && are_none (known_types (drop (suc i) texts))) ≡ all
none_step [] i first left all less l h = absurd (omega (arith, less))
none_step (x ∷ xs) zero first left all less l h = none_after first left x xs all l h
none_step (x ∷ xs) (suc i) first left all less l h = none_step xs i first left all (omega (arith, less)) l h

-- the item at an index is none, or there is one
pub none_next : (texts : List (Option Text)) (i : ℕ) (first left all : Bool) → i < length texts → left ≡ (first && not (is_some (option_and_then (λ t. t) (slice_get texts i))))
    → (first && are_none (known_types (drop i texts))) ≡ all → (left && are_none (known_types (drop (i + 1) texts))) ≡ all
none_next texts i first left all less l h =
    let after : i + 1 ≡ suc i = omega arith in
    ap (λ n. left && are_none (known_types (drop n texts))) after ∙ none_step texts i first left all less l h

-- after all items
pub none_at_all : (texts : List (Option Text)) (i : ℕ) (first all : Bool) → length texts ≤ i → (first && are_none (known_types (drop i texts))) ≡ all → first ≡ all
none_at_all texts i first all past h = sym (plain first) ∙ ap (λ z. first && are_none (known_types z)) (sym (none_left texts i past)) ∙ h
  where
    plain : (b : Bool) → (b && true) ≡ b
    plain true = refl
    plain false = refl

-- ---- lists, as printing has them

module _ {X Y Z : Type 0} (f : X → Option Y) (name : Y → Z) (text : Z → Text) where
  -- what is left out has no text
  pub texts_known : (xs : List X) → map text (map name (filter_map f xs)) ≡ known_types (map (λ x. option_map (λ y. text (name y)) (f x)) xs)
  texts_known [] = refl
  texts_known (x ∷ xs) = go (f x) (texts_known xs)
    where
      go : (o : Option Y) → map text (map name (filter_map f xs)) ≡ known_types (map (λ x. option_map (λ y. text (name y)) (f x)) xs)
          → map text (map name (cons_option o (filter_map f xs))) ≡ known_types (option_map (λ y. text (name y)) o ∷ map (λ x. option_map (λ y. text (name y)) (f x)) xs)
      go None h = h
      go (Some y) h = ap (λ z. text (name y) ∷ z) h

  -- the same after an index, if nothing is left out
  pub texts_after : (xs : List X) → ((i : ℕ) (x : X) → slice_get xs i ≡ Some x → IsSome (f x)) → (k : ℕ)
      → map text (map name (drop k (filter_map f xs))) ≡ known_types (drop k (map (λ x. option_map (λ y. text (name y)) (f x)) xs))
  texts_after xs there zero = texts_known xs
  texts_after [] there (suc k) = refl
  texts_after (x ∷ xs) there (suc k) = go (f x) (there zero x refl) (texts_after xs (λ i y e. there (suc i) y e) k)
    where
      go : (o : Option Y) → IsSome o → map text (map name (drop k (filter_map f xs))) ≡ known_types (drop k (map (λ x. option_map (λ y. text (name y)) (f x)) xs))
          → map text (map name (drop (suc k) (cons_option o (filter_map f xs)))) ≡ known_types (drop k (map (λ x. option_map (λ y. text (name y)) (f x)) xs))
      go None s h = absurd (cc)
      go (Some y) s h = h

-- the element at an index, if nothing is left out
pub at_index : {X Y : Type 0} (f : X → Option Y) (xs : List X) → ((i : ℕ) (x : X) → slice_get xs i ≡ Some x → IsSome (f x)) → (i : ℕ) → slice_get (filter_map f xs) i ≡ option_and_then f (slice_get xs i)
at_index f [] there i = refl
at_index {X = X} {Y = Y} f (x ∷ xs) there i = go i (f x) refl (there zero x refl) (λ j. at_index f xs (λ k y e. there (suc k) y e) j)
  where
    go : (i : ℕ) (o : Option Y) → f x ≡ o → IsSome o → ((j : ℕ) → slice_get (filter_map f xs) j ≡ option_and_then f (slice_get xs j)) → slice_get (cons_option o (filter_map f xs)) i ≡ option_and_then f (slice_get (x ∷ xs) i)
    go i None e s h = absurd (cc)
    go zero (Some y) e s h = sym e
    go (suc i) (Some y) e s h = h i

-- all are there
pub all_texts : {X Y Z : Type 0} (place : X → Y) (name : Y → Z) (text : Z → Text) (xs : List X) (k : ℕ) → map text (map name (drop k (map place xs))) ≡ known_types (drop k (map (λ x. Some (text (name (place x)))) xs))
all_texts place name text [] zero = refl
all_texts place name text [] (suc k) = refl
all_texts place name text (x ∷ xs) zero = ap (λ z. text (name (place x)) ∷ z) (all_texts place name text xs zero)
all_texts place name text (x ∷ xs) (suc k) = all_texts place name text xs k

-- of a list of lists' items that are left out twice
pub types_known : {X Y Z : Type 0} (f : X → Option Y) (g : Y → Option Z) (text : Z → Text) (xs : List X) → map text (filter_map g (filter_map f xs)) ≡ known_types (map (λ x. option_map text (option_and_then g (f x))) xs)
types_known f g text [] = refl
types_known {X = X} {Y = Y} {Z = Z} f g text (x ∷ xs) = outer (f x) (types_known f g text xs)
  where
    inner : (o : Option Z) (ys : List Z) (zs : List (Option Text)) → map text ys ≡ known_types zs → map text (cons_option o ys) ≡ known_types (option_map text o ∷ zs)
    inner None ys zs h = h
    inner (Some z) ys zs h = ap (λ u. text z ∷ u) h

    outer : (o : Option Y) → map text (filter_map g (filter_map f xs)) ≡ known_types (map (λ x. option_map text (option_and_then g (f x))) xs)
        → map text (filter_map g (cons_option o (filter_map f xs))) ≡ known_types (option_map text (option_and_then g o) ∷ map (λ x. option_map text (option_and_then g (f x))) xs)
    outer None h = h
    outer (Some y) h = inner (g y) (filter_map g (filter_map f xs)) (map (λ x. option_map text (option_and_then g (f x))) xs) h
