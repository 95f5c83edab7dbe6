-- The section of items of which some were erased: if none was, it is the section of the definition; its text is that of its entries, whose
-- indices ascend.
use Rattle.std.proofs.Common.{◌≡◌, ℕ, suc, ◌+◌, Bool, true, false, cond, List, [], ◌∷◌, ◌++◌, map, flat_map, length, codes, decimal, Option, Some, None, arith, refl, sym, ap, ap₂, ◌∙◌}
use Rattle.std.specs.Prelude.{⊤}
use Rattle.std.proofs.lemmas.List.{append_assoc}
use Rattle.irtext_base.specs.Own.{Language}
use Rattle.irtext_base.specs.Text.{Text}
use Rattle.irtext_grammar.specs.Grammar.Section as tree
use Rattle.irtext_grammar.specs.Grammar.Tree.{Attribute, given_names, ident, own}
use Rattle.irtext_grammar.specs.Graphs.Graph.{Printing, Entry, shared, place_in}
use Rattle.irtext_grammar.specs.Spelling.Section.{item, located, entry_text, entry_texts, once_texts, section}
use Rattle.irtext_grammar.specs.Spelling.SectionEntries.{index_of, numbers, mark_of, written_item, written_pair, written_once}
use Rattle.irtext_grammar.specs.Spelling.Spell.{joined, comma}
use Rattle.irtext_grammar.proofs.Lists.Numbers.{numbers_both}
use Rattle.irtext_print.specs.Items.{there, shared_by, given_items, given_section, places_there, item_spelled, entry_spelled, given_texts, section_of}

length_some : {X : Type 0} (xs : List X) → length (map (λ x. Some x) xs) ≡ length xs
length_some [] = refl
length_some (x ∷ xs) = ap suc (length_some xs)

indices_once : {A : Type 0} (n : ℕ) (xs : List A) → map index_of (written_once n xs) ≡ numbers n (length xs)
indices_once n [] = refl
indices_once n (x ∷ xs) = ap (λ z. n ∷ z) (indices_once (suc n) xs)

module _ {T A : Type 0} (C : Printing T A) where
  -- where each item is there, these are all
  there_all : (es : List (Entry C)) → there C (map (λ e. Some e) es) ≡ es
  there_all [] = refl
  there_all (e ∷ es) = ap (λ z. e ∷ z) (there_all es)

  places_all : (n : ℕ) (es : List (Entry C)) → places_there C n (map (λ e. Some e) es) ≡ numbers n (length es)
  places_all n [] = refl
  places_all n (e ∷ es) = ap (λ z. n ∷ z) (places_all (suc n) es)

  -- the indices of items, and then of what follows them
  indices_items : (items : ℕ) (once : List A) (n : ℕ) (gs : List (Option (Entry C))) (last : List (tree.Entry ⊤ A Text)) → map index_of (given_items C items once n gs ++ last) ≡ places_there C n gs ++ map index_of last
  indices_items items once n [] last = refl
  indices_items items once n (None ∷ gs) last = indices_items items once (suc n) gs last
  indices_items items once n (Some e ∷ gs) last = ap (λ z. n ∷ z) (indices_items items once (suc n) gs last)

  -- the index of an item is its place, and print-once attributes are numbered on after all items
  pub indices_are : (gs : List (Option (Entry C))) → map index_of (given_section C gs) ≡ places_there C 0 gs ++ numbers (length gs) (length (shared_by C gs))
  indices_are gs = indices_items (length gs) (shared_by C gs) 0 gs (written_once (length gs) (shared_by C gs)) ∙ ap (λ z. places_there C 0 gs ++ z) (indices_once (length gs) (shared_by C gs))

  -- if none was erased, the indices are the numbers from 0 on, without a gap
  pub indices_without_gap : (es : List (Entry C)) → map index_of (given_section C (map (λ e. Some e) es)) ≡ numbers 0 (length es + length (shared C es))
  indices_without_gap es =
      let n = length es in
      let k = length (shared C es) in
      let from_zero : n ≡ 0 + n = omega arith in
      indices_are (map (λ e. Some e) es)
      ∙ ap (λ z. z ++ numbers (length (map (λ e. Some e) es)) (length (shared_by C (map (λ e. Some e) es)))) (places_all 0 es)
      ∙ ap (λ m. numbers 0 n ++ numbers m (length (shared_by C (map (λ e. Some e) es)))) (length_some es ∙ from_zero)
      ∙ ap (λ z. numbers 0 n ++ numbers (0 + n) (length (shared C z))) (there_all es)
      ∙ numbers_both 0 n k

  module _ (L : Language ⊤ T A) where
    texts_all : (items : ℕ) (once : List A) (n : ℕ) (es : List (Entry C)) → given_texts C L items once n (map (λ e. Some e) es) ≡ entry_texts L C items once n es
    texts_all items once n [] = refl
    texts_all items once n (e ∷ es) = ap (λ z. entry_text L C items once n e ++ z) (texts_all items once (suc n) es)

    -- where no item was erased, the section is that of the definition
    pub section_whole : (es : List (Entry C)) → section_of C L (map (λ e. Some e) es) ≡ section L C es
    section_whole [] = refl
    section_whole (e ∷ es) =
        let all = e ∷ es in
        let gs = map (λ (e : Entry C). Some e) all in
        ap (λ n. codes "\n\noutlined_attributes:\n" ++ (given_texts C L n (shared_by C gs) 0 gs ++ once_texts L C n (shared_by C gs))) (length_some all)
        ∙ ap (λ once. codes "\n\noutlined_attributes:\n" ++ (given_texts C L (length all) once 0 gs ++ once_texts L C (length all) once)) (ap (shared C) (there_all all))
        ∙ ap (λ z. codes "\n\noutlined_attributes:\n" ++ (z ++ once_texts L C (length all) (shared C all))) (texts_all (length all) (shared C all) 0 all)

    -- a reference and an attribute in place, as entries have them
    item_as : (items : ℕ) (once : List A) (a : Attribute A) → item L C items once a ≡ item_spelled C L (written_item C items once a)
    item_as items once (given_names ns) = refl
    item_as items once (ident n) = refl
    item_as items once (own a) = go (C.own_once a)
      where
        go : (b : Bool) → cond b (codes "!" ++ decimal (items + place_in C once a)) (L.owns.written a) ≡ item_spelled C L (cond b (tree.reference (mark_of (items + place_in C once a))) (tree.direct (own a)))
        go true = refl
        go false = refl

    pairs_as : (items : ℕ) (once : List A) (es : List (Text × Attribute A))
        → map (λ a. a.0 ++ (codes " = " ++ item L C items once a.1)) es ≡ map (λ e. e.0.text ++ (codes " = " ++ item_spelled C L e.1)) (map (written_pair C items once) es)
    pairs_as items once [] = refl
    pairs_as items once (e ∷ es) = ap₂ (λ x xs. (e.0 ++ (codes " = " ++ x)) ∷ xs) (item_as items once e.1) (pairs_as items once es)

    items_as : (items : ℕ) (once : List A) (n : ℕ) (gs : List (Option (Entry C))) → given_texts C L items once n gs ≡ flat_map (entry_spelled C L) (given_items C items once n gs)
    items_as items once n [] = refl
    items_as items once n (None ∷ gs) = items_as items once (suc n) gs
    items_as items once n (Some e ∷ gs) =
        ap₂ (λ x xs. (codes "!" ++ (decimal n ++ (codes " = " ++ (located L C e.location ++ (codes "[" ++ (joined comma x ++ codes "]\n")))))) ++ xs) (pairs_as items once e.attributes) (items_as items once (suc n) gs)

    once_as : (n : ℕ) (xs : List A) → once_texts L C n xs ≡ flat_map (entry_spelled C L) (written_once n xs)
    once_as n [] = refl
    once_as n (a ∷ rest) =
        let ts = flat_map (entry_spelled C L) (written_once (suc n) rest) in
        let joins : codes "!" ++ (decimal n ++ (codes " = " ++ (L.owns.written a ++ (10 ∷ ts)))) ≡ (codes "!" ++ (decimal n ++ (codes " = " ++ (L.owns.written a ++ (10 ∷ []))))) ++ ts = simp append_assoc in
        ap (λ z. codes "!" ++ (decimal n ++ (codes " = " ++ (L.owns.written a ++ (10 ∷ z))))) (once_as (suc n) rest) ∙ joins

    both_spelled : (xs ys : List (tree.Entry ⊤ A Text)) → flat_map (entry_spelled C L) (xs ++ ys) ≡ flat_map (entry_spelled C L) xs ++ flat_map (entry_spelled C L) ys
    both_spelled [] ys = refl
    both_spelled (x ∷ xs) ys = ap (λ z. entry_spelled C L x ++ z) (both_spelled xs ys) ∙ sym (append_assoc (entry_spelled C L x) (flat_map (entry_spelled C L) xs) (flat_map (entry_spelled C L) ys))

    -- the text of a section is that of its entries
    pub section_spelled : (g : Option (Entry C)) (gs : List (Option (Entry C))) → section_of C L (g ∷ gs) ≡ codes "\n\noutlined_attributes:\n" ++ flat_map (entry_spelled C L) (given_section C (g ∷ gs))
    section_spelled g gs =
        let all = g ∷ gs in
        let once = shared_by C all in
        ap₂ (λ x y. codes "\n\noutlined_attributes:\n" ++ (x ++ y)) (items_as (length all) once 0 all) (once_as (length all) once)
        ∙ ap (λ z. codes "\n\noutlined_attributes:\n" ++ z) (sym (both_spelled (given_items C (length all) once 0 all) (written_once (length all) once)))
