-- What is written of an item's attributes, and of items, step by step, while the attributes that are written once are recorded.
use Rattle.std.proofs.Common.{◌≡◌, ℕ, Bool, true, false, true≢false, ◌+◌, ◌<◌, ◌==◌, cond, zero, suc, List, [], ◌∷◌, ◌++◌, map, drop, length, get_or, codes, arith, ◌≤◌, Option, Some, None, refl, sym, ap, ap₂, ◌∙◌}
use Rattle.std.proofs.Math.Seq.{drop-cons}
use Rattle.std.proofs.lemmas.List.{append-nil, drop_all, length-map}
use Rattle.std.specs.Fmt.{decimal}
use Rattle.std.specs.Prelude.{⊤}
use Rattle.std.specs.Str.{encode_utf8_all}
use Rattle.irtext_base.specs.Own.{Language}
use Rattle.irtext_base.specs.Text.{Text}
use Rattle.irtext_grammar.specs.Grammar.Tree.{Attribute, given_names, ident, own}
use Rattle.irtext_grammar.specs.Graphs.Graph.{Printing, Entry, place_in}
use Rattle.irtext_grammar.specs.Spelling.Section.{item, located, entry_text, once_texts}
use Rattle.irtext_grammar.specs.Spelling.Spell.{joined, comma}
use Rattle.irtext_print.proofs.Printers.Locations.{more, worded, left_text}
use Rattle.irtext_print.specs.Printers.PieceText.{words}
use Rattle.irtext_print.proofs.Noted.{GoesOn, on_with, all_on, items_on, noted_shared}
use Rattle.irtext_print.proofs.Texts.{pair_more, pairs_end}
use Rattle.irtext_print.specs.Entries.{pair_text, pairs_text, entry_with}
use Rattle.irtext_print.specs.Items.{shared_by, given_text, given_texts, section_of}
use Rattle.irtext_print.specs.Mentions.{asking, noted, all_noted, one_noted, items_noted}

-- a count that is not 0
pub not_empty : (n : ℕ) → false ≡ (n == 0) → 0 < n
not_empty zero h = absurd (true≢false (sym h))
not_empty (suc n) h = omega arith

module _ {T A : Type 0} (L : Language ⊤ T A) (C : Printing T A) (items : ℕ) (given : List (Text × Attribute A)) (first_known : List A) where
  -- What was written of an item's attributes, and what is left: together they are all; the same of what is recorded.
  pub record PairsSoFar (known : List A) (left : List (Text × Attribute A)) (first : Bool) (old now : List ℕ) : Type 0 where
    pub known_all : all_noted C known left ≡ all_noted C first_known given
    pub text : (following : List A) → now ++ encode_utf8_all (left_text first (map (pair_text C items (all_noted C first_known given ++ following) L) left))
        ≡ old ++ encode_utf8_all (pairs_text C items (all_noted C first_known given ++ following) L given)

  -- nothing was written so far
  pub pairs_none : (left : List (Text × Attribute A)) (old : List ℕ) → left ≡ given → PairsSoFar first_known left true old old
  pairs_none left old e = record {
    known_all = ap (all_noted C first_known) e;
    text = λ following. ap (λ z. old ++ encode_utf8_all (pairs_text C items (all_noted C first_known given ++ following) L z)) e;
  }

  -- one attribute more was written
  pub pairs_more : (known next_known : List A) (e : Text × Attribute A) (left rest : List (Text × Attribute A)) (first : Bool) (old now between next : List ℕ) → left ≡ e ∷ rest
      → between ≡ now ++ cond first [] comma → next_known ≡ noted C known e.1
      → ((following : List A) → next ≡ between ++ encode_utf8_all (pair_text C items (next_known ++ following) L e))
      → PairsSoFar known left first old now → PairsSoFar next_known rest false old next
  pairs_more known next_known e left rest first old now between next is p k q so =
      let known_all : all_noted C next_known rest ≡ all_noted C first_known given = ap (λ z. all_noted C z rest) k ∙ ap (all_noted C known) (sym is) ∙ so.known_all in
      let on : GoesOn next_known (all_noted C next_known rest) = all_on C next_known rest in
      let same : (following : List A) → next_known ++ (on.0 ++ following) ≡ all_noted C first_known given ++ following = λ following. sym (on_with next_known (all_noted C next_known rest) following on) ∙ ap (λ z. z ++ following) known_all in
      record {
        known_all = known_all;
        text = λ following.
            pair_more L C items (all_noted C first_known given ++ following) first left rest e now between next
            (old ++ encode_utf8_all (pairs_text C items (all_noted C first_known given ++ following) L given)) is p
            (q (on.0 ++ following) ∙ ap (λ z. between ++ encode_utf8_all (pair_text C items z L e)) (same following)) (so.text following);
      }

  -- all were recorded
  pub pairs_known : (known : List A) (left : List (Text × Attribute A)) (first : Bool) (old now : List ℕ) → left ≡ [] → PairsSoFar known left first old now → known ≡ all_noted C first_known given
  pairs_known known left first old now is so = ap (all_noted C known) (sym is) ∙ so.known_all

  -- all were written
  pub pairs_written : (known : List A) (left : List (Text × Attribute A)) (first : Bool) (old now : List ℕ) → left ≡ [] → PairsSoFar known left first old now
      → (following : List A) → now ≡ old ++ encode_utf8_all (pairs_text C items (known ++ following) L given)
  pairs_written known left first old now is so following =
      pairs_end L C items (all_noted C first_known given ++ following) first left now (old ++ encode_utf8_all (pairs_text C items (all_noted C first_known given ++ following) L given)) is (so.text following)
      ∙ ap (λ z. old ++ encode_utf8_all (pairs_text C items (z ++ following) L given)) (sym (pairs_known known left first old now is so))

module _ {T A : Type 0} (L : Language ⊤ T A) (C : Printing T A) where
  -- what printing requires of the caller's attributes alone
  abbrev alone : Printing ⊤ A
  alone = asking C.own_once C.same_own

  noted_alone : (known : List A) (a : Attribute A) → noted alone known a ≡ noted C known a
  noted_alone known (given_names ns) = refl
  noted_alone known (ident n) = refl
  noted_alone known (own a) = refl

  -- it notes the same attributes
  pub all_alone : (known : List A) (es : List (Text × Attribute A)) → all_noted alone known es ≡ all_noted C known es
  all_alone known [] = refl
  all_alone known (e ∷ es) = all_alone (noted alone known e.1) es ∙ ap (λ k. all_noted C k es) (noted_alone known e.1)

  place_alone : (xs : List A) (a : A) → place_in alone xs a ≡ place_in C xs a
  place_alone [] a = refl
  place_alone (x ∷ xs) a = ap (λ n. cond (C.same_own a x) 0 (suc n)) (place_alone xs a)

  item_alone : (items : ℕ) (once : List A) (a : Attribute A) → item (words L.owns.written) alone items once a ≡ item L C items once a
  item_alone items once (given_names ns) = refl
  item_alone items once (ident n) = refl
  item_alone items once (own a) = ap (λ n. cond (C.own_once a) (codes "!" ++ decimal (items + n)) (L.owns.written a)) (place_alone once a)

  pairs_alone : (items : ℕ) (once : List A) (es : List (Text × Attribute A))
      → map (pair_text alone items once (words L.owns.written)) es ≡ map (λ a. a.0 ++ (codes " = " ++ item L C items once a.1)) es
  pairs_alone items once [] = refl
  pairs_alone items once (e ∷ es) = ap₂ (λ x xs. (e.0 ++ (codes " = " ++ x)) ∷ xs) (item_alone items once e.1) (pairs_alone items once es)

  located_alone : (l : Option Text) → located (words L.owns.written) alone l ≡ located L C l
  located_alone None = refl
  located_alone (Some l) = refl

  -- it writes the same entries
  pub entry_alone : (items : ℕ) (once : List A) (n : ℕ) (e : Entry C) → entry_with alone items once (words L.owns.written) n e.location e.attributes ≡ entry_text L C items once n e
  entry_alone items once n e =
      ap₂ (λ l ps. codes "!" ++ (decimal n ++ (codes " = " ++ (l ++ (codes "[" ++ (joined comma ps ++ codes "]\n")))))) (located_alone e.location) (pairs_alone items once e.attributes)

  -- and the same attributes that are written once
  pub once_alone : (n : ℕ) (xs : List A) → once_texts (words L.owns.written) alone n xs ≡ once_texts L C n xs
  once_alone n [] = refl
  once_alone n (a ∷ rest) = ap (λ z. codes "!" ++ (decimal n ++ (codes " = " ++ (L.owns.written a ++ (10 ∷ z))))) (once_alone (suc n) rest)

  module _ {X : Type 0} (gives : X → Option (Entry C)) (items : ℕ) (all : List X) (first_known : List A) where
    -- what is known after all items
    abbrev last_known : List A
    last_known = items_noted C first_known (map gives all)

    -- What was written of items, and what is left: together they are all; the same of what is recorded.
    pub record ItemsSoFar (known : List A) (i : ℕ) (old now : List ℕ) : Type 0 where
      pub known_all : items_noted C known (map gives (drop i all)) ≡ items_noted C first_known (map gives all)
      pub text : (following : List A) → now ++ encode_utf8_all (given_texts C L items (items_noted C first_known (map gives all) ++ following) i (map gives (drop i all)))
          ≡ old ++ encode_utf8_all (given_texts C L items (items_noted C first_known (map gives all) ++ following) 0 (map gives all))

    -- nothing was written so far
    pub items_none : (old : List ℕ) → ItemsSoFar first_known 0 old old
    items_none old = record { known_all = refl; text = λ following. refl }

    -- one item more was written
    pub items_more : (known next_known : List A) (i : ℕ) (d : X) (old now next : List ℕ) → i < length all
        → next_known ≡ one_noted C known (gives (get_or all i d))
        → ((following : List A) → next ≡ now ++ encode_utf8_all (given_text C L items (next_known ++ following) i (gives (get_or all i d))))
        → ItemsSoFar known i old now → ItemsSoFar next_known (i + 1) old next
    items_more known next_known i d old now next below k q so =
        let x = get_or all i d in
        let after : suc i ≡ i + 1 = omega arith in
        let rest = map gives (drop (i + 1) all) in
        let split : map gives (drop i all) ≡ gives x ∷ rest = ap (map gives) (drop-cons all i d below ∙ ap (λ n. x ∷ drop n all) after) in
        let known_all : items_noted C next_known rest ≡ last_known = ap (λ z. items_noted C z rest) k ∙ ap (items_noted C known) (sym split) ∙ so.known_all in
        let on : GoesOn next_known (items_noted C next_known rest) = items_on C next_known rest in
        let same : (following : List A) → next_known ++ (on.0 ++ following) ≡ last_known ++ following = λ following. sym (on_with next_known (items_noted C next_known rest) following on) ∙ ap (λ z. z ++ following) known_all in
        record {
          known_all = known_all;
          text = λ following.
              let once = last_known ++ following in
              let tail = given_texts C L items once (i + 1) rest in
              more now next (next ++ encode_utf8_all tail) (given_text C L items once i (gives x)) tail
              (q (on.0 ++ following) ∙ ap (λ z. now ++ encode_utf8_all (given_text C L items z i (gives x))) (same following)) refl
              ∙ ap (λ n. now ++ encode_utf8_all (given_text C L items once i (gives x) ++ given_texts C L items once n rest)) (sym after)
              ∙ ap (λ z. now ++ encode_utf8_all (given_texts C L items once i z)) (sym split) ∙ so.text following;
        }

    nothing_left : (i : ℕ) → length all ≤ i → map gives (drop i all) ≡ []
    nothing_left i h = ap (map gives) (drop_all i all h)

    -- all were recorded
    pub items_known : (known : List A) (i : ℕ) (old now : List ℕ) → length all ≤ i → ItemsSoFar known i old now → known ≡ last_known
    items_known known i old now h so = ap (items_noted C known) (sym (nothing_left i h)) ∙ so.known_all

    -- all were written
    pub items_written : (known : List A) (i : ℕ) (old now : List ℕ) → length all ≤ i → ItemsSoFar known i old now
        → (following : List A) → now ≡ old ++ encode_utf8_all (given_texts C L items (known ++ following) 0 (map gives all))
    items_written known i old now h so following =
        sym (append-nil now) ∙ ap (λ z. now ++ encode_utf8_all (given_texts C L items (last_known ++ following) i z)) (sym (nothing_left i h)) ∙ so.text following
        ∙ ap (λ z. old ++ encode_utf8_all (given_texts C L items (z ++ following) 0 (map gives all))) (sym (items_known known i old now h so))

    -- the section, where there are items
    section_some : 0 < length all → section_of C L (map gives all)
        ≡ codes "\n\noutlined_attributes:\n" ++ (given_texts C L (length (map gives all)) (shared_by C (map gives all)) 0 (map gives all) ++ once_texts L C (length (map gives all)) (shared_by C (map gives all)))
    section_some h = go all h
      where
        go : (xs : List X) → 0 < length xs → section_of C L (map gives xs)
            ≡ codes "\n\noutlined_attributes:\n" ++ (given_texts C L (length (map gives xs)) (shared_by C (map gives xs)) 0 (map gives xs) ++ once_texts L C (length (map gives xs)) (shared_by C (map gives xs)))
        go [] h = absurd (omega (arith, h))
        go (x ∷ xs) h = refl

  -- the section is written: its head, the entries of items, and what is written once
  pub section_written : {X : Type 0} (gives : X → Option (Entry C)) (all : List X) (known : List A) (f0 f1 f2 f3 : List ℕ) → 0 < length all
      → f1 ≡ f0 ++ codes "\n\noutlined_attributes:\n"
      → known ≡ items_noted C [] (map gives all)
      → ((following : List A) → f2 ≡ f1 ++ encode_utf8_all (given_texts C L (length all) (known ++ following) 0 (map gives all)))
      → f3 ≡ f2 ++ encode_utf8_all (once_texts (words L.owns.written) alone (length all) known)
      → f3 ≡ f0 ++ encode_utf8_all (section_of C L (map gives all))
  section_written gives all known f0 f1 f2 f3 some p k q r =
      let gs = map gives all in
      let is : known ≡ shared_by C gs = k ∙ noted_shared C gs in
      let count : length all ≡ length gs = sym (length-map all gives) in
      let entries : f2 ≡ f1 ++ encode_utf8_all (given_texts C L (length gs) (shared_by C gs) 0 gs) = q [] ∙ ap (λ z. f1 ++ encode_utf8_all (given_texts C L (length all) z 0 gs)) (append-nil known ∙ is)
      ∙ ap (λ n. f1 ++ encode_utf8_all (given_texts C L n (shared_by C gs) 0 gs)) count in
      let onces : f3 ≡ f2 ++ encode_utf8_all (once_texts L C (length gs) (shared_by C gs)) = r ∙ ap (λ z. f2 ++ encode_utf8_all z) (once_alone (length all) known)
      ∙ ap₂ (λ n z. f2 ++ encode_utf8_all (once_texts L C n z)) count is in
      worded f0 f1 f3 (codes "\n\noutlined_attributes:\n") (given_texts C L (length gs) (shared_by C gs) 0 gs ++ once_texts L C (length gs) (shared_by C gs)) refl p
      (more f1 f2 f3 (given_texts C L (length gs) (shared_by C gs) 0 gs) (once_texts L C (length gs) (shared_by C gs)) entries onces)
      ∙ ap (λ z. f0 ++ encode_utf8_all z) (sym (section_some gives (length all) all [] some))
