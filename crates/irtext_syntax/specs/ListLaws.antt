-- The law of lists of parts in brackets, from the law of the parts.
use Rattle.std.proofs.Common.{◌≡◌, ℕ, zero, suc, ◌≤◌, ◌+◌, Bool, true, false, cond, List, [], ◌∷◌, ◌++◌, length, length-append, append-nil, refl, sym, ◌∙◌, ap, append_assoc, arith, true≢false}
use Rattle.std.proofs.lemmas.Bool.Decides.{nat_tests}
use Rattle.std.specs.Char.{is_whitespace, is_ascii}
use Rattle.std.specs.Str.{all_scalars}
use Rattle.irtext_base.specs.Text.{Text, begins, after_space}
use Rattle.irtext_base.specs.Reading.{the}
use Rattle.irtext_base.specs.Answers.{Outcome, Read, Missing, Bad, mapped, followed}
use Rattle.irtext_base.specs.Own.{found, missing, verdict, can_follow}
use Rattle.irtext_base.proofs.Characters.{and_right, after_twice}
use Rattle.irtext_base.proofs.Scalars.{scalars_more}
use Rattle.irtext_base.proofs.Sincere.{Of, of_followed, of_mapped, of_sincere, sincere_of}
use Rattle.irtext_tokens.specs.Tokens.{space_at, text_at, word}
use Rattle.irtext_tokens.specs.ListOutcomes.{item_after, items_after, or_empty, separated_at}
use Rattle.irtext_tokens.proofs.ListOutcomes.{after_separator, after_spaces}
use Rattle.irtext_tokens.proofs.SincereTokens.{of_text, of_space, of_separated}
use Rattle.irtext_syntax.specs.CloserTests.{closer_first, closer_closes, closer_ascii, both}
use Rattle.irtext_syntax.specs.FixedTexts.{BracketsLaw, open_at, close_at}
use Rattle.irtext_syntax.specs.PartLaws.{IsRead, PartLaw, MissesClosers, is_closer, closes}
use Rattle.irtext_syntax.specs.PartSteps.{then_found, mapped_found, then_missing, spaced_same, word_misses, ascii_scalars}
use Rattle.irtext_syntax.specs.ListParts.{SeparatorLaw, tail_text, joined_text, list_text, items_at, list_at}

same_as : (c : ℕ) → the c c ≡ true
same_as c = grind (arith, nat_tests)

-- ---- what is found
found_empty : {X : Type 0} (o : Outcome (List X)) (text : Text) → verdict o ≡ missing → verdict (or_empty o text) ≡ found [] text
found_empty (Read xs taken rest) text e = absurd (cc)
found_empty (Missing cause) text e = refl
found_empty (Bad cause upto) text e = absurd (cc)

found_some : {X : Type 0} (o : Outcome (List X)) (text : Text) (xs : List X) (rest : Text) → verdict o ≡ found xs rest → verdict (or_empty o text) ≡ found xs rest
found_some (Read ys taken left) text xs rest e = e
found_some (Missing cause) text xs rest e = absurd (cc)
found_some (Bad cause upto) text xs rest e = absurd (cc)

-- a separator is parsed
separator_found : (c : ℕ) (rest : Text) → verdict (text_at (c ∷ []) (c ∷ rest)) ≡ found tt rest
separator_found c rest = rw (same_as c) refl

module _ {X : Type 0} (closer_printed : Text) (separator : ℕ) (item : Text → Outcome X) (written : X → Text) (ends : Text → Bool) where
  -- a text at which the items of a list end: the closing bracket and what comes after it
  record Shut (text : Text) : Type 0 where
    closing : closes text ≡ true
    apart : begins (the separator) (after_space text) ≡ false

  -- what comes after an item: more items and the end
  following : List X → Text → Text
  following xs text = tail_text separator written xs ++ text

  module _ (law : PartLaw item written ends) (ending : is_closer separator ≡ true) where
    -- each item can end before it
    can_end : (xs : List X) (text : Text) → Shut text → ends (tail_text separator written xs ++ text) ≡ true
    can_end [] text s = law.closed text s.closing
    can_end (x ∷ xs) text s = law.closed (tail_text separator written (x ∷ xs) ++ text) (closer_closes separator (32 ∷ ((written x ++ tail_text separator written xs) ++ text)) ending)

    -- an item is parsed, and the white space after it
    item-here : (found_items : List X) (x : X) (rest : Text) → ends rest ≡ true → verdict (item_after separator item found_items (after_space (written x ++ rest))) ≡ found (found_items ++ (x ∷ [])) (after_space rest)
    item-here found_items x rest e =
        let r = law.back x rest e in
        then_found (item (after_space (written x ++ rest))) (λ x t. mapped (λ _. found_items ++ (x ∷ [])) (space_at t)) x (found_items ++ (x ∷ [])) r.0 (after_space rest) r.1
        (ap (λ t. found (found_items ++ (x ∷ [])) t) r.2)

    -- more items are parsed, if there are at most n
    more-here : (n : ℕ) (found_items xs : List X) (text : Text) → Shut text → length xs ≤ n → verdict (items_after separator item n found_items (after_space (tail_text separator written xs ++ text))) ≡ found (found_items ++ xs) (after_space text)
    more-here zero found_items [] text s l = ap (λ z. found z (after_space text)) (sym (append-nil found_items))
    more-here (suc n) found_items [] text s l =
        ap (λ b. verdict (cond b (followed (text_at (separator ∷ []) (after_space text)) (after_separator separator item n found_items)) (Read found_items [] (after_space text)))) s.apart
        ∙ ap (λ z. found z (after_space text)) (sym (append-nil found_items))
    more-here zero found_items (x ∷ xs) text s l = absurd (omega (arith, l))
    more-here (suc n) found_items (x ∷ xs) text s l =
        let tail = tail_text separator written xs ++ text in
        let flat : tail_text separator written (x ∷ xs) ++ text ≡ separator ∷ 32 ∷ (written x ++ tail) = ap (λ z. separator ∷ 32 ∷ z) (append_assoc (written x) (tail_text separator written xs) text) in
        let now = found_items ++ (x ∷ []) in
        let one = item-here found_items x tail (can_end xs text s) in
        let two = then_found (item_after separator item found_items (after_space (written x ++ tail))) (λ more t. items_after separator item n more t) now (now ++ xs) (after_space tail) (after_space text) one (more-here n now xs text s (omega (arith, l))) in
        let three = then_found (space_at (32 ∷ (written x ++ tail))) (after_spaces separator item n found_items) tt (now ++ xs) (after_space (written x ++ tail)) (after_space text) refl two in
        let all = then_found (text_at (separator ∷ []) (separator ∷ 32 ∷ (written x ++ tail))) (after_separator separator item n found_items) tt (now ++ xs) (32 ∷ (written x ++ tail)) (after_space text) (separator_found separator (32 ∷ (written x ++ tail))) three in
        ap (λ z. verdict (items_after separator item (suc n) found_items (after_space z))) flat
        ∙ (ap (λ z. verdict (items_after separator item (suc n) found_items z)) (closer_first separator (32 ∷ (written x ++ tail)) ending)
        ∙ (ap (λ b. verdict (cond b (followed (text_at (separator ∷ []) (separator ∷ 32 ∷ (written x ++ tail))) (after_separator separator item n found_items)) (Read found_items [] (separator ∷ 32 ∷ (written x ++ tail))))) (same_as separator)
        ∙ (all ∙ ap (λ z. found z (after_space text)) (append_assoc found_items (x ∷ []) xs))))

    -- there are no more items than characters
    few : (xs : List X) (text : Text) → length xs ≤ length (tail_text separator written xs ++ text)
    few [] text = omega arith
    few (x ∷ xs) text =
        let l = few xs text in
        let e : length ((written x ++ tail_text separator written xs) ++ text) ≡ length (written x) + length (tail_text separator written xs ++ text) = ap length (append_assoc (written x) (tail_text separator written xs) text) ∙ length-append (written x) (tail_text separator written xs ++ text) in
        omega (arith, l, e)

    few_spaced : (xs : List X) (text : Text) → length xs ≤ length (after_space (tail_text separator written xs ++ text))
    few_spaced [] text = omega arith
    few_spaced (x ∷ xs) text =
        let l = few (x ∷ xs) text in
        let e = ap length (closer_first separator (32 ∷ ((written x ++ tail_text separator written xs) ++ text)) ending) in
        omega (arith, l, e)

    module _ (misses : MissesClosers item) where
      misses_at : (text : Text) → begins is_closer text ≡ true → verdict (item text) ≡ missing
      misses_at [] e = absurd (true≢false (sym e))
      misses_at (c ∷ text) e = misses.misses c text e

      -- items are parsed up to the closing bracket
      items-here : (xs : List X) (text : Text) → Shut text → verdict (separated_at separator item (after_space (joined_text separator written xs ++ text))) ≡ found xs (after_space text)
      items-here [] text s =
          let t = after_space text in
          found_empty _ t (then_missing (item_after separator item [] t) (λ found t. items_after separator item (length t) found t) (then_missing (item t) (λ x t. mapped (λ _. x ∷ []) (space_at t)) (misses_at t (and_right (begins can_follow text) _ s.closing))))
      items-here (x ∷ xs) text s =
          let tail = tail_text separator written xs ++ text in
          let t = after_space (written x ++ tail) in
          let one = item-here [] x tail (can_end xs text s) in
          let all = then_found (item_after separator item [] t) (λ found t. items_after separator item (length t) found t) (x ∷ []) (x ∷ xs) (after_space tail) (after_space text) one (more-here (length (after_space tail)) (x ∷ []) xs text s (few_spaced xs text)) in
          ap (λ z. verdict (separated_at separator item (after_space z))) (append_assoc (written x) (tail_text separator written xs) text) ∙ found_some _ t (x ∷ xs) (after_space text) all

module _ {X : Type 0} (opener closer opener_printed closer_printed : Text) (separator : ℕ) (item : Text → Outcome X) (written : X → Text) (ends : Text → Bool) where
  abbrev at : Text → Outcome (List X)
  at = list_at opener separator item closer

  abbrev text_of : List X → Text
  text_of = list_text opener_printed separator written closer_printed

  module _ (brackets : BracketsLaw opener closer opener_printed closer_printed) (separates : SeparatorLaw separator closer_printed) (law : PartLaw item written ends) (misses : MissesClosers item) where
    list_back : (xs : List X) (rest : Text) → true ≡ true → IsRead at xs (text_of xs ++ rest) rest
    list_back xs rest e =
        let following = closer_printed ++ rest in
        let tail = joined_text separator written xs ++ following in
        let shut : Shut closer_printed separator item written ends following = record { closing = brackets.closing rest; apart = separates.apart rest } in
        let items = items-here closer_printed separator item written ends law separates.ending misses xs following shut in
        let closed = mapped_found (λ _. xs) (close_at closer (after_space following)) tt rest (spaced_same (word closer) (after_space following) following (after_twice is_whitespace following) ∙ brackets.shuts rest) in
        let inside = then_found (separated_at separator item (after_space tail)) (λ ys t. mapped (λ _. ys) (close_at closer t)) xs xs (after_space following) rest items closed in
        let all = then_found (open_at opener (after_space (opener_printed ++ tail))) (λ _ t. items_at separator item closer t) tt xs (after_space tail) rest (brackets.opens tail) inside in
        let flat = append_assoc opener_printed (joined_text separator written xs ++ closer_printed) rest ∙ ap (λ z. opener_printed ++ z) (append_assoc (joined_text separator written xs) closer_printed rest) in
        (rest, ap (λ z. verdict (at (after_space z))) flat ∙ all, refl)

    scalars_tail : (xs : List X) → all_scalars (tail_text separator written xs) ≡ true
    scalars_tail [] = refl
    scalars_tail (x ∷ xs) =
        scalars_more (separator ∷ 32 ∷ []) (written x ++ tail_text separator written xs) (ascii_scalars (separator ∷ 32 ∷ []) (both (is_ascii separator) _ (closer_ascii separator separates.ending) refl)) (scalars_more (written x) (tail_text separator written xs) (law.scalars x) (scalars_tail xs))

    scalars_joined : (xs : List X) → all_scalars (joined_text separator written xs) ≡ true
    scalars_joined [] = refl
    scalars_joined (x ∷ xs) = scalars_more (written x) (tail_text separator written xs) (law.scalars x) (scalars_tail xs)

    of_list : (text : Text) → Of text (at text)
    of_list text = of_followed text _ _ (of_followed text _ _ (of_text opener text) (λ _ t. of_space t)) (λ _ t. of_followed t _ _ (of_separated separator item (of_sincere item law.sincere) t) (λ xs u. of_mapped u (λ _. xs) (close_at closer u) (of_followed u _ _ (of_space u) (λ _ v. of_text closer v))))

    -- the law of a list, from the law of its items
    pub list_law : PartLaw at text_of (λ rest. true)
    list_law = record {
      back = list_back;
      closed = λ rest e. refl;
      scalars = λ xs. scalars_more opener_printed (joined_text separator written xs ++ closer_printed) (ascii_scalars opener_printed brackets.ascii_open) (scalars_more (joined_text separator written xs) closer_printed (scalars_joined xs) (ascii_scalars closer_printed brackets.ascii_close));
      sincere = sincere_of at of_list;
    }

-- a list is missing where a closing character comes
pub list_misses : {X : Type 0} (opener closer opener_printed closer_printed : Text) (separator : ℕ) (item : Text → Outcome X) → BracketsLaw opener closer opener_printed closer_printed → MissesClosers (list_at opener separator item closer)
list_misses opener closer opener_printed closer_printed separator item b = record { misses = λ c rest e. then_missing (open_at opener (c ∷ rest)) _ (then_missing (text_at opener (c ∷ rest)) _ (word_misses opener b.opening c rest e)) }
