-- What directives write that name no value, no block and no type.
use Rattle.std.proofs.Common.{◌≡◌, ◌++◌, ◌∙◌, ◌-◌, not, ℕ, zero, suc, List, [], ◌∷◌, Bool, true, false, true≢false, cond, map, filter, refl, sym, ap, Option, Some, None, codes, replicate, unwrap_or, arith}
use Rattle.std.specs.Prelude.{⊤, filter_map}
use Rattle.std.proofs.lemmas.List.{append_assoc}
use Rattle.std.specs.List.{list_all, cons_option}
use Rattle.std.specs.Option.{option_map, option_and_then}
use Rattle.irtext_base.specs.Format as format
use Rattle.irtext_base.specs.Format.{Directive, same_text, has, sym_name_key}
use Rattle.irtext_base.specs.Own.{Language}
use Rattle.irtext_base.specs.Text.{Text, begins}
use Rattle.irtext_grammar.specs.Graphs.Graph.{GraphOp, Printing, lookup, outlined, inline, entries, written_keys, part_of}
use Rattle.irtext_print.specs.Printers.PieceText.{is_key_written, dictionary_entries, entry_text, rows_text, inline_text_in, spaced_if, symbol_text, symbol_in, repeated, directives_text}
use Rattle.irtext_print.specs.Printers.PrintedOperation.{is_supported}
use Rattle.irtext_grammar.specs.Spelling.Spell.{joins_left, piece, parts, entry, attribute, joined, joined_from, comma}
use Rattle.irtext_grammar.specs.Grammar.Tree as tree
use Rattle.irtext_grammar.specs.Grammar.Tree.{Attribute, given_names, ident, own, Part}
use Rattle.irtext_print.proofs.Printers.FitsTests.{counted, written_key}

-- the same text so many times, joined by nothing
joined_repeated : (n : ℕ) (r : Text) → joined [] (replicate n r) ≡ repeated n r
joined_repeated zero r = refl
joined_repeated (suc n) r = ap (λ z. r ++ z) (following n)
  where
    following : (n : ℕ) → joined_from [] (replicate n r) ≡ repeated n r
    following zero = refl
    following (suc n) = ap (λ z. r ++ z) (following n)

-- two tests that say the same keep the same
filter_alike : {X : Type 0} (p q : X → Bool) → ((x : X) → p x ≡ q x) → (xs : List X) → filter p xs ≡ filter q xs
filter_alike p q h [] = refl
filter_alike p q h (x ∷ xs) = ap (λ b. cond b (x ∷ filter p xs) (filter p xs)) (h x) ∙ ap (λ z. cond (q x) (x ∷ z) z) (filter_alike p q h xs)

-- a function of what another one makes
map_both : {X Y Z : Type 0} (f : Y → Z) (g : X → Y) (xs : List X) → map f (map g xs) ≡ map (λ x. f (g x)) xs
map_both f g [] = refl
map_both f g (x ∷ xs) = ap (λ z. f (g x) ∷ z) (map_both f g xs)

module _ {T A : Type 0} (L : Language ⊤ T A) (C : Printing T A) (o : GraphOp T A) (all : List Directive) (r : Text) where
  -- what directives write, by the code's words
  abbrev left : ℕ → List Directive → Text
  left n ds = directives_text L.owns.written C.own_outlined all o.attributes r n ds

  -- the parts of the tree
  abbrev tail : List Directive → List (Part ⊤ T A)
  tail ds = filter_map (part_of C all o) ds

  rows_are : joined comma (map (entry L) (entries C (filter (λ e. not (has same_text e.0 (written_keys C all))) (inline C o.attributes)))) ≡ rows_text L.owns.written (dictionary_entries C.own_outlined all o.attributes)
  rows_are =
      ap (joined comma) (map_both (entry L) (λ e. (record { place = tt; text = e.0 }, e.1)) (filter (λ e. not (has same_text e.0 (written_keys C all))) (inline C o.attributes))
      ∙ ap (map (entry_text L.owns.written)) (filter_alike (λ e. not (has same_text e.0 (written_keys C all))) (λ e. not (is_key_written e.0 all)) (λ e. ap not (written_key C e.0 all)) (inline C o.attributes)))

  inline_is : (k : Text) (a : Attribute A) (b : Bool) → piece L (tree.attribute k (cond b None (Some a))) ≡ cond b (codes "!outlined") (attribute L a)
  inline_is k a true = refl
  inline_is k a false = refl

  pub parts_text : (ds : List Directive) (n : ℕ) → list_all is_supported ds ≡ true → parts L (tail ds) (replicate n r) ≡ left n ds
  parts_text [] n h = refl
  parts_text (format.word s ∷ ds) n h =
      ap (λ z. cond (begins joins_left s) [] (codes " ") ++ (s ++ z)) (parts_text ds n h) ∙ sym (append_assoc (cond (begins joins_left s) [] (codes " ")) s (left n ds))
  parts_text (format.attribute k ∷ ds) n h = go (lookup k o.attributes) (parts_text ds n h)
    where
      go : (x : Option (Attribute A)) → parts L (tail ds) (replicate n r) ≡ left n ds
          → parts L (cons_option (option_map (λ a. tree.piece (tree.attribute k (cond (outlined C a) None (Some a)))) x) (tail ds)) (replicate n r) ≡ spaced_if (inline_text_in L.owns.written C.own_outlined x) ++ left n ds
      go None e = e
      go (Some a) e = ap (λ z. codes " " ++ (z ++ parts L (tail ds) (replicate n r))) (inline_is k a (outlined C a)) ∙ ap (λ z. codes " " ++ (cond (outlined C a) (codes "!outlined") (attribute L a) ++ z)) e
  parts_text (format.dictionary ∷ ds) n h =
      ap (λ z. codes " [" ++ ((z ++ codes "]") ++ parts L (tail ds) (replicate n r))) rows_are
      ∙ ap (λ z. codes " [" ++ ((rows_text L.owns.written (dictionary_entries C.own_outlined all o.attributes) ++ codes "]") ++ z)) (parts_text ds n h)
  parts_text (format.header ∷ ds) n h = go (lookup sym_name_key o.attributes) (parts_text ds n h)
    where
      go : (x : Option (Attribute A)) → parts L (tail ds) (replicate n r) ≡ left n ds
          → parts L (cons_option (option_and_then (λ a. elim a [ ident n ↦ Some (tree.piece (tree.header (record { place = tt; text = n }))) | _ ↦ None ]) x) (tail ds)) (replicate n r) ≡ symbol_text (symbol_in x) ++ left n ds
      go None e = e
      go (Some (given_names ns)) e = e
      go (Some (ident name)) e = ap (λ z. codes " @" ++ (name ++ z)) e
      go (Some (own a)) e = e
  parts_text (format.region i ∷ ds) zero h = parts_text ds zero h
  parts_text (format.region i ∷ ds) (suc n) h =
      let less : n ≡ suc n - 1 = omega arith in
      ap (λ z. codes " " ++ (r ++ z)) (parts_text ds n h) ∙ ap (λ k. codes " " ++ (r ++ left k ds)) less ∙ ap (λ b. cond b [] (codes " " ++ r) ++ left (suc n - 1) ds) (sym (counted n))
  parts_text (format.regions ∷ ds) n h =
      ap (λ z. codes " " ++ (z ++ parts L (tail ds) [])) (joined_repeated n r) ∙ ap (λ z. codes " " ++ (repeated n r ++ z)) (parts_text ds zero h)
  parts_text (format.operand i ∷ ds) n h = absurd (true≢false (sym h))
  parts_text (format.operands ∷ ds) n h = absurd (true≢false (sym h))
  parts_text (format.successor i ∷ ds) n h = absurd (true≢false (sym h))
  parts_text (format.successors ∷ ds) n h = absurd (true≢false (sym h))
  parts_text (format.result_type i ∷ ds) n h = absurd (true≢false (sym h))

-- a value that is seen of one that is there
pub seen : {X Y : Type 0} (f : X → Y) (o : Option X) (x : X) (y : Y) → o ≡ Some x → option_map f o ≡ Some y → f x ≡ y
seen f o x y e h = ap (λ z. unwrap_or z (f x)) (sym (ap (option_map f) e) ∙ h)
