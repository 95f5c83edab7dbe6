-- The parts of an operation: those before a region are written in one turn, and if the operation fits its format they write all its
-- regions.
use Rattle.std.proofs.Common.{◌≡◌, ◌+◌, ℕ, suc, List, [], ◌∷◌, ◌++◌, length, Option, Some, None, Bool, true, false, cond, arith, refl, ap, sym, ◌∙◌, append_assoc, true≢false, filter_map}
use Rattle.std.specs.Prelude.{⊤, slice_get, option_map, option_and_then, ◌==◌, nat_lt, not}
use Rattle.std.proofs.Common.{ap₂}
use Rattle.std.proofs.lemmas.Bool.Decides.{nat_tests}
use Rattle.std.specs.List.{cons_option}
use Rattle.std.proofs.lemmas.Bool.{eqb-true}
use Rattle.irtext_base.specs.Format as format
use Rattle.irtext_base.specs.Format.{Directive, region_places, count, is_regions, is_any_region, sym_name_key}
use Rattle.std.specs.Str.{encode_utf8_all}
use Rattle.irtext_print.proofs.Printers.Locations.{more}
use Rattle.irtext_base.specs.Own.{Language}
use Rattle.irtext_base.specs.Text.{Text}
use Rattle.irtext_grammar.specs.Grammar.Forest.{Regions, no_regions, region}
use Rattle.irtext_grammar.specs.Grammar.Tree as tree
use Rattle.irtext_grammar.specs.Grammar.Tree.{Attribute, given_names, ident, own, Part}
use Rattle.irtext_grammar.specs.Graphs.Closed.{count_fits}
use Rattle.irtext_grammar.specs.Graphs.Graph.{GraphOp, GraphBlock, Printing, Limit, part_of, lookup}
use Rattle.irtext_print_ops.specs.Opened.{Open, an_operation, covers, Turns, rest, open_rest, marks}
use Rattle.irtext_print_ops.proofs.Opens.{alone}
use Rattle.irtext_print_ops.proofs.Turns.{goes_on, piece_turns}
use Rattle.irtext_print_ops.specs.Walk.{part_text, pieces_text, after_pieces}

module _ {T A : Type 0} (C : Printing T A) (L : Language ⊤ T A) (width : ℕ) where
  -- one turn after another
  pub and_then : (f g : Open T A) (n : ℕ) (t u : Text) (k : ℕ) (hs : List (Open T A)) → Turns C L width f n t 0 (g ∷ []) → Turns C L width g n u k hs → Turns C L width f n (t ++ u) k hs
  and_then f g n t u k hs a b = record {
    written = a.written ∙ (ap (λ z. t ++ z) (alone C L width g (n + 0) ∙ (ap (rest C L width g) (nothing n) ∙ b.written)) ∙ sym (append_assoc t u (open_rest C L width hs (n + k))));
    counted = a.counted ∙ (one (marks C g) ∙ b.counted);
  }
    where
      nothing : (n : ℕ) → n + 0 ≡ n
      nothing n = omega arith

      one : (a : ℕ) → 0 + (0 + a) ≡ a
      one a = omega arith

  -- the pieces before a region
  pub pieces_turn : (i : ℕ) (l : Limit) (mine : Option (GraphOp T A)) (ps : List (Part ⊤ T A)) (rs : Regions (GraphOp T A) (GraphBlock T A) ⊤) (n : ℕ) →
      Turns C L width (an_operation i l mine false ps rs) n (pieces_text L ps) 0 (an_operation i l mine false (after_pieces ps) rs ∷ [])
  pieces_turn i l mine [] rs n = goes_on C L width (an_operation i l mine false [] rs) n [] (an_operation i l mine false [] rs) refl refl
  pieces_turn i l mine (tree.piece p ∷ ps) rs n =
      and_then (an_operation i l mine false (tree.piece p ∷ ps) rs) (an_operation i l mine false ps rs) n _ (pieces_text L ps) 0 (an_operation i l mine false (after_pieces ps) rs ∷ [])
      (piece_turns C L width i l mine p ps rs n) (pieces_turn i l mine ps rs n)
  pieces_turn i l mine (tree.region j ∷ ps) rs n = goes_on C L width (an_operation i l mine false (tree.region j ∷ ps) rs) n [] (an_operation i l mine false (tree.region j ∷ ps) rs) refl refl
  pieces_turn i l mine (tree.regions ∷ ps) rs n = goes_on C L width (an_operation i l mine false (tree.regions ∷ ps) rs) n [] (an_operation i l mine false (tree.regions ∷ ps) rs) refl refl

module _ {T A : Type 0} where
  -- pieces write no region
  pub covers_after : (ps : List (Part ⊤ T A)) (rs : Regions (GraphOp T A) (GraphBlock T A) ⊤) → covers ps rs ≡ covers (after_pieces ps) rs
  covers_after [] rs = refl
  covers_after (tree.piece p ∷ ps) rs = covers_after ps rs
  covers_after (tree.region j ∷ ps) rs = refl
  covers_after (tree.regions ∷ ps) rs = refl

  -- where no region is left, all are written
  pub covers_none : (ps : List (Part ⊤ T A)) → covers {T = T} {A = A} ps no_regions ≡ true
  covers_none [] = refl
  covers_none (tree.piece p ∷ ps) = covers_none ps
  covers_none (tree.region j ∷ ps) = refl
  covers_none (tree.regions ∷ ps) = refl

  -- how many regions there are
  abbrev pub region_count : Regions (GraphOp T A) (GraphBlock T A) ⊤ → ℕ
  region_count no_regions = 0
  region_count (region r bs rs) = suc (region_count rs)

module _ {T A : Type 0} (C : Printing T A) (isolated : format.Id → Bool) (all : List Directive) (o : GraphOp T A) where
  -- no region
  abbrev IsPiece : Option (Part ⊤ T A) → Type 0
  IsPiece None = ⊤
  IsPiece (Some (tree.piece p)) = ⊤
  IsPiece (Some _) = ⊥

  mapped : {X : Type 0} (f : X → Part ⊤ T A) → ((x : X) → IsPiece (Some (f x))) → (o : Option X) → IsPiece (option_map f o)
  mapped f h None = tt
  mapped f h (Some x) = h x

  named_symbol : (a : Option (Attribute A)) → IsPiece (option_and_then (λ a. elim a [ ident n ↦ Some (tree.piece (tree.header (record { place = tt; text = n }))) | _ ↦ None ]) a)
  named_symbol None = tt
  named_symbol (Some (given_names ns)) = tt
  named_symbol (Some (ident n)) = tt
  named_symbol (Some (own x)) = tt

  skipped : (p : Option (Part ⊤ T A)) → IsPiece p → (ps : List (Part ⊤ T A)) (rs : Regions (GraphOp T A) (GraphBlock T A) ⊤) → covers ps rs ≡ true → covers (cons_option p ps) rs ≡ true
  skipped None h ps rs e = e
  skipped (Some (tree.piece p)) h ps rs e = e
  skipped (Some (tree.region i)) h ps rs e = absurd h
  skipped (Some tree.regions) h ps rs e = absurd h

  same_sums : (m n : ℕ) → (suc m == suc n) ≡ (m == n)
  same_sums m n = grind (arith, nat_tests)

  same_less : (m n : ℕ) → nat_lt (suc m) (suc n) ≡ nat_lt m n
  same_less m n = grind (arith, nat_tests)

  one_less : (m c n : ℕ) → count_fits C isolated (suc m) c (suc n) ≡ count_fits C isolated m c n
  one_less m c n = ap₂ (λ x y. cond (c == 0) x (not y)) (same_sums n m) (same_less n m)

  -- the parts of an operation with as many regions as its directives write
  pub covered : (ds : List Directive) (rs : Regions (GraphOp T A) (GraphBlock T A) ⊤) →
      count_fits C isolated (length (region_places ds)) (count is_regions ds) (region_count rs) ≡ true → covers (filter_map (part_of C all o) ds) rs ≡ true
  covered [] no_regions e = refl
  covered [] (region r bs rs) e = absurd (let k = eqb-true (suc (region_count rs)) 0 e in omega (arith, k))
  covered (format.word s ∷ ds) rs e = covered ds rs e
  covered (format.operand i ∷ ds) rs e = skipped (part_of C all o (format.operand i)) (mapped _ (λ x. tt) (slice_get o.operands i)) (filter_map (part_of C all o) ds) rs (covered ds rs e)
  covered (format.operands ∷ ds) rs e = covered ds rs e
  covered (format.successor i ∷ ds) rs e = skipped (part_of C all o (format.successor i)) (mapped _ (λ x. tt) (slice_get o.successors i)) (filter_map (part_of C all o) ds) rs (covered ds rs e)
  covered (format.successors ∷ ds) rs e = covered ds rs e
  covered (format.attribute k ∷ ds) rs e = skipped (part_of C all o (format.attribute k)) (mapped _ (λ x. tt) (lookup k o.attributes)) (filter_map (part_of C all o) ds) rs (covered ds rs e)
  covered (format.dictionary ∷ ds) rs e = covered ds rs e
  covered (format.result_type i ∷ ds) rs e = skipped (part_of C all o (format.result_type i)) (mapped _ (λ x. tt) (slice_get o.results i)) (filter_map (part_of C all o) ds) rs (covered ds rs e)
  covered (format.region i ∷ ds) no_regions e = refl
  covered (format.region i ∷ ds) (region r bs rs) e = covered ds rs (sym (one_less (length (region_places ds)) (count is_regions ds) (region_count rs)) ∙ e)
  covered (format.regions ∷ ds) rs e = refl
  covered (format.header ∷ ds) rs e = skipped (part_of C all o format.header) (named_symbol (lookup sym_name_key o.attributes)) (filter_map (part_of C all o) ds) rs (covered ds rs e)

  -- a directive that is no region writes no region
  pub is_piece : (d : Directive) → is_any_region d ≡ false → IsPiece (part_of C all o d)
  is_piece (format.word s) e = tt
  is_piece (format.operand i) e = mapped _ (λ x. tt) (slice_get o.operands i)
  is_piece format.operands e = tt
  is_piece (format.successor i) e = mapped _ (λ x. tt) (slice_get o.successors i)
  is_piece format.successors e = tt
  is_piece (format.attribute k) e = mapped _ (λ x. tt) (lookup k o.attributes)
  is_piece format.dictionary e = tt
  is_piece (format.result_type i) e = mapped _ (λ x. tt) (slice_get o.results i)
  is_piece (format.region i) e = absurd (true≢false e)
  is_piece format.regions e = absurd (true≢false e)
  is_piece format.header e = named_symbol (lookup sym_name_key o.attributes)

  pieces_more : (L : Language ⊤ T A) (p : Option (Part ⊤ T A)) → IsPiece p → (ps : List (Part ⊤ T A)) → pieces_text L (cons_option p ps) ≡ part_text L p ++ pieces_text L ps
  pieces_more L None h ps = refl
  pieces_more L (Some (tree.piece p)) h ps = refl
  pieces_more L (Some (tree.region i)) h ps = absurd h
  pieces_more L (Some tree.regions) h ps = absurd h

  after_further : (p : Option (Part ⊤ T A)) → IsPiece p → (ps : List (Part ⊤ T A)) → after_pieces (cons_option p ps) ≡ after_pieces ps
  after_further None h ps = refl
  after_further (Some (tree.piece p)) h ps = refl
  after_further (Some (tree.region i)) h ps = absurd h
  after_further (Some tree.regions) h ps = absurd h

  -- one piece more is written
  pub next_piece : (L : Language ⊤ T A) (d : Directive) (ps qs : List (Part ⊤ T A)) (now new whole : List ℕ) → is_any_region d ≡ false → ps ≡ cons_option (part_of C all o d) qs →
      new ≡ now ++ encode_utf8_all (part_text L (part_of C all o d)) → now ++ encode_utf8_all (pieces_text L ps) ≡ whole → new ++ encode_utf8_all (pieces_text L qs) ≡ whole
  next_piece L d ps qs now new whole e p w h =
      more now new (new ++ encode_utf8_all (pieces_text L qs)) (part_text L (part_of C all o d)) (pieces_text L qs) w refl
      ∙ (ap (λ z. now ++ encode_utf8_all z) (sym (pieces_more L (part_of C all o d) (is_piece d e) qs) ∙ ap (pieces_text L) (sym p)) ∙ h)

  -- and the same is left after the pieces
  pub next_after : (d : Directive) (ps qs all_left : List (Part ⊤ T A)) → is_any_region d ≡ false → ps ≡ cons_option (part_of C all o d) qs → after_pieces ps ≡ all_left → after_pieces qs ≡ all_left
  next_after d ps qs all_left e p h = sym (after_further (part_of C all o d) (is_piece d e) qs) ∙ (ap after_pieces (sym p) ∙ h)
