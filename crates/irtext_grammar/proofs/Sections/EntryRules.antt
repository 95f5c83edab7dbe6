-- What the section gives of each written item is allowed in the entry of its mark: the marks of blocks are those that the rule of a tree
-- takes for blocks, and no operation's mark is among them.
use Rattle.std.proofs.Common.{◌≡◌, ℕ, suc, ◌+◌, ◌<◌, ◌≤◌, Bool, true, false, cond, ◌&&◌, ◌||◌, List, [], ◌∷◌, ◌++◌, length, Option, Some, None, nat_eq, true≢false, refl, sym, ap, ap₂, ◌∙◌, subst, arith}
use Rattle.std.specs.Prelude.{⊤}
use Rattle.std.proofs.lemmas.Bool.Decides.{nat_tests}
use Rattle.irtext_base.specs.Text.{Text}
use Rattle.irtext_grammar.specs.Grammar.Forest.{Regions, no_regions, region, Blocks, no_blocks, block, Operations, no_operations, operation, AllRegions, AllBlocks, AllOperations}
use Rattle.irtext_grammar.specs.Grammar.Tree.{Attribute}
use Rattle.irtext_grammar.specs.Spelling.Spellable.{Each}
use Rattle.irtext_grammar.specs.Graphs.Graph as graph
use Rattle.irtext_grammar.specs.Graphs.Graph.{Graph, GraphOp, GraphBlock, Printing, label_entry, outlined, outlined_entries, op_outlined, block_outlined, is_marked, own_marks, mark_at, own_entry, marks_in_regions, marks_in_blocks, marks_in_operations, tree_regions, tree_blocks, tree_operations, entries_of_regions, entries_of_blocks, entries_of_operations, entries_of, written}
use Rattle.irtext_grammar.specs.Names.Scopes.{is_among}
use Rattle.irtext_grammar.specs.Spelling.SectionEntries.{mark_of}
use Rattle.irtext_grammar.specs.Names.Acts.{Rule, may_hold, block_may_hold, keeps_label_key, is_label, marked_as, block_marks_in_regions, block_marks_in_blocks, block_marks_in_operations, rule_of}
use Rattle.irtext_grammar.specs.Graphs.ReservedKeys.{KeepsRule, OpKeepsKeys, BlockKeepsKeys, GraphKeepsKeys}
use Rattle.irtext_grammar.proofs.Graphs.FitsFormat.{and_left, and_right}
use Rattle.irtext_grammar.proofs.Graphs.KeptWritten.{keeps_filter}
use Rattle.irtext_grammar.proofs.Sections.Content.{own_length, regions_length, blocks_length, operations_length}
use Rattle.irtext_grammar.proofs.Sections.Kept.{Keeps, Ruled}

-- ---- which numbers are among lists
among_both : (i : ℕ) (xs ys : List ℕ) → is_among i xs ≡ false → is_among i ys ≡ false → is_among i (xs ++ ys) ≡ false
among_both i [] ys h k = k
among_both i (x ∷ xs) ys h k = go (nat_eq x i) h (λ q. among_both i xs ys q k)
  where
    go : (b : Bool) → cond b true (is_among i xs) ≡ false → (is_among i xs ≡ false → is_among i (xs ++ ys) ≡ false) → cond b true (is_among i (xs ++ ys)) ≡ false
    go true h f = h
    go false h f = f h

among_first : (i : ℕ) (xs ys : List ℕ) → is_among i ys ≡ false → is_among i (xs ++ ys) ≡ is_among i xs
among_first i [] ys k = k
among_first i (x ∷ xs) ys k = ap (cond (nat_eq x i) true) (among_first i xs ys k)

among_second : (i : ℕ) (xs ys : List ℕ) → is_among i xs ≡ false → is_among i (xs ++ ys) ≡ is_among i ys
among_second i [] ys h = refl
among_second i (x ∷ xs) ys h = go (nat_eq x i) h (among_second i xs ys)
  where
    go : (b : Bool) → cond b true (is_among i xs) ≡ false → (is_among i xs ≡ false → is_among i (xs ++ ys) ≡ is_among i ys) → cond b true (is_among i (xs ++ ys)) ≡ is_among i ys
    go true h f = absurd (true≢false h)
    go false h f = f h

-- the number is none of those from n to below m
abbrev Out : ℕ → ℕ → ℕ → Type 0
Out n m i = n ≤ i → i < m → ⊥

apart : (m i : ℕ) → Out m (m + 1) i → nat_eq m i ≡ false
apart m i o = go (nat_eq m i) refl
  where
    one : nat_eq m i ≡ true → m ≡ i
    one e = grind (arith, nat_tests)

    go : (b : Bool) → nat_eq m i ≡ b → b ≡ false
    go true e = let q = one e in absurd (o (omega arith) (omega arith))
    go false e = refl

alike : (n : ℕ) → nat_eq n n ≡ true
alike n = grind (arith, nat_tests)

-- ---- the marks of blocks
module _ {T A : Type 0} (C : Printing T A) where
  mark_out : (n : ℕ) (l : Option Text) (es : List (Text × Attribute A)) (i : ℕ) → Out n (n + own_marks C l es) i → is_among i (marked_as (mark_at C n l es)) ≡ false
  mark_out n l es i = go (is_marked C l es)
    where
      go : (b : Bool) → Out n (n + cond b 1 0) i → is_among i (marked_as (cond b (Some (mark_of n)) None)) ≡ false
      go true o = ap (λ b. cond b true false) (apart n i o)
      go false o = refl

  mutual
    regions_out : (n : ℕ) (rs : Regions (GraphOp T A) (GraphBlock T A) ⊤) (i : ℕ) → Out n (n + marks_in_regions C None rs) i → is_among i (block_marks_in_regions (tree_regions C None n rs)) ≡ false
    regions_out n no_regions i o = refl
    regions_out n (region r bs rs) i o =
        among_both i (block_marks_in_blocks (tree_blocks C None n bs)) _ (blocks_out n bs i (λ h l. o h (omega arith))) (regions_out (n + marks_in_blocks C None bs) rs i (λ h l. o (omega arith) (omega arith)))

    blocks_out : (n : ℕ) (bs : Blocks (GraphOp T A) (GraphBlock T A) ⊤) (i : ℕ) → Out n (n + marks_in_blocks C None bs) i → is_among i (block_marks_in_blocks (tree_blocks C None n bs)) ≡ false
    blocks_out n no_blocks i o = refl
    blocks_out n (block h os bs) i o =
        let m = n + own_marks C h.location (block_outlined C h) in
        among_both i (marked_as (mark_at C n h.location (block_outlined C h))) _ (mark_out n h.location (block_outlined C h) i (λ g l. o g (omega arith)))
        (among_both i (block_marks_in_operations (tree_operations C None m os)) _ (operations_out m os i (λ g l. o (omega arith) (omega arith))) (blocks_out (m + marks_in_operations C None os) bs i (λ g l. o (omega arith) (omega arith))))

    operations_out : (n : ℕ) (os : Operations (GraphOp T A) (GraphBlock T A) ⊤) (i : ℕ) → Out n (n + marks_in_operations C None os) i → is_among i (block_marks_in_operations (tree_operations C None n os)) ≡ false
    operations_out n no_operations i o = refl
    operations_out n (operation x rs os) i o =
        among_both i (block_marks_in_regions (tree_regions C None n rs)) _ (regions_out n rs i (λ h l. o h (omega arith)))
        (operations_out (n + marks_in_regions C None rs + own_marks C x.location (op_outlined C x)) os i (λ h l. o (omega arith) (omega arith)))

-- ---- what is allowed in entries
label_keeps : {A : Type 0} (k : Text) (a : Attribute A) → block_may_hold k a ≡ true → keeps_label_key k a ≡ true
label_keeps k a h = ap₂ ◌&&◌ (and_left (may_hold k a) _ h) (ap (λ b. b || is_label a) (and_right (may_hold k a) _ h))

each_rule : {A : Type 0} (rule : Rule A) (es : List (Text × Attribute A)) → KeepsRule rule es → Each (Keeps rule) es
each_rule rule [] h = tt
each_rule rule (e ∷ es) h = (and_left (rule e.0 e.1) _ h, each_rule rule es (and_right (rule e.0 e.1) _ h))

each_label : {A : Type 0} (es : List (Text × Attribute A)) → KeepsRule block_may_hold es → Each (Keeps keeps_label_key) es
each_label [] h = tt
each_label (e ∷ es) h = (label_keeps e.0 e.1 (and_left (block_may_hold e.0 e.1) _ h), each_label es (and_right (block_may_hold e.0 e.1) _ h))

module _ {T A : Type 0} (C : Printing T A) where
  op_may : (o : GraphOp T A) → OpKeepsKeys o → Each (Keeps may_hold) (op_outlined C o)
  op_may o k = each_rule may_hold (op_outlined C o) (keeps_filter may_hold (λ e. outlined C e.1) o.attributes k)

  block_may : (h : GraphBlock T A) → BlockKeepsKeys h → Each (Keeps keeps_label_key) (block_outlined C h)
  block_may h k = go (C.label h.place)
    where
      others : Each (Keeps keeps_label_key) (outlined_entries C h.attributes)
      others = each_label (outlined_entries C h.attributes) (keeps_filter block_may_hold (λ e. outlined C e.1) h.attributes k)

      go : (l : Option Text) → Each (Keeps keeps_label_key) (label_entry l ++ outlined_entries C h.attributes)
      go None = others
      go (Some l) = (refl, others)

  module _ (B : List ℕ) where
    abbrev rules : ℕ → Rule A
    rules i = cond (is_among i B) keeps_label_key may_hold

    -- from n to below m, what is among all is among these
    abbrev Local : ℕ → ℕ → List ℕ → Type 0
    Local n m xs = (i : ℕ) → n ≤ i → i < m → is_among i B ≡ is_among i xs

    ruled_both : (n : ℕ) (xs ys : List (graph.Entry C)) → Ruled C rules n xs → Ruled C rules (n + length xs) ys → Ruled C rules n (xs ++ ys)
    ruled_both n [] ys h k = let e : n + 0 ≡ n = omega arith in subst (λ z. Ruled C rules z ys) e k
    ruled_both n (x ∷ xs) ys h k = let e : n + suc (length xs) ≡ suc n + length xs = omega arith in (h.0, ruled_both (suc n) xs ys h.1 (subst (λ z. Ruled C rules z ys) e k))

    ruled_after : (n m : ℕ) (xs ys : List (graph.Entry C)) → length xs ≡ m → Ruled C rules n xs → Ruled C rules (n + m) ys → Ruled C rules n (xs ++ ys)
    ruled_after n m xs ys e h k = ruled_both n xs ys h (subst (λ z. Ruled C rules (n + z) ys) (sym e) k)

    -- an item's own entry, where its mark is a block's, or not
    block_ruled : (n : ℕ) (l : Option Text) (es : List (Text × Attribute A)) → Each (Keeps keeps_label_key) es → Local n (n + own_marks C l es) (marked_as (mark_at C n l es)) → Ruled C rules n (own_entry C l es)
    block_ruled n l es h = go (is_marked C l es)
      where
        go : (b : Bool) → Local n (n + cond b 1 0) (marked_as (cond b (Some (mark_of n)) None)) → Ruled C rules n (cond b (record { location = l; attributes = es } ∷ []) [])
        go true k = (subst (λ b. Each (Keeps (cond b keeps_label_key may_hold)) es) (sym (k n (omega arith) (omega arith) ∙ ap (λ b. cond b true false) (alike n))) h, tt)
        go false k = tt

    op_ruled : (n : ℕ) (l : Option Text) (es : List (Text × Attribute A)) → Each (Keeps may_hold) es → Local n (n + own_marks C l es) [] → Ruled C rules n (own_entry C l es)
    op_ruled n l es h = go (is_marked C l es)
      where
        go : (b : Bool) → Local n (n + cond b 1 0) [] → Ruled C rules n (cond b (record { location = l; attributes = es } ∷ []) [])
        go true k = (subst (λ b. Each (Keeps (cond b keeps_label_key may_hold)) es) (sym (k n (omega arith) (omega arith))) h, tt)
        go false k = tt

    mutual
      regions_ruled : (n : ℕ) (rs : Regions (GraphOp T A) (GraphBlock T A) ⊤) → AllRegions OpKeepsKeys BlockKeepsKeys (λ r. ⊤) rs
          → Local n (n + marks_in_regions C None rs) (block_marks_in_regions (tree_regions C None n rs)) → Ruled C rules n (entries_of_regions C None rs)
      regions_ruled n no_regions h k = tt
      regions_ruled n (region r bs rs) h k =
          let m = n + marks_in_blocks C None bs in
          let xs = block_marks_in_blocks (tree_blocks C None n bs) in
          let ys = block_marks_in_regions (tree_regions C None m rs) in
          ruled_after n (marks_in_blocks C None bs) (entries_of_blocks C None bs) (entries_of_regions C None rs) (blocks_length C None bs)
          (blocks_ruled n bs h.1 (λ i a b. k i a (omega arith) ∙ among_first i xs ys (regions_out C m rs i (λ c d. omega arith))))
          (regions_ruled m rs h.2 (λ i a b. k i (omega arith) (omega arith) ∙ among_second i xs ys (blocks_out C n bs i (λ c d. omega arith))))

      blocks_ruled : (n : ℕ) (bs : Blocks (GraphOp T A) (GraphBlock T A) ⊤) → AllBlocks OpKeepsKeys BlockKeepsKeys (λ r. ⊤) bs
          → Local n (n + marks_in_blocks C None bs) (block_marks_in_blocks (tree_blocks C None n bs)) → Ruled C rules n (entries_of_blocks C None bs)
      blocks_ruled n no_blocks h k = tt
      blocks_ruled n (block b os bs) h k =
          let own = own_marks C b.location (block_outlined C b) in
          let m = n + own in
          let q = m + marks_in_operations C None os in
          let xs = marked_as (mark_at C n b.location (block_outlined C b)) in
          let ys = block_marks_in_operations (tree_operations C None m os) in
          let zs = block_marks_in_blocks (tree_blocks C None q bs) in
          ruled_after n own (own_entry C b.location (block_outlined C b)) (entries_of_operations C None os ++ entries_of_blocks C None bs) (own_length C b.location (block_outlined C b))
          (block_ruled n b.location (block_outlined C b) (block_may b h.0) (λ i c d. k i c (omega arith) ∙ among_first i xs (ys ++ zs) (among_both i ys zs (operations_out C m os i (λ e f. omega arith)) (blocks_out C q bs i (λ e f. omega arith)))))
          (ruled_after m (marks_in_operations C None os) (entries_of_operations C None os) (entries_of_blocks C None bs) (operations_length C None os)
          (operations_ruled m os h.1 (λ i c d. k i (omega arith) (omega arith) ∙ (among_second i xs (ys ++ zs) (mark_out C n b.location (block_outlined C b) i (λ e f. omega arith)) ∙ among_first i ys zs (blocks_out C q bs i (λ e f. omega arith)))))
          (blocks_ruled q bs h.2 (λ i c d. k i (omega arith) (omega arith) ∙ (among_second i xs (ys ++ zs) (mark_out C n b.location (block_outlined C b) i (λ e f. omega arith)) ∙ among_second i ys zs (operations_out C m os i (λ e f. omega arith))))))

      operations_ruled : (n : ℕ) (os : Operations (GraphOp T A) (GraphBlock T A) ⊤) → AllOperations OpKeepsKeys BlockKeepsKeys (λ r. ⊤) os
          → Local n (n + marks_in_operations C None os) (block_marks_in_operations (tree_operations C None n os)) → Ruled C rules n (entries_of_operations C None os)
      operations_ruled n no_operations h k = tt
      operations_ruled n (operation o rs os) h k =
          let own = own_marks C o.location (op_outlined C o) in
          let m = n + marks_in_regions C None rs in
          let q = m + own in
          let xs = block_marks_in_regions (tree_regions C None n rs) in
          let ys = block_marks_in_operations (tree_operations C None q os) in
          ruled_after n (marks_in_regions C None rs) (entries_of_regions C None rs) (own_entry C o.location (op_outlined C o) ++ entries_of_operations C None os) (regions_length C None rs)
          (regions_ruled n rs h.1 (λ i c d. k i c (omega arith) ∙ among_first i xs ys (operations_out C q os i (λ e f. omega arith))))
          (ruled_after m own (own_entry C o.location (op_outlined C o)) (entries_of_operations C None os) (own_length C o.location (op_outlined C o))
          (op_ruled m o.location (op_outlined C o) (op_may o h.0) (λ i c d. k i (omega arith) (omega arith) ∙ among_both i xs ys (regions_out C n rs i (λ e f. omega arith)) (operations_out C q os i (λ e f. omega arith))))
          (operations_ruled q os h.2 (λ i c d. k i (omega arith) (omega arith) ∙ among_second i xs ys (regions_out C n rs i (λ e f. omega arith)))))

  -- each entry of a root keeps to the rule of the tree that is written of it
  pub entries_ruled : (g : Graph T A) → GraphKeepsKeys g → Ruled C (rule_of (written C None g)) 0 (entries_of C None g)
  entries_ruled g h =
      let B = block_marks_in_regions (tree_regions C None 0 g.regions) in
      let m = marks_in_regions C None g.regions in
      let e : 0 + m ≡ m = omega arith in
      ruled_after B 0 m (entries_of_regions C None g.regions) (own_entry C g.own.location (op_outlined C g.own)) (regions_length C None g.regions)
      (regions_ruled B 0 g.regions h.1 (λ i a b. refl))
      (op_ruled B (0 + m) g.own.location (op_outlined C g.own) (op_may g.own h.0) (λ i a b. regions_out C 0 g.regions i (λ c d. omega arith)))
