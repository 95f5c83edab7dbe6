-- What is printed of an operation with all that nests in it, as the definitions of printing have it of what is seen under the operation.
use Rattle.std.proofs.Common.{◌≡◌, ◌∙◌, ◌+◌, ◌++◌, ◌∷◌, ℕ, List, [], Bool, true, false, refl, sym, ap, ap₂, arith, map, Option, Some, None, option_map}
use Rattle.std.proofs.lemmas.List.{map-append}
use Rattle.std.specs.Prelude.{⊤, cond}
use Rattle.irtext_base.specs.Own.{Language}
use Rattle.irtext_base.specs.Text.{Text}
use Rattle.irtext_context.specs.Context.{ContextView, OperationView, BlockView, operation, block}
use Rattle.irtext_context.specs.declared.base.item.Item.{Item}
use Rattle.irtext_context.specs.declared.base.item.Item.TheVariants as item
use Rattle.irtext_graph.specs.declared.arena.Ptr.{Ptr}
use Rattle.irtext_graph.specs.declared.object.BasicBlock.{BasicBlock}
use Rattle.irtext_graph.specs.declared.object.Operation.{Operation}
use Rattle.irtext_graph.specs.declared.object.Region.{Region}
use Rattle.irtext_grammar.specs.Contexts.Nested.{pointers, seen_operation, seen_own, seen_block, seen_regions, seen_blocks, seen_operations}
use Rattle.irtext_grammar.specs.Grammar.Forest as forest
use Rattle.irtext_grammar.specs.Grammar.Forest.{Regions, no_regions, Blocks, no_blocks, Operations, no_operations}
use Rattle.irtext_grammar.specs.Graphs.Graph.{Graph, GraphOp, GraphBlock, Printing, Limit, Entry, is_elided, inside, is_marked, own_entry, op_outlined, block_outlined, mark_at, tree_op, tree_regions, marks_in_regions, entries_of, entries_of_regions, entries_of_blocks, entries_of_operations, written}
use Rattle.irtext_grammar.specs.Spelling.Section.{text}
use Rattle.irtext_grammar.specs.Spelling.Spell.{concrete, mark_if, region_texts, spelled}
use Rattle.irtext_print.specs.Given.{entry_at, operation_entry, block_entry}
use Rattle.irtext_print.specs.Items.{section_of}
use Rattle.irtext_print.proofs.Sections.{section_whole}
use Rattle.irtext_print_ops.specs.Walk.{or_nothing, regions_left, items_in_regions, items_in_blocks, items_in_operations, marked_operation, marked_block}

module _ {T A : Type 0} (C : Printing T A) (L : Language ⊤ T A) (ctx : ContextView T A) where
  -- what the section gives of an item
  abbrev given : Item → Option (Entry C)
  given i = entry_at C L.owns.written ctx i

  -- an entry that is there
  abbrev there : Entry C → Option (Entry C)
  there e = Some e

  one : (m : Bool) (i : Item) (e : Entry C) → given i ≡ Some e → map given (cond m (i ∷ []) []) ≡ map there (cond m (e ∷ []) [])
  one true i e h = ap (λ z. z ∷ []) h
  one false i e h = refl

  -- a marked operation gives the entry of its own
  own_given : (p : Ptr Operation) (op : OperationView T A) → operation ctx p ≡ Some op →
      map given (marked_operation C L ctx p (seen_operation L.owns.written ctx p op)) ≡ map there (own_entry C (seen_operation L.owns.written ctx p op).location (op_outlined C (seen_operation L.owns.written ctx p op)))
  own_given p op is =
      let o = seen_operation L.owns.written ctx p op in
      one (is_marked C o.location (op_outlined C o)) (item.Operation p) (operation_entry C o) (ap (λ z. option_map (operation_entry C) (option_map (seen_operation L.owns.written ctx p) z)) is)

  -- the same of a block
  head_given : (b : Ptr BasicBlock) (view : BlockView T A) → block ctx b ≡ Some view →
      map given (marked_block C L ctx b (seen_block L.owns.written ctx b view)) ≡ map there (own_entry C (seen_block L.owns.written ctx b view).location (block_outlined C (seen_block L.owns.written ctx b view)))
  head_given b view is =
      let h = seen_block L.owns.written ctx b view in
      one (is_marked C h.location (block_outlined C h)) (item.Block b) (block_entry C h) (ap (λ z. option_map (block_entry C) (option_map (seen_block L.owns.written ctx b) z)) is)

  -- rows of items give rows of entries
  two : (xs ys : List Item) (es fs : List (Entry C)) → map given xs ≡ map there es → map given ys ≡ map there fs → map given (xs ++ ys) ≡ map there (es ++ fs)
  two xs ys es fs h k = map-append given xs ys ∙ ap₂ ◌++◌ h k ∙ sym (map-append there es fs)

  elided : (c : Bool) (xs : List Item) (es : List (Entry C)) → map given xs ≡ map there es → map given (cond c [] xs) ≡ map there (cond c [] es)
  elided true xs es h = refl
  elided false xs es h = h

  -- one block before others
  block_given : (l : Limit) (b : Ptr BasicBlock) (os : Operations (Ptr Operation) (Ptr BasicBlock) (Ptr Region)) (bs : Blocks (Ptr Operation) (Ptr BasicBlock) (Ptr Region)) (o : Option (BlockView T A)) → block ctx b ≡ o →
      map given (items_in_operations C L ctx l os) ≡ map there (entries_of_operations C l (seen_operations L.owns.written ctx os)) →
      map given (items_in_blocks C L ctx l bs) ≡ map there (entries_of_blocks C l (seen_blocks L.owns.written ctx bs)) →
      map given (elim o [ Some view ↦ marked_block C L ctx b (seen_block L.owns.written ctx b view) ++ (items_in_operations C L ctx l os ++ items_in_blocks C L ctx l bs) | None ↦ items_in_blocks C L ctx l bs ])
      ≡ map there (entries_of_blocks C l (elim o [ Some view ↦ forest.block (seen_block L.owns.written ctx b view) (seen_operations L.owns.written ctx os) (seen_blocks L.owns.written ctx bs) | None ↦ seen_blocks L.owns.written ctx bs ]))
  block_given l b os bs None is h k = k
  block_given l b os bs (Some view) is h k =
      let s = seen_block L.owns.written ctx b view in
      two (marked_block C L ctx b s) (items_in_operations C L ctx l os ++ items_in_blocks C L ctx l bs)
      (own_entry C s.location (block_outlined C s)) (entries_of_operations C l (seen_operations L.owns.written ctx os) ++ entries_of_blocks C l (seen_blocks L.owns.written ctx bs))
      (head_given b view is)
      (two (items_in_operations C L ctx l os) (items_in_blocks C L ctx l bs) (entries_of_operations C l (seen_operations L.owns.written ctx os)) (entries_of_blocks C l (seen_blocks L.owns.written ctx bs)) h k)

  -- one operation before others
  operation_given : (l : Limit) (p : Ptr Operation) (rs : Regions (Ptr Operation) (Ptr BasicBlock) (Ptr Region)) (os : Operations (Ptr Operation) (Ptr BasicBlock) (Ptr Region)) (o : Option (OperationView T A)) → operation ctx p ≡ o →
      map given (items_in_regions C L ctx l rs) ≡ map there (entries_of_regions C l (seen_regions L.owns.written ctx rs)) →
      map given (items_in_operations C L ctx l os) ≡ map there (entries_of_operations C l (seen_operations L.owns.written ctx os)) →
      map given (elim o [ Some op ↦ items_in_regions C L ctx l rs ++ (marked_operation C L ctx p (seen_operation L.owns.written ctx p op) ++ items_in_operations C L ctx l os) | None ↦ items_in_operations C L ctx l os ])
      ≡ map there (entries_of_operations C l (elim o [ Some op ↦ forest.operation (seen_operation L.owns.written ctx p op) (seen_regions L.owns.written ctx rs) (seen_operations L.owns.written ctx os) | None ↦ seen_operations L.owns.written ctx os ]))
  operation_given l p rs os None is h k = k
  operation_given l p rs os (Some op) is h k =
      let s = seen_operation L.owns.written ctx p op in
      two (items_in_regions C L ctx l rs) (marked_operation C L ctx p s ++ items_in_operations C L ctx l os)
      (entries_of_regions C l (seen_regions L.owns.written ctx rs)) (own_entry C s.location (op_outlined C s) ++ entries_of_operations C l (seen_operations L.owns.written ctx os))
      h
      (two (marked_operation C L ctx p s) (items_in_operations C L ctx l os) (own_entry C s.location (op_outlined C s)) (entries_of_operations C l (seen_operations L.owns.written ctx os)) (own_given p op is) k)

  mutual
    pub regions_given : (l : Limit) (rs : Regions (Ptr Operation) (Ptr BasicBlock) (Ptr Region)) → map given (items_in_regions C L ctx l rs) ≡ map there (entries_of_regions C l (seen_regions L.owns.written ctx rs))
    regions_given l no_regions = refl
    regions_given l (forest.region r bs rs) =
        two (cond (is_elided C l) [] (items_in_blocks C L ctx (inside C l) bs)) (items_in_regions C L ctx l rs)
        (cond (is_elided C l) [] (entries_of_blocks C (inside C l) (seen_blocks L.owns.written ctx bs))) (entries_of_regions C l (seen_regions L.owns.written ctx rs))
        (elided (is_elided C l) (items_in_blocks C L ctx (inside C l) bs) (entries_of_blocks C (inside C l) (seen_blocks L.owns.written ctx bs)) (blocks_given (inside C l) bs))
        (regions_given l rs)

    blocks_given : (l : Limit) (bs : Blocks (Ptr Operation) (Ptr BasicBlock) (Ptr Region)) → map given (items_in_blocks C L ctx l bs) ≡ map there (entries_of_blocks C l (seen_blocks L.owns.written ctx bs))
    blocks_given l no_blocks = refl
    blocks_given l (forest.block b os bs) = block_given l b os bs (block ctx b) refl (operations_given l os) (blocks_given l bs)

    operations_given : (l : Limit) (os : Operations (Ptr Operation) (Ptr BasicBlock) (Ptr Region)) → map given (items_in_operations C L ctx l os) ≡ map there (entries_of_operations C l (seen_operations L.owns.written ctx os))
    operations_given l no_operations = refl
    operations_given l (forest.operation p rs os) = operation_given l p rs os (operation ctx p) refl (regions_given l rs) (operations_given l os)

  module _ (p : Ptr Operation) (op : OperationView T A) (is : operation ctx p ≡ Some op) (regions_are : regions_left C L ctx p 0 ≡ (pointers ctx.graph p).regions) (l : Limit) where
    -- the root as printing sees it
    abbrev root : Graph T A
    root = record { own = seen_operation L.owns.written ctx p op; regions = seen_regions L.owns.written ctx (pointers ctx.graph p).regions }

    -- the operation as the walk sees it
    abbrev seen : GraphOp T A
    seen = or_nothing (seen_own L.owns.written ctx p)

    seen_is : seen ≡ root.own
    seen_is = ap (λ z. or_nothing (option_map (seen_operation L.owns.written ctx p) z)) is

    zero_more : (n : ℕ) → 0 + n ≡ n
    zero_more n = omega arith

    -- the text with the mark
    pub spelled_is : (width i : ℕ) →
        (let rs = seen_regions L.owns.written ctx (regions_left C L ctx p 0) in
        let m = 0 + marks_in_regions C l rs in
        concrete L (tree_op C m seen) (region_texts L width i (tree_regions C l 0 rs)) ++ mark_if L (mark_at C m seen.location (op_outlined C seen)))
        ≡ spelled L width i (written C l root)
    spelled_is width i =
        let all : GraphOp T A → Regions (GraphOp T A) (GraphBlock T A) ⊤ → ℕ → Text = λ o rs m. concrete L (tree_op C m o) (region_texts L width i (tree_regions C l 0 rs)) ++ mark_if L (mark_at C m o.location (op_outlined C o)) in
        let see = λ (z : Regions (Ptr Operation) (Ptr BasicBlock) (Ptr Region)). seen_regions L.owns.written ctx z in
        ap (λ o. all o (see (regions_left C L ctx p 0)) (0 + marks_in_regions C l (see (regions_left C L ctx p 0)))) seen_is
        ∙ ap (λ z. all root.own (see z) (0 + marks_in_regions C l (see z))) regions_are
        ∙ ap (λ m. all root.own root.regions m) (zero_more (marks_in_regions C l root.regions))

    -- its items give its entries
    pub entries_are : map given (items_in_regions C L ctx l (regions_left C L ctx p 0) ++ marked_operation C L ctx p seen) ≡ map there (entries_of C l root)
    entries_are =
        two (items_in_regions C L ctx l (regions_left C L ctx p 0)) (marked_operation C L ctx p seen) (entries_of_regions C l root.regions) (own_entry C root.own.location (op_outlined C root.own))
        (ap (λ z. map given (items_in_regions C L ctx l z)) regions_are ∙ regions_given l (pointers ctx.graph p).regions)
        (ap (λ o. map given (marked_operation C L ctx p o)) seen_is ∙ own_given p op is)

    -- the whole text
    pub text_is : (width i : ℕ) →
        (let rs = seen_regions L.owns.written ctx (regions_left C L ctx p 0) in
        let m = 0 + marks_in_regions C l rs in
        (concrete L (tree_op C m seen) (region_texts L width i (tree_regions C l 0 rs)) ++ mark_if L (mark_at C m seen.location (op_outlined C seen)))
        ++ section_of C L (map given (items_in_regions C L ctx l (regions_left C L ctx p 0) ++ marked_operation C L ctx p seen)))
        ≡ text L C root i width l
    text_is width i = ap₂ ◌++◌ (spelled_is width i) (ap (section_of C L) entries_are ∙ section_whole C L (entries_of C l root))
