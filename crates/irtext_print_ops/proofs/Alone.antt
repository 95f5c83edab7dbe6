-- A region and a block that are printed alone: what was written before the open frames, with the text that is left, is their text.
use Rattle.std.proofs.Common.{◌≡◌, ◌+◌, ◌∙◌, ◌⊎◌, inl, inr, ℕ, zero, suc, List, [], ◌∷◌, ◌++◌, length, map, true, true≢false, Option, Some, None, option_map, refl, sym, ap, subst, append_assoc, length-append}
use Rattle.std.specs.Prelude.{⊤, cond, codes, ◌≤◌, ◌^◌, IsSome}
use Rattle.std.specs.Str.{encode_utf8_all}
use Rattle.irtext_base.specs.Own.{Language}
use Rattle.irtext_base.specs.Text.{Text}
use Rattle.irtext_context.specs.Context.{ContextView, block, block_of}
use Rattle.irtext_context.specs.declared.base.block.BlockData.{BlockData}
use Rattle.irtext_context.specs.declared.base.operation.OperationData.{OperationData}
use Rattle.irtext_graph.specs.Content.{Content, Content.{ABlock}, Node, BlockContent}
use Rattle.irtext_graph.specs.Graph.{content_of}
use Rattle.irtext_graph.specs.Store.{get}
use Rattle.irtext_graph.specs.declared.arena.Entry.{Entry}
use Rattle.irtext_graph.specs.declared.object.Operation.{Operation}
use Rattle.irtext_context.specs.declared.base.item.Item.{Item}
use Rattle.irtext_context.specs.declared.base.item.Item.TheVariants as item
use Rattle.irtext_graph.specs.declared.arena.Ptr.{Ptr}
use Rattle.irtext_graph.specs.declared.object.BasicBlock.{BasicBlock}
use Rattle.irtext_graph.specs.declared.object.Object.TheVariants.{TheRegion}
use Rattle.irtext_graph.specs.declared.object.Region.{Region}
use Rattle.irtext_graph.specs.Graph.{IsLive}
use Rattle.irtext_grammar.specs.Contexts.Nested.{seen_blocks, seen_operations, seen_head}
use Rattle.irtext_grammar.specs.Grammar.Forest.{Blocks, Operations, no_regions, region}
use Rattle.irtext_grammar.specs.Grammar.Tree.{shown}
use Rattle.irtext_grammar.specs.Graphs.Graph.{GraphOp, GraphBlock, Printing, is_elided, inside, is_marked, block_outlined, own_marks, mark_at, tree_head, tree_blocks, tree_operations}
use Rattle.irtext_grammar.specs.Spelling.Spell.{newline, joined, comma, label, argument, dictionary_if, mark_if, region_text, block_texts, block_text, operation_texts}
use Rattle.irtext_print.proofs.Printers.Locations.{more}
use Rattle.irtext_print.specs.Printers.PrintedOperation.{levels}
use Rattle.irtext_print.specs.Refusals.{IsOther}
use Rattle.irtext_print.specs.declared.printable.refusal.Refusal.{Refusal}
use Rattle.irtext_print.specs.declared.printable.refusal.Refusal.TheVariants.{Depth, Misfit}
use Rattle.irtext_print.specs.declared.printable.state.RegionPrintDepthLimit.{RegionPrintDepthLimit}
use Rattle.irtext_print.specs.declared.printable.state.RegionPrintDepthLimit.TheVariants.{Unlimited, Max}
use Rattle.irtext_print_ops.proofs.Opens.{alone}
use Rattle.irtext_print_ops.specs.Opened.{Open, a_region, open_rest, opening, between_operations, block_head}
use Rattle.irtext_print_ops.proofs.Turned.{one_marked}
use Rattle.irtext_print_ops.specs.Faults.{RegionsFault, OperationsFault, AnyFault, IndentFault}
use Rattle.irtext_print_ops.specs.Heads.{or_no_block}
use Rattle.irtext_print_ops.specs.Steps.{IsTooDeep, region_front, region_frames}
use Rattle.irtext_print_ops.specs.Walk.{open_of, AllFit, blocks_left, operations_left, items_left, items_in_blocks, items_in_operations, marked_block}
use Rattle.irtext_print_ops.specs.declared.frame.Frame.{Frame}
use Rattle.irtext_print_ops.specs.declared.frame.Frame.TheVariants as frame
use Rattle.irtext_grammar.specs.Contexts.Formats.{isolated}

-- two concatenated texts, with one more before them
regroup_region : (a b c bs e f : Text) → (a ++ (b ++ c)) ++ (bs ++ (e ++ f)) ≡ a ++ (b ++ (c ++ (bs ++ (e ++ f))))
regroup_region a b c bs e f = simp append_assoc

regroup_block : (a b c d e m f n ops : Text) → (a ++ (b ++ (c ++ (d ++ e)))) ++ (m ++ ((f ++ n) ++ ops)) ≡ a ++ (b ++ (c ++ (d ++ (e ++ (m ++ (f ++ (n ++ ops)))))))
regroup_block a b c d e m f n ops = simp append_assoc

-- what comes between the head of a block and its operations, which have this indentation
abbrev pub colon : ℕ → Text
colon inner = codes ":" ++ newline inner

module _ {T A : Type 0} (C : Printing T A) (L : Language ⊤ T A) (ctx : ContextView T A) (width i : ℕ) where
  -- ---- a region
  module _ (r : Ptr Region) where
    abbrev bs : Blocks (GraphOp T A) (GraphBlock T A) ⊤
    bs = seen_blocks L.owns.written ctx (blocks_left C L ctx r 0)

    -- the text of a region that is shown
    abbrev shown_text : RegionPrintDepthLimit → ℕ → Text
    shown_text limit n = region_text L width i (shown tt) (block_texts L width (i + width) (tree_blocks C (inside C (levels limit)) n bs))

    -- the open frame of a region that is shown
    abbrev opens : RegionPrintDepthLimit → Open T A
    opens inner = a_region i (levels inner) true bs

    shown_left : (inner : RegionPrintDepthLimit) (n : ℕ) → opening width i ++ open_rest C L width (opens inner ∷ []) n ≡ region_text L width i (shown tt) (block_texts L width (i + width) (tree_blocks C (levels inner) n bs))
    shown_left inner n =
        ap (λ z. opening width i ++ z) (alone C L width (opens inner) n)
        ∙ regroup_region (newline i) (codes "{") (newline (i + width)) (joined (10 ∷ newline (i + width)) (block_texts L width (i + width) (tree_blocks C (levels inner) n bs))) (newline i) (codes "}")

    -- the text of a region: what precedes its blocks, and the text that is left then
    pub region_left : (limit : RegionPrintDepthLimit) (n : ℕ) → region_front width i limit ++ open_rest C L width (map (open_of C L ctx) (region_frames r i limit)) n ≡ cond (is_elided C (levels limit)) (codes "{..}") (shown_text limit n)
    region_left Unlimited n = shown_left Unlimited n
    region_left (Max zero) n = refl
    region_left (Max (suc m)) n = shown_left (Max m) n

    -- what is open of it after its beginning
    abbrev pub opened : RegionPrintDepthLimit → List (Open T A)
    opened limit = map (open_of C L ctx) (region_frames r i limit)

    -- the items of a region
    pub region_items : (limit : RegionPrintDepthLimit) → items_left C L ctx (region_frames r i limit) ≡ cond (is_elided C (levels limit)) [] (items_in_blocks C L ctx (inside C (levels limit)) (blocks_left C L ctx r 0))
    region_items Unlimited = refl
    region_items (Max zero) = refl
    region_items (Max (suc m)) = refl

    pub region_fits : (limit : RegionPrintDepthLimit) → IsLive ctx.graph (TheRegion r) → AllFit C L ctx (region_frames r i limit)
    region_fits Unlimited alive = (alive, tt)
    region_fits (Max zero) alive = tt
    region_fits (Max (suc m)) alive = (alive, tt)

    -- a reason why it fails
    abbrev pub Fault : RegionPrintDepthLimit → Refusal → Type 0
    Fault limit e = RegionsFault C (isolated ctx.dialects) width e i (levels limit) (region tt bs no_regions)

    -- the open frame has this reason
    abbrev pub OpenFaults : RegionPrintDepthLimit → Refusal → Type 0
    OpenFaults limit e = AnyFault C (isolated ctx.dialects) width e (map (open_of C L ctx) (region_frames r i limit))

    pub region_fault : (limit : RegionPrintDepthLimit) (e : Refusal) → OpenFaults limit e → Fault limit e
    region_fault Unlimited e (inl x) = inl (refl, inr x)
    region_fault Unlimited e (inr x) = absurd x
    region_fault (Max zero) e x = absurd x
    region_fault (Max (suc m)) e (inl x) = inl (refl, inr x)
    region_fault (Max (suc m)) e (inr x) = absurd x

    pub region_misfits : (limit : RegionPrintDepthLimit) → Fault limit Misfit → OpenFaults limit Misfit
    region_misfits Unlimited (inl x) = elim x.1 [ inl y ↦ absurd y | inr y ↦ inl y ]
    region_misfits Unlimited (inr x) = absurd x
    region_misfits (Max zero) (inl x) = absurd (true≢false x.0)
    region_misfits (Max zero) (inr x) = absurd x
    region_misfits (Max (suc m)) (inl x) = elim x.1 [ inl y ↦ absurd y | inr y ↦ inl y ]
    region_misfits (Max (suc m)) (inr x) = absurd x

    -- it is too deep
    deep_region : (limit : RegionPrintDepthLimit) → IsTooDeep width i limit → Fault limit Depth
    deep_region Unlimited h = inl (refl, inl h.1)
    deep_region (Max zero) h = absurd (true≢false (sym h.0))
    deep_region (Max (suc m)) h = inl (refl, inl h.1)

    pub region_refused : (limit : RegionPrintDepthLimit) (e : Refusal) → (IsOther e → (e ≡ Depth) × IsTooDeep width i limit) → IsOther e → Fault limit e
    region_refused limit e h other = let is = h other in subst (Fault limit) (sym is.0) (deep_region limit is.1)

  -- ---- a block
  module _ (b : Ptr BasicBlock) (limit : RegionPrintDepthLimit) where
    abbrev h : GraphBlock T A
    h = or_no_block (seen_head L.owns.written ctx b)

    abbrev os : Operations (GraphOp T A) (GraphBlock T A) ⊤
    os = seen_operations L.owns.written ctx (operations_left C L ctx b 0)

    -- the frame of a block whose head was written
    abbrev pub first_block : Frame
    first_block = frame.Block (record { block = b; operation = 0; first = true; indent = i; limit = limit })

    -- the text of a block
    abbrev pub whole_block : ℕ → Text
    whole_block n = block_text L width i (tree_head C n h) (operation_texts L width (i + width) (tree_operations C (levels limit) (n + own_marks C h.location (block_outlined C h)) os))

    -- what precedes its operations, and the text that is left then
    pub block_written : (items items' : List Item) (inner : ℕ) (old f1 f2 new : List ℕ) → inner ≡ i + width →
        f1 ≡ old ++ encode_utf8_all (block_head L (tree_head C 0 h)) →
        f2 ≡ f1 ++ encode_utf8_all (mark_if L (mark_at C (length items) h.location (block_outlined C h))) →
        new ≡ f2 ++ encode_utf8_all (colon inner) →
        items' ≡ items ++ marked_block C L ctx b h →
        new ++ encode_utf8_all (open_rest C L width (map (open_of C L ctx) (first_block ∷ [])) (length items')) ≡ old ++ encode_utf8_all (whole_block (length items))
    block_written items items' inner old f1 f2 new n w1 w2 w3 k =
        let head = tree_head C (length items) h in
        let mark = mark_if L head.mark in
        let count : length items' ≡ length items + own_marks C h.location (block_outlined C h) = ap length k ∙ length-append items (marked_block C L ctx b h) ∙ ap (λ m. length items + m) (one_marked C L ctx width (is_marked C h.location (block_outlined C h)) (item.Block b)) in
        let ops : ℕ → Text = λ m. joined (between_operations (i + width)) (operation_texts L width (i + width) (tree_operations C (levels limit) m os)) in
        let left : open_rest C L width (map (open_of C L ctx) (first_block ∷ [])) (length items') ≡ ops (length items + own_marks C h.location (block_outlined C h))
        = alone C L width (open_of C L ctx first_block) (length items') ∙ ap ops count in
        let r = open_rest C L width (map (open_of C L ctx) (first_block ∷ [])) (length items') in
        more old f1 (new ++ encode_utf8_all r) (block_head L head) (mark ++ (colon (i + width) ++ r)) w1
        (more f1 f2 (new ++ encode_utf8_all r) mark (colon (i + width) ++ r) w2
        (more f2 new (new ++ encode_utf8_all r) (colon (i + width)) r (w3 ∙ ap (λ j. f2 ++ encode_utf8_all (colon j)) n) refl))
        ∙ ap (λ z. old ++ encode_utf8_all z) (ap (λ z. block_head L head ++ (mark ++ (colon (i + width) ++ z))) left
        ∙ regroup_block (label L head.label) (codes "(") (joined comma (map (argument L) head.arguments)) (codes ")") (dictionary_if L head.attributes) mark (codes ":") (newline (i + width)) (ops (length items + own_marks C h.location (block_outlined C h))))

    -- its items
    pub block_gathered : (items items' all : List Item) → items' ≡ items ++ marked_block C L ctx b h → all ≡ items' ++ items_left C L ctx (first_block ∷ []) →
        all ≡ items ++ (marked_block C L ctx b h ++ items_in_operations C L ctx (levels limit) (operations_left C L ctx b 0))
    block_gathered items items' all k e = e ∙ ap (λ z. z ++ items_left C L ctx (first_block ∷ [])) k ∙ append_assoc items (marked_block C L ctx b h) (items_in_operations C L ctx (levels limit) (operations_left C L ctx b 0))

    -- a reason why it fails
    abbrev pub BlockFault : Refusal → Type 0
    BlockFault e = IndentFault e (i + width) ⊎ OperationsFault C (isolated ctx.dialects) width e (i + width) (levels limit) os

    pub block_refused_deep : (e : Refusal) → e ≡ Depth → 2 ^ 16 ≤ i + width → BlockFault e
    block_refused_deep e is deep = subst BlockFault (sym is) (inl deep)

    pub block_fault : (e : Refusal) → AnyFault C (isolated ctx.dialects) width e (map (open_of C L ctx) (first_block ∷ [])) → BlockFault e
    block_fault e (inl x) = x
    block_fault e (inr x) = absurd x

    -- a block with a view is live
    pub block_fits : IsSome (block ctx b) → AllFit C L ctx (first_block ∷ [])
    block_fits live = (go (get ctx.graph.blocks b) live, tt)
      where
        go : (o : Option (Entry (Node Region Operation (BlockContent (BlockData A) (Option T))))) → IsSome (option_map block_of o) → IsSome {T = Content (Option (OperationData A)) (BlockData A) (Option T)} (option_map (λ d. ABlock d.0 d.1) (content_of o))
        go None h = absurd (cc)
        go (Some e) h = refl
