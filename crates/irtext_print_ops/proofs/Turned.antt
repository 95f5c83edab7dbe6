-- Each turn of the walk, by the frames that it leaves.
use Rattle.std.proofs.Common.{◌≡◌, ◌<◌, ◌≤◌, ◌+◌, ◌*◌, ◌-◌, ℕ, zero, suc, List, [], ◌∷◌, ◌++◌, length, map, drop, Option, Some, None, IsSome, Bool, true, false, cond, arith, refl, ap, sym, subst, ◌∙◌, append_assoc, append-nil, true≢false}
use Rattle.std.specs.Prelude.{⊤, slice_get, option_map, codes, ◌||◌}
use Rattle.std.specs.Borrow.{Bor}
use Rattle.std.specs.Str.{encode_utf8_all}
use Rattle.irtext_base.specs.Format as format
use Rattle.irtext_base.specs.Format.{Format, region_places, count, is_regions}
use Rattle.irtext_base.specs.Own.{Language}
use Rattle.irtext_base.specs.Text.{Text}
use Rattle.irtext_base.specs.declared.format.Directive as code
use Rattle.irtext_context.specs.Context.{ContextView, OperationView, BlockView, operation, block, block_of}
use Rattle.irtext_graph.specs.declared.arena.Ptr.{Ptr}
use Rattle.irtext_graph.specs.declared.object.BasicBlock.{BasicBlock}
use Rattle.irtext_graph.specs.declared.object.Object.TheVariants.{TheOperation, TheBlock, TheRegion}
use Rattle.irtext_graph.specs.declared.object.Operation.{Operation}
use Rattle.irtext_graph.specs.declared.object.Region.{Region}
use Rattle.irtext_graph.specs.Graph.{IsLive, children, parent, parent_of, content_of}
use Rattle.irtext_graph.specs.Content.{Content, Content.{ABlock, ARegion}}
use Rattle.irtext_context.specs.declared.base.block.BlockData.{BlockData}
use Rattle.irtext_context.specs.declared.base.operation.OperationData.{OperationData}
use Rattle.irtext_graph.specs.Store.{get}
use Rattle.std.proofs.lemmas.Option.{slice_get-map}
use Rattle.std.proofs.Common.{inl, inr}
use Rattle.irtext_print_ops.specs.Heads.{or_no_block}
use Rattle.irtext_graph.specs.Nested.{Nested}
use Rattle.irtext_graph.specs.Parts.{regions, blocks, operations_in}
use Rattle.irtext_grammar.specs.Contexts.Nested.{operations_by, blocks_by, regions_by, seen_regions, seen_blocks, seen_operations, seen_operation, seen_block, seen_head}
use Rattle.irtext_grammar.specs.Grammar.Forest as forest
use Rattle.irtext_grammar.specs.Grammar.Forest.{Regions, Blocks, regions_list}
use Rattle.irtext_grammar.specs.Grammar.Tree as tree
use Rattle.irtext_grammar.specs.Grammar.Tree.{Part}
use Rattle.irtext_grammar.specs.Graphs.Graph.{GraphOp, GraphBlock, Printing, Limit, part_of, body_of, is_marked, own_marks, op_outlined, block_outlined, mark_at, tree_op, tree_head}
use Rattle.irtext_grammar.specs.Spelling.Spell.{mark_if, newline}
use Rattle.irtext_print.specs.Printers.PrintedOperation.{levels}
use Rattle.irtext_print.specs.declared.printable.state.RegionPrintDepthLimit.{RegionPrintDepthLimit}
use Rattle.irtext_print.specs.declared.printable.state.RegionPrintDepthLimit.TheVariants.{Unlimited, Max}
use Rattle.irtext_print_ops.specs.Opened.{an_operation, a_region, a_block, covers, Turns, mark_text, mark_count, opened, operation_front, block_head, block_front, between_blocks, between_operations, unless_first, closing}
use Rattle.irtext_print_ops.proofs.Depths.{inside_is}
use Rattle.irtext_print_ops.proofs.Turns.{goes_on, operation_ends, no_region_turns, repeats_turns, repeats_end, elided_turns, elided_repeats, shown_turns, shown_repeats, region_ends, block_ends, block_turns, operation_turns}
use Rattle.irtext_print_ops.specs.Walk.{is_canonical, AreDirectives, IsBegun, directives_in, or_nothing, pieces_text, after_pieces, parts_left, seen_at, inside_of, regions_left, blocks_left, operations_left, marked_own, open_of, AllFit, FrameFits, marked_operation, marked_block, items_in_regions, items_in_blocks, items_in_operations, items_left, directive_count, turns_of_regions, turns_of_blocks, turns_of_operations, turns_left, Steps}
use Rattle.irtext_print_ops.specs.Steps.{region_front, region_frames, region_turn_text, region_turn_frames}
use Rattle.irtext_print_ops.proofs.Tests.{none_left}
use Rattle.irtext_context.proofs.Drops.{one_left}
use Rattle.irtext_grammar.specs.Contexts.Formats.{isolated}
use Rattle.irtext_print.specs.declared.printable.refusal.Refusal.TheVariants.{Misfit}
use Rattle.irtext_print_ops.specs.Faults.{OpenFault, AnyFault, RegionsFault}
use Rattle.irtext_print_ops.proofs.Faults.{region_opens, only_fault, operation_next, region_next, block_next, none_fault, operation_kept, region_kept, block_kept}
use Rattle.irtext_print_ops.specs.declared.frame.Frame.{Frame}
use Rattle.irtext_print_ops.specs.declared.frame.Frame.TheVariants as frame
use Rattle.irtext_context.specs.declared.base.item.Item.{Item}
use Rattle.irtext_context.specs.declared.base.item.Item.TheVariants as item
use Rattle.irtext_print_ops.specs.declared.frame.OperationFrame.{OperationFrame}
use Rattle.irtext_print_ops.specs.declared.frame.RegionFrame.{RegionFrame}
use Rattle.irtext_print_ops.specs.declared.frame.BlockFrame.{BlockFrame}
use Rattle.irtext_print.proofs.Printers.Locations.{more, ending}
use Rattle.irtext_graph.proofs.Nests.{seen}
use Rattle.irtext_grammar.specs.Graphs.Closed.{FitsFormat, count_fits}
use Rattle.std.specs.Prelude.{filter_map}
use Rattle.irtext_print_ops.proofs.Parts.{and_then, pieces_turn, covers_after, covers_none, region_count, covered}

module _ {T A : Type 0} (C : Printing T A) (L : Language ⊤ T A) (ctx : ContextView T A) (width : ℕ) where
  -- an operation that fits its format writes all its regions
  pub fits_covered : (scoped : format.Id → Bool) (form : Option Format) (o : GraphOp T A) (n : ℕ) (rs : Regions (GraphOp T A) (GraphBlock T A) ⊤) → FitsFormat C scoped form o n → n ≡ region_count rs →
      (is_canonical form || covers (filter_map (part_of C (directives_in form) o) (directives_in form)) rs) ≡ true
  fits_covered scoped None o n rs h e = absurd h
  fits_covered scoped (Some format.canonical) o n rs h e = refl
  fits_covered scoped (Some (format.custom ds)) o n rs h e = covered C scoped ds o ds rs (subst (λ k. count_fits C scoped (length (region_places ds)) (count is_regions ds) k ≡ true) e h.1.regions)

  pub regions_counted : (f : Ptr Operation → Regions (Ptr Operation) (Ptr BasicBlock) (Ptr Region)) (rs : List (Ptr Region)) → length rs ≡ region_count (seen_regions L.owns.written ctx (regions_by ctx.graph f rs))
  regions_counted f [] = refl
  regions_counted f (r ∷ rs) = ap suc (regions_counted f rs)

  -- as many regions are seen as there are
  pub regions_seen : (f : Ptr Operation → Regions (Ptr Operation) (Ptr BasicBlock) (Ptr Region)) (rs : List (Ptr Region)) → length rs ≡ length (regions_list (seen_regions L.owns.written ctx (regions_by ctx.graph f rs)))
  regions_seen f [] = refl
  regions_seen f (r ∷ rs) = ap suc (regions_seen f rs)

  -- of an operation nothing is written but what precedes its parts
  pub opened_is : (i : ℕ) (l : Limit) (own : Option (GraphOp T A)) (form : Option Format) (o : GraphOp T A) (rs : Regions (GraphOp T A) (GraphBlock T A) ⊤) →
      opened i l own (body_of C o form) rs ≡ an_operation i l own (is_canonical form) (filter_map (part_of C (directives_in form) o) (directives_in form)) rs
  opened_is i l own None o rs = refl
  opened_is i l own (Some format.canonical) o rs = refl
  opened_is i l own (Some (format.custom ds)) o rs = refl

  pub one_marked : (t : Bool) (x : Item) → length (cond t (x ∷ []) []) ≡ cond t 1 0
  one_marked true x = refl
  one_marked false x = refl

  one_at_most : (b : Bool) → cond b 1 0 ≤ 1
  one_at_most true = omega arith
  one_at_most false = omega arith

  -- the operations and blocks that are seen
  pub seen_some : (o : Option (OperationView T A)) (op : OperationView T A) (p : Ptr Operation) → o ≡ Some op → or_nothing (option_map (seen_operation L.owns.written ctx p) o) ≡ seen_operation L.owns.written ctx p op
  seen_some o op p e = ap (λ z. or_nothing (option_map (seen_operation L.owns.written ctx p) z)) e

  -- ---- a block

  module _ (f : BlockFrame) (items : List Item) (frames : List Frame) where
    -- no operation is left
    pub block_ended : (old : List ℕ) → drop f.operation (operations_in ctx.graph f.block) ≡ [] → Steps C L ctx width (frame.Block f) items items frames frames old old
    block_ended old e = record {
      pushed = [];
      stack = sym (append-nil frames);
      step = record {
        text = [];
        gathered = [];
        marks = sym (append-nil items);
        written = sym (append-nil old);
        turned = subst (λ z. Turns C L width (a_block f.indent (levels f.limit) f.first (seen_operations L.owns.written ctx (operations_by ctx.graph (inside_of C L ctx) z))) (length items) [] 0 []) (sym e) (block_ends C L width f.indent (levels f.limit) f.first (length items));
        left = ap (λ z. items_in_operations C L ctx (levels f.limit) (operations_by ctx.graph (inside_of C L ctx) z)) e;
        fit = tt;
        faults = λ why x. absurd x;
        misfits = λ x. elim (subst (λ z. OpenFault C (isolated ctx.dialects) width Misfit (a_block f.indent (levels f.limit) f.first (seen_operations L.owns.written ctx (operations_by ctx.graph (inside_of C L ctx) z)))) e x) [ inl y ↦ absurd y | inr y ↦ absurd y ];
        fewer = omega arith;
      };
    }

    -- the next is a placeholder, and is left out
    pub block_skips : (p : Ptr Operation) (old : List ℕ) (frames' : List Frame) → drop f.operation (operations_in ctx.graph f.block) ≡ p ∷ drop (f.operation + 1) (operations_in ctx.graph f.block) → operation ctx p ≡ None →
        IsLive ctx.graph (TheBlock f.block) → frames' ≡ frames ++ frame.Block (record f { operation = f.operation + 1 }) ∷ [] →
        Steps C L ctx width (frame.Block f) items items frames frames' old old
    block_skips p old frames' e none alive k =
        let ops = operations_in ctx.graph f.block in
        let os = operations_left C L ctx f.block (f.operation + 1) in
        let q = record f { operation = f.operation + 1 } in
        let here = λ (z : List (Ptr Operation)). operations_by ctx.graph (inside_of C L ctx) z in
        let out : seen_operations L.owns.written ctx (here (drop f.operation ops)) ≡ seen_operations L.owns.written ctx os =
        ap (λ z. seen_operations L.owns.written ctx (here z)) e ∙ ap (λ o. elim o [ Some op ↦ forest.operation (seen_operation L.owns.written ctx p op) (seen_regions L.owns.written ctx (inside_of C L ctx p)) (seen_operations L.owns.written ctx os) | None ↦ seen_operations L.owns.written ctx os ]) none in
        record {
          pushed = frame.Block q ∷ [];
          stack = k;
          step = record {
            text = [];
            gathered = [];
            marks = sym (append-nil items);
            written = sym (append-nil old);
            turned = subst (λ z. Turns C L width (a_block f.indent (levels f.limit) f.first z) (length items) [] 0 (a_block f.indent (levels f.limit) f.first (seen_operations L.owns.written ctx os) ∷ [])) (sym out)
                (goes_on C L width (a_block f.indent (levels f.limit) f.first (seen_operations L.owns.written ctx os)) (length items) [] (a_block f.indent (levels f.limit) f.first (seen_operations L.owns.written ctx os)) refl refl);
            left = ap (λ z. items_in_operations C L ctx (levels f.limit) (here z)) e
                ∙ ap (λ o. elim o [ Some op ↦ items_in_regions C L ctx (levels f.limit) (inside_of C L ctx p) ++ (marked_operation C L ctx p (seen_operation L.owns.written ctx p op) ++ items_in_operations C L ctx (levels f.limit) os) | None ↦ items_in_operations C L ctx (levels f.limit) os ]) none;
            fit = (alive, tt);
            faults = λ why x. subst (λ z. OpenFault C (isolated ctx.dialects) width why (a_block f.indent (levels f.limit) f.first z)) (sym out) (only_fault C (isolated ctx.dialects) width why (a_block f.indent (levels f.limit) f.first (seen_operations L.owns.written ctx os)) x);
            misfits = λ x. inl (subst (λ z. OpenFault C (isolated ctx.dialects) width Misfit (a_block f.indent (levels f.limit) f.first z)) out x);
            fewer = fewer (turns_of_operations C L ctx (here (drop f.operation ops))) (turns_of_operations C L ctx os) (directive_count C L ctx p) (turns_of_regions C L ctx (inside_of C L ctx p)) (ap (λ z. turns_of_operations C L ctx (here z)) e);
          };
        }
      where
        fewer : (all later d r : ℕ) → all ≡ 3 + (2 * d + (r + later)) → (1 + later) + 0 < 1 + all
        fewer all later d r e = omega (arith, e)

    -- the next is begun
    pub block_begins : (p : Ptr Operation) (op : OperationView T A) (known : Option (Bor (List code.Directive))) (indent : ℕ) (old mid new : List ℕ) (frames' : List Frame) → drop f.operation (operations_in ctx.graph f.block) ≡ p ∷ drop (f.operation + 1) (operations_in ctx.graph f.block) →
        operation ctx p ≡ Some op → Nested (children ctx.graph) (parent ctx.graph) → IsLive ctx.graph (TheBlock f.block) → indent ≡ f.indent + width →
        AreDirectives C (seen_at C L ctx p) known → FitsFormat C (isolated ctx.dialects) (C.format_of (seen_at C L ctx p).id) (seen_at C L ctx p) (length (regions ctx.graph p)) →
        mid ≡ old ++ encode_utf8_all (unless_first f.first (between_operations indent)) → new ≡ mid ++ encode_utf8_all (operation_front L (tree_op C 0 (seen_at C L ctx p))) →
        frames' ≡ (frames ++ frame.Block (record f { operation = f.operation + 1; first = false }) ∷ [])
        ++ frame.Operation (record { op = p; directives = known; directive = 0; region = 0; repeats = is_canonical (C.format_of (seen_at C L ctx p).id); marked = true; indent = indent; limit = f.limit }) ∷ [] →
        Steps C L ctx width (frame.Block f) items items frames frames' old new
    block_begins p op known indent old mid new frames' e is nested alive n found fits w v k =
        let ops = operations_in ctx.graph f.block in
        let l = levels f.limit in
        let o = seen_at C L ctx p in
        let os = operations_left C L ctx f.block (f.operation + 1) in
        let inner = inside_of C L ctx p in
        let sos = seen_operations L.owns.written ctx os in
        let form = C.format_of o.id in
        let here = λ (z : List (Ptr Operation)). operations_by ctx.graph (inside_of C L ctx) z in
        let q : Frame = frame.Block (record f { operation = f.operation + 1; first = false }) in
        let g : Frame = frame.Operation (record { op = p; directives = known; directive = 0; region = 0; repeats = is_canonical form; marked = true; indent = indent; limit = f.limit }) in
        let is_inner : inner ≡ regions_left C L ctx p 0 = inside_is ctx.graph nested p in
        let same : o ≡ seen_operation L.owns.written ctx p op = seen_some (operation ctx p) op p is in
        let shows : seen_operations L.owns.written ctx (here (drop f.operation ops)) ≡ forest.operation o (seen_regions L.owns.written ctx inner) sos =
        ap (λ z. seen_operations L.owns.written ctx (here z)) e
        ∙ (ap (λ x. elim x [ Some op ↦ forest.operation (seen_operation L.owns.written ctx p op) (seen_regions L.owns.written ctx inner) sos | None ↦ sos ]) is
        ∙ ap (λ x. forest.operation x (seen_regions L.owns.written ctx inner) sos) (sym same)) in
        let begun : opened (f.indent + width) l (Some o) (body_of C o form) (seen_regions L.owns.written ctx inner) ≡ open_of C L ctx g =
        opened_is (f.indent + width) l (Some o) form o (seen_regions L.owns.written ctx inner)
        ∙ (ap (λ z. an_operation (f.indent + width) l (Some o) (is_canonical form) (parts_left C o 0) (seen_regions L.owns.written ctx z)) is_inner
        ∙ ap (λ i. an_operation i l (Some o) (is_canonical form) (parts_left C o 0) (seen_regions L.owns.written ctx (regions_left C L ctx p 0))) (sym n)) in
        record {
          pushed = q ∷ g ∷ [];
          stack = k ∙ append_assoc frames (q ∷ []) (g ∷ []);
          step = record {
            text = unless_first f.first (between_operations (f.indent + width)) ++ operation_front L (tree_op C 0 o);
            gathered = [];
            marks = sym (append-nil items);
            written = more old mid new (unless_first f.first (between_operations (f.indent + width))) (operation_front L (tree_op C 0 o)) (w ∙ ap (λ i. old ++ encode_utf8_all (unless_first f.first (between_operations i))) n) v;
            turned = subst (λ z. Turns C L width (a_block f.indent l f.first z) (length items) (unless_first f.first (between_operations (f.indent + width)) ++ operation_front L (tree_op C 0 o)) 0 (open_of C L ctx q ∷ open_of C L ctx g ∷ [])) (sym shows)
                (subst (λ z. Turns C L width (a_block f.indent l f.first (forest.operation o (seen_regions L.owns.written ctx inner) sos)) (length items) (unless_first f.first (between_operations (f.indent + width)) ++ operation_front L (tree_op C 0 o)) 0 (open_of C L ctx q ∷ z ∷ [])) begun
                (operation_turns C L width f.indent l f.first o (seen_regions L.owns.written ctx inner) sos (length items)));
            left = ap (λ z. items_in_operations C L ctx l (here z)) e
                ∙ (ap (λ x. elim x [ Some op ↦ items_in_regions C L ctx l inner ++ (marked_operation C L ctx p (seen_operation L.owns.written ctx p op) ++ items_in_operations C L ctx l os) | None ↦ items_in_operations C L ctx l os ]) is
                ∙ (ap (λ x. items_in_regions C L ctx l inner ++ (marked_operation C L ctx p x ++ items_in_operations C L ctx l os)) (sym same)
                ∙ (ap (λ z. items_in_regions C L ctx l z ++ (marked_operation C L ctx p o ++ items_in_operations C L ctx l os)) is_inner
                ∙ sym (append_assoc (items_in_regions C L ctx l (regions_left C L ctx p 0)) (marked_operation C L ctx p o) (items_in_operations C L ctx l os)))));
            fit = (
              alive,
              (
                (
                  (subst (λ (z : Option (OperationView T A)). IsSome z) (sym is) refl, found),
                  fits_covered (isolated ctx.dialects) form o (length (regions ctx.graph p)) (seen_regions L.owns.written ctx (regions_left C L ctx p 0)) fits (regions_counted (inside_of C L ctx) (regions ctx.graph p)),
                ),
                tt,
              ),
            );
            faults = λ why x. subst (λ z. OpenFault C (isolated ctx.dialects) width why (a_block f.indent l f.first z)) (sym shows)
                (block_next C (isolated ctx.dialects) width why f.indent indent l f.first (Some o) (is_canonical form) (parts_left C o 0) o (seen_regions L.owns.written ctx (regions_left C L ctx p 0)) (seen_regions L.owns.written ctx inner) sos n (ap (seen_regions L.owns.written ctx) is_inner) x);
            misfits = λ x. block_kept C (isolated ctx.dialects) width f.indent indent l f.first (Some o) (is_canonical form) (parts_left C o 0) o (seen_regions L.owns.written ctx (regions_left C L ctx p 0)) (seen_regions L.owns.written ctx inner) sos n (ap (seen_regions L.owns.written ctx) is_inner)
                (subst (FitsFormat C (isolated ctx.dialects) form o) (regions_seen (inside_of C L ctx) (regions ctx.graph p)) fits) (subst (λ z. OpenFault C (isolated ctx.dialects) width Misfit (a_block f.indent l f.first z)) shows x);
            fewer = fewer (turns_of_operations C L ctx (here (drop f.operation ops))) (turns_of_operations C L ctx os) (directive_count C L ctx p) (turns_of_regions C L ctx inner) (turns_of_regions C L ctx (regions_left C L ctx p 0)) (cond (is_canonical form) 1 0)
                (ap (λ z. turns_of_operations C L ctx (here z)) e) (ap (turns_of_regions C L ctx) is_inner) (one_at_most (is_canonical form));
          };
        }
      where
        fewer : (all later d r s one : ℕ) → all ≡ 3 + (2 * d + (r + later)) → r ≡ s → one ≤ 1 → (1 + later) + ((1 + (2 * (d - 0) + (one + s))) + 0) < 1 + all
        fewer all later d r s one e k m = omega (arith, e, k, m)

  -- ---- a region

  -- a child of an object is live
  pub block_there : Nested (children ctx.graph) (parent ctx.graph) → (r : Ptr Region) (b : Ptr BasicBlock) (i : ℕ) → slice_get (blocks ctx.graph r) i ≡ Some b → (e : _) × (get ctx.graph.blocks b ≡ Some e)
  block_there nested r b i h = elim (seen (get ctx.graph.blocks b)) [
    | inl none ↦ absurd (let k : option_map TheRegion (parent_of (get ctx.graph.blocks b)) ≡ None = ap (λ o. option_map TheRegion (parent_of o)) none in
        let m : option_map TheRegion (parent_of (get ctx.graph.blocks b)) ≡ Some (TheRegion r) = nested.down (TheRegion r) i (TheBlock b) (slice_get-map TheBlock (blocks ctx.graph r) i ∙ ap (option_map TheBlock) h) in cc)
    | inr at ↦ at
  ]

  pub block_is_live : Nested (children ctx.graph) (parent ctx.graph) → (r : Ptr Region) (b : Ptr BasicBlock) (i : ℕ) → slice_get (blocks ctx.graph r) i ≡ Some b → IsSome (block ctx b)
  block_is_live nested r b i h = let at = block_there nested r b i h in subst (λ (z : Option (BlockView T A)). IsSome z) (sym (ap (option_map block_of) at.1)) refl

  block_there_is_live : Nested (children ctx.graph) (parent ctx.graph) → (r : Ptr Region) (b : Ptr BasicBlock) (i : ℕ) → slice_get (blocks ctx.graph r) i ≡ Some b → IsLive ctx.graph (TheBlock b)
  block_there_is_live nested r b i h = let at = block_there nested r b i h in subst (λ o. IsSome {T = Content (Option (OperationData A)) (BlockData A) (Option T)} (option_map (λ d. ABlock d.0 d.1) (content_of o))) (sym at.1) refl

  pub region_is_live : Nested (children ctx.graph) (parent ctx.graph) → (p : Ptr Operation) (r : Ptr Region) (i : ℕ) → slice_get (regions ctx.graph p) i ≡ Some r → IsLive ctx.graph (TheRegion r)
  region_is_live nested p r i h = elim (seen (get ctx.graph.regions r)) [
    | inl none ↦ absurd (let k : option_map TheOperation (parent_of (get ctx.graph.regions r)) ≡ None = ap (λ o. option_map TheOperation (parent_of o)) none in
        let m : option_map TheOperation (parent_of (get ctx.graph.regions r)) ≡ Some (TheOperation p) = nested.down (TheOperation p) i (TheRegion r) (slice_get-map TheRegion (regions ctx.graph p) i ∙ ap (option_map TheRegion) h) in cc)
    | inr at ↦ subst (λ o. IsSome {T = Content (Option (OperationData A)) (BlockData A) (Option T)} (option_map (λ d. ARegion d.0 d.1) (content_of o))) (sym at.1) refl
  ]

  module _ (f : RegionFrame) (items : List Item) (frames : List Frame) where
    -- no block is left
    pub region_ended : (old new : List ℕ) → drop f.block (blocks ctx.graph f.region) ≡ [] → new ≡ old ++ encode_utf8_all (closing f.indent) → Steps C L ctx width (frame.Region f) items items frames frames old new
    region_ended old new e w = record {
      pushed = [];
      stack = sym (append-nil frames);
      step = record {
        text = closing f.indent;
        gathered = [];
        marks = sym (append-nil items);
        written = w;
        turned = subst (λ z. Turns C L width (a_region f.indent (levels f.limit) f.first (seen_blocks L.owns.written ctx (blocks_by ctx.graph (inside_of C L ctx) z))) (length items) (closing f.indent) 0 []) (sym e) (region_ends C L width f.indent (levels f.limit) f.first (length items));
        left = ap (λ z. items_in_blocks C L ctx (levels f.limit) (blocks_by ctx.graph (inside_of C L ctx) z)) e;
        fit = tt;
        faults = λ why x. absurd x;
        misfits = λ x. absurd (subst (λ z. OpenFault C (isolated ctx.dialects) width Misfit (a_region f.indent (levels f.limit) f.first (seen_blocks L.owns.written ctx (blocks_by ctx.graph (inside_of C L ctx) z)))) e x);
        fewer = omega arith;
      };
    }

    -- the next block's head is written
    pub region_begins : (b : Ptr BasicBlock) (indent inner : ℕ) (items' : List Item) (old f1 f2 f3 new : List ℕ) (frames' : List Frame) →
        slice_get (blocks ctx.graph f.region) f.block ≡ Some b → drop f.block (blocks ctx.graph f.region) ≡ b ∷ drop (f.block + 1) (blocks ctx.graph f.region) →
        Nested (children ctx.graph) (parent ctx.graph) → IsLive ctx.graph (TheRegion f.region) → indent ≡ f.indent + width → inner ≡ indent + width →
        f1 ≡ old ++ encode_utf8_all (unless_first f.first (between_blocks indent)) →
        f2 ≡ f1 ++ encode_utf8_all (block_head L (tree_head C 0 (or_no_block (seen_head L.owns.written ctx b)))) →
        f3 ≡ f2 ++ encode_utf8_all (mark_if L (mark_at C (length items) (or_no_block (seen_head L.owns.written ctx b)).location (block_outlined C (or_no_block (seen_head L.owns.written ctx b))))) →
        new ≡ f3 ++ encode_utf8_all (codes ":" ++ newline inner) →
        items' ≡ items ++ marked_block C L ctx b (or_no_block (seen_head L.owns.written ctx b)) →
        frames' ≡ (frames ++ frame.Region (record f { block = f.block + 1; first = false }) ∷ [])
        ++ frame.Block (record { block = b; operation = 0; first = true; indent = indent; limit = f.limit }) ∷ [] →
        Steps C L ctx width (frame.Region f) items items' frames frames' old new
    region_begins b indent inner items' old f1 f2 f3 new frames' got e nested alive n m w1 w2 w3 w4 i k =
        let bks = blocks ctx.graph f.region in
        let l = levels f.limit in
        let h = or_no_block (seen_head L.owns.written ctx b) in
        let bs = blocks_left C L ctx f.region (f.block + 1) in
        let os = operations_left C L ctx b 0 in
        let sbs = seen_blocks L.owns.written ctx bs in
        let sos = seen_operations L.owns.written ctx os in
        let here = λ (z : List (Ptr BasicBlock)). blocks_by ctx.graph (inside_of C L ctx) z in
        let at = block_there nested f.region b f.block got in
        let is : block ctx b ≡ Some (block_of at.0) = ap (option_map block_of) at.1 in
        let same : h ≡ seen_block L.owns.written ctx b (block_of at.0) = ap (λ o. or_no_block (option_map (seen_block L.owns.written ctx b) o)) is in
        let q : Frame = frame.Region (record f { block = f.block + 1; first = false }) in
        let g : Frame = frame.Block (record { block = b; operation = 0; first = true; indent = indent; limit = f.limit }) in
        let mk = own_marks C h.location (block_outlined C h) in
        let first = unless_first f.first (between_blocks (f.indent + width)) in
        let mark = mark_if L (mark_at C (length items) h.location (block_outlined C h)) in
        let head = block_head L (tree_head C 0 h) in
        let text = first ++ block_front L ((f.indent + width) + width) (tree_head C (length items) h) in
        let shows : seen_blocks L.owns.written ctx (here (drop f.block bks)) ≡ forest.block h sos sbs =
        ap (λ z. seen_blocks L.owns.written ctx (here z)) e
        ∙ (ap (λ x. elim x [ Some view ↦ forest.block (seen_block L.owns.written ctx b view) sos sbs | None ↦ sbs ]) is
        ∙ ap (λ x. forest.block x sos sbs) (sym same)) in
        let colon : codes ":" ++ newline inner ≡ codes ":" ++ newline ((f.indent + width) + width) = ap (λ j. codes ":" ++ newline j) (m ∙ ap (λ j. j + width) n) in
        record {
          pushed = q ∷ g ∷ [];
          stack = k ∙ append_assoc frames (q ∷ []) (g ∷ []);
          step = record {
            text = text;
            gathered = marked_block C L ctx b h;
            marks = i;
            written = more old f1 new first (head ++ (mark ++ (codes ":" ++ newline ((f.indent + width) + width)))) (w1 ∙ ap (λ j. old ++ encode_utf8_all (unless_first f.first (between_blocks j))) n)
                (more f1 f2 new head (mark ++ (codes ":" ++ newline ((f.indent + width) + width))) w2
                (more f2 f3 new mark (codes ":" ++ newline ((f.indent + width) + width)) w3 (w4 ∙ ap (λ z. f3 ++ encode_utf8_all z) colon)));
            turned = subst (λ j. Turns C L width (a_region f.indent l f.first (seen_blocks L.owns.written ctx (here (drop f.block bks)))) (length items) text j (open_of C L ctx q ∷ open_of C L ctx g ∷ [])) (sym (one_marked (is_marked C h.location (block_outlined C h)) (item.Block b)))
                (subst (λ z. Turns C L width (a_region f.indent l f.first z) (length items) text mk (open_of C L ctx q ∷ open_of C L ctx g ∷ [])) (sym shows)
                (subst (λ j. Turns C L width (a_region f.indent l f.first (forest.block h sos sbs)) (length items) text mk (open_of C L ctx q ∷ a_block j l true sos ∷ [])) (sym n)
                (block_turns C L width f.indent l f.first h sos sbs (length items))));
            left = ap (λ z. items_in_blocks C L ctx l (here z)) e
                ∙ (ap (λ x. elim x [ Some view ↦ marked_block C L ctx b (seen_block L.owns.written ctx b view) ++ (items_in_operations C L ctx l os ++ items_in_blocks C L ctx l bs) | None ↦ items_in_blocks C L ctx l bs ]) is
                ∙ ap (λ x. marked_block C L ctx b x ++ (items_in_operations C L ctx l os ++ items_in_blocks C L ctx l bs)) (sym same));
            fit = (alive, (block_there_is_live nested f.region b f.block got, tt));
            faults = λ why x. subst (λ z. OpenFault C (isolated ctx.dialects) width why (a_region f.indent l f.first z)) (sym shows) (region_next C (isolated ctx.dialects) width why f.indent indent l f.first h sos sbs n x);
            misfits = λ x. region_kept C (isolated ctx.dialects) width f.indent indent l f.first h sos sbs n (subst (λ z. OpenFault C (isolated ctx.dialects) width Misfit (a_region f.indent l f.first z)) shows x);
            fewer = fewer (turns_of_blocks C L ctx (here (drop f.block bks))) (turns_of_blocks C L ctx bs) (turns_of_operations C L ctx os) (ap (λ z. turns_of_blocks C L ctx (here z)) e);
          };
        }
      where
        fewer : (all later os : ℕ) → all ≡ 2 + (os + later) → (1 + later) + ((1 + os) + 0) < 1 + all
        fewer all later os e = omega (arith, e)

  -- ---- an operation

  -- its mark does not depend on the layout
  pub same_mark : (m n : ℕ) (own : Option (GraphOp T A)) → mark_text C L 0 n own ≡ mark_text C L m n own
  same_mark m n None = refl
  same_mark m n (Some o) = refl

  own_count : (marked : Bool) (p : Ptr Operation) → length (cond marked (marked_operation C L ctx p (seen_at C L ctx p)) []) ≡ mark_count C (marked_own C L ctx marked p)
  own_count true p = one_marked (is_marked C (seen_at C L ctx p).location (op_outlined C (seen_at C L ctx p))) (item.Operation p)
  own_count false p = refl

  -- nothing is left where no part writes it
  none_covered : (f : Ptr Operation → Regions (Ptr Operation) (Ptr BasicBlock) (Ptr Region)) (l : Limit) (rs : List (Ptr Region)) → covers {T = T} {A = A} [] (seen_regions L.owns.written ctx (regions_by ctx.graph f rs)) ≡ true →
      items_in_regions C L ctx l (regions_by ctx.graph f rs) ≡ []
  none_covered f l [] e = refl
  none_covered f l (r ∷ rs) e = absurd (true≢false (sym e))

  module _ (f : OperationFrame) (items : List Item) (frames : List Frame) where
    -- all is written but the mark
    pub operation_ended : (items' : List Item) (old mid new : List ℕ) → f.repeats ≡ false → after_pieces (parts_left C (seen_at C L ctx f.op) f.directive) ≡ [] →
        covers (parts_left C (seen_at C L ctx f.op) f.directive) (seen_regions L.owns.written ctx (regions_left C L ctx f.op f.region)) ≡ true →
        mid ≡ old ++ encode_utf8_all (pieces_text L (parts_left C (seen_at C L ctx f.op) f.directive)) →
        new ≡ mid ++ encode_utf8_all (mark_text C L 0 (length items) (marked_own C L ctx f.marked f.op)) →
        items' ≡ items ++ cond f.marked (marked_operation C L ctx f.op (seen_at C L ctx f.op)) [] →
        Steps C L ctx width (frame.Operation f) items items' frames frames old new
    operation_ended items' old mid new once e cov w v i =
        let ps = parts_left C (seen_at C L ctx f.op) f.directive in
        let rs = seen_regions L.owns.written ctx (regions_left C L ctx f.op f.region) in
        let l = levels f.limit in
        let own = marked_own C L ctx f.marked f.op in
        let mark = mark_text C L width (length items) own in
        let cov' : covers [] rs ≡ true = ap (λ z. covers z rs) (sym e) ∙ (sym (covers_after ps rs) ∙ cov) in
        let mine = cond f.marked (marked_operation C L ctx f.op (seen_at C L ctx f.op)) [] in
        record {
          pushed = [];
          stack = sym (append-nil frames);
          step = record {
            text = pieces_text L ps ++ mark;
            gathered = mine;
            marks = i;
            written = more old mid new (pieces_text L ps) mark w (v ∙ ap (λ z. mid ++ encode_utf8_all z) (same_mark width (length items) own));
            turned = subst (λ b. Turns C L width (an_operation f.indent l own b ps rs) (length items) (pieces_text L ps ++ mark) (length mine) []) (sym once)
                (subst (λ k. Turns C L width (an_operation f.indent l own false ps rs) (length items) (pieces_text L ps ++ mark) k []) (sym (own_count f.marked f.op))
                (and_then C L width (an_operation f.indent l own false ps rs) (an_operation f.indent l own false (after_pieces ps) rs) (length items) (pieces_text L ps) mark (mark_count C own) []
                (pieces_turn C L width f.indent l own ps rs (length items))
                (subst (λ z. Turns C L width (an_operation f.indent l own false z rs) (length items) mark (mark_count C own) []) (sym e) (operation_ends C L width f.indent l own rs (length items) cov'))));
            left = ap (λ z. z ++ mine) (none_covered (inside_of C L ctx) l (drop f.region (regions ctx.graph f.op)) cov') ∙ sym (append-nil mine);
            fit = tt;
            faults = λ why x. absurd x;
            misfits = λ x. none_fault C (isolated ctx.dialects) width Misfit f.indent l rs cov' x;
            fewer = omega arith;
          };
        }

    -- the pieces are written, and what follows leaves the operation open
    stays_open : (k : ℕ) (again : Bool) (text : Text) (old new : List ℕ) (frames' : List Frame) → f.repeats ≡ false → f.directive < k → k ≤ directive_count C L ctx f.op →
        new ≡ old ++ encode_utf8_all (pieces_text L (parts_left C (seen_at C L ctx f.op) f.directive) ++ text) → frames' ≡ frames ++ frame.Operation (record f { directive = k; repeats = again }) ∷ [] →
        FrameFits C L ctx (frame.Operation (record f { directive = k; repeats = again })) →
        Turns C L width (an_operation f.indent (levels f.limit) (marked_own C L ctx f.marked f.op) false (after_pieces (parts_left C (seen_at C L ctx f.op) f.directive)) (seen_regions L.owns.written ctx (regions_left C L ctx f.op f.region))) (length items) text 0
        (open_of C L ctx (frame.Operation (record f { directive = k; repeats = again })) ∷ []) →
        Steps C L ctx width (frame.Operation f) items items frames frames' old new
    stays_open k again text old new frames' once low high w s fits turns =
        let ps = parts_left C (seen_at C L ctx f.op) f.directive in
        let rs = seen_regions L.owns.written ctx (regions_left C L ctx f.op f.region) in
        let opens = λ (b : Bool) (qs : List (Part ⊤ T A)). an_operation f.indent (levels f.limit) (marked_own C L ctx f.marked f.op) b qs rs in
        let next = frame.Operation (record f { directive = k; repeats = again }) in
        record {
          pushed = next ∷ [];
          stack = s;
          step = record {
            text = pieces_text L ps ++ text;
            gathered = [];
            marks = sym (append-nil items);
            written = w;
            turned = subst (λ b. Turns C L width (opens b ps) (length items) (pieces_text L ps ++ text) 0 (open_of C L ctx next ∷ [])) (sym once)
                (and_then C L width (opens false ps) (opens false (after_pieces ps)) (length items) (pieces_text L ps) text 0 (open_of C L ctx next ∷ [])
                (pieces_turn C L width f.indent (levels f.limit) (marked_own C L ctx f.marked f.op) ps rs (length items)) turns);
            left = refl;
            fit = (fits, tt);
            faults = λ why x. only_fault C (isolated ctx.dialects) width why (open_of C L ctx next) x;
            misfits = λ x. inl x;
            fewer = fewer (directive_count C L ctx f.op) f.directive k (turns_of_regions C L ctx (regions_left C L ctx f.op f.region)) (cond f.repeats 1 0) (cond again 1 0) (one_at_most again) low high;
          };
        }
      where
        fewer : (d i k r b c : ℕ) → c ≤ 1 → i < k → k ≤ d → (1 + (2 * (d - k) + (c + r))) + 0 < 1 + (2 * (d - i) + (b + r))
        fewer d i k r b c one low high = omega (arith, one, low, high)

    -- all regions that are left are written next
    pub regions_begin : (k : ℕ) (old mid new : List ℕ) (frames' : List Frame) → f.repeats ≡ false → after_pieces (parts_left C (seen_at C L ctx f.op) f.directive) ≡ tree.regions ∷ parts_left C (seen_at C L ctx f.op) k →
        f.directive < k → k ≤ directive_count C L ctx f.op → IsBegun C L ctx f.op f.directives →
        mid ≡ old ++ encode_utf8_all (pieces_text L (parts_left C (seen_at C L ctx f.op) f.directive)) → new ≡ mid ++ codes " " →
        frames' ≡ frames ++ frame.Operation (record f { directive = k; repeats = true }) ∷ [] →
        Steps C L ctx width (frame.Operation f) items items frames frames' old new
    regions_begin k old mid new frames' once e low high alive w v s =
        let own = marked_own C L ctx f.marked f.op in
        let rs = seen_regions L.owns.written ctx (regions_left C L ctx f.op f.region) in
        stays_open k true (codes " ") old new frames' once low high (ending old mid new (pieces_text L (parts_left C (seen_at C L ctx f.op) f.directive)) (codes " ") refl w v) s (alive, refl)
        (subst (λ z. Turns C L width (an_operation f.indent (levels f.limit) own false z rs) (length items) (codes " ") 0 (an_operation f.indent (levels f.limit) own true (parts_left C (seen_at C L ctx f.op) k) rs ∷ [])) (sym e)
        (repeats_turns C L width f.indent (levels f.limit) own (parts_left C (seen_at C L ctx f.op) k) rs (length items)))

  module _ (i : ℕ) (own : Option (GraphOp T A)) (n : ℕ) (ps : List (Part ⊤ T A)) (bs : Blocks (GraphOp T A) (GraphBlock T A) ⊤) (rs : Regions (GraphOp T A) (GraphBlock T A) ⊤) where
    single_turn : (limit : RegionPrintDepthLimit) (j : ℕ) → Turns C L width (an_operation i (levels limit) own false (tree.region j ∷ ps) (forest.region tt bs rs)) n (codes " " ++ region_front width i limit) 0
        (an_operation i (levels limit) own false ps rs ∷ region_opens i limit bs)
    single_turn Unlimited j = shown_turns C L width i None own j ps tt bs rs n refl
    single_turn (Max zero) j = elided_turns C L width i (Some 0) own j ps tt bs rs n refl
    single_turn (Max (suc m)) j = shown_turns C L width i (Some (suc m)) own j ps tt bs rs n refl

    repeated_turn : (limit : RegionPrintDepthLimit) → Turns C L width (an_operation i (levels limit) own true ps (forest.region tt bs rs)) n (region_front width i limit) 0
        (an_operation i (levels limit) own true ps rs ∷ region_opens i limit bs)
    repeated_turn Unlimited = shown_repeats C L width i None own ps tt bs rs n refl
    repeated_turn (Max zero) = elided_repeats C L width i (Some 0) own ps tt bs rs n refl
    repeated_turn (Max (suc m)) = shown_repeats C L width i (Some (suc m)) own ps tt bs rs n refl

  frames_open : (r : Ptr Region) (i : ℕ) (limit : RegionPrintDepthLimit) → map (open_of C L ctx) (region_frames r i limit) ≡ region_opens i limit (seen_blocks L.owns.written ctx (blocks_left C L ctx r 0))
  frames_open r i Unlimited = refl
  frames_open r i (Max zero) = refl
  frames_open r i (Max (suc m)) = refl

  frames_fit : (r : Ptr Region) (i : ℕ) (limit : RegionPrintDepthLimit) → IsLive ctx.graph (TheRegion r) → AllFit C L ctx (region_frames r i limit)
  frames_fit r i Unlimited h = (h, tt)
  frames_fit r i (Max zero) h = tt
  frames_fit r i (Max (suc m)) h = (h, tt)

  frames_turns : (r : Ptr Region) (i : ℕ) (limit : RegionPrintDepthLimit) → turns_left C L ctx (region_frames r i limit) ≤ 1 + turns_of_blocks C L ctx (blocks_left C L ctx r 0)
  frames_turns r i Unlimited = omega arith
  frames_turns r i (Max zero) = omega arith
  frames_turns r i (Max (suc m)) = omega arith

  frames_items : (r : Ptr Region) (i : ℕ) (limit : RegionPrintDepthLimit) (rs : Regions (Ptr Operation) (Ptr BasicBlock) (Ptr Region)) (mine : List Item) →
      items_in_regions C L ctx (levels limit) (forest.region r (blocks_left C L ctx r 0) rs) ++ mine ≡ items_left C L ctx (region_frames r i limit) ++ (items_in_regions C L ctx (levels limit) rs ++ mine)
  frames_items r i Unlimited rs mine = append_assoc (items_in_blocks C L ctx None (blocks_left C L ctx r 0)) (items_in_regions C L ctx None rs) mine
  frames_items r i (Max zero) rs mine = refl
  frames_items r i (Max (suc m)) rs mine = append_assoc (items_in_blocks C L ctx (Some m) (blocks_left C L ctx r 0)) (items_in_regions C L ctx (Some (suc m)) rs) mine

  module _ (f : OperationFrame) (items : List Item) (frames : List Frame) where
    -- the operation, if its mark is still to be printed, and its item then
    abbrev own : Option (GraphOp T A)
    own = marked_own C L ctx f.marked f.op

    abbrev mine : List Item
    mine = cond f.marked (marked_operation C L ctx f.op (seen_at C L ctx f.op)) []

    -- all regions are written, none is left
    pub repeat_ended : (old new : List ℕ) (frames' : List Frame) → f.repeats ≡ true → drop f.region (regions ctx.graph f.op) ≡ [] → IsBegun C L ctx f.op f.directives → new ≡ old ++ [] →
        frames' ≡ frames ++ frame.Operation (record f { repeats = false }) ∷ [] → Steps C L ctx width (frame.Operation f) items items frames frames' old new
    repeat_ended old new frames' all_left e alive w s =
        let ps = parts_left C (seen_at C L ctx f.op) f.directive in
        let here = λ (z : List (Ptr Region)). regions_by ctx.graph (inside_of C L ctx) z in
        let l = levels f.limit in
        record {
          pushed = frame.Operation (record f { repeats = false }) ∷ [];
          stack = s;
          step = record {
            text = [];
            gathered = [];
            marks = sym (append-nil items);
            written = w;
            turned = subst (λ b. Turns C L width (an_operation f.indent l own b ps (seen_regions L.owns.written ctx (here (drop f.region (regions ctx.graph f.op))))) (length items) [] 0
                (an_operation f.indent l own false ps (seen_regions L.owns.written ctx (here (drop f.region (regions ctx.graph f.op)))) ∷ [])) (sym all_left)
                (subst (λ z. Turns C L width (an_operation f.indent l own true ps (seen_regions L.owns.written ctx (here z))) (length items) [] 0 (an_operation f.indent l own false ps (seen_regions L.owns.written ctx (here z)) ∷ [])) (sym e)
                (repeats_end C L width f.indent l own ps (length items)));
            left = refl;
            fit = ((alive, subst (λ z. covers ps (seen_regions L.owns.written ctx (here z)) ≡ true) (sym e) (covers_none ps)), tt);
            faults = λ why x. only_fault C (isolated ctx.dialects) width why (an_operation f.indent l own false ps (seen_regions L.owns.written ctx (here (drop f.region (regions ctx.graph f.op))))) x;
            misfits = λ x. inl x;
            fewer = subst (λ b. (1 + (2 * (directive_count C L ctx f.op - f.directive) + (0 + turns_of_regions C L ctx (regions_left C L ctx f.op f.region)))) + 0
                < 1 + (2 * (directive_count C L ctx f.op - f.directive) + (cond b 1 0 + turns_of_regions C L ctx (regions_left C L ctx f.op f.region)))) (sym all_left) (omega arith);
          };
        }

    -- one of all regions is begun
    pub repeat_begins : (r : Ptr Region) (old new : List ℕ) (frames' : List Frame) → f.repeats ≡ true → drop f.region (regions ctx.graph f.op) ≡ r ∷ drop (f.region + 1) (regions ctx.graph f.op) →
        IsBegun C L ctx f.op f.directives → IsLive ctx.graph (TheRegion r) → new ≡ old ++ encode_utf8_all (region_front width f.indent f.limit) →
        frames' ≡ frames ++ frame.Operation (record f { region = f.region + 1 }) ∷ region_frames r f.indent f.limit → Steps C L ctx width (frame.Operation f) items items frames frames' old new
    repeat_begins r old new frames' all_left e alive there w s =
        let ps = parts_left C (seen_at C L ctx f.op) f.directive in
        let here = λ (z : List (Ptr Region)). regions_by ctx.graph (inside_of C L ctx) z in
        let l = levels f.limit in
        let rs = regions_left C L ctx f.op (f.region + 1) in
        let srs = seen_regions L.owns.written ctx rs in
        let bs = seen_blocks L.owns.written ctx (blocks_left C L ctx r 0) in
        record {
          pushed = frame.Operation (record f { region = f.region + 1 }) ∷ region_frames r f.indent f.limit;
          stack = s;
          step = record {
            text = region_front width f.indent f.limit;
            gathered = [];
            marks = sym (append-nil items);
            written = w;
            turned = subst (λ b. Turns C L width (an_operation f.indent l own b ps (seen_regions L.owns.written ctx (here (drop f.region (regions ctx.graph f.op))))) (length items) (region_front width f.indent f.limit) 0
                (an_operation f.indent l own b ps srs ∷ map (open_of C L ctx) (region_frames r f.indent f.limit))) (sym all_left)
                (subst (λ z. Turns C L width (an_operation f.indent l own true ps (seen_regions L.owns.written ctx (here z))) (length items) (region_front width f.indent f.limit) 0
                (an_operation f.indent l own true ps srs ∷ map (open_of C L ctx) (region_frames r f.indent f.limit))) (sym e)
                (subst (λ hs. Turns C L width (an_operation f.indent l own true ps (forest.region tt bs srs)) (length items) (region_front width f.indent f.limit) 0 (an_operation f.indent l own true ps srs ∷ hs)) (sym (frames_open r f.indent f.limit))
                (repeated_turn f.indent own (length items) ps bs srs f.limit)));
            left = ap (λ z. items_in_regions C L ctx l (here z) ++ mine) e ∙ frames_items r f.indent f.limit rs mine;
            fit = ((alive, subst (λ b. (b || covers ps srs) ≡ true) (sym all_left) refl), frames_fit r f.indent f.limit there);
            faults = λ why x. subst (λ z. RegionsFault C (isolated ctx.dialects) width why f.indent l (seen_regions L.owns.written ctx (here z))) (sym e)
                (operation_next C (isolated ctx.dialects) width why f.indent f.limit own f.repeats ps bs srs
                (subst (λ z. AnyFault C (isolated ctx.dialects) width why (an_operation f.indent l own f.repeats ps srs ∷ z)) (frames_open r f.indent f.limit) x));
            misfits = λ x. subst (λ z. AnyFault C (isolated ctx.dialects) width Misfit (an_operation f.indent l own f.repeats ps srs ∷ z)) (sym (frames_open r f.indent f.limit))
                (operation_kept C (isolated ctx.dialects) width f.indent f.limit own f.repeats ps bs srs (subst (λ z. RegionsFault C (isolated ctx.dialects) width Misfit f.indent l (seen_regions L.owns.written ctx (here z))) e x));
            fewer = fewer (directive_count C L ctx f.op - f.directive) (cond f.repeats 1 0) (turns_of_regions C L ctx rs) (turns_of_regions C L ctx (here (drop f.region (regions ctx.graph f.op)))) (turns_left C L ctx (region_frames r f.indent f.limit))
                (turns_of_blocks C L ctx (blocks_left C L ctx r 0)) (ap (λ z. turns_of_regions C L ctx (here z)) e) (frames_turns r f.indent f.limit);
          };
        }
      where
        fewer : (d b later all tf tb : ℕ) → all ≡ 2 + (tb + later) → tf ≤ 1 + tb → (1 + (2 * d + (b + later))) + tf < 1 + (2 * d + (b + all))
        fewer d b later all tf tb e m = omega (arith, e, m)

    -- the pieces are written up to a directive of one region, and none is left
    pub single_ended : (k j : ℕ) (old new : List ℕ) (frames' : List Frame) → f.repeats ≡ false → after_pieces (parts_left C (seen_at C L ctx f.op) f.directive) ≡ tree.region j ∷ parts_left C (seen_at C L ctx f.op) k →
        f.directive < k → k ≤ directive_count C L ctx f.op → drop f.region (regions ctx.graph f.op) ≡ [] → IsBegun C L ctx f.op f.directives →
        new ≡ old ++ encode_utf8_all (pieces_text L (parts_left C (seen_at C L ctx f.op) f.directive)) →
        frames' ≡ frames ++ frame.Operation (record f { directive = k; repeats = false }) ∷ [] → Steps C L ctx width (frame.Operation f) items items frames frames' old new
    single_ended k j old new frames' once b low high e alive w s =
        let qs = parts_left C (seen_at C L ctx f.op) k in
        let seen_by = λ (z : List (Ptr Region)). seen_regions L.owns.written ctx (regions_by ctx.graph (inside_of C L ctx) z) in
        let opens = λ (ps : List (Part ⊤ T A)) (z : List (Ptr Region)). an_operation f.indent (levels f.limit) (marked_own C L ctx f.marked f.op) false ps (seen_by z) in
        let left = drop f.region (regions ctx.graph f.op) in
        stays_open f items frames k false [] old new frames' once low high (w ∙ ap (λ z. old ++ encode_utf8_all z) (sym (append-nil (pieces_text L (parts_left C (seen_at C L ctx f.op) f.directive))))) s
        (alive, subst (λ z. covers qs (seen_by z) ≡ true) (sym e) (covers_none qs))
        (subst (λ y. Turns C L width (opens y left) (length items) [] 0 (opens qs left ∷ [])) (sym b)
        (subst (λ z. Turns C L width (opens (tree.region j ∷ qs) z) (length items) [] 0 (opens qs z ∷ [])) (sym e)
        (no_region_turns C L width f.indent (levels f.limit) (marked_own C L ctx f.marked f.op) j qs (length items))))

    -- the pieces are written up to a directive of one region, and it is begun
    pub single_begins : (k j : ℕ) (r : Ptr Region) (old mid new : List ℕ) (frames' : List Frame) → f.repeats ≡ false → after_pieces (parts_left C (seen_at C L ctx f.op) f.directive) ≡ tree.region j ∷ parts_left C (seen_at C L ctx f.op) k →
        f.directive < k → k ≤ directive_count C L ctx f.op → drop f.region (regions ctx.graph f.op) ≡ r ∷ drop (f.region + 1) (regions ctx.graph f.op) →
        covers (parts_left C (seen_at C L ctx f.op) f.directive) (seen_regions L.owns.written ctx (regions_left C L ctx f.op f.region)) ≡ true →
        IsBegun C L ctx f.op f.directives → IsLive ctx.graph (TheRegion r) →
        mid ≡ old ++ encode_utf8_all (pieces_text L (parts_left C (seen_at C L ctx f.op) f.directive)) → new ≡ mid ++ encode_utf8_all (codes " " ++ region_front width f.indent f.limit) →
        frames' ≡ frames ++ frame.Operation (record f { directive = k; region = f.region + 1 }) ∷ region_frames r f.indent f.limit → Steps C L ctx width (frame.Operation f) items items frames frames' old new
    single_begins k j r old mid new frames' once b low high e cov alive there w v s =
        let ps = parts_left C (seen_at C L ctx f.op) f.directive in
        let qs = parts_left C (seen_at C L ctx f.op) k in
        let here = λ (z : List (Ptr Region)). regions_by ctx.graph (inside_of C L ctx) z in
        let all = seen_regions L.owns.written ctx (here (drop f.region (regions ctx.graph f.op))) in
        let l = levels f.limit in
        let rs = regions_left C L ctx f.op (f.region + 1) in
        let srs = seen_regions L.owns.written ctx rs in
        let bs = seen_blocks L.owns.written ctx (blocks_left C L ctx r 0) in
        let front = codes " " ++ region_front width f.indent f.limit in
        let hs = map (open_of C L ctx) (region_frames r f.indent f.limit) in
        let shows : all ≡ forest.region tt bs srs = ap (λ z. seen_regions L.owns.written ctx (here z)) e in
        let cov' : covers qs srs ≡ true = ap (λ z. covers (tree.region j ∷ qs) z) (sym shows) ∙ (ap (λ y. covers y all) (sym b) ∙ (sym (covers_after ps all) ∙ cov)) in
        record {
          pushed = frame.Operation (record f { directive = k; region = f.region + 1 }) ∷ region_frames r f.indent f.limit;
          stack = s;
          step = record {
            text = pieces_text L ps ++ front;
            gathered = [];
            marks = sym (append-nil items);
            written = more old mid new (pieces_text L ps) front w v;
            turned = subst (λ x. Turns C L width (an_operation f.indent l own x ps all) (length items) (pieces_text L ps ++ front) 0 (an_operation f.indent l own x qs srs ∷ hs)) (sym once)
                (and_then C L width (an_operation f.indent l own false ps all) (an_operation f.indent l own false (after_pieces ps) all) (length items) (pieces_text L ps) front 0 (an_operation f.indent l own false qs srs ∷ hs)
                (pieces_turn C L width f.indent l own ps all (length items))
                (subst (λ y. Turns C L width (an_operation f.indent l own false y all) (length items) front 0 (an_operation f.indent l own false qs srs ∷ hs)) (sym b)
                (subst (λ z. Turns C L width (an_operation f.indent l own false (tree.region j ∷ qs) z) (length items) front 0 (an_operation f.indent l own false qs srs ∷ hs)) (sym shows)
                (subst (λ z. Turns C L width (an_operation f.indent l own false (tree.region j ∷ qs) (forest.region tt bs srs)) (length items) front 0 (an_operation f.indent l own false qs srs ∷ z)) (sym (frames_open r f.indent f.limit))
                (single_turn f.indent own (length items) qs bs srs f.limit j)))));
            left = ap (λ z. items_in_regions C L ctx l (here z) ++ mine) e ∙ frames_items r f.indent f.limit rs mine;
            fit = ((alive, subst (λ x. (x || covers qs srs) ≡ true) (sym once) cov'), frames_fit r f.indent f.limit there);
            faults = λ why x. subst (λ z. RegionsFault C (isolated ctx.dialects) width why f.indent l z) (sym shows)
                (operation_next C (isolated ctx.dialects) width why f.indent f.limit own f.repeats qs bs srs
                (subst (λ z. AnyFault C (isolated ctx.dialects) width why (an_operation f.indent l own f.repeats qs srs ∷ z)) (frames_open r f.indent f.limit) x));
            misfits = λ x. subst (λ z. AnyFault C (isolated ctx.dialects) width Misfit (an_operation f.indent l own f.repeats qs srs ∷ z)) (sym (frames_open r f.indent f.limit))
                (operation_kept C (isolated ctx.dialects) width f.indent f.limit own f.repeats qs bs srs (subst (λ z. RegionsFault C (isolated ctx.dialects) width Misfit f.indent l z) shows x));
            fewer = fewer (directive_count C L ctx f.op) f.directive k (cond f.repeats 1 0) (turns_of_regions C L ctx rs) (turns_of_regions C L ctx (here (drop f.region (regions ctx.graph f.op)))) (turns_left C L ctx (region_frames r f.indent f.limit))
                (turns_of_blocks C L ctx (blocks_left C L ctx r 0)) low high (ap (λ z. turns_of_regions C L ctx (here z)) e) (frames_turns r f.indent f.limit);
          };
        }
      where
        fewer : (d i k b later all tf tb : ℕ) → i < k → k ≤ d → all ≡ 2 + (tb + later) → tf ≤ 1 + tb → (1 + (2 * (d - k) + (b + later))) + tf < 1 + (2 * (d - i) + (b + all))
        fewer d i k b later all tf tb low high e m = omega (arith, low, high, e, m)

    -- a turn in which all regions that are left are written
    pub repeat_step : (old new : List ℕ) (frames' : List Frame) → f.repeats ≡ true → IsBegun C L ctx f.op f.directives → Nested (children ctx.graph) (parent ctx.graph) →
        new ≡ old ++ encode_utf8_all (region_turn_text ctx width f) → frames' ≡ frames ++ region_turn_frames ctx f → Steps C L ctx width (frame.Operation f) items items frames frames' old new
    repeat_step old new frames' all_left alive nested w s = go (slice_get (regions ctx.graph f.op) f.region) refl w s
      where
        go : (o : Option (Ptr Region)) → slice_get (regions ctx.graph f.op) f.region ≡ o → new ≡ old ++ encode_utf8_all (elim o [ None ↦ [] | Some _ ↦ cond f.repeats [] (codes " ") ++ region_front width f.indent f.limit ]) →
            frames' ≡ frames ++ elim o [ None ↦ frame.Operation (record f { repeats = false }) ∷ [] | Some r ↦ frame.Operation (record f { region = f.region + 1 }) ∷ region_frames r f.indent f.limit ] →
            Steps C L ctx width (frame.Operation f) items items frames frames' old new
        go None e w s = repeat_ended old new frames' all_left (none_left (regions ctx.graph f.op) f.region e) alive w s
        go (Some r) e w s = repeat_begins r old new frames' all_left (one_left (regions ctx.graph f.op) f.region r (sym e)) alive (region_is_live nested f.op r f.region e)
            (w ∙ ap (λ b. old ++ encode_utf8_all (cond b [] (codes " ") ++ region_front width f.indent f.limit)) all_left) s

    -- a turn in which the pieces are written, and one region
    pub single_step : (k j : ℕ) (old mid new : List ℕ) (frames' : List Frame) → f.repeats ≡ false → after_pieces (parts_left C (seen_at C L ctx f.op) f.directive) ≡ tree.region j ∷ parts_left C (seen_at C L ctx f.op) k →
        f.directive < k → k ≤ directive_count C L ctx f.op →
        covers (parts_left C (seen_at C L ctx f.op) f.directive) (seen_regions L.owns.written ctx (regions_left C L ctx f.op f.region)) ≡ true →
        IsBegun C L ctx f.op f.directives → Nested (children ctx.graph) (parent ctx.graph) →
        mid ≡ old ++ encode_utf8_all (pieces_text L (parts_left C (seen_at C L ctx f.op) f.directive)) →
        new ≡ mid ++ encode_utf8_all (region_turn_text ctx width (record f { directive = k })) → frames' ≡ frames ++ region_turn_frames ctx (record f { directive = k }) →
        Steps C L ctx width (frame.Operation f) items items frames frames' old new
    single_step k j old mid new frames' once b low high cov alive nested v w s = go (slice_get (regions ctx.graph f.op) f.region) refl w s
      where
        go : (o : Option (Ptr Region)) → slice_get (regions ctx.graph f.op) f.region ≡ o → new ≡ mid ++ encode_utf8_all (elim o [ None ↦ [] | Some _ ↦ cond f.repeats [] (codes " ") ++ region_front width f.indent f.limit ]) →
            frames' ≡ frames ++ elim o [ None ↦ frame.Operation (record f { directive = k; repeats = false }) ∷ [] | Some r ↦ frame.Operation (record f { directive = k; region = f.region + 1 }) ∷ region_frames r f.indent f.limit ] →
            Steps C L ctx width (frame.Operation f) items items frames frames' old new
        go None e w s = single_ended k j old new frames' once b low high (none_left (regions ctx.graph f.op) f.region e) alive (w ∙ (append-nil mid ∙ v)) s
        go (Some r) e w s = single_begins k j r old mid new frames' once b low high (one_left (regions ctx.graph f.op) f.region r (sym e)) cov alive (region_is_live nested f.op r f.region e) v
            (w ∙ ap (λ x. mid ++ encode_utf8_all (cond x [] (codes " ") ++ region_front width f.indent f.limit)) once) s
