-- A root that is closed, said of its objects, is closed as printing sees it.
use Rattle.std.proofs.Common.{◌≡◌, ◌∙◌, ℕ, suc, Bool, true, false, not, cond, List, [], ◌∷◌, map, filter_map, slice_get, length, Option, Some, None, option_map, refl, sym, ap, subst}
use Rattle.std.specs.Prelude.{⊤, IfSome, is_some}
use Rattle.std.specs.List.{list_all}
use Rattle.std.specs.Map.{lookup}
use Rattle.std.specs.Str.{bytes_eq}
use Rattle.std.proofs.lemmas.Option.{slice_get-map}
use Rattle.irtext_base.specs.declared.base.attributes.AttrObj.{AttrObj}
use Rattle.irtext_base.specs.Format.{Id, same_text, block_label_key}
use Rattle.irtext_base.specs.Text.{Text}
use Rattle.irtext_context.specs.Context.{ContextView, OperationView, BlockView, operation, block}
use Rattle.irtext_graph.specs.declared.arena.Ptr.{Ptr}
use Rattle.irtext_graph.specs.declared.object.BasicBlock.{BasicBlock}
use Rattle.irtext_graph.specs.declared.object.Defined.TheVariants.{OfValue, OfBlock}
use Rattle.irtext_graph.specs.declared.object.Object.{Object}
use Rattle.irtext_graph.specs.declared.object.Object.TheVariants.{TheOperation, TheBlock, TheRegion}
use Rattle.irtext_graph.specs.declared.object.Operation.{Operation}
use Rattle.irtext_graph.specs.declared.object.Region.{Region}
use Rattle.irtext_graph.specs.declared.object.Site.TheVariants.{AtOperand, AtSuccessor}
use Rattle.irtext_graph.specs.Graph.{IsInside, parent, parent_of, children}
use Rattle.irtext_graph.specs.Nested.{Nested}
use Rattle.irtext_graph.specs.Parts.{regions, blocks, operations_in, operands, successors}
use Rattle.irtext_graph.specs.Store.{get}
use Rattle.irtext_graph.proofs.Inside.{within_self}
use Rattle.irtext_graph.proofs.Nests.{some_eq}
use Rattle.irtext_grammar.specs.Contexts.Formats.{isolated}
use Rattle.irtext_grammar.specs.Contexts.Held.{entries_of}
use Rattle.irtext_grammar.specs.Contexts.Nested.{operations_by, blocks_by, regions_by, within, typed_number, number_of, place_of, seen_operation, seen_block, seen_operations, seen_blocks, seen_regions, seen_root}
use Rattle.irtext_grammar.specs.Grammar.Forest as forest
use Rattle.irtext_grammar.specs.Grammar.Forest.{Regions, no_regions, region, Blocks, no_blocks, Operations, no_operations, AllRegions, AllBlocks, AllOperations}
use Rattle.irtext_grammar.specs.Graphs.Closed.{a_value, a_block, same_thing, Fit}
use Rattle.irtext_grammar.specs.Graphs.Graph.{Graph, GraphOp, GraphBlock, Printing}
use Rattle.irtext_grammar.specs.Graphs.Same.{resolved_root, Found}
use Rattle.irtext_grammar.specs.Names.Scopes as scopes
use Rattle.irtext_grammar.specs.RootParts.{HasNoLabel, HoldsNoLabels}
use Rattle.irtext_grammar.specs.Spelling.Writable.{has_region}
use Rattle.irtext_grammar.proofs.Lists.SameText.{same_text_eq, same_text_true, same_text-bytes_eq}
use Rattle.irtext_closed.specs.Closed.{IsClosedRoot}
use Rattle.irtext_grammar.specs.Back.{ClosedRoot}
use Rattle.irtext_grammar.specs.Graphs.Represents.{Distinct}
use Rattle.irtext_grammar.proofs.Graphs.RepresentsClosed.{found_closed}
use Rattle.irtext_print_ir.specs.Printers.Printed.{block_round}
use Rattle.irtext_print_ops.proofs.Depths.{inside_is}
use Rattle.pliron_text.proofs.Forests.{PtrRegions, PtrBlocks, PtrOperations, first_blocks, more_regions, first_block, first_operations, more_blocks, first_operation, first_regions, more_operations}
use Rattle.pliron_text.proofs.Closing.Owned.{flag_is, child_in}
use Rattle.pliron_text.proofs.Closing.Found.{found_regions}

-- if no element can be there, the list is empty
empty_of : {X : Type 0} (xs : List X) → ((i : ℕ) (x : X) → slice_get xs i ≡ Some x → ⊥) → xs ≡ []
empty_of [] h = refl
empty_of (x ∷ xs) h = absurd (h 0 x refl)

-- a dictionary in which the key is not found has no label
without_label : {A : Type 0} (es : List (Text × AttrObj A)) → lookup (bytes_eq block_label_key) es ≡ None → HasNoLabel (entries_of es)
without_label [] e = refl
without_label (d ∷ es) e = go (same_text d.0 block_label_key) refl (without_label es)
  where
    key_found : d.0 ≡ block_label_key → bytes_eq block_label_key d.0 ≡ true
    key_found same = sym (same_text-bytes_eq block_label_key d.0) ∙ same_text_eq block_label_key d.0 (sym same)

    rest_is : (b : Bool) → cond b (Some d.1) (lookup (bytes_eq block_label_key) es) ≡ None → lookup (bytes_eq block_label_key) es ≡ None
    rest_is true h = absurd (cc)
    rest_is false h = h

    go : (b : Bool) → same_text d.0 block_label_key ≡ b → (lookup (bytes_eq block_label_key) es ≡ None → HasNoLabel (entries_of es)) → HasNoLabel (entries_of (d ∷ es))
    go true is others = absurd (let t = key_found (same_text_true d.0 block_label_key is) in let here : cond true (Some d.1) (lookup (bytes_eq block_label_key) es) ≡ None = subst (λ b. cond b (Some d.1) (lookup (bytes_eq block_label_key) es) ≡ None) t e in cc)
    go false is others = rw is (others (rest_is (bytes_eq block_label_key d.0) e))

module _ {T A : Type 0} (ctx : ContextView T A) (text_of : A → Text) (C : Printing T A) (root : Ptr Operation) (nested : Nested (children ctx.graph) (parent ctx.graph)) (shut : IsClosedRoot ctx root) where
  abbrev flags : Id → Bool
  flags = isolated ctx.dialects

  abbrev inside_of : Ptr Operation → PtrRegions
  inside_of p = within ctx.graph (suc (length ctx.graph.operations.cells)) p

  abbrev Inner : Object → Type 0
  Inner q = IsInside ctx.graph (TheOperation root) q

  step : (k c : Object) → parent ctx.graph c ≡ Some k → Inner k → Inner c
  step = child_in ctx text_of C root nested shut

  -- ---- labels
  plain_block : (b : Ptr BasicBlock) (os : Operations (GraphOp T A) (GraphBlock T A) ⊤) (bs : Blocks (GraphOp T A) (GraphBlock T A) ⊤) (o : Option (BlockView T A)) → IfSome o (λ view. lookup (bytes_eq block_label_key) view.attributes ≡ None)
      → AllOperations (λ o. ⊤) (λ h. HasNoLabel h.attributes) (λ r. ⊤) os → AllBlocks (λ o. ⊤) (λ h. HasNoLabel h.attributes) (λ r. ⊤) bs
      → AllBlocks (λ o. ⊤) (λ h. HasNoLabel h.attributes) (λ r. ⊤) (elim o [ Some view ↦ forest.block (seen_block text_of ctx b view) os bs | None ↦ bs ])
  plain_block b os bs None plain inner rest = rest
  plain_block b os bs (Some view) plain inner rest = (without_label view.attributes plain, inner, rest)

  plain_operation : (p : Ptr Operation) (rs : Regions (GraphOp T A) (GraphBlock T A) ⊤) (os : Operations (GraphOp T A) (GraphBlock T A) ⊤) (o : Option (OperationView T A))
      → AllRegions (λ o. ⊤) (λ h. HasNoLabel h.attributes) (λ r. ⊤) rs → AllOperations (λ o. ⊤) (λ h. HasNoLabel h.attributes) (λ r. ⊤) os
      → AllOperations (λ o. ⊤) (λ h. HasNoLabel h.attributes) (λ r. ⊤) (elim o [ Some view ↦ forest.operation (seen_operation text_of ctx p view) rs os | None ↦ os ])
  plain_operation p rs os None inner rest = rest
  plain_operation p rs os (Some view) inner rest = (tt, inner, rest)

  module _ (whole : (p : Ptr Operation) → inside_of p ≡ regions_by ctx.graph inside_of (regions ctx.graph p)) where
    mutual
      plain_regions : (f : PtrRegions) (rs : List (Ptr Region)) → f ≡ regions_by ctx.graph inside_of rs → ((m : ℕ) (r : Ptr Region) → slice_get rs m ≡ Some r → Inner (TheRegion r)) → AllRegions (λ o. ⊤) (λ h. HasNoLabel h.attributes) (λ r. ⊤) (seen_regions text_of ctx f)
      plain_regions no_regions rs is ins = tt
      plain_regions (region q bs more) [] is ins = absurd (cc)
      plain_regions (region q bs more) (s ∷ rs) is ins = (
        tt,
        plain_blocks bs (blocks ctx.graph s) (ap first_blocks is) (λ i b e. step (TheRegion s) (TheBlock b) (nested.down (TheRegion s) i (TheBlock b) (slice_get-map TheBlock (blocks ctx.graph s) i ∙ ap (option_map TheBlock) e)) (ins 0 s refl)),
        plain_regions more rs (ap more_regions is) (λ m. ins (suc m)),
      )

      plain_blocks : (f : PtrBlocks) (bs : List (Ptr BasicBlock)) → f ≡ blocks_by ctx.graph inside_of bs → ((i : ℕ) (b : Ptr BasicBlock) → slice_get bs i ≡ Some b → Inner (TheBlock b)) → AllBlocks (λ o. ⊤) (λ h. HasNoLabel h.attributes) (λ r. ⊤) (seen_blocks text_of ctx f)
      plain_blocks no_blocks bs is ins = tt
      plain_blocks (forest.block c os more) [] is ins = absurd (cc)
      plain_blocks (forest.block c os more) (d ∷ bs) is ins =
          let same : d ≡ c = sym (ap (first_block c) is) in
          let inside : Inner (TheBlock c) = subst (λ z. Inner (TheBlock z)) same (ins 0 d refl) in
          plain_block c (seen_operations text_of ctx os) (seen_blocks text_of ctx more) (block ctx c) (shut.plain (TheBlock c) inside)
          (plain_operations os (operations_in ctx.graph c) (ap first_operations is ∙ ap (λ z. operations_by ctx.graph inside_of (operations_in ctx.graph z)) same)
          (λ i p e. step (TheBlock c) (TheOperation p) (nested.down (TheBlock c) i (TheOperation p) (slice_get-map TheOperation (operations_in ctx.graph c) i ∙ ap (option_map TheOperation) e)) inside))
          (plain_blocks more bs (ap more_blocks is) (λ i. ins (suc i)))

      plain_operations : (f : PtrOperations) (ps : List (Ptr Operation)) → f ≡ operations_by ctx.graph inside_of ps → ((i : ℕ) (p : Ptr Operation) → slice_get ps i ≡ Some p → Inner (TheOperation p)) → AllOperations (λ o. ⊤) (λ h. HasNoLabel h.attributes) (λ r. ⊤) (seen_operations text_of ctx f)
      plain_operations no_operations ps is ins = tt
      plain_operations (forest.operation q rs more) [] is ins = absurd (cc)
      plain_operations (forest.operation q rs more) (d ∷ ps) is ins =
          let same : d ≡ q = sym (ap (first_operation q) is) in
          let inside : Inner (TheOperation q) = subst (λ z. Inner (TheOperation z)) same (ins 0 d refl) in
          plain_operation q (seen_regions text_of ctx rs) (seen_operations text_of ctx more) (operation ctx q)
          (plain_regions rs (regions ctx.graph q) (ap first_regions is ∙ ap inside_of same ∙ whole q)
          (λ m r e. step (TheOperation q) (TheRegion r) (nested.down (TheOperation q) m (TheRegion r) (slice_get-map TheRegion (regions ctx.graph q) m ∙ ap (option_map TheRegion) e)) inside))
          (plain_operations more ps (ap more_operations is) (λ i. ins (suc i)))

    -- ---- the root
    abbrev graph_at : OperationView T A → Graph T A
    graph_at view = record { own = seen_operation text_of ctx root view; regions = seen_regions text_of ctx (inside_of root) }

    root_parent : (m : ℕ) (r : Ptr Region) → slice_get (regions ctx.graph root) m ≡ Some r → parent ctx.graph (TheRegion r) ≡ Some (TheOperation root)
    root_parent m r e = nested.down (TheOperation root) m (TheRegion r) (slice_get-map TheRegion (regions ctx.graph root) m ∙ ap (option_map TheRegion) e)

    root_inside : Inner (TheOperation root)
    root_inside = within_self (parent ctx.graph) (TheOperation root)

    no_operands : operands ctx.graph root ≡ []
    no_operands = empty_of (operands ctx.graph root) (λ i v e. shut.contained.bare (AtOperand root i) (OfValue v) refl (ap (option_map OfValue) e))

    no_successors : successors ctx.graph root ≡ []
    no_successors = empty_of (successors ctx.graph root) (λ i b e. shut.contained.bare (AtSuccessor root i) (OfBlock b) refl (ap (option_map OfBlock) e))

    -- a root that is in nothing is in no block
    pub no_block : parent_of (get ctx.graph.operations root) ≡ None
    no_block = go (parent_of (get ctx.graph.operations root)) shut.contained.alone
      where
        go : (o : Option (Ptr BasicBlock)) → option_map TheBlock o ≡ None → o ≡ None
        go None e = refl
        go (Some b) e = absurd (cc)

    first_region : (f : PtrRegions) (rs : List (Ptr Region)) → f ≡ regions_by ctx.graph inside_of rs → has_region (seen_regions text_of ctx f) ≡ true → (r : Ptr Region) × (slice_get rs 0 ≡ Some r)
    first_region no_regions rs is h = absurd (cc)
    first_region (region q bs more) [] is h = absurd (cc)
    first_region (region q bs more) (s ∷ rs) is h = (s, refl)

    pub record SeenClosed (g : Graph T A) : Type 0 where
      pub results : g.own.results ≡ []
      pub operands : g.own.operands ≡ []
      pub successors : g.own.successors ≡ []
      pub alone : has_region g.regions ≡ true → flags g.own.id ≡ true
      pub found : Found (resolved_root C flags g)
      pub unlabelled : HoldsNoLabels g

    closed_at : (view : OperationView T A) → operation ctx root ≡ Some view → Fit C flags (graph_at view) → SeenClosed (graph_at view)
    closed_at view is fit = record {
      results = ap (filter_map typed_number) shut.results;
      operands = ap (filter_map (number_of ctx)) no_operands;
      successors = ap (map (place_of ctx)) no_successors;
      alone = λ h. let first = first_region (inside_of root) (regions ctx.graph root) (whole root) h in sym (flag_is ctx root view is) ∙ shut.contained.barrier (TheRegion first.0) (root_parent 0 first.0 first.1);
      found = (
        (
          ap (λ vs. list_all is_some (map (λ n. scopes.lookup same_thing (a_value n) []) (filter_map (number_of ctx) vs))) no_operands,
          ap (λ bs. list_all is_some (map (λ b. scopes.lookup same_thing (a_block b) []) (map (place_of ctx) bs))) no_successors,
        ),
        found_regions ctx text_of C root nested shut whole (inside_of root) (regions ctx.graph root) (whole root) root root_parent root_inside (flags (seen_operation text_of ctx root view).id) (flag_is ctx root view is) []
            (λ r up opens. absurd (let closes = shut.contained.barrier (TheRegion r) up in let flag = flag_is ctx root view is in let e : true ≡ false = sym closes ∙ flag ∙ opens in cc)) [] 0 fit.1,
      );
      unlabelled = plain_regions (inside_of root) (regions ctx.graph root) (whole root) (λ m r e. step (TheOperation root) (TheRegion r) (root_parent m r e) root_inside);
    }

    -- what printing sees of the root is closed, if its operations fit their formats
    pub seen_closed : (g : Graph T A) → seen_root text_of ctx root ≡ Some g → Fit C flags g → SeenClosed g
    seen_closed g e fit = go (operation ctx root) refl e
      where
        go : (o : Option (OperationView T A)) → operation ctx root ≡ o → option_map graph_at o ≡ Some g → SeenClosed g
        go None is h = absurd (cc)
        go (Some view) is h = subst SeenClosed (some_eq h) (closed_at view is (subst (Fit C flags) (sym (some_eq h)) fit))

module _ {T A : Type 0} (ctx : ContextView T A) (text_of : A → Text) (C : Printing T A) (root : Ptr Operation) (nested : Nested (children ctx.graph) (parent ctx.graph)) (shut : IsClosedRoot ctx root) where
  -- a closed root is in no block
  pub in_no_block : block_round ctx root ≡ None
  in_no_block = no_block ctx text_of C root nested shut (inside_is ctx.graph nested)

  -- what printing sees of it is closed, if its operations fit their formats and no two of its values or blocks are the same
  pub closed_as_seen : (g : Graph T A) → seen_root text_of ctx root ≡ Some g → Distinct C (isolated ctx.dialects) g → Fit C (isolated ctx.dialects) g → ClosedRoot C (isolated ctx.dialects) g
  closed_as_seen g sees distinct fits =
      let s = seen_closed ctx text_of C root nested shut (inside_is ctx.graph nested) g sees fits in
      record { closed = found_closed C (isolated ctx.dialects) g s.found distinct s.results s.operands s.successors s.alone; fits = fits; unlabelled = s.unlabelled }
