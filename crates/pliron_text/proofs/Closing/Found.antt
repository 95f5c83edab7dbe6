-- In a root that is closed, said of its objects, each use has a definition in the scopes around it.
use Rattle.std.proofs.Common.{◌≡◌, ◌∙◌, ◌&&◌, ℕ, zero, suc, Bool, true, false, cond, List, [], ◌∷◌, map, filter_map, slice_get, Option, Some, None, option_map, IsSome, refl, sym, ap, subst}
use Rattle.std.specs.Prelude.{⊤, is_some}
use Rattle.std.specs.List.{list_all, cons_option}
use Rattle.std.proofs.lemmas.Option.{slice_get-map}
use Rattle.irtext_base.specs.Faults.{id_of}
use Rattle.irtext_base.specs.Format.{Id}
use Rattle.irtext_base.specs.Text.{Text}
use Rattle.irtext_context.specs.Context.{ContextView, OperationView, BlockView, operation, block}
use Rattle.irtext_context.specs.declared.base.block.BlockData.{BlockData}
use Rattle.irtext_context.specs.declared.base.operation.OperationData.{OperationData}
use Rattle.irtext_context.proofs.Contexts.{BlockEntry}
use Rattle.irtext_graph.specs.declared.arena.Entry.{Entry}
use Rattle.irtext_graph.specs.declared.arena.Ptr.{Ptr}
use Rattle.irtext_graph.specs.declared.object.BasicBlock.{BasicBlock}
use Rattle.irtext_graph.specs.declared.object.Defined.TheVariants.{OfValue, OfBlock}
use Rattle.irtext_graph.specs.declared.object.Object.{Object}
use Rattle.irtext_graph.specs.declared.object.Object.TheVariants.{TheOperation, TheBlock, TheRegion}
use Rattle.irtext_graph.specs.declared.object.Operation.{Operation}
use Rattle.irtext_graph.specs.declared.object.Region.{Region}
use Rattle.irtext_graph.specs.declared.object.Site.TheVariants.{AtOperand, AtSuccessor}
use Rattle.irtext_graph.specs.declared.object.Value.{Value}
use Rattle.irtext_graph.specs.Content.{Typed, Node, Content, Content.{ABlock, ARegion}, BlockContent, RegionContent}
use Rattle.irtext_graph.specs.Erasing.{owner}
use Rattle.irtext_graph.specs.Graph.{IsInside, parent, children, content, ancestor, content_of}
use Rattle.irtext_graph.specs.Nested.{climb, Nested}
use Rattle.irtext_graph.specs.Parts.{regions, blocks, operations_in, operands, successors, value_at}
use Rattle.irtext_graph.specs.Store.{get}
use Rattle.irtext_graph.proofs.Inside.{within_self, within_up, within_on}
use Rattle.irtext_graph.proofs.Nests.{some_eq}
use Rattle.irtext_grammar.specs.Contexts.Nested.{operations_by, blocks_by, regions_by, number_of, place_of, seen_operation, seen_block, seen_operations, seen_blocks, seen_regions}
use Rattle.irtext_grammar.specs.Grammar.Forest as forest
use Rattle.irtext_grammar.specs.Grammar.Forest.{Regions, no_regions, region, Blocks, no_blocks, Operations, no_operations, AllRegions, AllBlocks, AllOperations}
use Rattle.irtext_grammar.specs.Graphs.Closed.{Thing, a_value, a_block, same_thing, spot, defined_arguments, FitRegions, FitBlocks, FitOperations, graph_blocks}
use Rattle.irtext_grammar.specs.Graphs.Graph.{GraphOp, GraphBlock, Printing}
use Rattle.irtext_grammar.specs.Graphs.Same.{resolved_op, resolved_regions, resolved_blocks, resolved_operations, OpFound}
use Rattle.irtext_grammar.specs.Names.Scopes.{Fact, facts, lookup}
use Rattle.irtext_grammar.specs.Names.Script.{Path, block_at, define_label}
use Rattle.irtext_closed.specs.Closing.{is_isolated, IsBarrier, Shares}
use Rattle.irtext_closed.specs.Closed.{isolated_data, IsClosedRoot}
use Rattle.pliron_text.proofs.Closing.Scripts.{Defines, values_of, labels_of, HasLabel, acts_keep, operations_keep, block_defined}
use Rattle.pliron_text.proofs.Forests.{PtrRegions, PtrBlocks, PtrOperations, first_blocks, more_regions, first_block, first_operations, more_blocks, first_operation, first_regions, more_operations}
use Rattle.pliron_text.proofs.Closing.Owned.{flag_is, block_live, iso, In, all_of, child_in, region_has}

both : (a b : Bool) → a ≡ true → b ≡ true → (a && b) ≡ true
both a b e f = rw (e, f) refl

module _ {T A : Type 0} (ctx : ContextView T A) where
  -- what a name of a kind is defined by
  abbrev pub DefinesValue : List (Fact Thing) → ℕ → Type 0
  DefinesValue v n = Defines values_of (λ f g. refl) (a_value n) v

  abbrev pub DefinesLabel : List (Fact Thing) → ℕ × ℕ → Type 0
  DefinesLabel l b = Defines labels_of (λ f g. refl) (a_block b) l

  -- the facts define each value of the object's isolated scope
  pub record Covers (v : List (Fact Thing)) (o : Object) : Type 0 where
    pub value : (x : Value) (t : Typed (Option T)) → value_at ctx.graph x ≡ Some t → Shares (isolated_data ctx.dialects) ctx.graph o (owner (OfValue x)) → DefinesValue v t.number

  -- the facts define each block of the region
  pub record CoversLabels (l : List (Fact Thing)) (r : Ptr Region) : Type 0 where
    pub label : (b : Ptr BasicBlock) → parent ctx.graph (TheBlock b) ≡ Some (TheRegion r) → DefinesLabel l (place_of ctx b)

  -- ---- what is no isolated region
  region_open : (r : Ptr Region) → is_isolated (isolated_data ctx.dialects) (content ctx.graph (TheRegion r)) ≡ true → ⊥
  region_open r e = go (get ctx.graph.regions r) e
    where
      a_region : ℕ × RegionContent → Content (Option (OperationData A)) (BlockData A) (Option T)
      a_region d = ARegion d.0 d.1

      go : (o : Option (Entry (Node Operation BasicBlock RegionContent))) → is_isolated (isolated_data ctx.dialects) (option_map a_region (content_of o)) ≡ true → ⊥
      go None h = cc
      go (Some x) h = cc

  block_open : (b : Ptr BasicBlock) → is_isolated (isolated_data ctx.dialects) (content ctx.graph (TheBlock b)) ≡ true → ⊥
  block_open b e = go (get ctx.graph.blocks b) e
    where
      a_block_of : ℕ × BlockContent (BlockData A) (Option T) → Content (Option (OperationData A)) (BlockData A) (Option T)
      a_block_of d = ABlock d.0 d.1

      go : (o : Option (BlockEntry T A)) → is_isolated (isolated_data ctx.dialects) (option_map a_block_of (content_of o)) ≡ true → ⊥
      go None h = cc
      go (Some x) h = cc

  -- the children of what is not isolated are no isolated regions
  not_isolated : (k c : Object) → parent ctx.graph c ≡ Some k → (is_isolated (isolated_data ctx.dialects) (content ctx.graph k) ≡ true → ⊥) → IsBarrier (isolated_data ctx.dialects) ctx.graph c → ⊥
  not_isolated k c up opens b = opens (subst (λ z. is_isolated (isolated_data ctx.dialects) (content ctx.graph z) ≡ true) (some_eq (sym b.held ∙ up)) b.closes)

  -- what is around an object and is not the object is around its parent
  around_parent : (k c r : Object) → parent ctx.graph c ≡ Some k → (c ≡ r → ⊥) → IsInside ctx.graph r c → IsInside ctx.graph r k
  around_parent k c r up other w = go w.0 w.1
    where
      go : (n : ℕ) → climb (parent ctx.graph) n (Some c) ≡ Some r → IsInside ctx.graph r k
      go zero e = absurd (other (some_eq e))
      go (suc n) e = (n, ap (climb (parent ctx.graph) n) (sym up) ∙ e)

  -- a child that is no isolated region has the scope of its parent
  covers_child : (v : List (Fact Thing)) (k c : Object) → parent ctx.graph c ≡ Some k → (IsBarrier (isolated_data ctx.dialects) ctx.graph c → ⊥) → Covers v k → Covers v c
  covers_child v k c up open_ cover = record {
    value = λ x t at shares. cover.value x t at (λ r b. (
      (λ w. (shares r b).0 (within_up (parent ctx.graph) r c k up w)),
      (λ w. around_parent k c r up (λ same. open_ (subst (IsBarrier (isolated_data ctx.dialects) ctx.graph) (sym same) b)) ((shares r b).1 w)),
    ));
  }

  -- ---- uses
  -- each of these operands has a definition
  operands_found : (v : List (Fact Thing)) (vs : List Value) → ((i : ℕ) (x : Value) → slice_get vs i ≡ Some x → (t : Typed (Option T)) → value_at ctx.graph x ≡ Some t → DefinesValue v t.number)
      → list_all is_some (map (λ n. lookup same_thing (a_value n) v) (filter_map (number_of ctx) vs)) ≡ true
  operands_found v [] h = refl
  operands_found v (x ∷ vs) h = go (value_at ctx.graph x) (h 0 x refl) (operands_found v vs (λ i. h (suc i)))
    where
      go : (o : Option (Typed (Option T))) → ((t : Typed (Option T)) → o ≡ Some t → DefinesValue v t.number) → list_all is_some (map (λ n. lookup same_thing (a_value n) v) (filter_map (number_of ctx) vs)) ≡ true
          → list_all is_some (map (λ n. lookup same_thing (a_value n) v) (cons_option (option_map (λ (t : Typed (Option T)). t.number) o) (filter_map (number_of ctx) vs))) ≡ true
      go None found rest = rest
      go (Some t) found rest = both (is_some (lookup same_thing (a_value t.number) v)) _ (found t refl) rest

  -- each of these successors has one
  successors_found : (l : List (Fact Thing)) (bs : List (Ptr BasicBlock)) → ((i : ℕ) (b : Ptr BasicBlock) → slice_get bs i ≡ Some b → DefinesLabel l (place_of ctx b))
      → list_all is_some (map (λ b. lookup same_thing (a_block b) l) (map (place_of ctx) bs)) ≡ true
  successors_found l [] h = refl
  successors_found l (b ∷ bs) h = both (is_some (lookup same_thing (a_block (place_of ctx b)) l)) _ (h 0 b refl) (successors_found l bs (λ i. h (suc i)))

  module _ (text_of : A → Text) (C : Printing T A) (root : Ptr Operation) (nested : Nested (children ctx.graph) (parent ctx.graph)) (shut : IsClosedRoot ctx root) where
    abbrev flags : Id → Bool
    flags = iso ctx text_of C root nested shut

    abbrev Inner : Object → Type 0
    Inner = In ctx text_of C root nested shut

    abbrev inside_of : Ptr Operation → PtrRegions
    inside_of = all_of ctx text_of C root nested shut

    -- an operation has a definition of each use
    op_found : (v l : List (Fact Thing)) (p : Ptr Operation) (view : OperationView T A) (r : Ptr Region) → ancestor ctx.graph 2 (TheOperation p) ≡ Some (TheRegion r) → Inner (TheOperation p) → Covers v (TheOperation p) → CoversLabels l r → OpFound (resolved_op C flags v l (seen_operation text_of ctx p view))
    op_found v l p view r up w values labels = (
      operands_found v (operands ctx.graph p) (λ i x e t at. values.value x t at (shut.contained.uses (AtOperand p i) w (OfValue x) (ap (option_map OfValue) e))),
      successors_found l (successors ctx.graph p) (λ i b e. labels.label b (shut.contained.uses (AtSuccessor p i) w (OfBlock b) (ap (option_map OfBlock) e) ∙ up)),
    )

    -- ---- labels
    this_label : (b : Ptr BasicBlock) (os : Operations (GraphOp T A) (GraphBlock T A) ⊤) (bs : Blocks (GraphOp T A) (GraphBlock T A) ⊤) (path : Path) (j : ℕ) (o : Option (BlockView T A)) → IsSome o → HasLabel (place_of ctx b) (graph_blocks C flags path j (elim o [ Some view ↦ forest.block (seen_block text_of ctx b view) os bs | None ↦ bs ]))
    this_label b os bs path j None live = absurd (cc)
    this_label b os bs path j (Some view) live = acts_keep labels_of (λ f g. refl) (a_block (place_of ctx b)) (defined_arguments (j ∷ path) 0 (seen_block text_of ctx b view).arguments) (block_defined (place_of ctx b) (block_at (j ∷ path)) _)

    later_label : (b : Ptr BasicBlock) (os : Operations (GraphOp T A) (GraphBlock T A) ⊤) (bs : Blocks (GraphOp T A) (GraphBlock T A) ⊤) (at : ℕ × ℕ) (path : Path) (j : ℕ) (o : Option (BlockView T A)) → ((k : ℕ) → HasLabel at (graph_blocks C flags path k bs)) → HasLabel at (graph_blocks C flags path j (elim o [ Some view ↦ forest.block (seen_block text_of ctx b view) os bs | None ↦ bs ]))
    later_label b os bs at path j None h = h j
    later_label b os bs at path j (Some view) h =
        acts_keep labels_of (λ f g. refl) (a_block at) (defined_arguments (j ∷ path) 0 (seen_block text_of ctx b view).arguments)
        (acts_keep labels_of (λ f g. refl) (a_block at) (define_label (spot (a_block (seen_block text_of ctx b view).place)) (block_at (j ∷ path)) ∷ [])
        (operations_keep labels_of (λ f g. refl) (a_block at) C flags (j ∷ path) 0 os (h (suc j))))

    labels_have : (f : PtrBlocks) (bs : List (Ptr BasicBlock)) → f ≡ blocks_by ctx.graph inside_of bs → (path : Path) (j : ℕ) (i : ℕ) (b : Ptr BasicBlock) → slice_get bs i ≡ Some b → IsSome (block ctx b) → HasLabel (place_of ctx b) (graph_blocks C flags path j (seen_blocks text_of ctx f))
    labels_have no_blocks [] is path j i b e live = absurd (cc)
    labels_have no_blocks (d ∷ bs) is path j i b e live = absurd (cc)
    labels_have (forest.block c os more) [] is path j i b e live = absurd (cc)
    labels_have (forest.block c os more) (d ∷ bs) is path j zero b e live =
        let same : c ≡ b = ap (first_block c) is ∙ some_eq e in
        subst (λ z. HasLabel (place_of ctx z) (graph_blocks C flags path j (seen_blocks text_of ctx (forest.block c os more)))) same (this_label c (seen_operations text_of ctx os) (seen_blocks text_of ctx more) path j (block ctx c) (subst (λ z. IsSome (block ctx z)) (sym same) live))
    labels_have (forest.block c os more) (d ∷ bs) is path j (suc i) b e live =
        later_label c (seen_operations text_of ctx os) (seen_blocks text_of ctx more) (place_of ctx b) path j (block ctx c) (λ k. labels_have more bs (ap more_blocks is) path k i b e live)

    -- ---- one more block or operation
    found_block : (b : Ptr BasicBlock) (os : Operations (GraphOp T A) (GraphBlock T A) ⊤) (bs : Blocks (GraphOp T A) (GraphBlock T A) ⊤) (v l : List (Fact Thing)) (path : Path) (k : ℕ) (o : Option (BlockView T A)) → FitBlocks C flags (elim o [ Some view ↦ forest.block (seen_block text_of ctx b view) os bs | None ↦ bs ])
        → (FitOperations C flags os → AllOperations OpFound (λ h. ⊤) (λ r. ⊤) (resolved_operations C flags v l (k ∷ path) 0 os))
        → (FitBlocks C flags bs → (j : ℕ) → AllBlocks OpFound (λ h. ⊤) (λ r. ⊤) (resolved_blocks C flags v l path j bs))
        → AllBlocks OpFound (λ h. ⊤) (λ r. ⊤) (resolved_blocks C flags v l path k (elim o [ Some view ↦ forest.block (seen_block text_of ctx b view) os bs | None ↦ bs ]))
    found_block b os bs v l path k None fit inner rest = rest fit k
    found_block b os bs v l path k (Some view) fit inner rest = (tt, inner fit.0, rest fit.1 (suc k))

    found_operation : (p : Ptr Operation) (rs : Regions (GraphOp T A) (GraphBlock T A) ⊤) (os : Operations (GraphOp T A) (GraphBlock T A) ⊤) (v l : List (Fact Thing)) (path : Path) (i : ℕ) (o : Option (OperationView T A)) → operation ctx p ≡ o → FitOperations C flags (elim o [ Some view ↦ forest.operation (seen_operation text_of ctx p view) rs os | None ↦ os ])
        → ((view : OperationView T A) → OpFound (resolved_op C flags v l (seen_operation text_of ctx p view)))
        → ((view : OperationView T A) → operation ctx p ≡ Some view → FitRegions C flags rs → AllRegions OpFound (λ h. ⊤) (λ r. ⊤) (resolved_regions C flags v (i ∷ path) 0 (flags (id_of view.id)) rs))
        → (FitOperations C flags os → (k : ℕ) → AllOperations OpFound (λ h. ⊤) (λ r. ⊤) (resolved_operations C flags v l path k os))
        → AllOperations OpFound (λ h. ⊤) (λ r. ⊤) (resolved_operations C flags v l path i (elim o [ Some view ↦ forest.operation (seen_operation text_of ctx p view) rs os | None ↦ os ]))
    found_operation p rs os v l path i None is fit own inner rest = rest fit i
    found_operation p rs os v l path i (Some view) is fit own inner rest = (own view, inner view is fit.1, rest fit.2 (suc i))

    module _ (whole : (p : Ptr Operation) → inside_of p ≡ regions_by ctx.graph inside_of (regions ctx.graph p)) where
      -- the facts of an isolated region define each value whose isolated scope it is
      covers_region : (f : PtrBlocks) (r : Ptr Region) → f ≡ blocks_by ctx.graph inside_of (blocks ctx.graph r) → (path : Path) → FitBlocks C flags (seen_blocks text_of ctx f) → Inner (TheRegion r) → IsBarrier (isolated_data ctx.dialects) ctx.graph (TheRegion r)
          → Covers (facts same_thing (graph_blocks C flags path 0 (seen_blocks text_of ctx f))).values (TheRegion r)
      covers_region f r is path fit w b = record {
        value = λ x t at shares.
            let around = (shares (TheRegion r) b).0 (within_self (parent ctx.graph) (TheRegion r)) in
            (region_has ctx text_of C root nested shut x t at whole f r is path fit (record { around = around; near = λ s c i. (shares s c).1 i }) w (shut.typed x (within_on (parent ctx.graph) (TheOperation root) (TheRegion r) (owner (OfValue x)) w around) t at)).found;
      }

      -- those of a region of an operation do, with the facts around it
      covers_inside : (p : Ptr Operation) (r : Ptr Region) (b : Bool) → is_isolated (isolated_data ctx.dialects) (content ctx.graph (TheOperation p)) ≡ b → parent ctx.graph (TheRegion r) ≡ Some (TheOperation p) → (v : List (Fact Thing)) → (b ≡ false → Covers v (TheOperation p))
          → (f : PtrBlocks) → f ≡ blocks_by ctx.graph inside_of (blocks ctx.graph r) → (path : Path) → FitBlocks C flags (seen_blocks text_of ctx f) → Inner (TheRegion r)
          → Covers (cond b (facts same_thing (graph_blocks C flags path 0 (seen_blocks text_of ctx f))).values v) (TheRegion r)
      covers_inside p r true closes up v cover f is path fit w = covers_region f r is path fit w (record { holder = TheOperation p; held = up; closes = closes })
      covers_inside p r false opens up v cover f is path fit w = covers_child v (TheOperation p) (TheRegion r) up (not_isolated (TheOperation p) (TheRegion r) up (λ closes. let e : false ≡ true = sym opens ∙ closes in cc)) (cover refl)

      covers_labels : (f : PtrBlocks) (r : Ptr Region) → f ≡ blocks_by ctx.graph inside_of (blocks ctx.graph r) → (path : Path) → CoversLabels (facts same_thing (graph_blocks C flags path 0 (seen_blocks text_of ctx f))).labels r
      covers_labels f r is path = record {
        label = λ b up.
            let listed = nested.listed (TheBlock b) (TheRegion r) up in
            (labels_have f (blocks ctx.graph r) is path 0 listed.0 b (unmapped (blocks ctx.graph r) listed.0 b listed.1) (block_live ctx b (TheRegion r) up)).found;
      }
        where
          unmapped : (bs : List (Ptr BasicBlock)) (i : ℕ) (b : Ptr BasicBlock) → slice_get (map TheBlock bs) i ≡ Some (TheBlock b) → slice_get bs i ≡ Some b
          unmapped bs i b e = block_of_some (slice_get bs i) b (sym (slice_get-map TheBlock bs i) ∙ e)
            where
              block_of_some : (o : Option (Ptr BasicBlock)) (b : Ptr BasicBlock) → option_map TheBlock o ≡ Some (TheBlock b) → o ≡ Some b
              block_of_some None b e = absurd (cc)
              block_of_some (Some c) b e = cc

      mutual
        pub found_regions : (f : PtrRegions) (rs : List (Ptr Region)) → f ≡ regions_by ctx.graph inside_of rs → (p : Ptr Operation) → ((m : ℕ) (r : Ptr Region) → slice_get rs m ≡ Some r → parent ctx.graph (TheRegion r) ≡ Some (TheOperation p)) → Inner (TheOperation p)
            → (b : Bool) → is_isolated (isolated_data ctx.dialects) (content ctx.graph (TheOperation p)) ≡ b → (v : List (Fact Thing)) → ((r : Ptr Region) → parent ctx.graph (TheRegion r) ≡ Some (TheOperation p) → b ≡ false → Covers v (TheOperation p)) → (path : Path) (j : ℕ) → FitRegions C flags (seen_regions text_of ctx f)
            → AllRegions OpFound (λ h. ⊤) (λ r. ⊤) (resolved_regions C flags v path j b (seen_regions text_of ctx f))
        found_regions no_regions rs is p over w b e v cover path j fit = tt
        found_regions (region q bs more) [] is p over w b e v cover path j fit = absurd (cc)
        found_regions (region q bs more) (s ∷ rs) is p over w b e v cover path j fit =
            let up = over 0 s refl in
            let inside = child_in ctx text_of C root nested shut (TheOperation p) (TheRegion s) up w in
            let body = ap first_blocks is in (
              tt,
              found_blocks bs (blocks ctx.graph s) body s (λ i c at. nested.down (TheRegion s) i (TheBlock c) (slice_get-map TheBlock (blocks ctx.graph s) i ∙ ap (option_map TheBlock) at)) inside
                  (cond b (facts same_thing (graph_blocks C flags (j ∷ path) 0 (seen_blocks text_of ctx bs))).values v) (covers_inside p s b e up v (cover s up) bs body (j ∷ path) fit.0 inside)
                  (facts same_thing (graph_blocks C flags (j ∷ path) 0 (seen_blocks text_of ctx bs))).labels (covers_labels bs s body (j ∷ path)) (j ∷ path) 0 fit.0,
              found_regions more rs (ap more_regions is) p (λ m. over (suc m)) w b e v cover path (suc j) fit.1,
            )

        found_blocks : (f : PtrBlocks) (bs : List (Ptr BasicBlock)) → f ≡ blocks_by ctx.graph inside_of bs → (r : Ptr Region) → ((i : ℕ) (b : Ptr BasicBlock) → slice_get bs i ≡ Some b → parent ctx.graph (TheBlock b) ≡ Some (TheRegion r)) → Inner (TheRegion r)
            → (v : List (Fact Thing)) → Covers v (TheRegion r) → (l : List (Fact Thing)) → CoversLabels l r → (path : Path) (k : ℕ) → FitBlocks C flags (seen_blocks text_of ctx f) → AllBlocks OpFound (λ h. ⊤) (λ r. ⊤) (resolved_blocks C flags v l path k (seen_blocks text_of ctx f))
        found_blocks no_blocks bs is r over w v values l labels path k fit = tt
        found_blocks (forest.block c os more) [] is r over w v values l labels path k fit = absurd (cc)
        found_blocks (forest.block c os more) (d ∷ bs) is r over w v values l labels path k fit =
            let same : d ≡ c = sym (ap (first_block c) is) in
            let up : parent ctx.graph (TheBlock c) ≡ Some (TheRegion r) = subst (λ z. parent ctx.graph (TheBlock z) ≡ Some (TheRegion r)) same (over 0 d refl) in
            found_block c (seen_operations text_of ctx os) (seen_blocks text_of ctx more) v l path k (block ctx c) fit
            (λ fits. found_operations os (operations_in ctx.graph c) (ap first_operations is ∙ ap (λ z. operations_by ctx.graph inside_of (operations_in ctx.graph z)) same) c r up
            (λ i p at. nested.down (TheBlock c) i (TheOperation p) (slice_get-map TheOperation (operations_in ctx.graph c) i ∙ ap (option_map TheOperation) at)) (child_in ctx text_of C root nested shut (TheRegion r) (TheBlock c) up w)
            v (covers_child v (TheRegion r) (TheBlock c) up (not_isolated (TheRegion r) (TheBlock c) up (region_open r)) values) l labels (k ∷ path) 0 fits)
            (λ fits j. found_blocks more bs (ap more_blocks is) r (λ i. over (suc i)) w v values l labels path j fits)

        found_operations : (f : PtrOperations) (ps : List (Ptr Operation)) → f ≡ operations_by ctx.graph inside_of ps → (b : Ptr BasicBlock) (r : Ptr Region) → parent ctx.graph (TheBlock b) ≡ Some (TheRegion r) → ((i : ℕ) (p : Ptr Operation) → slice_get ps i ≡ Some p → parent ctx.graph (TheOperation p) ≡ Some (TheBlock b)) → Inner (TheBlock b)
            → (v : List (Fact Thing)) → Covers v (TheBlock b) → (l : List (Fact Thing)) → CoversLabels l r → (path : Path) (i : ℕ) → FitOperations C flags (seen_operations text_of ctx f) → AllOperations OpFound (λ h. ⊤) (λ r. ⊤) (resolved_operations C flags v l path i (seen_operations text_of ctx f))
        found_operations no_operations ps is b r top over w v values l labels path i fit = tt
        found_operations (forest.operation q rs more) [] is b r top over w v values l labels path i fit = absurd (cc)
        found_operations (forest.operation q rs more) (d ∷ ps) is b r top over w v values l labels path i fit =
            let same : d ≡ q = sym (ap (first_operation q) is) in
            let up : parent ctx.graph (TheOperation q) ≡ Some (TheBlock b) = subst (λ z. parent ctx.graph (TheOperation z) ≡ Some (TheBlock b)) same (over 0 d refl) in
            let inside = child_in ctx text_of C root nested shut (TheBlock b) (TheOperation q) up w in
            let cover = covers_child v (TheBlock b) (TheOperation q) up (not_isolated (TheBlock b) (TheOperation q) up (block_open b)) values in
            found_operation q (seen_regions text_of ctx rs) (seen_operations text_of ctx more) v l path i (operation ctx q) refl fit
            (λ view. op_found v l q view r (ap (climb (parent ctx.graph) 1) up ∙ top) inside cover labels)
            (λ view there fits. found_regions rs (regions ctx.graph q) (ap first_regions is ∙ ap inside_of same ∙ whole q) q
            (λ m s at. nested.down (TheOperation q) m (TheRegion s) (slice_get-map TheRegion (regions ctx.graph q) m ∙ ap (option_map TheRegion) at)) inside
            (flags (id_of view.id)) (flag_is ctx q view there) v (λ s on none. cover) (i ∷ path) 0 fits)
            (λ fits k. found_operations more ps (ap more_operations is) b r top (λ m. over (suc m)) w v values l labels path k fits)
