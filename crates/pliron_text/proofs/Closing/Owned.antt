-- What the facts of a region have: each value whose owner is nested in it, with no isolated region between.
use Rattle.std.proofs.Common.{◌≡◌, ◌∙◌, ◌+◌, ◌⊎◌, inl, inr, ℕ, zero, suc, Bool, true, false, List, [], ◌∷◌, map, slice_get, length, Option, Some, None, option_map, IsSome, filter_map, refl, sym, ap, subst, arith}
use Rattle.std.specs.Prelude.{⊤, option_and_then}
use Rattle.irtext_base.specs.Faults.{id_of}
use Rattle.irtext_base.specs.Text.{Text}
use Rattle.irtext_context.specs.Context.{ContextView, OperationView, BlockView, operation, operation_of, view_of, block, block_of}
use Rattle.irtext_graph.specs.declared.arena.Ptr.{Ptr}
use Rattle.irtext_graph.specs.declared.object.BasicBlock.{BasicBlock}
use Rattle.irtext_graph.specs.declared.object.Defined.TheVariants.{OfValue}
use Rattle.irtext_graph.specs.declared.object.Object.{Object}
use Rattle.irtext_graph.specs.declared.object.Object.TheVariants.{TheOperation, TheBlock, TheRegion}
use Rattle.irtext_graph.specs.declared.object.Operation.{Operation}
use Rattle.irtext_graph.specs.declared.object.Region.{Region}
use Rattle.irtext_graph.specs.declared.object.Value.{Value}
use Rattle.irtext_graph.specs.declared.object.Value.TheVariants.{Result, Argument}
use Rattle.irtext_graph.specs.Content.{Typed, Content, Content.{AnOperation}, OperationContent}
use Rattle.irtext_graph.specs.Erasing.{owner}
use Rattle.irtext_graph.specs.Graph.{IsInside, parent, children, content, content_of, parent_of}
use Rattle.irtext_graph.specs.Nested.{climb, Within, Nested}
use Rattle.irtext_graph.specs.Parts.{regions, blocks, operations_in, results, arguments, value_at}
use Rattle.irtext_graph.proofs.Nests.{seen, some_eq, climb-add}
use Rattle.irtext_grammar.specs.Contexts.Formats.{isolated}
use Rattle.irtext_grammar.specs.Contexts.Nested.{within, operations_by, blocks_by, regions_by, typed_number, seen_operation, seen_block, seen_operations, seen_blocks, seen_regions}
use Rattle.irtext_grammar.specs.Grammar.Forest as forest
use Rattle.irtext_grammar.specs.Grammar.Forest.{Regions, no_regions, region, Blocks, no_blocks, Operations, no_operations, regions_list}
use Rattle.irtext_closed.specs.Closing.{is_isolated, IsBarrier}
use Rattle.irtext_closed.specs.Closed.{isolated_data, IsClosedRoot}
use Rattle.irtext_base.specs.Format as format
use Rattle.irtext_base.specs.Format.{Format, Id}
use Rattle.irtext_context.specs.declared.base.block.BlockData.{BlockData}
use Rattle.irtext_context.specs.declared.base.operation.OperationData.{OperationData}
use Rattle.irtext_context.proofs.Contexts.{OperationEntry, BlockEntry}
use Rattle.irtext_graph.specs.Store.{get}
use Rattle.irtext_graph.proofs.Inside.{within_up}
use Rattle.irtext_graph.proofs.Rank.{no_cycle}
use Rattle.irtext_grammar.specs.Graphs.Closed.{Thing, a_value, spot, defined_results, defined_arguments, FitsFormat, FitRegions, FitBlocks, FitOperations, graph_regions, graph_blocks, graph_operations}
use Rattle.irtext_grammar.specs.Graphs.Closed as closed
use Rattle.irtext_grammar.specs.Graphs.Graph.{GraphOp, GraphBlock, Printing}
use Rattle.irtext_grammar.specs.Names.Script.{Path, block_at, define_label, Script, does, does_all}
use Rattle.pliron_text.proofs.Forests.{PtrRegions, PtrBlocks, PtrOperations, first_blocks, more_regions, first_block, first_operations, more_blocks, first_operation, first_regions, more_operations}
use Rattle.pliron_text.proofs.Closing.Scripts.{SomeGives, PrintsAll, values_of, HasValue, within_gives, acts_keep, body_keeps, body_gives, regions_keep, operation_keeps, operations_keep, results_give, arguments_give}

-- ---- ways up
-- a way up from x to k ends with a child of k, if it has a step
pub below : {O : Type 0} (up : O → Option O) (k x : O) → Within up k x → (x ≡ k) ⊎ ((c : O) × (up c ≡ Some k) × Within up c x)
below up k x w = go w.0 w.1
  where
    last : (n : ℕ) → climb up (suc n) (Some x) ≡ climb up 1 (climb up n (Some x))
    last n = let z : suc n ≡ n + 1 = omega arith in ap (λ (m : ℕ). climb up m (Some x)) z ∙ climb-add up n 1 (Some x)

    go : (n : ℕ) → climb up n (Some x) ≡ Some k → (x ≡ k) ⊎ ((c : _) × (up c ≡ Some k) × Within up c x)
    go zero e = inl (some_eq e)
    go (suc n) e = elim (seen (climb up n (Some x))) [
      | inl none ↦ absurd (let f : climb up 1 (climb up n (Some x)) ≡ climb up 1 None = ap (climb up 1) none in let l = last n in cc)
      | inr (c, f) ↦ inr (c, sym (ap (climb up 1) f) ∙ sym (last n) ∙ e, (n, f))
    ]

-- an element of a mapped list is the image of one
mapped_is : {X Y : Type 0} (f : X → Y) (xs : List X) (i : ℕ) (y : Y) → slice_get (map f xs) i ≡ Some y → (x : X) × (f x ≡ y) × (slice_get xs i ≡ Some x)
mapped_is f [] i y e = absurd (cc)
mapped_is f (x ∷ xs) zero y e = (x, some_eq e, refl)
mapped_is f (x ∷ xs) (suc i) y e = mapped_is f xs i y e

pub some_of : {X : Type 0} (o : Option X) → IsSome o → (x : X) × (o ≡ Some x)
some_of None h = absurd (cc)
some_of (Some x) h = (x, refl)

-- as many parts as regions
pub regions_count : {T A : Type 0} (C : Printing T A) (iso : Id → Bool) (p : Path) (j : ℕ) (b : Bool) (rs : Regions (GraphOp T A) (GraphBlock T A) ⊤) → length (graph_regions C iso p j b rs) ≡ length (regions_list rs)
regions_count C iso p j b no_regions = refl
regions_count C iso p j b (region r bs rs) = ap suc (regions_count C iso p (suc j) b rs)

-- an operation that fits its format prints all its regions
prints_all : {T A : Type 0} (C : Printing T A) (iso : Id → Bool) (f : Option Format) (o : GraphOp T A) (n m : ℕ) → m ≡ n → FitsFormat C iso f o n → PrintsAll C iso f m
prints_all C iso None o n m e fit = absurd fit
prints_all C iso (Some format.canonical) o n m e fit = tt
prints_all C iso (Some (format.custom ds)) o n m e fit = subst (λ k. PrintsAll C iso (Some (format.custom ds)) k) (sym e) fit.1.regions

module _ {T A : Type 0} (ctx : ContextView T A) where
  -- a region of a real operation is a barrier exactly if the operation's id is isolated
  pub flag_is : (p : Ptr Operation) (view : OperationView T A) → operation ctx p ≡ Some view → is_isolated (isolated_data ctx.dialects) (content ctx.graph (TheOperation p)) ≡ isolated ctx.dialects (id_of view.id)
  flag_is p view e = go (get ctx.graph.operations p) e
    where
      held : (d : Option (OperationData A)) (rs : List (Typed (Option T))) (regs : List (Ptr Region)) → option_map (view_of rs regs) d ≡ Some view → isolated_data ctx.dialects d ≡ isolated ctx.dialects (id_of view.id)
      held None rs regs e = absurd (cc)
      held (Some d) rs regs e = ap (λ (v : OperationView T A). isolated ctx.dialects (id_of v.id)) (some_eq e)

      an_operation : ℕ × OperationContent (Option (OperationData A)) (Option T) → Content (Option (OperationData A)) (BlockData A) (Option T)
      an_operation d = AnOperation d.0 d.1

      go : (o : Option (OperationEntry T A)) → option_and_then operation_of o ≡ Some view → is_isolated (isolated_data ctx.dialects) (option_map an_operation (content_of o)) ≡ isolated ctx.dialects (id_of view.id)
      go None e = absurd (cc)
      go (Some x) e = held x.content.content.data_of x.content.content.results x.content.children e

  -- a block that has a parent is live
  pub block_live : (b : Ptr BasicBlock) (k : Object) → parent ctx.graph (TheBlock b) ≡ Some k → IsSome (block ctx b)
  block_live b k e = go (get ctx.graph.blocks b) e
    where
      go : (o : Option (BlockEntry T A)) → option_map TheRegion (parent_of o) ≡ Some k → IsSome (option_map (block_of {T = T} {A = A}) o)
      go None e = absurd (cc)
      go (Some x) e = refl

  operation_eq : (p q : Ptr Operation) → TheOperation p ≡ TheOperation q → p ≡ q
  operation_eq p q e = cc

  block_eq : (p q : Ptr BasicBlock) → TheBlock p ≡ TheBlock q → p ≡ q
  block_eq p q e = cc

  -- a result of an operation is among what it defines
  own_result : (v : Value) (t : Typed (Option T)) → value_at ctx.graph v ≡ Some t → IsSome t.of_type → (p : Ptr Operation) → owner (OfValue v) ≡ TheOperation p → (path : Path) (s : Script Thing ⊤) → HasValue t.number (does_all (defined_results path 0 (filter_map typed_number (results ctx.graph p))) s)
  own_result (Result q i) t at known p is path s = results_give path 0 (results ctx.graph p) i t (subst (λ z. slice_get (results ctx.graph z) i ≡ Some t) (operation_eq q p is) at) known s
  own_result (Argument b i) t at known p is path s = absurd (cc)

  -- an argument of a block is
  own_argument : (v : Value) (t : Typed (Option T)) → value_at ctx.graph v ≡ Some t → IsSome t.of_type → (b : Ptr BasicBlock) → owner (OfValue v) ≡ TheBlock b → (path : Path) (s : Script Thing ⊤) → HasValue t.number (does_all (defined_arguments path 0 (filter_map typed_number (arguments ctx.graph b))) s)
  own_argument (Result q i) t at known b is path s = absurd (cc)
  own_argument (Argument c i) t at known b is path s = arguments_give path 0 (arguments ctx.graph b) i t (subst (λ z. slice_get (arguments ctx.graph z) i ≡ Some t) (block_eq c b is) at) known s

  not_a_region : (v : Value) (r : Ptr Region) → owner (OfValue v) ≡ TheRegion r → ⊥
  not_a_region (Result q i) r e = cc
  not_a_region (Argument b i) r e = cc

  module _ (text_of : A → Text) (C : Printing T A) (root : Ptr Operation) (nested : Nested (children ctx.graph) (parent ctx.graph)) (shut : IsClosedRoot ctx root) where
    abbrev pub iso : Id → Bool
    iso = isolated ctx.dialects

    abbrev pub Barrier : Object → Type 0
    Barrier = IsBarrier (isolated_data ctx.dialects) ctx.graph

    abbrev pub In : Object → Type 0
    In q = IsInside ctx.graph (TheOperation root) q

    abbrev pub all_of : Ptr Operation → PtrRegions
    all_of p = within ctx.graph (suc (length ctx.graph.operations.cells)) p

    pub child_in : (k c : Object) → parent ctx.graph c ≡ Some k → In k → In c
    child_in k c up w = within_up (parent ctx.graph) (TheOperation root) c k up w

    module _ (v : Value) (t : Typed (Option T)) (at : value_at ctx.graph v ≡ Some t) where
      abbrev Has : Script Thing ⊤ → Type 0
      Has s = HasValue t.number s

      -- k is around the value, with no isolated region between
      pub record Under (k : Object) : Type 0 where
        pub around : IsInside ctx.graph k (owner (OfValue v))
        pub near : (s : Object) → Barrier s → IsInside ctx.graph s (owner (OfValue v)) → IsInside ctx.graph s k

      under_child : (k c : Object) → parent ctx.graph c ≡ Some k → Under k → IsInside ctx.graph c (owner (OfValue v)) → Under c
      under_child k c up u w = record { around = w; near = λ s b i. within_up (parent ctx.graph) s c k up (u.near s b i) }

      no_barrier : (k c : Object) → parent ctx.graph c ≡ Some k → Under k → IsInside ctx.graph c (owner (OfValue v)) → Barrier c → ⊥
      no_barrier k c up u w b =
          let n = u.near c b w in
          let ends = nested.ends c in
          no_cycle (parent ctx.graph) c n.0 (ap (climb (parent ctx.graph) n.0) up ∙ n.1) ends.0 ends.0 (omega arith) ends.1

      -- the block of a region that is around the value
      in_region : (r : Ptr Region) → Under (TheRegion r) → In (TheRegion r) → {X : Type 0} → ((i : ℕ) (b : Ptr BasicBlock) → slice_get (blocks ctx.graph r) i ≡ Some b → IsSome (block ctx b) → Under (TheBlock b) → In (TheBlock b) → X) → X
      in_region r u w {X} found = elim (below (parent ctx.graph) (TheRegion r) (owner (OfValue v)) u.around) [
        | inl same ↦ absurd (not_a_region v r same)
        | inr (c, up, inner) ↦ go c up inner
      ]
        where
          go : (c : Object) → parent ctx.graph c ≡ Some (TheRegion r) → IsInside ctx.graph c (owner (OfValue v)) → X
          go c up inner =
              let listed = nested.listed c (TheRegion r) up in
              let b = mapped_is TheBlock (blocks ctx.graph r) listed.0 c listed.1 in
              let over : parent ctx.graph (TheBlock b.0) ≡ Some (TheRegion r) = subst (λ z. parent ctx.graph z ≡ Some (TheRegion r)) (sym b.1) up in
              found listed.0 b.0 b.2 (block_live b.0 (TheRegion r) over) (under_child (TheRegion r) (TheBlock b.0) over u (subst (λ z. IsInside ctx.graph z (owner (OfValue v))) (sym b.1) inner)) (child_in (TheRegion r) (TheBlock b.0) over w)

      -- a block defines the value, or the operation of it that is around the value does
      in_block : (b : Ptr BasicBlock) → Under (TheBlock b) → In (TheBlock b) → {X : Type 0} → (owner (OfValue v) ≡ TheBlock b → X) → ((i : ℕ) (p : Ptr Operation) → slice_get (operations_in ctx.graph b) i ≡ Some p → Under (TheOperation p) → In (TheOperation p) → X) → X
      in_block b u w {X} own found = elim (below (parent ctx.graph) (TheBlock b) (owner (OfValue v)) u.around) [
        | inl same ↦ own same
        | inr (c, up, inner) ↦ go c up inner
      ]
        where
          go : (c : Object) → parent ctx.graph c ≡ Some (TheBlock b) → IsInside ctx.graph c (owner (OfValue v)) → X
          go c up inner =
              let listed = nested.listed c (TheBlock b) up in
              let p = mapped_is TheOperation (operations_in ctx.graph b) listed.0 c listed.1 in
              let over : parent ctx.graph (TheOperation p.0) ≡ Some (TheBlock b) = subst (λ z. parent ctx.graph z ≡ Some (TheBlock b)) (sym p.1) up in
              found listed.0 p.0 p.2 (under_child (TheBlock b) (TheOperation p.0) over u (subst (λ z. IsInside ctx.graph z (owner (OfValue v))) (sym p.1) inner)) (child_in (TheBlock b) (TheOperation p.0) over w)

      -- an operation defines the value, or one of its regions does, which is then not isolated
      in_operation : (p : Ptr Operation) → Under (TheOperation p) → In (TheOperation p) → {X : Type 0} → (owner (OfValue v) ≡ TheOperation p → X) → ((i : ℕ) (r : Ptr Region) → slice_get (regions ctx.graph p) i ≡ Some r → Under (TheRegion r) → In (TheRegion r) → (is_isolated (isolated_data ctx.dialects) (content ctx.graph (TheOperation p)) ≡ true → ⊥) → X) → X
      in_operation p u w {X} own found = elim (below (parent ctx.graph) (TheOperation p) (owner (OfValue v)) u.around) [
        | inl same ↦ own same
        | inr (c, up, inner) ↦ go c up inner
      ]
        where
          go : (c : Object) → parent ctx.graph c ≡ Some (TheOperation p) → IsInside ctx.graph c (owner (OfValue v)) → X
          go c up inner =
              let listed = nested.listed c (TheOperation p) up in
              let r = mapped_is TheRegion (regions ctx.graph p) listed.0 c listed.1 in
              let over : parent ctx.graph (TheRegion r.0) ≡ Some (TheOperation p) = subst (λ z. parent ctx.graph z ≡ Some (TheOperation p)) (sym r.1) up in
              let around : IsInside ctx.graph (TheRegion r.0) (owner (OfValue v)) = subst (λ z. IsInside ctx.graph z (owner (OfValue v))) (sym r.1) inner in
              found listed.0 r.0 r.2 (under_child (TheOperation p) (TheRegion r.0) over u around) (child_in (TheOperation p) (TheRegion r.0) over w)
              (λ closes. no_barrier (TheOperation p) (TheRegion r.0) over u around (record { holder = TheOperation p; held = over; closes = closes }))

      -- ---- one more block or operation of a forest
      abbrev more_blocks_seen : Ptr BasicBlock → Operations (GraphOp T A) (GraphBlock T A) ⊤ → Blocks (GraphOp T A) (GraphBlock T A) ⊤ → Option (BlockView T A) → Blocks (GraphOp T A) (GraphBlock T A) ⊤
      more_blocks_seen b os bs o = elim o [ Some view ↦ forest.block (seen_block text_of ctx b view) os bs | None ↦ bs ]

      abbrev more_operations_seen : Ptr Operation → Regions (GraphOp T A) (GraphBlock T A) ⊤ → Operations (GraphOp T A) (GraphBlock T A) ⊤ → Option (OperationView T A) → Operations (GraphOp T A) (GraphBlock T A) ⊤
      more_operations_seen p rs os o = elim o [ Some view ↦ forest.operation (seen_operation text_of ctx p view) rs os | None ↦ os ]

      this_block : (b : Ptr BasicBlock) (os : Operations (GraphOp T A) (GraphBlock T A) ⊤) (bs : Blocks (GraphOp T A) (GraphBlock T A) ⊤) (path : Path) (j : ℕ) (o : Option (BlockView T A)) → IsSome o → FitBlocks C iso (more_blocks_seen b os bs o)
          → (FitOperations C iso os → (s : Script Thing ⊤) → (owner (OfValue v) ≡ TheBlock b) ⊎ Has (graph_operations C iso (j ∷ path) 0 os s)) → IsSome t.of_type → Has (graph_blocks C iso path j (more_blocks_seen b os bs o))
      this_block b os bs path j None live fit h known = absurd (cc)
      this_block b os bs path j (Some view) live fit h known =
          let rest = graph_blocks C iso path (suc j) bs in
          let label = define_label (spot (closed.a_block (seen_block text_of ctx b view).place)) (block_at (j ∷ path)) in
          elim (h fit.0 rest) [
            | inl own ↦ own_argument v t at known b own (j ∷ path) (does label (graph_operations C iso (j ∷ path) 0 os rest))
            | inr has ↦ acts_keep values_of (λ f g. refl) (a_value t.number) (defined_arguments (j ∷ path) 0 (seen_block text_of ctx b view).arguments) (acts_keep values_of (λ f g. refl) (a_value t.number) (label ∷ []) has)
          ]

      later_block : (b : Ptr BasicBlock) (os : Operations (GraphOp T A) (GraphBlock T A) ⊤) (bs : Blocks (GraphOp T A) (GraphBlock T A) ⊤) (path : Path) (j : ℕ) (o : Option (BlockView T A)) → FitBlocks C iso (more_blocks_seen b os bs o)
          → (FitBlocks C iso bs → (k : ℕ) → Has (graph_blocks C iso path k bs)) → Has (graph_blocks C iso path j (more_blocks_seen b os bs o))
      later_block b os bs path j None fit h = h fit j
      later_block b os bs path j (Some view) fit h =
          acts_keep values_of (λ f g. refl) (a_value t.number) (defined_arguments (j ∷ path) 0 (seen_block text_of ctx b view).arguments)
          (acts_keep values_of (λ f g. refl) (a_value t.number) (define_label (spot (closed.a_block (seen_block text_of ctx b view).place)) (block_at (j ∷ path)) ∷ [])
          (operations_keep values_of (λ f g. refl) (a_value t.number) C iso (j ∷ path) 0 os (h fit.1 (suc j))))

      this_operation : (p : Ptr Operation) (rs : Regions (GraphOp T A) (GraphBlock T A) ⊤) (os : Operations (GraphOp T A) (GraphBlock T A) ⊤) (path : Path) (i : ℕ) (s : Script Thing ⊤) (o : Option (OperationView T A)) → operation ctx p ≡ o → IsSome o → FitOperations C iso (more_operations_seen p rs os o)
          → (FitRegions C iso rs → (owner (OfValue v) ≡ TheOperation p) ⊎ ((is_isolated (isolated_data ctx.dialects) (content ctx.graph (TheOperation p)) ≡ true → ⊥) × SomeGives values_of (λ f g. refl) (a_value t.number) (graph_regions C iso (i ∷ path) 0 false rs))) → IsSome t.of_type
          → Has (graph_operations C iso path i (more_operations_seen p rs os o) s)
      this_operation p rs os path i s None is live fit h known = absurd (cc)
      this_operation p rs os path i s (Some view) is live fit h known =
          let q = seen_operation text_of ctx p view in
          let rest = graph_operations C iso path (suc i) os s in
          let parts = graph_regions C iso (i ∷ path) 0 (iso q.id) rs in
          let keep = regions_keep values_of (λ f g. refl) (a_value t.number) C iso (i ∷ path) 0 (iso q.id) rs in
          elim (h fit.1) [
            | inl own ↦ body_keeps values_of (λ f g. refl) (a_value t.number) C iso (C.format_of q.id) (i ∷ path) q parts keep (own_result v t at known p own (i ∷ path) rest)
            | inr (opens, gives) ↦
                body_gives values_of (λ f g. refl) (a_value t.number) C iso (C.format_of q.id) (i ∷ path) q parts
                (prints_all C iso (C.format_of q.id) q (length (regions_list rs)) (length parts) (regions_count C iso (i ∷ path) 0 (iso q.id) rs) fit.0) keep
                (flagged (iso q.id) refl opens gives) (does_all (defined_results (i ∷ path) 0 q.results) rest)
          ]
        where
          flagged : (b : Bool) → iso (id_of view.id) ≡ b → (is_isolated (isolated_data ctx.dialects) (content ctx.graph (TheOperation p)) ≡ true → ⊥) → SomeGives values_of (λ f g. refl) (a_value t.number) (graph_regions C iso (i ∷ path) 0 false rs) → SomeGives values_of (λ f g. refl) (a_value t.number) (graph_regions C iso (i ∷ path) 0 b rs)
          flagged true e opens gives = absurd (opens (flag_is p view is ∙ e))
          flagged false e opens gives = gives

      later_operation : (p : Ptr Operation) (rs : Regions (GraphOp T A) (GraphBlock T A) ⊤) (os : Operations (GraphOp T A) (GraphBlock T A) ⊤) (path : Path) (i : ℕ) (s : Script Thing ⊤) (o : Option (OperationView T A)) → FitOperations C iso (more_operations_seen p rs os o)
          → (FitOperations C iso os → (k : ℕ) → Has (graph_operations C iso path k os s)) → Has (graph_operations C iso path i (more_operations_seen p rs os o) s)
      later_operation p rs os path i s None fit h = h fit i
      later_operation p rs os path i s (Some view) fit h = operation_keeps values_of (λ f g. refl) (a_value t.number) C iso (i ∷ path) (seen_operation text_of ctx p view) rs (h fit.2 (suc i))

      -- ---- the forest
      module _ (whole : (p : Ptr Operation) → all_of p ≡ regions_by ctx.graph all_of (regions ctx.graph p)) where
        mutual
          regions_have : (f : PtrRegions) (rs : List (Ptr Region)) → f ≡ regions_by ctx.graph all_of rs → (path : Path) (j : ℕ) → FitRegions C iso (seen_regions text_of ctx f) → (m : ℕ) (r : Ptr Region) → slice_get rs m ≡ Some r → Under (TheRegion r) → In (TheRegion r) → IsSome t.of_type
              → SomeGives values_of (λ f g. refl) (a_value t.number) (graph_regions C iso path j false (seen_regions text_of ctx f))
          regions_have no_regions [] is path j fit m r e u w known = absurd (cc)
          regions_have no_regions (s ∷ rs) is path j fit m r e u w known = absurd (cc)
          regions_have (region q bs more) [] is path j fit m r e u w known = absurd (cc)
          regions_have (region q bs more) (s ∷ rs) is path j fit zero r e u w known =
              inl (within_gives t.number (graph_blocks C iso (j ∷ path) 0 (seen_blocks text_of ctx bs))
              (in_region r u w (λ i b f live over inside. blocks_have bs (blocks ctx.graph r) (ap first_blocks is ∙ ap (λ z. blocks_by ctx.graph all_of (blocks ctx.graph z)) (some_eq e)) (j ∷ path) 0 fit.0 i b f live over inside known)))
          regions_have (region q bs more) (s ∷ rs) is path j fit (suc m) r e u w known = inr (regions_have more rs (ap more_regions is) path (suc j) fit.1 m r e u w known)

          pub blocks_have : (f : PtrBlocks) (bs : List (Ptr BasicBlock)) → f ≡ blocks_by ctx.graph all_of bs → (path : Path) (j : ℕ) → FitBlocks C iso (seen_blocks text_of ctx f) → (i : ℕ) (b : Ptr BasicBlock) → slice_get bs i ≡ Some b → IsSome (block ctx b) → Under (TheBlock b) → In (TheBlock b) → IsSome t.of_type
              → Has (graph_blocks C iso path j (seen_blocks text_of ctx f))
          blocks_have no_blocks [] is path j fit i b e live u w known = absurd (cc)
          blocks_have no_blocks (d ∷ bs) is path j fit i b e live u w known = absurd (cc)
          blocks_have (forest.block c os more) [] is path j fit i b e live u w known = absurd (cc)
          blocks_have (forest.block c os more) (d ∷ bs) is path j fit zero b e live u w known =
              let same : c ≡ b = ap (first_block c) is ∙ some_eq e in
              this_block c (seen_operations text_of ctx os) (seen_blocks text_of ctx more) path j (block ctx c) (subst (λ z. IsSome (block ctx z)) (sym same) live) fit
              (λ fits s. in_block c (subst (λ z. Under (TheBlock z)) (sym same) u) (subst (λ z. In (TheBlock z)) (sym same) w) inl
              (λ k p f over inside. inr (operations_have os (operations_in ctx.graph c) (ap first_operations is ∙ ap (λ z. operations_by ctx.graph all_of (operations_in ctx.graph z)) (some_eq e ∙ sym same)) (j ∷ path) 0 fits k p f over inside known s))) known
          blocks_have (forest.block c os more) (d ∷ bs) is path j fit (suc i) b e live u w known =
              later_block c (seen_operations text_of ctx os) (seen_blocks text_of ctx more) path j (block ctx c) fit (λ fits k. blocks_have more bs (ap more_blocks is) path k fits i b e live u w known)

          operations_have : (f : PtrOperations) (ps : List (Ptr Operation)) → f ≡ operations_by ctx.graph all_of ps → (path : Path) (i : ℕ) → FitOperations C iso (seen_operations text_of ctx f) → (m : ℕ) (p : Ptr Operation) → slice_get ps m ≡ Some p → Under (TheOperation p) → In (TheOperation p) → IsSome t.of_type → (s : Script Thing ⊤)
              → Has (graph_operations C iso path i (seen_operations text_of ctx f) s)
          operations_have no_operations [] is path i fit m p e u w known s = absurd (cc)
          operations_have no_operations (d ∷ ps) is path i fit m p e u w known s = absurd (cc)
          operations_have (forest.operation q rs more) [] is path i fit m p e u w known s = absurd (cc)
          operations_have (forest.operation q rs more) (d ∷ ps) is path i fit zero p e u w known s =
              let same : q ≡ p = ap (first_operation q) is ∙ some_eq e in
              let inside = subst (λ z. In (TheOperation z)) (sym same) w in
              this_operation q (seen_regions text_of ctx rs) (seen_operations text_of ctx more) path i s (operation ctx q) refl (shut.plain (TheOperation q) inside) fit
              (λ fits. in_operation q (subst (λ z. Under (TheOperation z)) (sym same) u) inside inl
              (λ k r f over within_r opens. inr (opens, regions_have rs (regions ctx.graph q) (ap first_regions is ∙ ap all_of (some_eq e ∙ sym same) ∙ whole q) (i ∷ path) 0 fits k r f over within_r known))) known
          operations_have (forest.operation q rs more) (d ∷ ps) is path i fit (suc m) p e u w known s =
              later_operation q (seen_regions text_of ctx rs) (seen_operations text_of ctx more) path i s (operation ctx q) fit (λ fits k. operations_have more ps (ap more_operations is) path k fits m p e u w known s)

        -- the body of a region that is around the value, with no isolated region between, defines it
        pub region_has : (f : PtrBlocks) (r : Ptr Region) → f ≡ blocks_by ctx.graph all_of (blocks ctx.graph r) → (path : Path) → FitBlocks C iso (seen_blocks text_of ctx f) → Under (TheRegion r) → In (TheRegion r) → IsSome t.of_type → Has (graph_blocks C iso path 0 (seen_blocks text_of ctx f))
        region_has f r is path fit u w known = in_region r u w (λ i b e live over inside. blocks_have f (blocks ctx.graph r) is path 0 fit i b e live over inside known)
