-- What is nested in a root that is kept is what it was, as the context holds it and as printing sees it.
use Rattle.std.proofs.Common.{◌≡◌, ◌+◌, ◌∙◌, ℕ, zero, suc, Option, Some, None, IsSome, refl, sym, ap, ap₂, subst, arith, List, [], ◌∷◌, length, slice_get, filter_map, option_map}
use Rattle.std.specs.Bool.{⊤}
use Rattle.std.specs.Option.{option_and_then}
use Rattle.irtext_base.specs.Locations.{location_view}
use Rattle.irtext_base.specs.Paths.{Written}
use Rattle.irtext_base.specs.Text.{Text}
use Rattle.irtext_base.specs.declared.location.Location.{Location, Unknown}
use Rattle.irtext_base.proofs.PathKeys.{written_same}
use Rattle.irtext_context.specs.Context.{ContextView, OperationView, BlockView, operation, block, operation_of, block_of}
use Rattle.irtext_graph.specs.declared.arena.Entry.{Entry}
use Rattle.irtext_graph.specs.declared.arena.Ptr.{Ptr}
use Rattle.irtext_graph.specs.declared.object.BasicBlock.{BasicBlock}
use Rattle.irtext_graph.specs.declared.object.Object.{Object}
use Rattle.irtext_graph.specs.declared.object.Object.TheVariants.{TheOperation, TheBlock, TheRegion}
use Rattle.irtext_graph.specs.declared.object.Operation.{Operation}
use Rattle.irtext_graph.specs.declared.object.Region.{Region}
use Rattle.irtext_graph.specs.Content.{Node, OperationContent, BlockContent}
use Rattle.irtext_graph.specs.Used.{IsUse, IsDefined}
use Rattle.irtext_graph.specs.declared.object.Value.{Value}
use Rattle.irtext_graph.specs.declared.object.Value.TheVariants.{Result, Argument}
use Rattle.irtext_graph.specs.declared.object.Defined.{Defined}
use Rattle.irtext_graph.specs.declared.object.Defined.TheVariants.{OfValue}
use Rattle.irtext_graph.specs.declared.object.Site.{Site}
use Rattle.irtext_graph.specs.declared.object.Site.TheVariants.{AtOperand}
use Rattle.irtext_graph.specs.Graph.{GraphView, IsInside, children, parent, children_of, content_of}
use Rattle.irtext_graph.specs.Nested.{Nested}
use Rattle.irtext_graph.specs.Parts.{regions, blocks, operations_in, operands, results_of, arguments_of, value_at}
use Rattle.irtext_graph.specs.Store.{get}
use Rattle.irtext_grammar.specs.Contexts.Nested.{operations_by, blocks_by, regions_by, within, pointers, number_of, seen_operation, seen_block, seen_regions, seen_blocks, seen_operations, seen_root}
use Rattle.irtext_grammar.specs.Graphs.Graph.{Graph, GraphOp, GraphBlock}
use Rattle.irtext_grammar.specs.Spelling.Locations.{written_text, known_text}
use Rattle.irtext_grammar.specs.Grammar.Forest as forest
use Rattle.irtext_grammar.specs.Grammar.Forest.{Regions, no_regions, region, Blocks, no_blocks, Operations, no_operations, Root, AllRegions, AllBlocks, AllOperations}
use Rattle.irtext_grammar.specs.Graphs.Build.{Built, BuiltOp, BuiltBlock}
use Rattle.irtext_grammar.specs.Names.Script.{Path}
use Rattle.irtext_names.specs.Held.{PtrRegions, PtrBlocks, PtrOperations, placed_under, held_op, held_head, held_regions, held_blocks, held_operations, held_root, OperationWhole, BlockWhole, IsWhole}
use Rattle.pliron_text.proofs.AllInside.{Inside, region_in, block_in, operation_in, all_inside}
use Rattle.irtext_closed.specs.Located.{IsLocatedIn}
use Rattle.pliron_text.specs.Older.{OperationLocated, BlockLocated, KeepsRoot, IsOlder}
use Rattle.irtext_graph.proofs.Frames.{operation_content_same, block_content_same}
use Rattle.irtext_names.proofs.Ages.{here_is_live}
use Rattle.irtext_print_ops.proofs.Depths.{inside_is}

-- ---- forests of pointers
module _ {O B T : Type 0} (g k : GraphView O B T) (f h : Ptr Operation → Regions (Ptr Operation) (Ptr BasicBlock) (Ptr Region)) where
  operations_frame : (ps : List (Ptr Operation)) → ((i : ℕ) (q : Ptr Operation) → slice_get ps i ≡ Some q → f q ≡ h q) → operations_by k f ps ≡ operations_by g h ps
  operations_frame [] e = refl
  operations_frame (p ∷ ps) e = ap₂ (λ x y. forest.operation p x y) (e 0 p refl) (operations_frame ps (λ i q at. e (suc i) q at))

  blocks_frame : (bs : List (Ptr BasicBlock)) → ((j : ℕ) (b : Ptr BasicBlock) → slice_get bs j ≡ Some b → operations_by k f (operations_in k b) ≡ operations_by g h (operations_in g b)) → blocks_by k f bs ≡ blocks_by g h bs
  blocks_frame [] e = refl
  blocks_frame (b ∷ bs) e = ap₂ (λ x y. forest.block b x y) (e 0 b refl) (blocks_frame bs (λ j c at. e (suc j) c at))

  regions_frame : (rs : List (Ptr Region)) → ((m : ℕ) (r : Ptr Region) → slice_get rs m ≡ Some r → blocks_by k f (blocks k r) ≡ blocks_by g h (blocks g r)) → regions_by k f rs ≡ regions_by g h rs
  regions_frame [] e = refl
  regions_frame (r ∷ rs) e = ap₂ (λ x y. region r x y) (e 0 r refl) (regions_frame rs (λ m s at. e (suc m) s at))

-- one level more than there are operations shows all
enough : {O B T : Type 0} (g : GraphView O B T) → Nested (children g) (parent g) → (d n : ℕ) (p : Ptr Operation) → n ≡ d + suc (length g.operations.cells) → within g n p ≡ within g (suc (length g.operations.cells)) p
enough g nested zero n p e = let f : n ≡ suc (length g.operations.cells) = omega (arith, e) in ap (λ m. within g m p) f
enough g nested (suc d) n p e =
    let top = suc (length g.operations.cells) in
    let f : n ≡ suc (d + top) = omega (arith, e) in
    ap (λ m. within g m p) f
    ∙ regions_frame g g (within g (d + top)) (within g top) (regions g p) (λ m r at.
    blocks_frame g g (within g (d + top)) (within g top) (blocks g r) (λ j b at.
    operations_frame g g (within g (d + top)) (within g top) (operations_in g b) (λ i q at. enough g nested d (d + top) q refl)))
    ∙ sym (inside_is g nested p)

module _ {T A : Type 0} (old new : ContextView T A) (root : Ptr Operation) (kept : KeepsRoot root old new) (nested : Nested (children old.graph) (parent old.graph)) where
  inside_frame : (n : ℕ) (p : Ptr Operation) → Inside old.graph root nested (TheOperation p) → within new.graph n p ≡ within old.graph n p
  inside_frame zero p l = refl
  inside_frame (suc n) p l =
      ap (λ e. regions_by new.graph (within new.graph n) (children_of e)) (kept.operations p l)
      ∙ regions_frame old.graph new.graph (within new.graph n) (within old.graph n) (regions old.graph p) (λ m r at.
      let s = region_in old.graph root nested p r m at l in
      ap (λ e. blocks_by new.graph (within new.graph n) (children_of e)) (kept.regions r s)
      ∙ blocks_frame old.graph new.graph (within new.graph n) (within old.graph n) (blocks old.graph r) (λ j b at.
      let t = block_in old.graph root nested r b j at s in
      ap (λ e. operations_by new.graph (within new.graph n) (children_of e)) (kept.blocks b t)
      ∙ operations_frame old.graph new.graph (within new.graph n) (within old.graph n) (operations_in old.graph b) (λ i q at. inside_frame n q (operation_in old.graph root nested b q i at t))))

  -- the same pointers are nested in it
  pub pointers_frame : Nested (children new.graph) (parent new.graph) → pointers new.graph root ≡ pointers old.graph root
  pointers_frame after =
      let a = length old.graph.operations.cells in
      let b = length new.graph.operations.cells in
      ap (λ rs. record { own = root; regions = rs }) (
      sym (enough new.graph after a (suc (a + b)) root (omega arith)) ∙ inside_frame (suc (a + b)) root (0, refl) ∙ enough old.graph nested b (suc (a + b)) root (omega arith))

  -- each object nested in it is what it was
  abbrev pub SameOp : Ptr Operation → Type 0
  SameOp p = get new.graph.operations p ≡ get old.graph.operations p

  abbrev pub SameBlock : Ptr BasicBlock → Type 0
  SameBlock b = get new.graph.blocks b ≡ get old.graph.blocks b

  -- ---- the contents
  pub operation_same : (p : Ptr Operation) → SameOp p → operation new p ≡ operation old p
  operation_same p e = ap (option_and_then operation_of) e

  pub block_same : (b : Ptr BasicBlock) → SameBlock b → block new b ≡ block old b
  block_same b e = ap (option_map block_of) e

  module _ (all : List (Object × Path)) where
    op_held : (p : Ptr Operation) (view : OperationView T A) → SameOp p → IsLocatedIn old view.loc → held_op new all p view ≡ held_op old all p view
    op_held p view e l = rw (e, written_same old.paths new.paths kept.paths (location_view view.loc) l) refl

    head_held : (view : BlockView T A) → IsLocatedIn old view.loc → held_head new all view ≡ held_head old all view
    head_held view l = rw (written_same old.paths new.paths kept.paths (location_view view.loc) l) refl

    one_block : (v : Option (BlockView T A)) → ((view : BlockView T A) → v ≡ Some view → held_head new all view ≡ held_head old all view)
        → {os ps : Operations (BuiltOp T A (Written A)) (BuiltBlock T A (Written A)) ⊤} {bs cs : Blocks (BuiltOp T A (Written A)) (BuiltBlock T A (Written A)) ⊤} → os ≡ ps → bs ≡ cs
        → ◌≡◌ {A = Blocks (BuiltOp T A (Written A)) (BuiltBlock T A (Written A)) ⊤} (elim v [ Some view ↦ forest.block (held_head new all view) os bs | None ↦ bs ]) (elim v [ Some view ↦ forest.block (held_head old all view) ps cs | None ↦ cs ])
    one_block None h e f = f
    one_block (Some view) h e f = rw (h view refl, e, f) refl

    one_operation : (p : Ptr Operation) (v : Option (OperationView T A)) → ((view : OperationView T A) → v ≡ Some view → held_op new all p view ≡ held_op old all p view)
        → {rs ss : Regions (BuiltOp T A (Written A)) (BuiltBlock T A (Written A)) ⊤} {os ps : Operations (BuiltOp T A (Written A)) (BuiltBlock T A (Written A)) ⊤} → rs ≡ ss → os ≡ ps
        → ◌≡◌ {A = Operations (BuiltOp T A (Written A)) (BuiltBlock T A (Written A)) ⊤} (elim v [ Some view ↦ forest.operation (held_op new all p view) rs os | None ↦ os ]) (elim v [ Some view ↦ forest.operation (held_op old all p view) ss ps | None ↦ ps ])
    one_operation p None h e f = f
    one_operation p (Some view) h e f = rw (h view refl, e, f) refl

    mutual
      regions_held : (rs : PtrRegions) → AllRegions SameOp SameBlock (λ r. ⊤) rs → AllRegions (OperationLocated old) (BlockLocated old) (λ r. ⊤) rs → held_regions new all rs ≡ held_regions old all rs
      regions_held no_regions a l = refl
      regions_held (region r bs rs) a l = ap₂ (λ x y. region tt x y) (blocks_held bs a.1 l.1) (regions_held rs a.2 l.2)

      blocks_held : (bs : PtrBlocks) → AllBlocks SameOp SameBlock (λ r. ⊤) bs → AllBlocks (OperationLocated old) (BlockLocated old) (λ r. ⊤) bs → held_blocks new all bs ≡ held_blocks old all bs
      blocks_held no_blocks a l = refl
      blocks_held (forest.block b os bs) a l =
          ap (λ v. elim v [ Some view ↦ forest.block (held_head new all view) (held_operations new all os) (held_blocks new all bs) | None ↦ held_blocks new all bs ]) (block_same b a.0)
          ∙ one_block (block old b) (λ view e. head_held view (l.0 view e)) (operations_held os a.1 l.1) (blocks_held bs a.2 l.2)

      operations_held : (os : PtrOperations) → AllOperations SameOp SameBlock (λ r. ⊤) os → AllOperations (OperationLocated old) (BlockLocated old) (λ r. ⊤) os → held_operations new all os ≡ held_operations old all os
      operations_held no_operations a l = refl
      operations_held (forest.operation p rs os) a l =
          ap (λ v. elim v [ Some view ↦ forest.operation (held_op new all p view) (held_regions new all rs) (held_operations new all os) | None ↦ held_operations new all os ]) (operation_same p a.0)
          ∙ one_operation p (operation old p) (λ view e. op_held p view a.0 (l.0 view e)) (regions_held rs a.1 l.1) (operations_held os a.2 l.2)

  -- ---- what printing sees
  results_in : {O T : Type 0} (e : Option (Entry (Node BasicBlock Region (OperationContent O T)))) (i : ℕ)
      → slice_get (results_of (option_map (λ x. x.content.content) e)) i ≡ slice_get (results_of (option_map (λ d. d.1) (content_of e))) i
  results_in None i = refl
  results_in (Some e) i = refl

  arguments_in : {B T : Type 0} (e : Option (Entry (Node Region Operation (BlockContent B T)))) (i : ℕ)
      → slice_get (arguments_of (option_map (λ x. x.content.content) e)) i ≡ slice_get (arguments_of (option_map (λ d. d.1) (content_of e))) i
  arguments_in None i = refl
  arguments_in (Some e) i = refl

  pub results_there : {O T : Type 0} (e : Option (Entry (Node BasicBlock Region (OperationContent O T)))) (i : ℕ) → IsSome (slice_get (results_of (option_map (λ x. x.content.content) e)) i) → IsSome e
  results_there None i h = absurd (cc)
  results_there (Some e) i h = refl

  pub arguments_there : {B T : Type 0} (e : Option (Entry (Node Region Operation (BlockContent B T)))) (i : ℕ) → IsSome (slice_get (arguments_of (option_map (λ x. x.content.content) e)) i) → IsSome e
  arguments_there None i h = absurd (cc)
  arguments_there (Some e) i h = refl

  pub value_same : (v : Value) → IsSome (value_at old.graph v) → value_at new.graph v ≡ value_at old.graph v
  value_same (Result q i) l =
      let live = here_is_live old.graph (TheOperation q) (results_there (get old.graph.operations q) i l) in
      let same = operation_content_same old.graph new.graph q (kept.contents (TheOperation q) live) in
      results_in (get new.graph.operations q) i ∙ ap (λ d. slice_get (results_of (option_map (λ z. z.1) d)) i) same ∙ sym (results_in (get old.graph.operations q) i)
  value_same (Argument b i) l =
      let live = here_is_live old.graph (TheBlock b) (arguments_there (get old.graph.blocks b) i l) in
      let same = block_content_same old.graph new.graph b (kept.contents (TheBlock b) live) in
      arguments_in (get new.graph.blocks b) i ∙ ap (λ d. slice_get (arguments_of (option_map (λ z. z.1) d)) i) same ∙ sym (arguments_in (get old.graph.blocks b) i)

  module _ (written : A → Text) (first : new.graph.first_place ≡ old.graph.first_place) (used : (u : Site) (d : Defined) → IsUse old.graph d u → IsDefined old.graph d) where
    text_same : (l : Location A) → IsLocatedIn old l → known_text written new.paths l ≡ known_text written old.paths l
    text_same Unknown k = refl
    text_same l k = ap (λ w. Some (written_text written w)) (written_same old.paths new.paths kept.paths (location_view l) k)

    numbers_same : (vs : List Value) → ((i : ℕ) (v : Value) → slice_get vs i ≡ Some v → IsSome (value_at old.graph v)) → filter_map (number_of new) vs ≡ filter_map (number_of old) vs
    numbers_same [] h = refl
    numbers_same (v ∷ vs) h = rw (value_same v (h 0 v refl), numbers_same vs (λ i w at. h (suc i) w at)) refl

    pub op_seen : (p : Ptr Operation) (view : OperationView T A) → SameOp p → IsLocatedIn old view.loc → seen_operation written new p view ≡ seen_operation written old p view
    op_seen p view e l =
        let numbers = numbers_same (operands old.graph p) (λ i v at. used (AtOperand p i) (OfValue v) (ap (option_map OfValue) at)) in
        rw (e, numbers, first, text_same view.loc l) refl

    head_seen : (b : Ptr BasicBlock) (view : BlockView T A) → SameBlock b → IsLocatedIn old view.loc → seen_block written new b view ≡ seen_block written old b view
    head_seen b view e l = rw (e, first, text_same view.loc l) refl

    one_block_seen : (b : Ptr BasicBlock) (v : Option (BlockView T A)) → ((view : BlockView T A) → v ≡ Some view → seen_block written new b view ≡ seen_block written old b view)
        → {os ps : Operations (GraphOp T A) (GraphBlock T A) ⊤} {bs cs : Blocks (GraphOp T A) (GraphBlock T A) ⊤} → os ≡ ps → bs ≡ cs
        → ◌≡◌ {A = Blocks (GraphOp T A) (GraphBlock T A) ⊤} (elim v [ Some view ↦ forest.block (seen_block written new b view) os bs | None ↦ bs ]) (elim v [ Some view ↦ forest.block (seen_block written old b view) ps cs | None ↦ cs ])
    one_block_seen b None h e f = f
    one_block_seen b (Some view) h e f = rw (h view refl, e, f) refl

    one_operation_seen : (p : Ptr Operation) (v : Option (OperationView T A)) → ((view : OperationView T A) → v ≡ Some view → seen_operation written new p view ≡ seen_operation written old p view)
        → {rs ss : Regions (GraphOp T A) (GraphBlock T A) ⊤} {os ps : Operations (GraphOp T A) (GraphBlock T A) ⊤} → rs ≡ ss → os ≡ ps
        → ◌≡◌ {A = Operations (GraphOp T A) (GraphBlock T A) ⊤} (elim v [ Some view ↦ forest.operation (seen_operation written new p view) rs os | None ↦ os ]) (elim v [ Some view ↦ forest.operation (seen_operation written old p view) ss ps | None ↦ ps ])
    one_operation_seen p None h e f = f
    one_operation_seen p (Some view) h e f = rw (h view refl, e, f) refl

    mutual
      pub regions_seen : (rs : PtrRegions) → AllRegions SameOp SameBlock (λ r. ⊤) rs → AllRegions (OperationLocated old) (BlockLocated old) (λ r. ⊤) rs → seen_regions written new rs ≡ seen_regions written old rs
      regions_seen no_regions a l = refl
      regions_seen (region r bs rs) a l = ap₂ (λ x y. region tt x y) (blocks_seen bs a.1 l.1) (regions_seen rs a.2 l.2)

      blocks_seen : (bs : PtrBlocks) → AllBlocks SameOp SameBlock (λ r. ⊤) bs → AllBlocks (OperationLocated old) (BlockLocated old) (λ r. ⊤) bs → seen_blocks written new bs ≡ seen_blocks written old bs
      blocks_seen no_blocks a l = refl
      blocks_seen (forest.block b os bs) a l =
          ap (λ v. elim v [ Some view ↦ forest.block (seen_block written new b view) (seen_operations written new os) (seen_blocks written new bs) | None ↦ seen_blocks written new bs ]) (block_same b a.0)
          ∙ one_block_seen b (block old b) (λ view e. head_seen b view a.0 (l.0 view e)) (operations_seen os a.1 l.1) (blocks_seen bs a.2 l.2)

      operations_seen : (os : PtrOperations) → AllOperations SameOp SameBlock (λ r. ⊤) os → AllOperations (OperationLocated old) (BlockLocated old) (λ r. ⊤) os → seen_operations written new os ≡ seen_operations written old os
      operations_seen no_operations a l = refl
      operations_seen (forest.operation p rs os) a l =
          ap (λ v. elim v [ Some view ↦ forest.operation (seen_operation written new p view) (seen_regions written new rs) (seen_operations written new os) | None ↦ seen_operations written new os ]) (operation_same p a.0)
          ∙ one_operation_seen p (operation old p) (λ view e. op_seen p view a.0 (l.0 view e)) (regions_seen rs a.1 l.1) (operations_seen os a.2 l.2)

  op_whole : (p : Ptr Operation) → SameOp p → OperationWhole old p → OperationWhole new p
  op_whole p e w = record { view = w.view; is = operation_same p e ∙ w.is; types = w.types; known_as = w.known_as }

  mutual
    regions_whole : (rs : PtrRegions) → AllRegions SameOp SameBlock (λ r. ⊤) rs → AllRegions (OperationWhole old) (BlockWhole old) (λ r. ⊤) rs → AllRegions (OperationWhole new) (BlockWhole new) (λ r. ⊤) rs
    regions_whole no_regions a w = tt
    regions_whole (region r bs rs) a w = (tt, blocks_whole bs a.1 w.1, regions_whole rs a.2 w.2)

    blocks_whole : (bs : PtrBlocks) → AllBlocks SameOp SameBlock (λ r. ⊤) bs → AllBlocks (OperationWhole old) (BlockWhole old) (λ r. ⊤) bs → AllBlocks (OperationWhole new) (BlockWhole new) (λ r. ⊤) bs
    blocks_whole no_blocks a w = tt
    blocks_whole (forest.block b os bs) a w =
        (record { view = w.0.view; is = block_same b a.0 ∙ w.0.is; labelled = w.0.labelled; types = w.0.types; known_as = w.0.known_as }, operations_whole os a.1 w.1, blocks_whole bs a.2 w.2)

    operations_whole : (os : PtrOperations) → AllOperations SameOp SameBlock (λ r. ⊤) os → AllOperations (OperationWhole old) (BlockWhole old) (λ r. ⊤) os → AllOperations (OperationWhole new) (BlockWhole new) (λ r. ⊤) os
    operations_whole no_operations a w = tt
    operations_whole (forest.operation p rs os) a w = (op_whole p a.0 w.0, regions_whole rs a.1 w.1, operations_whole os a.2 w.2)

module _ {T A : Type 0} (p : Ptr Operation) (old new : ContextView T A) (older : IsOlder p old new) where
  -- it is unchanged itself
  pub own_same : get new.graph.operations p ≡ get old.graph.operations p
  own_same = older.kept.operations p (0, refl)

  pub nested_stays : pointers new.graph p ≡ pointers old.graph p
  nested_stays = pointers_frame old new p older.kept older.before.nested older.after.nested

  pub inside : AllRegions (SameOp old new p older.kept older.before.nested) (SameBlock old new p older.kept older.before.nested) (λ r. ⊤) (pointers old.graph p).regions
  inside =
      let all = all_inside old.graph p older.before.nested (SameOp old new p older.kept older.before.nested) (SameBlock old new p older.kept older.before.nested) older.kept.operations older.kept.blocks in
      all.1

  -- what is built under these pointers
  abbrev built_under : ContextView T A → Root (Ptr Operation) (Ptr BasicBlock) (Ptr Region) → OperationView T A → Built T A (Written A)
  built_under c ps view = record { own = held_op c (placed_under ps) p view; regions = held_regions c (placed_under ps) ps.regions }

  pub held_stays : held_root new p ≡ held_root old p
  held_stays =
      let ps = pointers old.graph p in
      ap (λ qs. option_map (built_under new qs) (operation new p)) nested_stays
      ∙ ap (option_map (built_under new ps)) (operation_same old new p older.kept older.before.nested p own_same)
      ∙ go (operation old p) refl
    where
      go : (v : Option (OperationView T A)) → operation old p ≡ v → option_map (built_under new (pointers old.graph p)) v ≡ option_map (built_under old (pointers old.graph p)) v
      go None e = refl
      go (Some view) e =
          let all = placed_under (pointers old.graph p) in
          let o = op_held old new p older.kept older.before.nested all p view own_same (older.located.0 view e) in
          let r = regions_held old new p older.kept older.before.nested all (pointers old.graph p).regions inside older.located.1 in
          both o r
        where
          both : {x y : BuiltOp T A (Written A)} {rs ss : Regions (BuiltOp T A (Written A)) (BuiltBlock T A (Written A)) ⊤} → x ≡ y → rs ≡ ss
              → ◌≡◌ {A = Option (Built T A (Written A))} (Some (record { own = x; regions = rs })) (Some (record { own = y; regions = ss }))
          both e f = rw (e, f) refl

  -- what is seen under these pointers
  abbrev seen_under : (A → Text) → ContextView T A → Root (Ptr Operation) (Ptr BasicBlock) (Ptr Region) → OperationView T A → Graph T A
  seen_under written c ps view = record { own = seen_operation written c p view; regions = seen_regions written c ps.regions }

  pub seen_stays : (written : A → Text) → seen_root written new p ≡ seen_root written old p
  seen_stays written =
      let ps = pointers old.graph p in
      ap (λ qs. option_map (seen_under written new qs) (operation new p)) nested_stays
      ∙ ap (option_map (seen_under written new ps)) (operation_same old new p older.kept older.before.nested p own_same)
      ∙ go (operation old p) refl
    where
      go : (v : Option (OperationView T A)) → operation old p ≡ v → option_map (seen_under written new (pointers old.graph p)) v ≡ option_map (seen_under written old (pointers old.graph p)) v
      go None e = refl
      go (Some view) e =
          let o = op_seen old new p older.kept older.before.nested written older.kept.counts.first_place older.before.used p view own_same (older.located.0 view e) in
          let r = regions_seen old new p older.kept older.before.nested written older.kept.counts.first_place older.before.used (pointers old.graph p).regions inside older.located.1 in
          both o r
        where
          both : {x y : GraphOp T A} {rs ss : Regions (GraphOp T A) (GraphBlock T A) ⊤} → x ≡ y → rs ≡ ss → ◌≡◌ {A = Option (Graph T A)} (Some (record { own = x; regions = rs })) (Some (record { own = y; regions = ss }))
          both e f = rw (e, f) refl

  pub whole_stays : IsWhole old p → IsWhole new p
  whole_stays w = (
    op_whole old new p older.kept older.before.nested p own_same w.0,
    subst (λ ps. AllRegions (OperationWhole new) (BlockWhole new) (λ r. ⊤) ps.regions) (sym nested_stays) (regions_whole old new p older.kept older.before.nested (pointers old.graph p).regions inside w.1),
  )
