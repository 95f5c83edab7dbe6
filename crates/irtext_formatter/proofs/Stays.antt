-- A root whose locations are laid out has the same pointers, operands, successors, results, ids and attributes as before.
use Rattle.std.proofs.Common.{◌≡◌, ◌≢◌, ◌∙◌, ℕ, zero, suc, Bool, true, false, List, [], ◌∷◌, length, map, slice_get, Option, Some, None, IsSome, is_some, option_map, refl, sym, ap, ap₂, subst, inl, inr, true≢false}
use Rattle.std.proofs.lemmas.Option.{slice_get-map}
use Rattle.std.specs.Prelude.{⊤, IfSome, option_and_then}
use Rattle.irtext_base.specs.Text.{Text}
use Rattle.irtext_base.specs.declared.location.Location.{Location, Unknown}
use Rattle.irtext_context.proofs.Contexts.{OperationEntry, BlockEntry}
use Rattle.irtext_context.specs.Context.{ContextView, OperationView, BlockView, operation, operation_of, view_of, block, block_of, with_loc, with_block_loc, EditsOperation}
use Rattle.irtext_context.specs.Locations.{ErasesLocations}
use Rattle.irtext_context.specs.declared.base.block.BlockData.{BlockData}
use Rattle.irtext_context.specs.declared.base.operation.OperationData.{OperationData}
use Rattle.irtext_graph.proofs.Frames.{map_same, block_same, region_same, operation_same}
use Rattle.irtext_graph.proofs.Nests.{some_eq}
use Rattle.irtext_graph.proofs.Pointers.{ptr_or}
use Rattle.irtext_graph.specs.Content.{Node, Typed, Content, Content.{AnOperation, ABlock, ARegion}, OperationContent, BlockContent}
use Rattle.irtext_graph.specs.Data.{with_data}
use Rattle.irtext_graph.specs.Graph.{GraphView, children, parent, children_of, content_of, content, IsInside}
use Rattle.irtext_graph.specs.Nested.{climb, Nested}
use Rattle.irtext_graph.specs.Parts.{regions, blocks, operations_in, operands, operands_of, successors, successors_of, results, results_of, arguments, arguments_of, value_at}
use Rattle.irtext_graph.specs.Store.{get, object_of}
use Rattle.irtext_graph.specs.Throughout.{changed, ChangedObject, SameObject}
use Rattle.irtext_graph.specs.declared.arena.Entry.{Entry}
use Rattle.irtext_graph.specs.declared.arena.Ptr.{Ptr}
use Rattle.irtext_graph.specs.declared.object.BasicBlock.{BasicBlock}
use Rattle.irtext_graph.specs.declared.object.Object.{Object}
use Rattle.irtext_graph.specs.declared.object.Object.TheVariants.{TheOperation, TheBlock, TheRegion}
use Rattle.irtext_graph.specs.declared.object.Operation.{Operation}
use Rattle.irtext_graph.specs.declared.object.Region.{Region}
use Rattle.irtext_graph.specs.declared.object.Value.{Value}
use Rattle.irtext_graph.specs.declared.object.Value.TheVariants.{Result, Argument}
use Rattle.irtext_grammar.specs.Contexts.Nested.{operations_by, blocks_by, regions_by, within}
use Rattle.irtext_grammar.specs.Grammar.Forest as forest
use Rattle.irtext_grammar.specs.Grammar.Forest.{Regions, Blocks, Operations, AllRegions, AllBlocks, AllOperations}
use Rattle.irtext_print_ops.proofs.Depths.{inside_is}
use Rattle.irtext_formatter.specs.Rows.{ShowsLocations, KeepsPlace, LaysOut}
use Rattle.irtext_formatter.specs.declared.layout.Layout.{Layout}

-- what cannot be wrong is true
sure : (b : Bool) → ((b ≡ true → ⊥) → ⊥) → b ≡ true
sure true h = refl
sure false h = absurd (h (λ e. true≢false (sym e)))

module _ {T A : Type 0} (old new : ContextView T A) where
  -- an operation has the same operands, successors and results; if it is live, it is live still, with the same id and attributes
  pub record OperationStays (p : Ptr Operation) : Type 0 where
    pub same_operands : operands new.graph p ≡ operands old.graph p
    pub same_successors : successors new.graph p ≡ successors old.graph p
    pub same_results : results new.graph p ≡ results old.graph p
    pub view : (seen : OperationView T A) → operation old p ≡ Some seen → (w : OperationView T A) × (operation new p ≡ Some w) × (w.id ≡ seen.id) × (w.attributes ≡ seen.attributes)

  -- a block that is live is live still
  abbrev pub BlockStays : Ptr BasicBlock → Type 0
  BlockStays b = (seen : BlockView T A) → block old b ≡ Some seen → (w : BlockView T A) × (block new b ≡ Some w)

  -- the same of a root and of everything nested in it; its pointers are those from before, and each value is defined still
  pub record RootStays (root : Ptr Operation) : Type 0 where
    pub own : OperationStays root
    pub inside : AllRegions OperationStays BlockStays (λ r. ⊤) (within old.graph (suc (length old.graph.operations.cells)) root)
    pub pointers : regions_by new.graph (within new.graph (suc (length new.graph.operations.cells))) (regions new.graph root) ≡ within old.graph (suc (length old.graph.operations.cells)) root
    pub values : (v : Value) → IsSome (value_at old.graph v) → IsSome (value_at new.graph v)
    pub dialects : new.dialects ≡ old.dialects

-- ---- nothing changes
module _ {T A : Type 0} (c : ContextView T A) where
  operation_itself : (p : Ptr Operation) → OperationStays c c p
  operation_itself p = record { same_operands = refl; same_successors = refl; same_results = refl; view = λ seen e. (seen, e, refl, refl) }

  block_itself : (b : Ptr BasicBlock) → BlockStays c c b
  block_itself b = λ seen e. (seen, e)

  mutual
    regions_themselves : (rs : Regions (Ptr Operation) (Ptr BasicBlock) (Ptr Region)) → AllRegions (OperationStays c c) (BlockStays c c) (λ r. ⊤) rs
    regions_themselves forest.no_regions = tt
    regions_themselves (forest.region r bs rs) = (tt, blocks_themselves bs, regions_themselves rs)

    blocks_themselves : (bs : Blocks (Ptr Operation) (Ptr BasicBlock) (Ptr Region)) → AllBlocks (OperationStays c c) (BlockStays c c) (λ r. ⊤) bs
    blocks_themselves forest.no_blocks = tt
    blocks_themselves (forest.block b os bs) = (block_itself b, operations_themselves os, blocks_themselves bs)

    operations_themselves : (os : Operations (Ptr Operation) (Ptr BasicBlock) (Ptr Region)) → AllOperations (OperationStays c c) (BlockStays c c) (λ r. ⊤) os
    operations_themselves forest.no_operations = tt
    operations_themselves (forest.operation p rs os) = (operation_itself p, regions_themselves rs, operations_themselves os)

  root_itself : Nested (children c.graph) (parent c.graph) → (root : Ptr Operation) → RootStays c c root
  root_itself nested root = record {
    own = operation_itself root;
    inside = regions_themselves (within c.graph (suc (length c.graph.operations.cells)) root);
    pointers = sym (inside_is c.graph nested root);
    values = λ v h. h;
    dialects = refl;
  }

-- ---- the data of one object changes, but for its locations
abbrev an_operation : {O B T : Type 0} → ℕ × OperationContent O T → Content O B T
an_operation d = AnOperation d.0 d.1

abbrev a_block : {O B T : Type 0} → ℕ × BlockContent B T → Content O B T
a_block d = ABlock d.0 d.1

-- the content of what is an operation
abbrev operation_in : {O B T : Type 0} → Option (Content O B T) → Option (OperationContent O T)
operation_in (Some (AnOperation born c)) = Some c
operation_in _ = None

-- the content of what is a block
abbrev block_in : {O B T : Type 0} → Option (Content O B T) → Option (BlockContent B T)
block_in (Some (ABlock born c)) = Some c
block_in _ = None

-- an operation's content with other data
abbrev data_changed : {O T : Type 0} → (O → O) → OperationContent O T → OperationContent O T
data_changed f c = record c { data_of = f c.data_of }

-- a block's content with other data
abbrev block_changed : {B T : Type 0} → (B → B) → BlockContent B T → BlockContent B T
block_changed f c = record c { data_of = f c.data_of }

-- the content of what an entry holds
abbrev content_at : {P C E : Type 0} → Option (Entry (Node P C E)) → Option E
content_at x = option_map (λ e. e.content.content) x

module _ {O B T : Type 0} where
  -- objects that are the same have the same content
  same_operation : (x y : Option (Entry (Node BasicBlock Region (OperationContent O T)))) → option_map (an_operation {O = O} {B = B} {T = T}) (content_of x) ≡ option_map (an_operation {O = O} {B = B} {T = T}) (content_of y) → content_at x ≡ content_at y
  same_operation None None e = refl
  same_operation None (Some y) e = absurd (cc e)
  same_operation (Some x) None e = absurd (cc e)
  same_operation (Some x) (Some y) e = ap operation_in e

  same_block : (x y : Option (Entry (Node Region Operation (BlockContent B T)))) → option_map (a_block {O = O} {B = B} {T = T}) (content_of x) ≡ option_map (a_block {O = O} {B = B} {T = T}) (content_of y) → content_at x ≡ content_at y
  same_block None None e = refl
  same_block None (Some y) e = absurd (cc e)
  same_block (Some x) None e = absurd (cc e)
  same_block (Some x) (Some y) e = ap block_in e

  module _ (f : O → O) (h : B → B) where
    -- and where its data changed, all but the data
    changed_operation : (x y : Option (Entry (Node BasicBlock Region (OperationContent O T)))) → option_map (an_operation {O = O} {B = B} {T = T}) (content_of x) ≡ option_map (changed f h) (option_map (an_operation {O = O} {B = B} {T = T}) (content_of y))
        → content_at x ≡ option_map (data_changed f) (content_at y)
    changed_operation None None e = refl
    changed_operation None (Some y) e = absurd (cc e)
    changed_operation (Some x) None e = absurd (cc e)
    changed_operation (Some x) (Some y) e = ap operation_in e

    changed_block : (x y : Option (Entry (Node Region Operation (BlockContent B T)))) → option_map (a_block {O = O} {B = B} {T = T}) (content_of x) ≡ option_map (changed f h) (option_map (a_block {O = O} {B = B} {T = T}) (content_of y))
        → content_at x ≡ option_map (block_changed h) (content_at y)
    changed_block None None e = refl
    changed_block None (Some y) e = absurd (cc e)
    changed_block (Some x) None e = absurd (cc e)
    changed_block (Some x) (Some y) e = ap block_in e

module _ {O T : Type 0} (f : O → O) where
  operands_kept : (c : Option (OperationContent O T)) → operands_of (option_map (data_changed f) c) ≡ operands_of c
  operands_kept None = refl
  operands_kept (Some c) = refl

  successors_kept : (c : Option (OperationContent O T)) → successors_of (option_map (data_changed f) c) ≡ successors_of c
  successors_kept None = refl
  successors_kept (Some c) = refl

  results_kept : (c : Option (OperationContent O T)) → results_of (option_map (data_changed f) c) ≡ results_of c
  results_kept None = refl
  results_kept (Some c) = refl

  edited_content : (y : Option (Entry (Node BasicBlock Region (OperationContent O T)))) → content_at (option_map (object_of (with_data f)) y) ≡ option_map (data_changed f) (content_at y)
  edited_content None = refl
  edited_content (Some y) = refl

  edited_children : (y : Option (Entry (Node BasicBlock Region (OperationContent O T)))) → children_of (option_map (object_of (with_data f)) y) ≡ children_of y
  edited_children None = refl
  edited_children (Some y) = refl

arguments_kept : {B T : Type 0} (h : B → B) (c : Option (BlockContent B T)) → arguments_of (option_map (block_changed h) c) ≡ arguments_of c
arguments_kept h None = refl
arguments_kept h (Some c) = refl

-- ---- forests of pointers are the same where what is nested is
module _ {O B T : Type 0} (g k : GraphView O B T) (f h : Ptr Operation → Regions (Ptr Operation) (Ptr BasicBlock) (Ptr Region)) where
  operations_frame : (ps : List (Ptr Operation)) → ((i : ℕ) (q : Ptr Operation) → slice_get ps i ≡ Some q → f q ≡ h q) → operations_by k f ps ≡ operations_by g h ps
  operations_frame [] e = refl
  operations_frame (p ∷ ps) e = ap₂ (λ x y. forest.operation p x y) (e 0 p refl) (operations_frame ps (λ i q at. e (suc i) q at))

  blocks_frame : (bs : List (Ptr BasicBlock)) → ((j : ℕ) (b : Ptr BasicBlock) → slice_get bs j ≡ Some b → operations_by k f (operations_in k b) ≡ operations_by g h (operations_in g b)) → blocks_by k f bs ≡ blocks_by g h bs
  blocks_frame [] e = refl
  blocks_frame (b ∷ bs) e = ap₂ (λ x y. forest.block b x y) (e 0 b refl) (blocks_frame bs (λ j c at. e (suc j) c at))

  regions_frame : (rs : List (Ptr Region)) → ((m : ℕ) (r : Ptr Region) → slice_get rs m ≡ Some r → blocks_by k f (blocks k r) ≡ blocks_by g h (blocks g r)) → regions_by k f rs ≡ regions_by g h rs
  regions_frame [] e = refl
  regions_frame (r ∷ rs) e = ap₂ (λ x y. forest.region r x y) (e 0 r refl) (regions_frame rs (λ m s at. e (suc m) s at))

-- ---- what is said of each object nested in an operation
module _ {O B T : Type 0} (g : GraphView O B T) (OfO : Ptr Operation → Type 0) (OfB : Ptr BasicBlock → Type 0) (f : Ptr Operation → Regions (Ptr Operation) (Ptr BasicBlock) (Ptr Region)) where
  all_operations : (ps : List (Ptr Operation)) → ((i : ℕ) (q : Ptr Operation) → slice_get ps i ≡ Some q → OfO q × AllRegions OfO OfB (λ r. ⊤) (f q)) → AllOperations OfO OfB (λ r. ⊤) (operations_by g f ps)
  all_operations [] e = tt
  all_operations (p ∷ ps) e = let x = e 0 p refl in (x.0, x.1, all_operations ps (λ i q at. e (suc i) q at))

  all_blocks : (bs : List (Ptr BasicBlock)) → ((j : ℕ) (b : Ptr BasicBlock) → slice_get bs j ≡ Some b → OfB b × AllOperations OfO OfB (λ r. ⊤) (operations_by g f (operations_in g b))) → AllBlocks OfO OfB (λ r. ⊤) (blocks_by g f bs)
  all_blocks [] e = tt
  all_blocks (b ∷ bs) e = let x = e 0 b refl in (x.0, x.1, all_blocks bs (λ j c at. e (suc j) c at))

  all_regions : (rs : List (Ptr Region)) → ((m : ℕ) (r : Ptr Region) → slice_get rs m ≡ Some r → AllBlocks OfO OfB (λ r. ⊤) (blocks_by g f (blocks g r))) → AllRegions OfO OfB (λ r. ⊤) (regions_by g f rs)
  all_regions [] e = tt
  all_regions (r ∷ rs) e = (tt, e 0 r refl, all_regions rs (λ m s at. e (suc m) s at))

module _ {T A : Type 0} (old new : ContextView T A) where
  abbrev data_in : Option (OperationContent (Option (OperationData A)) (Option T)) → Option (OperationData A)
  data_in None = None
  data_in (Some c) = c.data_of

  view_stays : (l : Location A) (x y : Option (OperationEntry T A)) → content_at x ≡ option_map (data_changed (option_map (with_loc l))) (content_at y) → (seen : OperationView T A) → option_and_then operation_of y ≡ Some seen
      → (w : OperationView T A) × (option_and_then operation_of x ≡ Some w) × (w.id ≡ seen.id) × (w.attributes ≡ seen.attributes)
  view_stays l x None e seen f = absurd (cc f)
  view_stays l None (Some y) e seen f = absurd (cc e)
  view_stays l (Some x) (Some y) e seen f = go x.content.content.data_of y.content.content.data_of (ap data_in e) f
    where
      go : (d c : Option (OperationData A)) → d ≡ option_map (with_loc l) c → option_map (view_of y.content.content.results y.content.children) c ≡ Some seen
          → (w : OperationView T A) × (option_map (view_of x.content.content.results x.content.children) d ≡ Some w) × (w.id ≡ seen.id) × (w.attributes ≡ seen.attributes)
      go d None is g = absurd (cc g)
      go None (Some held) is g = absurd (cc is)
      go (Some now) (Some held) is g =
          let same : now ≡ with_loc l held = some_eq is in
          let view = some_eq g in
          (view_of x.content.content.results x.content.children now, refl, ap (λ (d : OperationData A). d.id) same ∙ ap (λ (v : OperationView T A). v.id) view, ap (λ (d : OperationData A). d.attributes) same ∙ ap (λ (v : OperationView T A). v.attributes) view)

  operation_stays : (l : Location A) (p : Ptr Operation) → content_at (get new.graph.operations p) ≡ option_map (data_changed (option_map (with_loc l))) (content_at (get old.graph.operations p)) → OperationStays old new p
  operation_stays l p e = record {
    same_operands = ap operands_of e ∙ operands_kept (option_map (with_loc l)) (content_at (get old.graph.operations p));
    same_successors = ap successors_of e ∙ successors_kept (option_map (with_loc l)) (content_at (get old.graph.operations p));
    same_results = ap results_of e ∙ results_kept (option_map (with_loc l)) (content_at (get old.graph.operations p));
    view = view_stays l (get new.graph.operations p) (get old.graph.operations p) e;
  }

  block_stays : (l : Location A) (x y : Option (BlockEntry T A)) → content_at x ≡ option_map (block_changed (with_block_loc l)) (content_at y) → (seen : BlockView T A) → option_map block_of y ≡ Some seen → (w : BlockView T A) × (option_map block_of x ≡ Some w)
  block_stays l x None e seen f = absurd (cc f)
  block_stays l None (Some y) e seen f = absurd (cc e)
  block_stays l (Some x) (Some y) e seen f = (block_of x, refl)

  -- ---- locations are erased
  module _ (root : Ptr Operation) (erased : ErasesLocations old new root) (nested : Nested (children old.graph) (parent old.graph)) where
    abbrev In : Object → Type 0
    In q = IsInside old.graph (TheOperation root) q

    child_in : (k c : Object) → parent old.graph c ≡ Some k → In k → In c
    child_in k c up w = (suc w.0, ap (climb (parent old.graph) w.0) up ∙ w.1)

    region_inside : (p : Ptr Operation) (r : Ptr Region) (m : ℕ) → slice_get (regions old.graph p) m ≡ Some r → In (TheOperation p) → In (TheRegion r)
    region_inside p r m e w = child_in (TheOperation p) (TheRegion r) (nested.down (TheOperation p) m (TheRegion r) (slice_get-map TheRegion (regions old.graph p) m ∙ ap (option_map TheRegion) e)) w

    block_inside : (r : Ptr Region) (b : Ptr BasicBlock) (j : ℕ) → slice_get (blocks old.graph r) j ≡ Some b → In (TheRegion r) → In (TheBlock b)
    block_inside r b j e w = child_in (TheRegion r) (TheBlock b) (nested.down (TheRegion r) j (TheBlock b) (slice_get-map TheBlock (blocks old.graph r) j ∙ ap (option_map TheBlock) e)) w

    operation_inside : (b : Ptr BasicBlock) (q : Ptr Operation) (i : ℕ) → slice_get (operations_in old.graph b) i ≡ Some q → In (TheBlock b) → In (TheOperation q)
    operation_inside b q i e w = child_in (TheBlock b) (TheOperation q) (nested.down (TheBlock b) i (TheOperation q) (slice_get-map TheOperation (operations_in old.graph b) i ∙ ap (option_map TheOperation) e)) w

    operation_erased : (p : Ptr Operation) → In (TheOperation p) → OperationStays old new p
    operation_erased p w = operation_stays Unknown p (changed_operation (option_map (with_loc Unknown)) (with_block_loc Unknown) (get new.graph.operations p) (get old.graph.operations p) (erased.graph.inside (TheOperation p) w).what)

    block_erased : (b : Ptr BasicBlock) → In (TheBlock b) → BlockStays old new b
    block_erased b w = block_stays Unknown (get new.graph.blocks b) (get old.graph.blocks b) (changed_block (option_map (with_loc Unknown)) (with_block_loc Unknown) (get new.graph.blocks b) (get old.graph.blocks b) (erased.graph.inside (TheBlock b) w).what)

    same_regions : (p : Ptr Operation) → In (TheOperation p) → regions new.graph p ≡ regions old.graph p
    same_regions p w = map_same TheRegion region_same (regions new.graph p) (regions old.graph p) (erased.graph.inside (TheOperation p) w).items

    same_blocks : (r : Ptr Region) → In (TheRegion r) → blocks new.graph r ≡ blocks old.graph r
    same_blocks r w = map_same TheBlock block_same (blocks new.graph r) (blocks old.graph r) (erased.graph.inside (TheRegion r) w).items

    same_operations : (b : Ptr BasicBlock) → In (TheBlock b) → operations_in new.graph b ≡ operations_in old.graph b
    same_operations b w = map_same TheOperation operation_same (operations_in new.graph b) (operations_in old.graph b) (erased.graph.inside (TheBlock b) w).items

    within_erased : (n : ℕ) (p : Ptr Operation) → In (TheOperation p) → within new.graph n p ≡ within old.graph n p
    within_erased zero p w = refl
    within_erased (suc n) p w =
        ap (regions_by new.graph (within new.graph n)) (same_regions p w)
        ∙ regions_frame old.graph new.graph (within new.graph n) (within old.graph n) (regions old.graph p) (λ m r at. let v = region_inside p r m at w in
        ap (blocks_by new.graph (within new.graph n)) (same_blocks r v)
        ∙ blocks_frame old.graph new.graph (within new.graph n) (within old.graph n) (blocks old.graph r) (λ j b at. let u = block_inside r b j at v in
        ap (operations_by new.graph (within new.graph n)) (same_operations b u)
        ∙ operations_frame old.graph new.graph (within new.graph n) (within old.graph n) (operations_in old.graph b) (λ i q at. within_erased n q (operation_inside b q i at u))))

    all_erased : (n : ℕ) (p : Ptr Operation) → In (TheOperation p) → AllRegions (OperationStays old new) (BlockStays old new) (λ r. ⊤) (within old.graph n p)
    all_erased zero p w = tt
    all_erased (suc n) p w = all_regions old.graph (OperationStays old new) (BlockStays old new) (within old.graph n) (regions old.graph p) (λ m r at. let v = region_inside p r m at w in
        all_blocks old.graph (OperationStays old new) (BlockStays old new) (within old.graph n) (blocks old.graph r) (λ j b at. let u = block_inside r b j at v in (
          block_erased b u,
          all_operations old.graph (OperationStays old new) (BlockStays old new) (within old.graph n) (operations_in old.graph b) (λ i q at. let t = operation_inside b q i at u in (operation_erased q t, all_erased n q t)),
        )))

    defined_still : (v : Value) → IsSome (value_at old.graph v) → IsSome (value_at new.graph v)
    defined_still (Result p i) h = sure (is_some (slice_get (results new.graph p) i)) (λ no.
        let out = λ (w : In (TheOperation p)). no (subst (λ rs. IsSome (slice_get rs i)) (sym (operation_erased p w).same_results) h) in
        no (subst (λ rs. IsSome (slice_get rs i)) (sym (ap results_of (same_operation (get new.graph.operations p) (get old.graph.operations p) (erased.graph.others (TheOperation p) out).what))) h))
    defined_still (Argument b i) h = sure (is_some (slice_get (arguments new.graph b) i)) (λ no.
        let out = λ (w : In (TheBlock b)). no (subst (λ rs. IsSome (slice_get rs i)) (sym (ap arguments_of (changed_block (option_map (with_loc Unknown)) (with_block_loc Unknown) (get new.graph.blocks b) (get old.graph.blocks b) (erased.graph.inside (TheBlock b) w).what)
        ∙ arguments_kept (with_block_loc Unknown) (content_at (get old.graph.blocks b)))) h) in
        no (subst (λ rs. IsSome (slice_get rs i)) (sym (ap arguments_of (same_block (get new.graph.blocks b) (get old.graph.blocks b) (erased.graph.others (TheBlock b) out).what))) h))

    root_erased : RootStays old new root
    root_erased = record {
      own = operation_erased root (0, refl);
      inside = all_erased (suc (length old.graph.operations.cells)) root (0, refl);
      pointers = ap (λ (n : ℕ). within new.graph (suc (suc n)) root) erased.graph.rest.operation_places.len ∙ (within_erased (suc (suc (length old.graph.operations.cells))) root (0, refl) ∙ sym (inside_is old.graph nested root));
      values = defined_still;
      dialects = erased.dialects;
    }

  -- ---- a root without regions gets a location
  module _ (root : Ptr Operation) (place : Location A) (edits : EditsOperation old new root (with_loc place)) (leaf : regions old.graph root ≡ []) where
    leaf_placed : OperationStays old new root
    leaf_placed = operation_stays place root (ap content_at edits.graph.operations.updates.changed ∙ edited_content (option_map (with_loc place)) (get old.graph.operations root))

    leaf_still : regions new.graph root ≡ []
    leaf_still = ap children_of edits.graph.operations.updates.changed ∙ (edited_children (option_map (with_loc place)) (get old.graph.operations root) ∙ leaf)

    results_still : (p : Ptr Operation) → results new.graph p ≡ results old.graph p
    results_still p = elim (ptr_or p root) [
      | inl e ↦ subst (λ q. results new.graph q ≡ results old.graph q) (sym e) leaf_placed.same_results
      | inr n ↦ ap (λ x. results_of (content_at x)) (edits.graph.operations.updates.others p n)
    ]

    values_still : (v : Value) → IsSome (value_at old.graph v) → IsSome (value_at new.graph v)
    values_still (Result p i) h = subst (λ rs. IsSome (slice_get rs i)) (sym (results_still p)) h
    values_still (Argument b i) h = subst (λ bs. IsSome (slice_get (arguments_of (content_at (get bs b))) i)) (sym edits.graph.blocks) h

    root_placed : RootStays old new root
    root_placed = record {
      own = leaf_placed;
      inside = subst (λ rs. AllRegions (OperationStays old new) (BlockStays old new) (λ r. ⊤) (regions_by old.graph (within old.graph (length old.graph.operations.cells)) rs)) (sym leaf) tt;
      pointers = ap (regions_by new.graph (within new.graph (suc (length new.graph.operations.cells)))) leaf_still ∙ sym (ap (regions_by old.graph (within old.graph (length old.graph.operations.cells))) leaf);
      values = values_still;
      dialects = edits.dialects;
    }

-- ---- what a layout does
module _ {T A : Type 0} (old new : ContextView T A) (root : Ptr Operation) (nested : Nested (children old.graph) (parent old.graph)) where
  unchanged : new ≡ old → RootStays old new root
  unchanged e = subst (λ (c : ContextView T A). RootStays old c root) (sym e) (root_itself old nested root)

  shown : (b : Bool) → ShowsLocations b root old new → RootStays old new root
  shown true e = unchanged e
  shown false e = root_erased old new root e nested

  kept_or_placed : (begin : Text) (seen : OperationView T A) (l : Location A) → seen.loc ≡ l → KeepsPlace begin root old new seen → regions old.graph root ≡ [] → RootStays old new root
  kept_or_placed begin seen Unknown is k leaf = let e = k.unknown is in root_placed old new root e.0 e.2 leaf
  kept_or_placed begin seen _ is k leaf = unchanged (k.known (λ e. cc))

  placed : (begin : Text) (o : Option (OperationView T A)) → IsSome o → IfSome o (KeepsPlace begin root old new) → regions old.graph root ≡ [] → RootStays old new root
  placed begin None live k leaf = absurd (cc live)
  placed begin (Some seen) live k leaf = kept_or_placed begin seen seen.loc refl k leaf

  -- a root stays where its locations are laid out
  pub laid_stays : (layout : Layout) (followed : Bool) (begin : Text) → IsSome (operation old root) → LaysOut layout followed begin root old new → RootStays old new root
  laid_stays layout followed begin live lays = go followed refl (regions old.graph root) refl
    where
      go : (f : Bool) → followed ≡ f → (rs : List (Ptr Region)) → regions old.graph root ≡ rs → RootStays old new root
      go true e [] leaf = placed begin (operation old root) live (lays.alone e leaf) leaf
      go true e (r ∷ rs) more = shown layout.locations (lays.other (λ f leaf. let no : r ∷ rs ≡ [] = sym more ∙ leaf in cc))
      go false e rs leaf = shown layout.locations (lays.other (λ f leaf. let no : true ≡ false = sym f ∙ e in cc))
