-- The profiles of a root that was parsed, whose locations are laid out, are those of what its tree builds. So the tree decides whether the
-- root can be printed.
use Rattle.std.proofs.Common.{◌≡◌, ◌∙◌, ◌⊎◌, inl, inr, ℕ, suc, Bool, List, [], ◌∷◌, length, map, filter_map, slice_get, Option, Some, None, IsSome, option_map, refl, sym, ap, ap₂, subst}
use Rattle.std.specs.List.{cons_option}
use Rattle.std.specs.Prelude.{⊤}
use Rattle.irtext_base.specs.Faults.{id_of}
use Rattle.irtext_base.specs.Format.{Id}
use Rattle.irtext_base.specs.Paths.{Written}
use Rattle.irtext_base.specs.Text.{Text}
use Rattle.irtext_base.specs.declared.location.Source.TheVariants.{InMemory}
use Rattle.irtext_base.specs.declared.text.AttrText as attr_text
use Rattle.irtext_base.specs.declared.text.IrText as ir_text
use Rattle.irtext_context.specs.Context.{ContextView, OperationView, BlockView, operation, block}
use Rattle.irtext_context.specs.Dialects.{Table}
use Rattle.irtext_graph.proofs.Nests.{some_eq}
use Rattle.irtext_graph.specs.Content.{Typed}
use Rattle.irtext_graph.specs.Parts.{operands, successors, results, value_at}
use Rattle.irtext_graph.specs.Used.{IsUse, IsDefined}
use Rattle.irtext_graph.specs.declared.arena.Ptr.{Ptr}
use Rattle.irtext_graph.specs.declared.object.BasicBlock.{BasicBlock}
use Rattle.irtext_graph.specs.declared.object.Defined.{Defined}
use Rattle.irtext_graph.specs.declared.object.Defined.TheVariants.{OfValue}
use Rattle.irtext_graph.specs.declared.object.Object.{Object}
use Rattle.irtext_graph.specs.declared.object.Operation.{Operation}
use Rattle.irtext_graph.specs.declared.object.Site.{Site}
use Rattle.irtext_graph.specs.declared.object.Site.TheVariants.{AtOperand}
use Rattle.irtext_graph.specs.declared.object.Value.{Value}
use Rattle.irtext_grammar.specs.Contexts.Formats.{format_of, isolated}
use Rattle.irtext_grammar.specs.Contexts.Held.{entries_of, known_types}
use Rattle.irtext_grammar.specs.Contexts.Nested.{pointers, number_of, place_of, typed_number, seen_operation, seen_block, seen_regions, seen_blocks, seen_operations}
use Rattle.irtext_grammar.specs.Grammar.Forest as forest
use Rattle.irtext_grammar.specs.Grammar.Forest.{Regions, no_regions, Blocks, no_blocks, Operations, no_operations, AllRegions, AllBlocks, AllOperations}
use Rattle.irtext_grammar.specs.Grammar.Section.{Entry}
use Rattle.irtext_grammar.specs.Grammar.Tree.{Attribute, Tree}
use Rattle.irtext_grammar.specs.Graphs.Build.{Built, BuiltOp, BuiltBlock, built_op, built_regions, built_blocks, built_operations, build}
use Rattle.irtext_grammar.specs.Graphs.Graph.{GraphOp, GraphBlock, Printing}
use Rattle.irtext_grammar.specs.Names.Scopes.{Fact}
use Rattle.irtext_grammar.specs.Names.Script.{Path, Place}
use Rattle.irtext_grammar.specs.Promises.Root.{location_of}
use Rattle.irtext_names.specs.Held.{PtrRegions, PtrBlocks, PtrOperations, placed_under, value_place, block_place, held_op, held_head, held_regions, held_blocks, held_operations, held_root, OperationWhole, BlockWhole, IsWhole}
use Rattle.irtext_names.specs.Placed.{TreeRegions, TreeBlocks, TreeOperations}
use Rattle.irtext_print.specs.declared.printable.refusal.Refusal.{Refusal}
use Rattle.irtext_print_ops.specs.Faults.{OperationFault, RegionsFault}
use Rattle.irtext_print_ops.specs.Heads as heads
use Rattle.irtext_print_ops.specs.Heads.{no_block}
use Rattle.irtext_print_ops.specs.Walk.{or_nothing}
use Rattle.pliron_text.proofs.Shown.{typed_seen, known_again, results_seen}
use Rattle.irtext_formatter.proofs.Profiles.{profile, built_profile, region_profiles, block_profiles, operation_profiles, operation_in, operation_out, regions_in, regions_out}
use Rattle.irtext_formatter.proofs.Stays.{OperationStays, BlockStays, RootStays}
use Rattle.pliron_text.specs.Unprinted.{plain}

-- ---- lists of which only the length counts
retyped : {T : Type 0} (rs : List (ℕ × T)) → map {B = ℕ × T} (λ (r : ℕ × T). (0, r.1)) rs ≡ map {B = ℕ × T} (λ (t : T). (0, t)) (map (λ (r : ℕ × T). r.1) rs)
retyped [] = refl
retyped {T} (r ∷ rs) = ap (λ (z : List (ℕ × T)). (0, r.1) ∷ z) (retyped rs)

only_many : {X Y Z W : Type 0} (f : X → Y) (g : X → Z) (w : W) (xs : List X) → map (λ (y : Y). w) (map f xs) ≡ map (λ (z : Z). w) (map g xs)
only_many f g w [] = refl
only_many f g w (x ∷ xs) = ap (λ z. w ∷ z) (only_many f g w xs)

same_profile : {T A : Type 0} {i j : Id} {rs qs : List (ℕ × T)} {vs us : List ℕ} {bs cs : List (ℕ × ℕ)} {es fs : List (Text × Attribute A)} → i ≡ j → rs ≡ qs → vs ≡ us → bs ≡ cs → es ≡ fs
    → ◌≡◌ {A = GraphOp T A} (record { id = i; results = rs; operands = vs; successors = bs; attributes = es; location = None }) (record { id = j; results = qs; operands = us; successors = cs; attributes = fs; location = None })
same_profile a b c d e = rw (a, b, c, d, e) refl

same_node : {O B : Type 0} {o q : O} {rs ss : Regions O B ⊤} {os ps : Operations O B ⊤} → o ≡ q → rs ≡ ss → os ≡ ps → forest.operation o rs os ≡ forest.operation q ss ps
same_node a b c = rw (a, b, c) refl

-- ---- what printing sees now, and what was held before
module _ {T A : Type 0} (old new : ContextView T A) (text_of : A → Text) (all : List (Object × Path)) (used : (u : Site) (d : Defined) → IsUse old.graph d u → IsDefined old.graph d) (values : (v : Value) → IsSome (value_at old.graph v) → IsSome (value_at new.graph v)) where
  numbered : (vs : List Value) → ((i : ℕ) (v : Value) → slice_get vs i ≡ Some v → IsSome (value_at new.graph v)) → map {B = ℕ} (λ (n : ℕ). 0) (filter_map (number_of new) vs) ≡ map {B = ℕ} (λ (p : Option Place). 0) (map (value_place all) vs)
  numbered [] h = refl
  numbered (v ∷ vs) h = go (value_at new.graph v) (h 0 v refl) (numbered vs (λ i w at. h (suc i) w at))
    where
      go : (o : Option (Typed (Option T))) → IsSome o → map {B = ℕ} (λ (n : ℕ). 0) (filter_map (number_of new) vs) ≡ map {B = ℕ} (λ (p : Option Place). 0) (map (value_place all) vs)
          → map {B = ℕ} (λ (n : ℕ). 0) (cons_option (option_map (λ (t : Typed (Option T)). t.number) o) (filter_map (number_of new) vs)) ≡ 0 ∷ map {B = ℕ} (λ (p : Option Place). 0) (map (value_place all) vs)
      go None live e = absurd (cc live)
      go (Some t) live e = ap (λ (z : List ℕ). 0 ∷ z) e

  operation_profile : (p : Ptr Operation) (whole : OperationWhole old p) → OperationStays old new p → (w : OperationView T A) → w.id ≡ whole.view.id → w.attributes ≡ whole.view.attributes → profile (seen_operation text_of new p w) ≡ built_profile (held_op old all p whole.view)
  operation_profile p whole stays w id attributes =
      let types = typed_seen (results old.graph p) whole.types (sym (results_seen old p whole.view whole.is) ∙ whole.known_as) in
      let known : known_types whole.view.result_types ≡ whole.types = ap known_types whole.known_as ∙ known_again whole.types in
      same_profile (ap id_of id)
      (ap (λ rs. map {B = ℕ × T} (λ (r : ℕ × T). (0, r.1)) (filter_map typed_number rs)) stays.same_results ∙ (retyped (filter_map typed_number (results old.graph p)) ∙ ap (map {B = ℕ × T} (λ (t : T). (0, t))) (types ∙ sym known)))
      (ap (λ vs. map {B = ℕ} (λ (n : ℕ). 0) (filter_map (number_of new) vs)) stays.same_operands ∙ numbered (operands old.graph p) (λ i v at. values v (used (AtOperand p i) (OfValue v) (ap (option_map OfValue) at))))
      (ap (λ bs. map {B = ℕ × ℕ} (λ (b : ℕ × ℕ). (0, 0)) (map (place_of new) bs)) stays.same_successors ∙ only_many (place_of new) (block_place all) (0, 0) (successors old.graph p))
      (ap entries_of attributes)

  mutual
    regions_profile : (ps : PtrRegions) → AllRegions (OperationWhole old) (BlockWhole old) (λ r. ⊤) ps → AllRegions (OperationStays old new) (BlockStays old new) (λ r. ⊤) ps
        → region_profiles profile (seen_regions text_of new ps) ≡ region_profiles built_profile (held_regions old all ps)
    regions_profile no_regions w k = refl
    regions_profile (forest.region r bs ps) w k = ap₂ (λ x y. forest.region tt x y) (blocks_profile bs w.1 k.1) (regions_profile ps w.2 k.2)

    blocks_profile : (ps : PtrBlocks) → AllBlocks (OperationWhole old) (BlockWhole old) (λ r. ⊤) ps → AllBlocks (OperationStays old new) (BlockStays old new) (λ r. ⊤) ps
        → block_profiles profile (seen_blocks text_of new ps) ≡ block_profiles built_profile (held_blocks old all ps)
    blocks_profile no_blocks w k = refl
    blocks_profile (forest.block b os ps) w k =
        ap (λ z. block_profiles profile (elim z [ Some view ↦ forest.block (seen_block text_of new b view) (seen_operations text_of new os) (seen_blocks text_of new ps) | None ↦ seen_blocks text_of new ps ])) (k.0 w.0.view w.0.is).1
        ∙ (ap₂ (λ x y. forest.block no_block x y) (operations_profile os w.1 k.1) (blocks_profile ps w.2 k.2)
        ∙ sym (ap (λ z. block_profiles built_profile (elim z [ Some view ↦ forest.block (held_head old all view) (held_operations old all os) (held_blocks old all ps) | None ↦ held_blocks old all ps ])) w.0.is))

    operations_profile : (ps : PtrOperations) → AllOperations (OperationWhole old) (BlockWhole old) (λ r. ⊤) ps → AllOperations (OperationStays old new) (BlockStays old new) (λ r. ⊤) ps
        → operation_profiles profile (seen_operations text_of new ps) ≡ operation_profiles built_profile (held_operations old all ps)
    operations_profile no_operations w k = refl
    operations_profile (forest.operation p rs ps) w k =
        let v = k.0.view w.0.view w.0.is in
        ap (λ z. operation_profiles profile (elim z [ Some view ↦ forest.operation (seen_operation text_of new p view) (seen_regions text_of new rs) (seen_operations text_of new ps) | None ↦ seen_operations text_of new ps ])) v.1
        ∙ (same_node (operation_profile p w.0 k.0 v.0 v.2 v.3) (regions_profile rs w.1 k.1) (operations_profile ps w.2 k.2)
        ∙ sym (ap (λ z. operation_profiles built_profile (elim z [ Some view ↦ forest.operation (held_op old all p view) (held_regions old all rs) (held_operations old all ps) | None ↦ held_operations old all ps ])) w.0.is))

-- ---- what a tree builds has the same profiles wherever it stands
module _ {T A X : Type 0} (isolated : Id → Bool) (first other : ℕ → X) (es : List (Entry ℕ A X)) where
  mutual
    regions_anywhere : (v : List (Fact Text)) (p : Path) (j : ℕ) (iso : Bool) (ts : TreeRegions T A) → region_profiles built_profile (built_regions isolated first es v p j iso ts) ≡ region_profiles built_profile (built_regions isolated other es v p j iso ts)
    regions_anywhere v p j iso no_regions = refl
    regions_anywhere v p j iso (forest.region r bs ts) = ap₂ (λ x y. forest.region tt x y) (blocks_anywhere _ _ (j ∷ p) 0 bs) (regions_anywhere v p (suc j) iso ts)

    blocks_anywhere : (v l : List (Fact Text)) (p : Path) (j : ℕ) (ts : TreeBlocks T A) → block_profiles built_profile (built_blocks isolated first es v l p j ts) ≡ block_profiles built_profile (built_blocks isolated other es v l p j ts)
    blocks_anywhere v l p j no_blocks = refl
    blocks_anywhere v l p j (forest.block h os ts) = ap₂ (λ x y. forest.block no_block x y) (operations_anywhere v l (j ∷ p) 0 os) (blocks_anywhere v l p (suc j) ts)

    operations_anywhere : (v l : List (Fact Text)) (p : Path) (j : ℕ) (ts : TreeOperations T A) → operation_profiles built_profile (built_operations isolated first es v l p j ts) ≡ operation_profiles built_profile (built_operations isolated other es v l p j ts)
    operations_anywhere v l p j no_operations = refl
    operations_anywhere v l p j (forest.operation o rs ts) =
        ap₂ (λ x y. forest.operation (built_profile (built_op isolated first es v l o)) x y) (regions_anywhere v (j ∷ p) 0 (isolated o.id) rs) (operations_anywhere v l p (suc j) ts)

-- ---- why a root cannot be printed
module _ {T A : Type 0} (types : ir_text.Ghosts T A) (owns : ir_text.Ghosts A A) (attributes : attr_text.Ghosts A A) (same : A → A → Bool) where
  -- what printing asks of dialects and of the caller's attributes, with no names
  abbrev nameless : List (Text × Table) → Printing T A
  nameless dialects = record {
    given = λ n. None;
    label = λ b. None;
    type_of = λ n. None;
    own_outlined = attributes.outlined;
    own_once = attributes.print_once;
    same_own = same;
    format_of = format_of dialects;
  }

  -- what was built cannot be printed for this reason
  abbrev BuiltFault : List (Text × Table) → Refusal → Built T A (Written A) → Type 0
  BuiltFault dialects e b =
      OperationFault (nameless dialects) (isolated dialects) 2 e (built_profile b.own) (region_profiles built_profile b.regions) ⊎ RegionsFault (nameless dialects) (isolated dialects) 2 e 0 None (region_profiles built_profile b.regions)

  -- a tree cannot, with its section
  abbrev pub TreeFault : List (Text × Table) → Refusal → Tree ℕ T A → List (Entry ℕ A (Written A)) → Type 0
  TreeFault dialects e tree entries = BuiltFault dialects e (build (isolated dialects) (location_of [] InMemory []) entries tree)

  module _ (old new : ContextView T A) (root : Ptr Operation) (stays : RootStays old new root) (whole : IsWhole old root) (used : (u : Site) (d : Defined) → IsUse old.graph d u → IsDefined old.graph d)
      (b : Built T A (Written A)) (builds : held_root old root ≡ Some b) where
    abbrev all : List (Object × Path)
    all = placed_under (pointers old.graph root)

    abbrev held : OperationView T A → Built T A (Written A)
    held view = record { own = held_op old all root view; regions = held_regions old all (pointers old.graph root).regions }

    held_is : held whole.0.view ≡ b
    held_is = some_eq (sym (ap (option_map held) whole.0.is) ∙ builds)

    own_profile : profile (heads.operation_at types owns attributes same new root) ≡ built_profile b.own
    own_profile =
        let v = stays.own.view whole.0.view whole.0.is in
        ap (λ z. profile (or_nothing (option_map (seen_operation owns.written new root) z))) v.1
        ∙ (operation_profile old new owns.written all used stays.values root whole.0 stays.own v.0 v.2 v.3 ∙ ap (λ (z : Built T A (Written A)). built_profile z.own) held_is)

    inner_profiles : region_profiles profile (heads.regions_under types owns attributes same new root) ≡ region_profiles built_profile b.regions
    inner_profiles =
        ap (λ ps. region_profiles profile (seen_regions owns.written new ps)) stays.pointers
        ∙ (regions_profile old new owns.written all used stays.values (pointers old.graph root).regions whole.1 stays.inside ∙ ap (λ (z : Built T A (Written A)). region_profiles built_profile z.regions) held_is)

    abbrev C : Printing T A
    C = heads.printing_of types owns attributes same new

    abbrev D : Printing T A
    D = nameless new.dialects

    fault_in : (e : Refusal) → heads.FaultUnder types owns attributes same new root plain e → BuiltFault new.dialects e b
    fault_in e (inl x) = inl (subst (λ o. OperationFault D (isolated new.dialects) 2 e o (region_profiles built_profile b.regions)) own_profile
        (subst (λ rs. OperationFault D (isolated new.dialects) 2 e (profile (heads.operation_at types owns attributes same new root)) rs) inner_profiles
        (operation_in C D (isolated new.dialects) (λ a. refl) (λ id. refl) 2 e (heads.operation_at types owns attributes same new root) (heads.regions_under types owns attributes same new root) x)))
    fault_in e (inr x) = inr (subst (RegionsFault D (isolated new.dialects) 2 e 0 None) inner_profiles (regions_in C D (isolated new.dialects) (λ a. refl) (λ id. refl) 2 e 0 (heads.regions_under types owns attributes same new root) x))

    fault_out : (e : Refusal) → BuiltFault new.dialects e b → heads.FaultUnder types owns attributes same new root plain e
    fault_out e (inl x) = inl (operation_out D C (isolated new.dialects) (λ a. refl) (λ id. refl) 2 e (heads.operation_at types owns attributes same new root) (heads.regions_under types owns attributes same new root)
        (subst (λ rs. OperationFault D (isolated new.dialects) 2 e (profile (heads.operation_at types owns attributes same new root)) rs) (sym inner_profiles)
        (subst (λ o. OperationFault D (isolated new.dialects) 2 e o (region_profiles built_profile b.regions)) (sym own_profile) x)))
    fault_out e (inr x) = inr (regions_out D C (isolated new.dialects) (λ a. refl) (λ id. refl) 2 e 0 (heads.regions_under types owns attributes same new root) (subst (RegionsFault D (isolated new.dialects) 2 e 0 None) (sym inner_profiles) x))

  -- the locations of what is built do not count
  elsewhere : (dialects : List (Text × Table)) (first other : ℕ → Written A) (entries : List (Entry ℕ A (Written A))) (tree : Tree ℕ T A) (e : Refusal) → BuiltFault dialects e (build (isolated dialects) first entries tree) → BuiltFault dialects e (build (isolated dialects) other entries tree)
  elsewhere dialects first other entries tree e =
      subst (λ rs. OperationFault (nameless dialects) (isolated dialects) 2 e (built_profile (built_op (isolated dialects) first entries [] [] tree.own)) rs ⊎ RegionsFault (nameless dialects) (isolated dialects) 2 e 0 None rs)
      (regions_anywhere (isolated dialects) first other entries [] [] 0 (isolated dialects tree.own.id) tree.regions)

  -- A root that was parsed in a sound context, as it is shown, cannot be printed for a reason exactly if its tree cannot.
  module _ (old new : ContextView T A) (root : Ptr Operation) (stays : RootStays old new root) (whole : IsWhole old root) (used : (u : Site) (d : Defined) → IsUse old.graph d u → IsDefined old.graph d)
      (dialects : List (Text × Table)) (is : new.dialects ≡ dialects) (first : ℕ → Written A) (entries : List (Entry ℕ A (Written A))) (tree : Tree ℕ T A) (builds : held_root old root ≡ Some (build (isolated dialects) first entries tree)) where
    pub shown_fault : (e : Refusal) → heads.FaultUnder types owns attributes same new root plain e → TreeFault dialects e tree entries
    shown_fault e x = elsewhere dialects first (location_of [] InMemory []) entries tree e (subst (λ d. BuiltFault d e (build (isolated dialects) first entries tree)) is (fault_in old new root stays whole used (build (isolated dialects) first entries tree) builds e x))

    pub tree_fault : (e : Refusal) → TreeFault dialects e tree entries → heads.FaultUnder types owns attributes same new root plain e
    tree_fault e x = fault_out old new root stays whole used (build (isolated dialects) first entries tree) builds e (subst (λ d. BuiltFault d e (build (isolated dialects) first entries tree)) (sym is) (elsewhere dialects (location_of [] InMemory []) first entries tree e x))
