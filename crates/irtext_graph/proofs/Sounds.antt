-- What is always true of the objects stays true.
use Rattle.std.proofs.Common.{◌≡◌, ◌≢◌, ◌<◌, ◌+◌, ◌⊎◌, ◌∙◌, ℕ, refl, sym, ap, arith, inl, inr, Option, Some, None, IsSome, [], map, length, slice_get}
use Rattle.std.specs.Option.{option_map}
use Rattle.irtext_few.specs.Growing.{listed}
use Rattle.irtext_graph.specs.Arena.{get, found, HasFew, Inserts}
use Rattle.irtext_graph.specs.declared.arena.Arena.{Arena}
use Rattle.irtext_graph.specs.declared.arena.Entry.{Entry}
use Rattle.irtext_graph.specs.declared.arena.Ptr.{Ptr}
use Rattle.irtext_graph.specs.declared.nest.Nest.{Nest}
use Rattle.irtext_graph.specs.declared.object.Operation.{Operation}
use Rattle.irtext_graph.specs.declared.object.BasicBlock.{BasicBlock}
use Rattle.irtext_graph.specs.declared.object.Region.{Region}
use Rattle.irtext_graph.specs.declared.object.Object.{Object}
use Rattle.irtext_graph.specs.declared.object.Object.TheVariants.{TheOperation, TheBlock, TheRegion}
use Rattle.irtext_graph.specs.declared.object.Value.{Value}
use Rattle.irtext_graph.specs.declared.object.Value.TheVariants.{Result, Argument}
use Rattle.irtext_graph.specs.declared.objects.Objects.{Objects}
use Rattle.irtext_graph.specs.declared.objects.OperationData.{OperationData}
use Rattle.irtext_graph.specs.declared.objects.BlockData.{BlockData}
use Rattle.irtext_graph.specs.declared.objects.RegionData.{RegionData}
use Rattle.irtext_graph.specs.declared.objects.Use.{Use}
use Rattle.irtext_graph.specs.declared.object.Defined.{Defined}
use Rattle.irtext_graph.specs.declared.object.Defined.TheVariants.{OfValue, OfBlock}
use Rattle.irtext_graph.specs.declared.object.Site.{Site}
use Rattle.irtext_graph.specs.declared.object.Site.TheVariants.{AtOperand, AtSuccessor}
use Rattle.irtext_graph.specs.Chained.{Chained}
use Rattle.irtext_graph.proofs.Chains.{reframed}
use Rattle.irtext_graph.specs.Nest.{parent_in, children_in, datum_in}
use Rattle.irtext_graph.specs.Objects.{up, kids, IsForest, SameData, SamePlaces, eq_object, SameDatum}
use Rattle.irtext_graph.proofs.Same.{ptr_tells, object_tells}
use Rattle.irtext_graph.proofs.Nests.{same_or_other, renested}
use Rattle.irtext_graph.specs.Uses.{operand_in, successor_in, result_in, argument_in, preds_in, first_of, use_at, head_at, val, def_of, prev_of, next_of, either, AreUsesLinked, eq_site, eq_defined}
use Rattle.irtext_graph.specs.Erasing.{user, owner}
use Rattle.irtext_graph.proofs.Kept.{datum_at}
use Rattle.irtext_graph.specs.Sound.{IsSound}
use Rattle.irtext_graph.proofs.Arenas.{older_empty, older_later, older_inserted, older_same, new_view, was_none}
use Rattle.irtext_graph.proofs.Linked.{site_tells, defined_tells}

-- without uses the lists are linked
pub chained_empty : {U D : Type 0} {val : U → Option D} {prv nxt : U → Option U} {heads : D → Option (Option U)} → ((u : U) → val u ≡ None) → ((d : D) → heads d ≡ None) → Chained val prv nxt heads
chained_empty none no_heads = record {
  rank = λ u. 0;
  bound = 0;
  next_ok = λ u w d e n. let k = none u in absurd (cc);
  prev_ok = λ u w d e n. let k = none u in absurd (cc);
  first_ok = λ u d e n. let k = none u in absurd (cc);
  head_ok = λ d u e. let k = no_heads d in absurd (cc);
  alive = λ u d e. let k = none u in absurd (cc);
  below = λ u d e. let k = none u in absurd (cc);
}

-- after an object is inserted, the use list of each definition is unchanged, or nothing used the definition and its list is empty
pub new_head : {U D X K : Type 0} (used : U → Option D) (a after : Arena X) (p : Ptr K) (e : Entry X) → Inserts a after p e → (f : Option (Entry X) → Option (Option U)) → f None ≡ None → ((u : U) → f (Some e) ≢ Some (Some u))
    → (d : D) (q : Ptr K) → ((u : U) → used u ≡ Some d → (h : Option U) × (f (get a q) ≡ Some h)) → (f (get after q) ≡ f (get a q)) ⊎ (((u : U) → used u ≡ Some d → ⊥) × ((u : U) → f (get after q) ≡ Some (Some u) → ⊥))
new_head used a after p e i f none empty d q alive = elim (same_or_other ptr_tells q p) [
  | inr ne ↦ inl (ap f (i.updates.others q ne))
  | inl same ↦ inr (
    λ u is.
        let h = alive u is in
        let n : f (get a q) ≡ None = ap (λ q. f (get a q)) same ∙ ap f (was_none a after p e i) ∙ none in
        let k = h.1 in
        cc,
    λ u g. empty u (sym (ap (λ q. f (get after q)) same ∙ ap f i.updates.changed) ∙ g),
  )
]

module _ {O T : Type 0} where
  -- what the data of an object say of its links
  abbrev operands_of : Option (ℕ × OperationData O T) → ℕ → Option (Use Value)
  operands_of None i = None
  operands_of (Some d) i = slice_get d.1.operands i

  abbrev successors_of : Option (ℕ × OperationData O T) → ℕ → Option (Use (Ptr BasicBlock))
  successors_of None i = None
  successors_of (Some d) i = slice_get d.1.successors i

  abbrev results_of : Option (ℕ × OperationData O T) → ℕ → Option (Option Site)
  results_of None i = None
  results_of (Some d) i = first_of (slice_get d.1.results i)

  operands_is : (e : Option (Entry (Nest BasicBlock Region (OperationData O T)))) (i : ℕ) → operand_in e i ≡ operands_of (datum_in e) i
  operands_is None i = refl
  operands_is (Some e) i = refl

  successors_is : (e : Option (Entry (Nest BasicBlock Region (OperationData O T)))) (i : ℕ) → successor_in e i ≡ successors_of (datum_in e) i
  successors_is None i = refl
  successors_is (Some e) i = refl

  results_is : (e : Option (Entry (Nest BasicBlock Region (OperationData O T)))) (i : ℕ) → first_of (result_in e i) ≡ results_of (datum_in e) i
  results_is None i = refl
  results_is (Some e) i = refl

module _ {B T : Type 0} where
  abbrev arguments_of : Option (ℕ × BlockData B T) → ℕ → Option (Option Site)
  arguments_of None i = None
  arguments_of (Some d) i = first_of (slice_get d.1.arguments i)

  abbrev first_pred_of : Option (ℕ × BlockData B T) → Option (Option Site)
  first_pred_of None = None
  first_pred_of (Some d) = Some d.1.preds

  arguments_is : (e : Option (Entry (Nest Region Operation (BlockData B T)))) (i : ℕ) → first_of (argument_in e i) ≡ arguments_of (datum_in e) i
  arguments_is None i = refl
  arguments_is (Some e) i = refl

  first_pred_is : (e : Option (Entry (Nest Region Operation (BlockData B T)))) → preds_in e ≡ first_pred_of (datum_in e)
  first_pred_is None = refl
  first_pred_is (Some e) = refl

module _ {O B T : Type 0} where
  pub sound_empty : (x : Objects O B T) → x.operations.slots.items ≡ [] → x.blocks.slots.items ≡ [] → x.regions.slots.items ≡ [] → IsSound 0 x
  sound_empty x eo eb er = record {
    forest = record {
      down = λ k i c e. let n = childless k in let m : slice_get (kids x k) i ≡ None = ap (λ cs. slice_get cs i) n in absurd (cc);
      listed = λ c k e. let n = alone c in absurd (cc);
      once = λ k i j c e f. let n = childless k in let m : slice_get (kids x k) i ≡ None = ap (λ cs. slice_get cs i) n in absurd (cc);
      ends = λ o. (1, alone o);
    };
    uses = chained_empty (λ u. ap def_of (use_none u)) head_none;
    all_used = λ u l. let n = use_none u in let m = rw n at l in absurd (cc);
    few_operations = few x.operations eo;
    few_blocks = few x.blocks eb;
    few_regions = few x.regions er;
    older_operations = older_empty 0 x.operations eo;
    older_blocks = older_empty 0 x.blocks eb;
    older_regions = older_empty 0 x.regions er;
  }
    where
      few : {X : Type 0} (a : Arena X) → a.slots.items ≡ [] → HasFew a
      few a e = let k : length a.slots.items ≡ 0 = ap length e in omega (arith, k)

      none : {X K : Type 0} (a : Arena X) (p : Ptr K) → a.slots.items ≡ [] → get a p ≡ None
      none a p e = ap (λ xs. found (slice_get xs p.index) p.generation) e

      childless : (o : Object) → kids x o ≡ []
      childless (TheOperation p) = ap (λ e. map TheRegion (children_in e)) (none x.operations p eo)
      childless (TheBlock p) = ap (λ e. map TheOperation (children_in e)) (none x.blocks p eb)
      childless (TheRegion p) = ap (λ e. map TheBlock (children_in e)) (none x.regions p er)

      alone : (o : Object) → up x o ≡ None
      alone (TheOperation p) = ap (λ e. option_map TheBlock (parent_in e)) (none x.operations p eo)
      alone (TheBlock p) = ap (λ e. option_map TheRegion (parent_in e)) (none x.blocks p eb)
      alone (TheRegion p) = ap (λ e. option_map TheOperation (parent_in e)) (none x.regions p er)

      use_none : (u : Site) → use_at x u ≡ None
      use_none (AtOperand p i) = ap (λ e. option_map (either OfValue) (operand_in e i)) (none x.operations p eo)
      use_none (AtSuccessor p i) = ap (λ e. option_map (either OfBlock) (successor_in e i)) (none x.operations p eo)

      head_none : (d : Defined) → head_at x d ≡ None
      head_none (OfValue (Result p i)) = ap (λ e. first_of (result_in e i)) (none x.operations p eo)
      head_none (OfValue (Argument b i)) = ap (λ e. first_of (argument_in e i)) (none x.blocks b eb)
      head_none (OfBlock b) = ap preds_in (none x.blocks b eb)

  -- what the data of one object say of a use that it makes, and of the uses of what it defines
  pub use_same : (x y : Objects O B T) (u : Site) → SameDatum x y (user u) → use_at y u ≡ use_at x u
  use_same x y (AtOperand p i) s = ap (option_map (either OfValue)) (operands_is (get y.operations p) i ∙ ap (λ d. operands_of d i) (s.operation p refl) ∙ sym (operands_is (get x.operations p) i))
  use_same x y (AtSuccessor p i) s = ap (option_map (either OfBlock)) (successors_is (get y.operations p) i ∙ ap (λ d. successors_of d i) (s.operation p refl) ∙ sym (successors_is (get x.operations p) i))

  pub head_same : (x y : Objects O B T) (d : Defined) → SameDatum x y (owner d) → head_at y d ≡ head_at x d
  head_same x y (OfValue (Result p i)) s = results_is (get y.operations p) i ∙ ap (λ d. results_of d i) (s.operation p refl) ∙ sym (results_is (get x.operations p) i)
  head_same x y (OfValue (Argument b i)) s = arguments_is (get y.blocks b) i ∙ ap (λ d. arguments_of d i) (s.block b refl) ∙ sym (arguments_is (get x.blocks b) i)
  head_same x y (OfBlock b) s = first_pred_is (get y.blocks b) ∙ ap first_pred_of (s.block b refl) ∙ sym (first_pred_is (get x.blocks b))

  -- other links and another forest of the same objects
  pub sound_dropped : (made : ℕ) (x y : Objects O B T) → IsSound made x → IsForest y → AreUsesLinked y → ((u : Site) → IsSome (use_at y u) → IsSome (val y u)) → SamePlaces x y → IsSound made y
  sound_dropped made x y i f linked used p = record {
    forest = f;
    uses = linked;
    all_used = used;
    few_operations = let n = p.operation_places.len in let m = i.few_operations in omega (arith, n, m);
    few_blocks = let n = p.block_places.len in let m = i.few_blocks in omega (arith, n, m);
    few_regions = let n = p.region_places.len in let m = i.few_regions in omega (arith, n, m);
    older_operations = p.operation_places.age made i.older_operations;
    older_blocks = p.block_places.age made i.older_blocks;
    older_regions = p.region_places.age made i.older_regions;
  }

  -- the uses are linked as they were
  pub uses_alike : (x y : Objects O B T) → ((u : Site) → use_at y u ≡ use_at x u) → ((d : Defined) → head_at y d ≡ head_at x d) → AreUsesLinked x → AreUsesLinked y
  uses_alike x y same_use same_head c = reframed eq_site site_tells eq_defined defined_tells c (record {
    vals = λ u. ap def_of (same_use u);
    prevs = λ u d e. ap prev_of (same_use u);
    nexts = λ u d e. ap next_of (same_use u);
    same_heads = λ d. inl (same_head d);
  })

  -- objects with the same parents, children and uses, in the same places
  pub sound_alike : (made : ℕ) (x y : Objects O B T) → ((q : Object) → kids y q ≡ kids x q) → ((q : Object) → up y q ≡ up x q) → ((u : Site) → use_at y u ≡ use_at x u) → ((d : Defined) → head_at y d ≡ head_at x d)
      → SamePlaces x y → IsSound made x → IsSound made y
  sound_alike made x y same_kids same_up same_use same_head p i =
      sound_dropped made x y i (renested eq_object object_tells i.forest same_kids same_up) (uses_alike x y same_use same_head i.uses) (λ u l. rw (same_use u) (i.all_used u (rw (same_use u) at l))) p

  module _ (x y : Objects O B T) (s : SameData x y) where
    pub same_use : (u : Site) → use_at y u ≡ use_at x u
    same_use u = use_same x y u (datum_at s (user u))

    pub same_head : (d : Defined) → head_at y d ≡ head_at x d
    same_head d = head_same x y d (datum_at s (owner d))

    pub uses_kept : AreUsesLinked x → AreUsesLinked y
    uses_kept = uses_alike x y same_use same_head

    -- another forest of the same objects
    pub sound_moved : (made : ℕ) → IsSound made x → IsForest y → SamePlaces x y → IsSound made y
    sound_moved made i f p = sound_dropped made x y i f (uses_kept i.uses) (λ u l. rw (same_use u) (i.all_used u (rw (same_use u) at l))) p

  -- a region was inserted that has no parent and no children
  module _ (x : Objects O B T) (made : ℕ) (after : Arena (Nest Operation BasicBlock RegionData)) (p : Ptr Region) (e : Entry (Nest Operation BasicBlock RegionData)) (i : Inserts x.regions after p e) (none : e.content.parent ≡ None) (empty : listed e.content.children ≡ []) where
    abbrev with_region : Objects O B T
    with_region = record x { regions = after }

    region_up : (q : Object) → up with_region q ≡ up x q
    region_up (TheOperation q) = refl
    region_up (TheBlock q) = refl
    region_up (TheRegion q) = new_view (λ s. option_map TheOperation (parent_in s)) x.regions after p e i (ap (option_map TheOperation) none) q

    region_kids : (q : Object) → kids with_region q ≡ kids x q
    region_kids (TheOperation q) = refl
    region_kids (TheBlock q) = refl
    region_kids (TheRegion q) = new_view (λ s. map TheBlock (children_in s)) x.regions after p e i (ap (map TheBlock) empty) q

    pub sound_region : IsSound made x → e.born < made + 1 → HasFew after → IsSound (made + 1) (record x { regions = after })
    sound_region s young few = record {
      forest = renested eq_object object_tells s.forest region_kids region_up;
      uses = s.uses;
      all_used = s.all_used;
      few_operations = s.few_operations;
      few_blocks = s.few_blocks;
      few_regions = few;
      older_operations = older_later made (made + 1) x.operations s.older_operations (omega arith);
      older_blocks = older_later made (made + 1) x.blocks s.older_blocks (omega arith);
      older_regions = older_inserted made (made + 1) x.regions after p e s.older_regions (omega arith) young i.updates;
    }

  -- a block was inserted that has no parent, no children and no uses
  module _ (x : Objects O B T) (made : ℕ) (after : Arena (Nest Region Operation (BlockData B T))) (p : Ptr BasicBlock) (e : Entry (Nest Region Operation (BlockData B T))) (i : Inserts x.blocks after p e) (none : e.content.parent ≡ None) (empty : listed e.content.children ≡ [])
      (unused : (j : ℕ) (u : Site) → first_of (slice_get e.content.data.arguments j) ≢ Some (Some u)) (no_preds : e.content.data.preds ≡ None) where
    abbrev with_block : Objects O B T
    with_block = record x { blocks = after }

    block_up : (q : Object) → up with_block q ≡ up x q
    block_up (TheOperation q) = refl
    block_up (TheBlock q) = new_view (λ s. option_map TheRegion (parent_in s)) x.blocks after p e i (ap (option_map TheRegion) none) q
    block_up (TheRegion q) = refl

    block_kids : (q : Object) → kids with_block q ≡ kids x q
    block_kids (TheOperation q) = refl
    block_kids (TheBlock q) = new_view (λ s. map TheOperation (children_in s)) x.blocks after p e i (ap (map TheOperation) empty) q
    block_kids (TheRegion q) = refl

    block_heads : AreUsesLinked x → (d : Defined) → (head_at with_block d ≡ head_at x d) ⊎ (((u : Site) → val x u ≡ Some d → ⊥) × ((u : Site) → head_at with_block d ≡ Some (Some u) → ⊥))
    block_heads c (OfValue (Result q j)) = inl refl
    block_heads c (OfValue (Argument q j)) = new_head (val x) x.blocks after p e i (λ s. first_of (argument_in s j)) refl (unused j) (OfValue (Argument q j)) q (λ u. c.alive u (OfValue (Argument q j)))
    block_heads c (OfBlock q) = new_head (val x) x.blocks after p e i preds_in refl (λ u f. let n = no_preds in cc) (OfBlock q) q (λ u. c.alive u (OfBlock q))

    pub sound_block : IsSound made x → e.born < made + 1 → HasFew after → IsSound (made + 1) (record x { blocks = after })
    sound_block s young few = record {
      forest = renested eq_object object_tells s.forest block_kids block_up;
      uses = reframed eq_site site_tells eq_defined defined_tells s.uses (record { vals = λ u. refl; prevs = λ u d f. refl; nexts = λ u d f. refl; same_heads = block_heads s.uses });
      all_used = s.all_used;
      few_operations = s.few_operations;
      few_blocks = few;
      few_regions = s.few_regions;
      older_operations = older_later made (made + 1) x.operations s.older_operations (omega arith);
      older_blocks = older_inserted made (made + 1) x.blocks after p e s.older_blocks (omega arith) young i.updates;
      older_regions = older_later made (made + 1) x.regions s.older_regions (omega arith);
    }

  -- nothing changed but how much room there is
  pub sound_same : (made : ℕ) (x y : Objects O B T) → y.operations.slots.items ≡ x.operations.slots.items → y.blocks.slots.items ≡ x.blocks.slots.items → y.regions.slots.items ≡ x.regions.slots.items → IsSound made x → IsSound made y
  sound_same made x y eo eb er s = record {
    forest = renested eq_object object_tells s.forest same_kids same_up;
    uses = uses_kept x y same_data s.uses;
    all_used = λ u l. rw (same_use x y same_data u) (s.all_used u (rw (same_use x y same_data u) at l));
    few_operations = few x.operations y.operations eo s.few_operations;
    few_blocks = few x.blocks y.blocks eb s.few_blocks;
    few_regions = few x.regions y.regions er s.few_regions;
    older_operations = older_same made x.operations y.operations eo s.older_operations;
    older_blocks = older_same made x.blocks y.blocks eb s.older_blocks;
    older_regions = older_same made x.regions y.regions er s.older_regions;
  }
    where
      found_same : {X K V : Type 0} (view : Option (Entry X) → V) (a b : Arena X) (p : Ptr K) → b.slots.items ≡ a.slots.items → view (get b p) ≡ view (get a p)
      found_same view a b p e = ap (λ xs. view (found (slice_get xs p.index) p.generation)) e

      few : {X : Type 0} (a b : Arena X) → b.slots.items ≡ a.slots.items → HasFew a → HasFew b
      few a b e f = let n = ap length e in omega (arith, n, f)

      same_kids : (q : Object) → kids y q ≡ kids x q
      same_kids (TheOperation q) = found_same (λ s. map TheRegion (children_in s)) x.operations y.operations q eo
      same_kids (TheBlock q) = found_same (λ s. map TheOperation (children_in s)) x.blocks y.blocks q eb
      same_kids (TheRegion q) = found_same (λ s. map TheBlock (children_in s)) x.regions y.regions q er

      same_up : (q : Object) → up y q ≡ up x q
      same_up (TheOperation q) = found_same (λ s. option_map TheBlock (parent_in s)) x.operations y.operations q eo
      same_up (TheBlock q) = found_same (λ s. option_map TheRegion (parent_in s)) x.blocks y.blocks q eb
      same_up (TheRegion q) = found_same (λ s. option_map TheOperation (parent_in s)) x.regions y.regions q er

      same_data : SameData x y
      same_data = record { operation_data = λ q. found_same datum_in x.operations y.operations q eo; block_data = λ q. found_same datum_in x.blocks y.blocks q eb }
