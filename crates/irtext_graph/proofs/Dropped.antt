-- The uses that are dropped, operation by operation.
use Rattle.std.proofs.Common.{◌≡◌, ◌≢◌, ◌∙◌, ℕ, refl, sym, ap, inl, inr, Option, Some, None, IsSome, slice_get, length, option_map, subst}
use Rattle.std.proofs.lemmas.Option.{slice_get-map}
use Rattle.irtext_graph.specs.declared.arena.Arena.{Arena}
use Rattle.irtext_graph.specs.declared.arena.Ptr.{Ptr}
use Rattle.irtext_graph.specs.declared.arena.Entry.{Entry}
use Rattle.irtext_graph.specs.declared.nest.Nest.{Nest}
use Rattle.irtext_graph.specs.declared.object.Operation.{Operation}
use Rattle.irtext_graph.specs.declared.object.BasicBlock.{BasicBlock}
use Rattle.irtext_graph.specs.declared.object.Region.{Region}
use Rattle.irtext_graph.specs.declared.object.Object.{Object}
use Rattle.irtext_graph.specs.declared.object.Object.TheVariants.{TheOperation}
use Rattle.irtext_graph.specs.declared.object.Defined.{Defined}
use Rattle.irtext_graph.specs.declared.object.Defined.TheVariants.{OfValue, OfBlock}
use Rattle.irtext_graph.specs.declared.object.Value.TheVariants.{Result, Argument}
use Rattle.irtext_graph.specs.declared.object.Site.{Site}
use Rattle.irtext_graph.specs.declared.object.Site.TheVariants.{AtOperand, AtSuccessor}
use Rattle.irtext_graph.specs.declared.objects.Objects.{Objects}
use Rattle.irtext_graph.specs.declared.objects.OperationData.{OperationData}
use Rattle.irtext_graph.specs.declared.objects.Use.{Use}
use Rattle.irtext_graph.specs.Arena as arena
use Rattle.irtext_graph.specs.Arena.{AreOlder, KeepsPlaces}
use Rattle.irtext_graph.specs.Store.{generation_at, get, store_of, object_of}
use Rattle.irtext_graph.specs.Content.{Content.{AnOperation}, operation_content, block_content, region_content, node_of}
use Rattle.irtext_graph.specs.Graph.{no_counters, GraphView, seen, content}
use Rattle.irtext_graph.specs.Nest.{datum_in}
use Rattle.irtext_graph.specs.Objects.{what, SamePlaces}
use Rattle.irtext_graph.specs.Uses.{use_at, val, operand_in, successor_in, result_in, argument_in, preds_in, first_of, head_at, def_of, prev_of, next_of, either, AreUsesLinked, eq_site, eq_defined}
use Rattle.irtext_graph.specs.Erasing.{user, named_at}
use Rattle.irtext_graph.proofs.Nests.{same_or_other}
use Rattle.irtext_graph.proofs.Same.{object_tells}
use Rattle.irtext_graph.proofs.Linked.{site_tells, defined_tells}
use Rattle.irtext_graph.proofs.Chains.{reframed}
use Rattle.irtext_graph.proofs.Stores.{get_seen, generation_seen, length_seen, older_of}
use Rattle.irtext_graph.proofs.Views.{what_seen}
use Rattle.irtext_graph.proofs.PartsSeen.{some_of, of_some}

-- arenas that are seen as the same have the same places
pub places_alike : {X Y : Type 0} (see : X → Y) (a b : Arena X) → store_of see b ≡ store_of see a → KeepsPlaces a b
places_alike {X} {Y} see a b e = record {
  generations = λ i. sym (generation_seen see b i) ∙ ap (λ s. generation_at s i) e ∙ generation_seen see a i;
  free = ap (λ s. s.free) e;
  len = sym (length_seen see b.slots.items) ∙ ap (λ s. length s.cells) e ∙ length_seen see a.slots.items;
  age = λ m. older_of see m a b e;
}

-- what a use names, as a use of either
named_either : {D : Type 0} (f : D → Defined) (o : Option (Use D)) → option_map f (option_map (λ o. o.def) o) ≡ option_map (λ o. o.def) (option_map (either f) o)
named_either f None = refl
named_either f (Some o) = refl

module _ {O B T : Type 0} where
  -- what is named at a place, as the object shows it
  pub named_what : (x : Objects O B T) (u : Site) → named_at (what x (user u)) u ≡ option_map (λ o. o.def) (use_at x u)
  named_what x (AtOperand p i) = go (arena.get x.operations p)
    where
      go : (e : Option (Entry (Nest BasicBlock Region (OperationData O T)))) → named_at {B = B} (option_map (λ d. AnOperation d.0 (operation_content d.1)) (datum_in e)) (AtOperand p i) ≡ option_map (λ o. o.def) (option_map (either OfValue) (operand_in e i))
      go None = refl
      go (Some e) = ap (option_map OfValue) (slice_get-map (λ o. o.def) e.content.data.operands i) ∙ named_either OfValue (slice_get e.content.data.operands i)
  named_what x (AtSuccessor p i) = go (arena.get x.operations p)
    where
      go : (e : Option (Entry (Nest BasicBlock Region (OperationData O T)))) → named_at {B = B} (option_map (λ d. AnOperation d.0 (operation_content d.1)) (datum_in e)) (AtSuccessor p i) ≡ option_map (λ o. o.def) (option_map (either OfBlock) (successor_in e i))
      go None = refl
      go (Some e) = ap (option_map OfBlock) (slice_get-map (λ o. o.def) e.content.data.successors i) ∙ named_either OfBlock (slice_get e.content.data.successors i)

  -- where objects are the same, the same uses are there
  pub use_there : (x y : Objects O B T) (u : Site) → what y (user u) ≡ what x (user u) → IsSome (use_at y u) → IsSome (use_at x u)
  use_there x y u e l =
      let same : option_map (λ o. o.def) (use_at x u) ≡ option_map (λ o. o.def) (use_at y u) = sym (named_what x u) ∙ ap (λ k. named_at k u) (sym e) ∙ named_what y u in
      some_of (λ o. o.def) (use_at x u) (subst IsSome (sym same) (of_some (λ o. o.def) (use_at y u) l))

  pub alike_what : (x y : Objects O B T) → seen y ≡ seen x → (q : Object) → what y q ≡ what x q
  alike_what x y e q = sym (what_seen 0 no_counters y q) ∙ ap (λ g. content g q) e ∙ what_seen 0 no_counters x q

  pub alike_there : (x y : Objects O B T) → seen y ≡ seen x → (p : Ptr Operation) → IsSome (arena.get x.operations p) → IsSome (arena.get y.operations p)
  alike_there x y e p l =
      let same = sym (get_seen (node_of operation_content) y.operations p) ∙ ap (λ (g : GraphView O B T). get g.operations p) e ∙ get_seen (node_of operation_content) x.operations p in
      some_of (object_of (node_of operation_content)) (arena.get y.operations p) (subst IsSome (sym same) (of_some (object_of (node_of operation_content)) (arena.get x.operations p) l))

  pub alike_places : (x y : Objects O B T) → seen y ≡ seen x → SamePlaces x y
  alike_places x y e = record {
    operation_places = places_alike (node_of operation_content) x.operations y.operations (ap (λ (g : GraphView O B T). g.operations) e);
    block_places = places_alike (node_of block_content) x.blocks y.blocks (ap (λ (g : GraphView O B T). g.blocks) e);
    region_places = places_alike (node_of region_content) x.regions y.regions (ap (λ (g : GraphView O B T). g.regions) e);
  }

  -- the operands of p left their lists, and then its successors
  module _ (x y z : Objects O B T) (p : Ptr Operation) (operands : (i : ℕ) → val y (AtOperand p i) ≡ None) (successors : (i : ℕ) → val z (AtSuccessor p i) ≡ None)
      (first : (u : Site) → ((i : ℕ) → u ≢ AtOperand p i) → val y u ≡ val x u) (second : (u : Site) → ((i : ℕ) → u ≢ AtSuccessor p i) → val z u ≡ val y u) where
    pub all_out : (u : Site) → user u ≡ TheOperation p → val z u ≡ None
    all_out (AtOperand q j) e = let s : q ≡ p = cc in second (AtOperand q j) (λ i k. absurd (cc)) ∙ ap (λ r. val y (AtOperand r j)) s ∙ operands j
    all_out (AtSuccessor q j) e = let s : q ≡ p = cc in ap (λ r. val z (AtSuccessor r j)) s ∙ successors j

    pub others_in : (u : Site) → user u ≢ TheOperation p → val z u ≡ val x u
    others_in (AtOperand q j) ne = second (AtOperand q j) (λ i k. absurd (cc)) ∙ first (AtOperand q j) (λ i k. let s : q ≡ p = cc in ne (ap TheOperation s))
    others_in (AtSuccessor q j) ne = second (AtSuccessor q j) (λ i k. let s : q ≡ p = cc in ne (ap TheOperation s)) ∙ first (AtSuccessor q j) (λ i k. absurd (cc))

  -- what p used is dropped, after it left its lists
  module _ (x0 x z : Objects O B T) (p : Ptr Operation) (linked : AreUsesLinked x) (alike : seen x ≡ seen x0)
      (gone : (u : Site) → user u ≡ TheOperation p → val x u ≡ None) (kept : (u : Site) → user u ≢ TheOperation p → val x u ≡ val x0 u)
      (operands : (i : ℕ) → operand_in (arena.get z.operations p) i ≡ None) (successors : (i : ℕ) → successor_in (arena.get z.operations p) i ≡ None)
      (others : (q : Ptr Operation) → q ≢ p → arena.get z.operations q ≡ arena.get x.operations q)
      (results : (q : Ptr Operation) (i : ℕ) → result_in (arena.get z.operations q) i ≡ result_in (arena.get x.operations q) i) (blocks : z.blocks ≡ x.blocks) where
    cleared : (u : Site) → user u ≡ TheOperation p → use_at z u ≡ None
    cleared (AtOperand q i) e = let s : q ≡ p = cc in ap (λ r. option_map (either OfValue) (operand_in (arena.get z.operations r) i)) s ∙ ap (option_map (either OfValue)) (operands i)
    cleared (AtSuccessor q i) e = let s : q ≡ p = cc in ap (λ r. option_map (either OfBlock) (successor_in (arena.get z.operations r) i)) s ∙ ap (option_map (either OfBlock)) (successors i)

    stays : (u : Site) → user u ≢ TheOperation p → use_at z u ≡ use_at x u
    stays (AtOperand q i) ne = ap (λ e. option_map (either OfValue) (operand_in e i)) (others q (λ s. ne (ap TheOperation s)))
    stays (AtSuccessor q i) ne = ap (λ e. option_map (either OfBlock) (successor_in e i)) (others q (λ s. ne (ap TheOperation s)))

    same_val : (u : Site) → val z u ≡ val x u
    same_val u = elim (same_or_other object_tells (user u) (TheOperation p)) [
      | inl e ↦ ap def_of (cleared u e) ∙ sym (gone u e)
      | inr ne ↦ ap def_of (stays u ne)
    ]

    -- what is in a list is not of p
    in_list : (u : Site) (d : Defined) → val x u ≡ Some d → user u ≢ TheOperation p
    in_list u d used e = let n = gone u e in cc

    same_heads : (d : Defined) → head_at z d ≡ head_at x d
    same_heads (OfValue (Result q i)) = ap first_of (results q i)
    same_heads (OfValue (Argument b i)) = ap (λ a. first_of (argument_in (arena.get a b) i)) blocks
    same_heads (OfBlock b) = ap (λ a. preds_in (arena.get a b)) blocks

    pub drop_linked : AreUsesLinked z
    drop_linked = reframed eq_site site_tells eq_defined defined_tells linked (record {
      vals = same_val;
      prevs = λ u d used. ap prev_of (stays u (in_list u d used));
      nexts = λ u d used. ap next_of (stays u (in_list u d used));
      same_heads = λ d. inl (same_heads d);
    })

    pub drop_used : ((u : Site) → IsSome (use_at x0 u) → IsSome (val x0 u)) → (u : Site) → IsSome (use_at z u) → IsSome (val z u)
    drop_used used u l = elim (same_or_other object_tells (user u) (TheOperation p)) [
      | inl e ↦ absurd (let n = cleared u e in let m = rw n at l in cc)
      | inr ne ↦
          let there : IsSome (use_at x u) = rw (stays u ne) at l in
          rw (same_val u ∙ kept u ne) (used u (use_there x0 x u (alike_what x0 x alike (user u)) there))
    ]
