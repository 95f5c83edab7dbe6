-- An operation comes whose uses are in no use list, and they are put into their lists.
use Rattle.std.proofs.Common.{◌≡◌, ◌≢◌, ◌<◌, ◌+◌, ◌⊎◌, ◌∙◌, ◌∷◌, ℕ, refl, sym, ap, subst, arith, inl, inr, Option, Some, None, List, [], zero, suc, map, length, slice_get, IsSome}
use Rattle.std.specs.Option.{option_map}
use Rattle.std.proofs.lemmas.Option.{slice_get-map}
use Rattle.irtext_few.specs.Growing.{listed}
use Rattle.irtext_graph.specs.Arena.{get, HasFew, Inserts}
use Rattle.irtext_graph.specs.declared.arena.Arena.{Arena}
use Rattle.irtext_graph.specs.declared.arena.Entry.{Entry}
use Rattle.irtext_graph.specs.declared.arena.Ptr.{Ptr}
use Rattle.irtext_graph.specs.declared.nest.Nest.{Nest}
use Rattle.irtext_graph.specs.declared.object.Operation.{Operation}
use Rattle.irtext_graph.specs.declared.object.BasicBlock.{BasicBlock}
use Rattle.irtext_graph.specs.declared.object.Region.{Region}
use Rattle.irtext_graph.specs.declared.object.Object.{Object}
use Rattle.irtext_graph.specs.declared.object.Object.TheVariants.{TheOperation, TheBlock, TheRegion}
use Rattle.irtext_graph.specs.declared.object.Value.{Value}
use Rattle.irtext_graph.specs.declared.object.Value.TheVariants.{Result, Argument}
use Rattle.irtext_graph.specs.declared.object.Defined.{Defined}
use Rattle.irtext_graph.specs.declared.object.Defined.TheVariants.{OfValue, OfBlock}
use Rattle.irtext_graph.specs.declared.object.Site.{Site}
use Rattle.irtext_graph.specs.declared.object.Site.TheVariants.{AtOperand, AtSuccessor}
use Rattle.irtext_graph.specs.declared.objects.Use.{Use}
use Rattle.irtext_graph.specs.declared.objects.Objects.{Objects}
use Rattle.irtext_graph.specs.declared.objects.OperationData.{OperationData}
use Rattle.irtext_graph.specs.declared.new_uses.Side.{Side}
use Rattle.irtext_graph.specs.declared.new_uses.Side.TheVariants.{Operands, Successors}
use Rattle.irtext_graph.specs.Nest.{parent_in, children_in}
use Rattle.irtext_graph.specs.Content.{node_of, operation_content, block_content, region_content}
use Rattle.irtext_graph.specs.Graph.{seen}
use Rattle.irtext_graph.specs.Objects.{up, kids, eq_object}
use Rattle.irtext_graph.specs.Uses.{operand_in, successor_in, result_in, first_of, either, def_of, prev_of, next_of, use_at, head_at, val, eq_site, eq_defined, AreUsesLinked}
use Rattle.irtext_graph.specs.declared.objects.Definition.{Definition}
use Rattle.irtext_graph.specs.Linking.{unlinked, site_of, Defines, IsBlank}
use Rattle.irtext_graph.specs.Sound.{IsSound}
use Rattle.irtext_graph.proofs.Same.{ptr_tells, object_tells}
use Rattle.irtext_graph.proofs.Nests.{same_or_other, renested}
use Rattle.irtext_graph.proofs.Linked.{site_tells, defined_tells}
use Rattle.irtext_graph.proofs.Chains.{reframed}
use Rattle.irtext_graph.proofs.Arenas.{older_later, older_inserted, new_view, was_none}
use Rattle.irtext_graph.proofs.Sounds.{new_head}
use Rattle.irtext_graph.proofs.PartsSeen.{some_of, of_some}
use Rattle.irtext_graph.proofs.SameSeen.{few_seen, older_seen, same_back, same_forest}

-- the places of two operations, or of two sides of one, are others
pub side_apart : (p : Ptr Operation) (i j : ℕ) → site_of Successors p i ≢ site_of Operands p j
side_apart p i j e = cc

pub index_apart : (s : Side) (p : Ptr Operation) (i j : ℕ) → i ≢ j → site_of s p i ≢ site_of s p j
index_apart Operands p i j ne e = ne (cc)
index_apart Successors p i j ne e = ne (cc)

pub unlinked_defs : {D : Type 0} (ds : List D) → map (λ u. u.def) (map unlinked ds) ≡ ds
unlinked_defs [] = refl
unlinked_defs (d ∷ ds) = ap (λ xs. d ∷ xs) (unlinked_defs ds)

-- an operation is blank whose lists are new uses and new values
pub blank : {O T : Type 0} (n : Nest BasicBlock Region (OperationData O T)) (value : O) (types : List T) (from : ℕ) (operands : List Value) (successors : List (Ptr BasicBlock))
    (uses : List (Use Value)) (leads : List (Use (Ptr BasicBlock))) (results : List (Definition T))
    → n.parent ≡ None → listed n.children ≡ [] → n.data.data ≡ value → n.data.operands ≡ uses → n.data.successors ≡ leads → n.data.results ≡ results
    → uses ≡ map unlinked operands → leads ≡ map unlinked successors → Defines results types from → IsBlank n value types from operands successors
blank n value types from operands successors uses leads results alone childless v o s r u l d = record {
  parent = alone;
  children = childless;
  value_is = v;
  operand_uses = o ∙ u;
  successor_uses = s ∙ l;
  results = subst (λ ds. Defines ds types from) (sym r) d;
}

-- the element at an index of new uses
new_use : {D : Type 0} (f : D → Defined) (ds : List D) (i : ℕ) → option_map (either f) (slice_get (map unlinked ds) i) ≡ option_map unlinked (option_map f (slice_get ds i))
new_use f ds i = ap (option_map (either f)) (slice_get-map unlinked ds i) ∙ go (slice_get ds i)
  where
    go : (o : Option _) → option_map (either f) (option_map unlinked o) ≡ option_map unlinked (option_map f o)
    go None = refl
    go (Some d) = refl

no_list : (o : Option Defined) → def_of (option_map unlinked o) ≡ None
no_list None = refl
no_list (Some d) = refl

in_range : {X : Type 0} (xs : List X) (i : ℕ) → i < length xs → IsSome (slice_get xs i)
in_range [] i h = absurd (omega arith)
in_range (x ∷ xs) zero h = refl
in_range (x ∷ xs) (suc i) h = in_range xs i (omega arith)

within : {X : Type 0} (xs : List X) (i : ℕ) → IsSome (slice_get xs i) → i < length xs
within [] i h = absurd (cc)
within (x ∷ xs) zero h = omega arith
within (x ∷ xs) (suc i) h = omega (arith, within xs i h)

-- what the uses name of an operation that names these
abbrev pub named_by : List Value → List (Ptr BasicBlock) → Side → ℕ → Option Defined
named_by operands successors Operands j = option_map OfValue (slice_get operands j)
named_by operands successors Successors j = option_map OfBlock (slice_get successors j)

module _ {O B T : Type 0} (x : Objects O B T) (made : ℕ) (after : Arena (Nest BasicBlock Region (OperationData O T))) (p : Ptr Operation) (e : Entry (Nest BasicBlock Region (OperationData O T))) (i : Inserts x.operations after p e)
    (value : O) (types : List T) (from : ℕ) (operands : List Value) (successors : List (Ptr BasicBlock)) (b : IsBlank e.content value types from operands successors) where
  abbrev with_operation : Objects O B T
  with_operation = record x { operations = after }

  operation_up : (q : Object) → up with_operation q ≡ up x q
  operation_up (TheOperation q) = new_view (λ s. option_map TheBlock (parent_in s)) x.operations after p e i (ap (option_map TheBlock) b.parent) q
  operation_up (TheBlock q) = refl
  operation_up (TheRegion q) = refl

  operation_kids : (q : Object) → kids with_operation q ≡ kids x q
  operation_kids (TheOperation q) = new_view (λ s. map TheRegion (children_in s)) x.operations after p e i (ap (map TheRegion) b.children) q
  operation_kids (TheBlock q) = refl
  operation_kids (TheRegion q) = refl

  -- how many new uses there are
  abbrev count : Side → ℕ
  count Operands = length operands
  count Successors = length successors

  in_named : (s : Side) (j : ℕ) → j < count s → IsSome (named_by operands successors s j)
  in_named Operands j low = of_some OfValue (slice_get operands j) (in_range operands j low)
  in_named Successors j low = of_some OfBlock (slice_get successors j) (in_range successors j low)

  pub named_in : (s : Side) (j : ℕ) → IsSome (named_by operands successors s j) → j < count s
  named_in Operands j h = within operands j (some_of OfValue (slice_get operands j) h)
  named_in Successors j h = within successors j (some_of OfBlock (slice_get successors j) h)

  -- what the new uses name is there, if the values and the blocks are
  pub heads_named : ((j : ℕ) (v : Value) → slice_get operands j ≡ Some v → IsSome (head_at x (OfValue v))) → ((j : ℕ) (b : Ptr BasicBlock) → slice_get successors j ≡ Some b → IsSome (head_at x (OfBlock b)))
      → (s : Side) (j : ℕ) (d : Defined) → named_by operands successors s j ≡ Some d → IsSome (head_at x d)
  heads_named ho hs Operands j d n = go (slice_get operands j) refl n
    where
      go : (o : Option Value) → slice_get operands j ≡ o → option_map OfValue o ≡ Some d → IsSome (head_at x d)
      go None f k = absurd (cc)
      go (Some v) f k = let same : OfValue v ≡ d = cc in subst (λ d. IsSome (head_at x d)) same (ho j v f)
  heads_named ho hs Successors j d n = go (slice_get successors j) refl n
    where
      go : (o : Option (Ptr BasicBlock)) → slice_get successors j ≡ o → option_map OfBlock o ≡ Some d → IsSome (head_at x d)
      go None f k = absurd (cc)
      go (Some b) f k = let same : OfBlock b ≡ d = cc in subst (λ d. IsSome (head_at x d)) same (hs j b f)

  pub use_here : (s : Side) (j : ℕ) → use_at with_operation (site_of s p j) ≡ option_map unlinked (named_by operands successors s j)
  use_here Operands j = ap (λ s. option_map (either OfValue) (operand_in s j)) i.updates.changed ∙ ap (λ us. option_map (either OfValue) (slice_get us j)) b.operand_uses ∙ new_use OfValue operands j
  use_here Successors j = ap (λ s. option_map (either OfBlock) (successor_in s j)) i.updates.changed ∙ ap (λ us. option_map (either OfBlock) (slice_get us j)) b.successor_uses ∙ new_use OfBlock successors j

  pub there_here : (s : Side) (j : ℕ) → j < count s → IsSome (use_at with_operation (site_of s p j))
  there_here s j low = subst (λ o. IsSome o) (sym (use_here s j)) (of_some unlinked (named_by operands successors s j) (in_named s j low))

  pub free_here : (s : Side) (j : ℕ) → val with_operation (site_of s p j) ≡ None
  free_here s j = ap def_of (use_here s j) ∙ no_list (named_by operands successors s j)

  none_here : (s : Side) (j : ℕ) → use_at x (site_of s p j) ≡ None
  none_here Operands j = ap (λ s. option_map (either OfValue) (operand_in s j)) (was_none x.operations after p e i)
  none_here Successors j = ap (λ s. option_map (either OfBlock) (successor_in s j)) (was_none x.operations after p e i)

  use_elsewhere : (s : Side) (q : Ptr Operation) (j : ℕ) → q ≢ p → use_at with_operation (site_of s q j) ≡ use_at x (site_of s q j)
  use_elsewhere Operands q j ne = ap (λ s. option_map (either OfValue) (operand_in s j)) (i.updates.others q ne)
  use_elsewhere Successors q j ne = ap (λ s. option_map (either OfBlock) (successor_in s j)) (i.updates.others q ne)

  -- a use is at the new operation, or is unchanged
  at_site : (s : Side) (q : Ptr Operation) (j : ℕ) → (site_of s q j ≡ site_of s p j) ⊎ ((use_at with_operation (site_of s q j) ≡ use_at x (site_of s q j)) × ((t : Side) (k : ℕ) → site_of s q j ≢ site_of t p k))
  at_site s q j = elim (same_or_other ptr_tells q p) [
    | inl same ↦ inl (ap (λ q. site_of s q j) same)
    | inr ne ↦ inr (use_elsewhere s q j ne, λ t k f. ne (owner s t q j k f))
  ]
    where
      owner : (s t : Side) (q : Ptr Operation) (j k : ℕ) → site_of s q j ≡ site_of t p k → q ≡ p
      owner Operands Operands q j k f = cc
      owner Operands Successors q j k f = absurd (cc)
      owner Successors Operands q j k f = absurd (cc)
      owner Successors Successors q j k f = cc

  vals_kept : (u : Site) → val with_operation u ≡ val x u
  vals_kept (AtOperand q j) = elim (at_site Operands q j) [
    | inl same ↦ ap (val with_operation) same ∙ free_here Operands j ∙ sym (ap def_of (none_here Operands j)) ∙ sym (ap (val x) same)
    | inr ne ↦ ap def_of ne.0
  ]
  vals_kept (AtSuccessor q j) = elim (at_site Successors q j) [
    | inl same ↦ ap (val with_operation) same ∙ free_here Successors j ∙ sym (ap def_of (none_here Successors j)) ∙ sym (ap (val x) same)
    | inr ne ↦ ap def_of ne.0
  ]

  used_kept : (u : Site) (d : Defined) → val x u ≡ Some d → use_at with_operation u ≡ use_at x u
  used_kept (AtOperand q j) d f = elim (at_site Operands q j) [
    | inl same ↦ let n : val x (AtOperand q j) ≡ None = ap (val x) same ∙ ap def_of (none_here Operands j) in absurd (cc)
    | inr ne ↦ ne.0
  ]
  used_kept (AtSuccessor q j) d f = elim (at_site Successors q j) [
    | inl same ↦ let n : val x (AtSuccessor q j) ≡ None = ap (val x) same ∙ ap def_of (none_here Successors j) in absurd (cc)
    | inr ne ↦ ne.0
  ]

  operation_heads : AreUsesLinked x → (d : Defined) → (head_at with_operation d ≡ head_at x d) ⊎ (((u : Site) → val x u ≡ Some d → ⊥) × ((u : Site) → head_at with_operation d ≡ Some (Some u) → ⊥))
  operation_heads c (OfValue (Result q j)) = new_head (val x) x.operations after p e i (λ s. first_of (result_in s j)) refl (b.results.unused j) (OfValue (Result q j)) q (λ u. c.alive u (OfValue (Result q j)))
  operation_heads c (OfValue (Argument q j)) = inl refl
  operation_heads c (OfBlock q) = inl refl

  pub linked_here : AreUsesLinked x → AreUsesLinked with_operation
  linked_here c = reframed eq_site site_tells eq_defined defined_tells c (record {
    vals = vals_kept;
    prevs = λ u d f. ap prev_of (used_kept u d f);
    nexts = λ u d f. ap next_of (used_kept u d f);
    same_heads = operation_heads c;
  })

  head_kept : (d : Defined) → IsSome (head_at x d) → IsSome (head_at with_operation d)
  head_kept (OfValue (Argument q j)) h = h
  head_kept (OfBlock q) h = h
  head_kept (OfValue (Result q j)) h = elim (same_or_other ptr_tells q p) [
    | inl same ↦ let n : head_at x (OfValue (Result q j)) ≡ None = ap (λ q. first_of (result_in (get x.operations q) j)) same ∙ ap (λ s. first_of (result_in s j)) (was_none x.operations after p e i) in let m = rw n at h in absurd (cc)
    | inr ne ↦ subst (λ o. IsSome o) (sym (ap (λ s. first_of (result_in s j)) (i.updates.others q ne))) h
  ]

  -- what the new uses name is there
  pub live_here : ((s : Side) (j : ℕ) (d : Defined) → named_by operands successors s j ≡ Some d → IsSome (head_at x d)) → (s : Side) (j : ℕ) (u : Use Defined) → use_at with_operation (site_of s p j) ≡ Some u → IsSome (head_at with_operation u.def)
  live_here h s j u f = go (named_by operands successors s j) refl (sym (use_here s j) ∙ f)
    where
      go : (o : Option Defined) → named_by operands successors s j ≡ o → option_map unlinked o ≡ Some u → IsSome (head_at with_operation u.def)
      go None n k = absurd (cc)
      go (Some d) n k = let same : d ≡ u.def = defs k in subst (λ d. IsSome (head_at with_operation d)) same (head_kept d (h s j d n))
        where
          defs : Some (unlinked d) ≡ Some u → d ≡ u.def
          defs k = let w : unlinked d ≡ u = cc in ap (λ (z : Use Defined). z.def) w

  -- all is sound again once each new use is in its list
  module _ (y : Objects O B T) (same : seen y ≡ seen with_operation) (linked : AreUsesLinked y) (used : (s : Side) (j : ℕ) → IsSome (named_by operands successors s j) → IsSome (val y (site_of s p j)))
      (kept : (u : Site) → ((s : Side) (j : ℕ) → u ≢ site_of s p j) → val y u ≡ val with_operation u) where
    used_at : (all : (u : Site) → IsSome (use_at x u) → IsSome (val x u)) (s : Side) (q : Ptr Operation) (j : ℕ) → IsSome (use_at y (site_of s q j)) → IsSome (val y (site_of s q j))
    used_at all s q j h = elim (at_site s q j) [
      | inl here ↦ subst (λ u. IsSome (val y u)) (sym here) (used s j (some_of unlinked (named_by operands successors s j) (subst (λ o. IsSome o) (ap (use_at with_operation) here ∙ use_here s j) (same_back with_operation y same (site_of s q j) h))))
      | inr away ↦
          let was : IsSome (use_at x (site_of s q j)) = subst (λ o. IsSome o) away.0 (same_back with_operation y same (site_of s q j) h) in
          subst (λ o. IsSome o) (sym (kept (site_of s q j) away.1 ∙ vals_kept (site_of s q j))) (all (site_of s q j) was)
    ]

    pub sound_linked : IsSound made x → e.born < made + 1 → HasFew after → IsSound (made + 1) y
    sound_linked s young few = record {
      forest = same_forest with_operation y same (renested eq_object object_tells s.forest operation_kids operation_up);
      uses = linked;
      all_used = all;
      few_operations = few_seen (node_of operation_content) after y.operations (ap (λ g. g.operations) same) few;
      few_blocks = few_seen (node_of block_content) x.blocks y.blocks (ap (λ g. g.blocks) same) s.few_blocks;
      few_regions = few_seen (node_of region_content) x.regions y.regions (ap (λ g. g.regions) same) s.few_regions;
      older_operations =
          older_seen (node_of operation_content) after y.operations (ap (λ g. g.operations) same) (made + 1)
          (older_inserted made (made + 1) x.operations after p e s.older_operations (omega arith) young i.updates);
      older_blocks = older_seen (node_of block_content) x.blocks y.blocks (ap (λ g. g.blocks) same) (made + 1) (older_later made (made + 1) x.blocks s.older_blocks (omega arith));
      older_regions = older_seen (node_of region_content) x.regions y.regions (ap (λ g. g.regions) same) (made + 1) (older_later made (made + 1) x.regions s.older_regions (omega arith));
    }
      where
        all : (u : Site) → IsSome (use_at y u) → IsSome (val y u)
        all (AtOperand q j) h = used_at s.all_used Operands q j h
        all (AtSuccessor q j) h = used_at s.all_used Successors q j h
