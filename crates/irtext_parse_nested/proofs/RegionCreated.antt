-- A region that was created: the open objects are still live, and it is the only new one.
use Rattle.std.proofs.Common.{◌≡◌, ◌∙◌, ◌⊎◌, inl, inr, ◌≤◌, ℕ, Option, Some, IsSome, length, sym, refl, ap, subst}
use Rattle.std.specs.Option.{option_map}
use Rattle.irtext_context.specs.Context.{ContextView, block_of}
use Rattle.irtext_context.specs.declared.base.block.BlockData.{BlockData}
use Rattle.irtext_context.specs.declared.base.operation.OperationData.{OperationData}
use Rattle.irtext_graph.specs.declared.arena.Ptr.{Ptr}
use Rattle.irtext_graph.specs.declared.object.Operation.{Operation}
use Rattle.irtext_graph.specs.declared.object.Region.{Region}
use Rattle.irtext_graph.specs.declared.object.Object.{Object}
use Rattle.irtext_graph.specs.declared.object.Object.TheVariants.{TheOperation, TheBlock, TheRegion}
use Rattle.irtext_graph.specs.Content.{ABlock, ARegion}
use Rattle.irtext_graph.specs.Graph.{content, content_of, parent_of, IsLive, IsNew}
use Rattle.irtext_graph.specs.Objects.{is_older}
use Rattle.irtext_graph.specs.Parts.{operation_at, results_of}
use Rattle.irtext_graph.specs.Store.{get}
use Rattle.irtext_graph.proofs.Nests.{same_or_other}
use Rattle.irtext_graph.proofs.Same.{ptr_tells}
use Rattle.irtext_names.specs.Items.{KeepsLive}
use Rattle.irtext_names.proofs.Lasting.{not_below, data_there, there_data}

module _ {T A : Type 0} where
  -- this region came, each other object is what it was
  pub record CreatesRegion (old new : ContextView T A) (r : Ptr Region) : Type 0 where
    pub operations : (p : Ptr Operation) → operation_at new.graph p ≡ operation_at old.graph p
    pub objects : (p : Ptr Operation) → content new.graph (TheOperation p) ≡ content old.graph (TheOperation p)
    pub blocks : new.graph.blocks ≡ old.graph.blocks
    pub itself : content new.graph (TheRegion r) ≡ Some (ARegion old.graph.made (record {}))
    pub others : (q : Ptr Region) → (q ≡ r → ⊥) → content new.graph (TheRegion q) ≡ content old.graph (TheRegion q)
    pub made : old.graph.made ≤ new.graph.made
    pub dialects : new.dialects ≡ old.dialects

module _ {T A : Type 0} {old new : ContextView T A} {r : Ptr Region} (creates : CreatesRegion old new r) where
  region_is : (q : Ptr Region) → (content new.graph (TheRegion q) ≡ content old.graph (TheRegion q)) ⊎ (content new.graph (TheRegion q) ≡ Some (ARegion old.graph.made (record {})))
  region_is q = elim (same_or_other ptr_tells q r) [
    | inl e ↦ inr (ap (λ z. content new.graph (TheRegion z)) e ∙ creates.itself)
    | inr n ↦ inl (creates.others q n)
  ]

  newer : (m : ℕ) (q : Object) → m ≤ old.graph.made → IsNew m old.graph q → IsNew m new.graph q
  newer m (TheOperation p) le n = ap (is_older m) (creates.objects p) ∙ n
  newer m (TheBlock b) le n = ap (λ s. is_older {O = Option (OperationData A)} {B = BlockData A} {T = Option T} m (option_map (λ d. ABlock d.0 d.1) (content_of (get s b)))) creates.blocks ∙ n
  newer m (TheRegion q) le n = elim (region_is q) [
    | inl e ↦ ap (is_older m) e ∙ n
    | inr f ↦ ap (is_older m) f ∙ not_below old.graph.made m le
  ]

  -- the open objects are still live
  pub created_lasts : KeepsLive old new
  created_lasts = record {
    operations = λ p h. let x = data_there old p h in there_data new p x.0 (ap (option_map (λ c. c.data_of)) (creates.operations p) ∙ x.1);
    results = λ p h. ap (λ c. length (results_of c)) (creates.operations p);
    blocks = λ b h s. (
      subst (λ z. IsSome (option_map block_of (get z b))) (sym creates.blocks) h,
      ap (λ z. option_map TheRegion (parent_of (get z b))) creates.blocks,
    );
    regions = λ q s. elim (region_is q) [
      | inl e ↦ subst IsSome (sym e) s
      | inr f ↦ subst IsSome (sym f) refl
    ];
    newer = newer;
    made = creates.made;
    dialects = creates.dialects;
  }

  -- the region is live
  pub created_there : IsLive new.graph (TheRegion r)
  created_there = subst IsSome (sym creates.itself) refl

  -- it is new
  pub created_new : (m : ℕ) → m ≤ old.graph.made → IsNew m new.graph (TheRegion r)
  created_new m le = ap (is_older m) creates.itself ∙ not_below old.graph.made m le
