-- A region that is created without a parent: names, parents and placeholders are unchanged, and only the region was created.
use Rattle.std.proofs.Common.{◌≡◌, ◌≤◌, inl, ℕ, [], ◌∷◌, Option, Some, None, IsSome, map, arith, refl, ap, subst}
use Rattle.std.specs.Option.{option_map, option_and_then}
use Rattle.irtext_context.specs.Context.{ContextView, operation_of, block_of, region_of, with_graph, region}
use Rattle.irtext_graph.specs.declared.arena.Ptr.{Ptr}
use Rattle.irtext_graph.specs.declared.object.Operation.{Operation}
use Rattle.irtext_graph.specs.declared.object.Region.{Region}
use Rattle.irtext_graph.specs.declared.object.Object.{Object}
use Rattle.irtext_graph.specs.declared.object.Object.TheVariants.{TheOperation, TheBlock, TheRegion}
use Rattle.irtext_graph.specs.Chained.{Among}
use Rattle.irtext_graph.specs.Content.{AnOperation, ARegion}
use Rattle.irtext_graph.specs.Graph.{GraphView, content, content_of, parent_of, children_of, IsLive, IsNew, MakesRegion}
use Rattle.irtext_graph.specs.Parts.{operation_at}
use Rattle.irtext_graph.specs.Store.{get}
use Rattle.irtext_names.proofs.Gained.{fresh_place}
use Rattle.irtext_grammar.specs.Grows.{RegionCame}
use Rattle.irtext_grammar.specs.Unchanged.{IsAsItWas, ModifiesOnly}
use Rattle.irtext_grammar.proofs.Edits.{spares_by, kept_as_many}
use Rattle.irtext_names.specs.Items.{KeepsLive}
use Rattle.irtext_parse_nested.proofs.NamesLeft.{LeavesNames, operations_leave}
use Rattle.irtext_parse_nested.proofs.RegionCreated.{CreatesRegion, created_lasts, created_new, created_there}

module _ {O B T : Type 0} (g k : GraphView (Option O) B T) (r : Ptr Region) (makes : MakesRegion g k r) where
  pub operation_same : (p : Ptr Operation) → operation_at k p ≡ operation_at g p
  operation_same p = ap (λ s. option_map (λ e. e.content.content) (get s p)) makes.operations

  -- the operation is the object that it was
  pub object_same : (p : Ptr Operation) → content k (TheOperation p) ≡ content g (TheOperation p)
  object_same p = ap (λ s. option_map (λ d. AnOperation d.0 d.1) (content_of (get s p))) makes.operations

  pub alone_leaves : LeavesNames g k
  alone_leaves = operations_leave g k makes.blocks operation_same object_same (λ p. ap (λ s. option_map TheBlock (parent_of (get s p))) makes.operations)
      (λ p b. ap (λ s. map TheRegion (children_of (get s p))) makes.operations)

-- ---- in a context
module _ {T A : Type 0} (old new : ContextView T A) (r : Ptr Region) (makes : MakesRegion old.graph new.graph r) (with_it : new ≡ with_graph old new.graph) where
  -- the region is live, and has no parent
  pub alone_is : region new r ≡ Some (record { parent = None; blocks = [] })
  alone_is = ap (option_map region_of) makes.regions.updates.changed

  pub alone_came : RegionCame old new r
  alone_came = record {
    is_new = λ there. let e = ap (option_map region_of) (fresh_place old.graph.regions new.graph.regions r makes.regions) in let h = subst IsSome e there in absurd (cc);
    view = record { parent = None; blocks = [] };
    is = alone_is;
    blocks = refl;
  }

  -- and all else is unchanged
  pub alone_spares : ModifiesOnly (TheRegion r ∷ []) old new
  alone_spares = spares_by old new (TheRegion r ∷ []) go
    where
      go : (q : Object) → (Among q (TheRegion r ∷ []) → ⊥) → IsAsItWas old new q
      go (TheOperation p) apart = let e = ap (λ s. get s p) makes.operations in (ap (option_and_then operation_of) e, kept_as_many old.graph new.graph p e)
      go (TheBlock b) apart = let e = ap (λ s. get s b) makes.blocks in (ap (option_map block_of) e, ap (λ x. option_map TheRegion (parent_of x)) e)
      go (TheRegion q) apart = ap (option_map region_of) (makes.regions.updates.others q (λ e. apart (inl (ap TheRegion e))))

  pub alone_creates : CreatesRegion old new r
  alone_creates = record {
    operations = operation_same old.graph new.graph r makes;
    objects = object_same old.graph new.graph r makes;
    blocks = makes.blocks;
    itself = ap (λ z. option_map (λ d. ARegion d.0 d.1) (content_of z)) makes.regions.updates.changed;
    others = λ q n. ap (λ z. option_map (λ d. ARegion d.0 d.1) (content_of z)) (makes.regions.updates.others q n);
    made = let e = makes.made in omega (arith, e);
    dialects = ap (λ c. c.dialects) with_it;
  }

  -- it is new
  pub alone_new : (m : ℕ) → m ≤ old.graph.made → IsNew m new.graph (TheRegion r)
  alone_new = created_new alone_creates

  -- the open objects are still live
  pub alone_lasts : KeepsLive old new
  alone_lasts = created_lasts alone_creates

  -- the region is live
  pub alone_there : IsLive new.graph (TheRegion r)
  alone_there = created_there alone_creates
