-- If the data of one operation or of one block changed, nothing else did; the same holds for one change after another.
use Rattle.std.proofs.Common.{◌≡◌, ◌∙◌, ℕ, Option, Some, None, IsSome, is_some, option_map, slice_get, length, refl, sym, ap, subst, inl, inr}
use Rattle.irtext_graph.specs.declared.arena.Entry.{Entry}
use Rattle.irtext_graph.specs.declared.arena.Ptr.{Ptr}
use Rattle.irtext_graph.specs.declared.object.Operation.{Operation}
use Rattle.irtext_graph.specs.declared.object.BasicBlock.{BasicBlock}
use Rattle.irtext_graph.specs.declared.object.Region.{Region}
use Rattle.irtext_graph.specs.declared.object.Object.{Object}
use Rattle.irtext_graph.specs.declared.object.Object.TheVariants.{TheOperation, TheBlock, TheRegion}
use Rattle.irtext_graph.specs.declared.object.Defined.TheVariants.{OfValue, OfBlock}
use Rattle.irtext_graph.specs.declared.object.Site.{Site}
use Rattle.irtext_graph.specs.declared.object.Site.TheVariants.{AtOperand, AtSuccessor}
use Rattle.irtext_graph.specs.Content.{Node, OperationContent, BlockContent}
use Rattle.irtext_graph.specs.Data.{with_data, with_block, EditsOperation, EditsBlock}
use Rattle.irtext_graph.specs.Graph.{GraphView, parent, parent_of, children_of}
use Rattle.irtext_graph.specs.Parts.{regions, blocks, operands_of, successors_of}
use Rattle.irtext_graph.specs.Store.{get, object_of}
use Rattle.irtext_graph.specs.Used.{used_at}
use Rattle.irtext_names.specs.WithSection.{SameShape}
use Rattle.irtext_names.proofs.Ages.{IsHere, here_is_live, live_here}
use Rattle.irtext_graph.proofs.Stores.{edited_same}

abbrev OpEntry : Type 0 → Type 0 → Type 0
OpEntry O T = Option (Entry (Node BasicBlock Region (OperationContent O T)))

abbrev BlEntry : Type 0 → Type 0 → Type 0
BlEntry B T = Option (Entry (Node Region Operation (BlockContent B T)))

module _ {O B T : Type 0} where
  pub shape_self : (g : GraphView O B T) → SameShape g g
  shape_self g = record { places = refl; same_regions = λ p. refl; same_blocks = λ r. refl; same_operations = λ b. refl; same_parents = λ q. refl; same_uses = λ s. refl; was_live = λ q s. s }

  -- one change after another
  pub shape_then : (g h k : GraphView O B T) → SameShape g h → SameShape h k → SameShape g k
  shape_then g h k s t = record {
    places = t.places ∙ s.places;
    same_regions = λ p. t.same_regions p ∙ s.same_regions p;
    same_blocks = λ r. t.same_blocks r ∙ s.same_blocks r;
    same_operations = λ b. t.same_operations b ∙ s.same_operations b;
    same_parents = λ q. t.same_parents q ∙ s.same_parents q;
    same_uses = λ u. t.same_uses u ∙ s.same_uses u;
    was_live = λ q u. s.was_live q (t.was_live q u);
  }

  -- ---- the data of an operation
  module _ (g k : GraphView O B T) (p : Ptr Operation) (change : O → O) (e : EditsOperation g k p change) where
    -- what does not look at the data sees the same of each operation
    operation_alike : {Y : Type 0} (see : OpEntry O T → Y) → ((x : Entry (Node BasicBlock Region (OperationContent O T))) → see (Some (object_of (with_data change) x)) ≡ see (Some x)) → (q : Ptr Operation) → see (get k.operations q) ≡ see (get g.operations q)
    operation_alike see same q = edited_same g.operations k.operations p (with_data change) see same e.operations q

    pub operation_shape : SameShape g k
    operation_shape = record {
      places = e.operations.len;
      same_regions = operation_alike children_of (λ x. refl);
      same_blocks = λ r. ap (λ s. children_of (get s r)) e.regions;
      same_operations = λ b. ap (λ s. children_of (get s b)) e.blocks;
      same_parents = parents;
      same_uses = uses;
      was_live = λ q s. here_is_live g q (here q (live_here k q s));
    }
      where
        parents : (q : Object) → parent k q ≡ parent g q
        parents (TheOperation q) = operation_alike (λ x. option_map TheBlock (parent_of x)) (λ x. refl) q
        parents (TheBlock b) = ap (λ s. option_map TheRegion (parent_of (get s b))) e.blocks
        parents (TheRegion r) = ap (λ s. option_map TheOperation (parent_of (get s r))) e.regions

        uses : (s : Site) → used_at k s ≡ used_at g s
        uses (AtOperand q i) = operation_alike (λ x. option_map OfValue (slice_get (operands_of (option_map (λ e. e.content.content) x)) i)) (λ x. refl) q
        uses (AtSuccessor q i) = operation_alike (λ x. option_map OfBlock (slice_get (successors_of (option_map (λ e. e.content.content) x)) i)) (λ x. refl) q

        here : (q : Object) → IsHere k q → IsHere g q
        here (TheOperation q) h = sym (operation_alike (λ x. is_some x) (λ x. refl) q) ∙ h
        here (TheBlock b) h = subst (λ s. IsSome (get s b)) e.blocks h
        here (TheRegion r) h = subst (λ s. IsSome (get s r)) e.regions h

  -- ---- the data of a block
  module _ (g k : GraphView O B T) (p : Ptr BasicBlock) (change : B → B) (e : EditsBlock g k p change) where
    block_alike : {Y : Type 0} (see : BlEntry B T → Y) → ((x : Entry (Node Region Operation (BlockContent B T))) → see (Some (object_of (with_block change) x)) ≡ see (Some x)) → (q : Ptr BasicBlock) → see (get k.blocks q) ≡ see (get g.blocks q)
    block_alike see same q = edited_same g.blocks k.blocks p (with_block change) see same e.blocks q

    pub block_shape : SameShape g k
    block_shape = record {
      places = ap (λ s. length s.cells) e.operations;
      same_regions = λ q. ap (λ s. children_of (get s q)) e.operations;
      same_blocks = λ r. ap (λ s. children_of (get s r)) e.regions;
      same_operations = block_alike children_of (λ x. refl);
      same_parents = parents;
      same_uses = uses;
      was_live = λ q s. here_is_live g q (here q (live_here k q s));
    }
      where
        parents : (q : Object) → parent k q ≡ parent g q
        parents (TheOperation q) = ap (λ s. option_map TheBlock (parent_of (get s q))) e.operations
        parents (TheBlock b) = block_alike (λ x. option_map TheRegion (parent_of x)) (λ x. refl) b
        parents (TheRegion r) = ap (λ s. option_map TheOperation (parent_of (get s r))) e.regions

        uses : (s : Site) → used_at k s ≡ used_at g s
        uses (AtOperand q i) = ap (λ s. option_map OfValue (slice_get (operands_of (option_map (λ e. e.content.content) (get s q))) i)) e.operations
        uses (AtSuccessor q i) = ap (λ s. option_map OfBlock (slice_get (successors_of (option_map (λ e. e.content.content) (get s q))) i)) e.operations

        here : (q : Object) → IsHere k q → IsHere g q
        here (TheOperation q) h = subst (λ s. IsSome (get s q)) e.operations h
        here (TheBlock b) h = sym (block_alike (λ x. is_some x) (λ x. refl) b) ∙ h
        here (TheRegion r) h = subst (λ s. IsSome (get s r)) e.regions h
