-- If a region is appended to an operation, the operation has one more region, and each other operation, each block and each other region is
-- unchanged.
use Rattle.std.proofs.Common.{◌≡◌, ◌∙◌, [], ◌∷◌, ◌++◌, map, Option, Some, None, IsSome, refl, sym}
use Rattle.std.specs.Prelude.{option_and_then}
use Rattle.std.specs.Option.{option_map}
use Rattle.irtext_context.specs.Context.{ContextView, operation, operation_of}
use Rattle.irtext_context.proofs.Contexts.{OperationEntry}
use Rattle.irtext_graph.specs.declared.arena.Entry.{Entry}
use Rattle.irtext_graph.specs.declared.arena.Ptr.{Ptr}
use Rattle.irtext_graph.specs.declared.object.Operation.{Operation}
use Rattle.irtext_graph.specs.declared.object.BasicBlock.{BasicBlock}
use Rattle.irtext_graph.specs.declared.object.Region.{Region}
use Rattle.irtext_graph.specs.declared.object.Object.TheVariants.{TheOperation, TheBlock, TheRegion}
use Rattle.irtext_graph.specs.Content.{Node, OperationContent}
use Rattle.irtext_graph.specs.Graph.{GraphView, parent_of, children_of, content_of, Appends}
use Rattle.irtext_graph.specs.Regions.{with_child}
use Rattle.irtext_graph.specs.Store.{get, object_of}
use Rattle.irtext_graph.proofs.Frames.{map_same, option_same, entry_same, operation_content_same, block_content_same, region_content_same, block_same, region_same, operation_same}
use Rattle.irtext_parse_root.proofs.Marks.{map_both}

-- an operation with one child more is one of which these are the children
one_more : {O T : Type 0} (r : Ptr Region) (x y : Option (Entry (Node BasicBlock Region (OperationContent O T)))) → parent_of x ≡ parent_of y → map TheRegion (children_of x) ≡ map TheRegion (children_of y) ++ TheRegion r ∷ []
    → content_of x ≡ content_of y → x ≡ option_map (object_of (with_child r)) y
one_more r None None p c e = refl
one_more r None (Some y) p c e = absurd (cc)
one_more r (Some x) None p c e = absurd (cc)
one_more r (Some x) (Some y) p c e =
    entry_same (Some x) (option_map (object_of (with_child r)) (Some y)) p
    (map_same TheRegion region_same x.content.children (y.content.children ++ r ∷ []) (c ∙ sym (map_both TheRegion y.content.children (r ∷ [])))) e

module _ {O B T : Type 0} (g h : GraphView O B T) (op : Ptr Operation) (r : Ptr Region) (a : Appends g h (TheOperation op) (TheRegion r)) where
  pub other_operation : (p : Ptr Operation) → (p ≡ op → ⊥) → get h.operations p ≡ get g.operations p
  other_operation p apart = entry_same (get h.operations p) (get g.operations p)
      (option_same TheBlock block_same (parent_of (get h.operations p)) (parent_of (get g.operations p)) (a.parents (TheOperation p) (λ e. cc)))
      (map_same TheRegion region_same (children_of (get h.operations p)) (children_of (get g.operations p)) (a.others (TheOperation p) (λ e. apart (operation_same p op e))))
      (operation_content_same g h p (a.objects.contents (TheOperation p)))

  pub each_block : (b : Ptr BasicBlock) → get h.blocks b ≡ get g.blocks b
  each_block b = entry_same (get h.blocks b) (get g.blocks b)
      (option_same TheRegion region_same (parent_of (get h.blocks b)) (parent_of (get g.blocks b)) (a.parents (TheBlock b) (λ e. cc)))
      (map_same TheOperation operation_same (children_of (get h.blocks b)) (children_of (get g.blocks b)) (a.others (TheBlock b) (λ e. cc)))
      (block_content_same g h b (a.objects.contents (TheBlock b)))

  pub other_region : (q : Ptr Region) → (q ≡ r → ⊥) → get h.regions q ≡ get g.regions q
  other_region q apart = entry_same (get h.regions q) (get g.regions q)
      (option_same TheOperation operation_same (parent_of (get h.regions q)) (parent_of (get g.regions q)) (a.parents (TheRegion q) (λ e. apart (region_same q r e))))
      (map_same TheBlock block_same (children_of (get h.regions q)) (children_of (get g.regions q)) (a.others (TheRegion q) (λ e. cc)))
      (region_content_same g h q (a.objects.contents (TheRegion q)))

  pub gains_child : get h.operations op ≡ option_map (object_of (with_child r)) (get g.operations op)
  gains_child = one_more r (get h.operations op) (get g.operations op)
      (option_same TheBlock block_same (parent_of (get h.operations op)) (parent_of (get g.operations op)) (a.parents (TheOperation op) (λ e. cc)))
      a.here (operation_content_same g h op (a.objects.contents (TheOperation op)))

-- an operation that has a view is live
pub there_in : {T A : Type 0} (c : ContextView T A) (p : Ptr Operation) → IsSome (operation c p) → IsSome (get c.graph.operations p)
there_in {T} {A} c p h = go (get c.graph.operations p) h
  where
    go : (x : Option (OperationEntry T A)) → IsSome (option_and_then operation_of x) → IsSome x
    go None h = absurd (cc)
    go (Some x) h = refl
