-- An object has other children, and nothing else of the arena changed.
use Rattle.std.proofs.Common.{◌≡◌, ◌<◌, ◌∙◌, ℕ, refl, sym, ap, subst, arith, Some, List, map, length, option_map}
use Rattle.std.proofs.lemmas.List.{length-map}
use Rattle.irtext_few.specs.Growing.{listed}
use Rattle.irtext_few.specs.declared.growing.Growing.{Growing}
use Rattle.irtext_graph.specs.declared.arena.Arena.{Arena}
use Rattle.irtext_graph.specs.declared.arena.Ptr.{Ptr}
use Rattle.irtext_graph.specs.declared.nest.Nest.{Nest}
use Rattle.irtext_graph.specs.declared.object.BasicBlock.{BasicBlock}
use Rattle.irtext_graph.specs.declared.object.Object.{Object}
use Rattle.irtext_graph.specs.declared.object.Object.TheVariants.{TheOperation, TheBlock, TheRegion}
use Rattle.irtext_graph.specs.declared.object.Operation.{Operation}
use Rattle.irtext_graph.specs.declared.object.Region.{Region}
use Rattle.irtext_graph.specs.declared.objects.Objects.{Objects}
use Rattle.irtext_graph.specs.Arena.{get}
use Rattle.irtext_graph.specs.Lending.{with_content_at}
use Rattle.irtext_graph.specs.Objects as objects
use Rattle.irtext_graph.specs.Nest.{kids, parent_in, children_in, datum_in, OnlyLists}
use Rattle.irtext_graph.proofs.Arenas.{places_kept, replaced, same_view}

module _ {P C D K : Type 0} (a : Arena (Nest P C D)) (p : Ptr K) (x : Nest P C D) (cs : Growing (Ptr C)) (at : option_map (λ o. o.content) (get a p) ≡ Some x) where
  pub relisted : OnlyLists a (with_content_at a p.index (record x { children = cs })) p
  relisted =
      let r = replaced a p x (record x { children = cs }) at in
      record {
        others = λ q ne. ap children_in (r.others q ne);
        ups = same_view parent_in r (λ b. refl);
        all_data = same_view datum_in r (λ b. refl);
        places = places_kept a p x (record x { children = cs }) at;
      }

  -- what was done to the list is what is done to the object's children
  pub relisted_here : (change : List (Ptr C) → List (Ptr C)) → listed cs ≡ change (listed x.children) → kids (with_content_at a p.index (record x { children = cs })) p ≡ change (kids a p)
  relisted_here change e =
      let r = replaced a p x (record x { children = cs }) at in
      ap children_in r.now ∙ e ∙ ap change (sym (ap children_in r.was))

within_mapped : {X Y : Type 0} (f : X → Y) (xs : List X) (i : ℕ) → i < length (map f xs) → i < length xs
within_mapped f xs i h = omega (arith, h, length-map xs f)

-- an index within the children of an object is within the list in the object's arena
module _ {O B T : Type 0} (x : Objects O B T) (o : Object) (i : ℕ) (h : i < length (objects.kids x o)) where
  pub operation_within : (p : Ptr Operation) → o ≡ TheOperation p → i < length (kids x.operations p)
  operation_within p is = within_mapped TheRegion (kids x.operations p) i (subst (λ q. i < length (objects.kids x q)) is h)

  pub block_within : (p : Ptr BasicBlock) → o ≡ TheBlock p → i < length (kids x.blocks p)
  block_within p is = within_mapped TheOperation (kids x.blocks p) i (subst (λ q. i < length (objects.kids x q)) is h)

  pub region_within : (p : Ptr Region) → o ≡ TheRegion p → i < length (kids x.regions p)
  region_within p is = within_mapped TheBlock (kids x.regions p) i (subst (λ q. i < length (objects.kids x q)) is h)
