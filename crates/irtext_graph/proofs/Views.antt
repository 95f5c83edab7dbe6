-- What the view says of an object is what the arenas hold.
use Rattle.std.proofs.Common.{◌≡◌, ◌≢◌, ◌∙◌, ◌++◌, ◌∷◌, ℕ, refl, sym, ap, Option, Some, None, [], map, slice_get, Result, Ok, Err, OnOk, OnErr}
use Rattle.std.specs.List.{remove}
use Rattle.std.specs.Option.{option_map}
use Rattle.irtext_graph.specs.declared.graph.Counters.{Counters}
use Rattle.irtext_graph.specs.Arena as arena
use Rattle.irtext_graph.specs.Arena.{KeepsPlaces}
use Rattle.irtext_graph.specs.declared.arena.Arena.{Arena}
use Rattle.irtext_graph.specs.declared.arena.Entry.{Entry}
use Rattle.irtext_graph.specs.declared.arena.Ptr.{Ptr}
use Rattle.irtext_graph.specs.declared.nest.Nest.{Nest}
use Rattle.irtext_graph.specs.declared.object.Object.{Object}
use Rattle.irtext_graph.specs.declared.object.Object.TheVariants.{TheOperation, TheBlock, TheRegion}
use Rattle.irtext_graph.specs.declared.objects.Objects.{Objects}
use Rattle.irtext_graph.specs.Store.{store_of, get, object_of, mapped}
use Rattle.irtext_graph.specs.Content.{Node, node_of, nodes, Content.{AnOperation, ABlock, ARegion}, operation_content, block_content, region_content}
use Rattle.irtext_graph.specs.Nested.{Within}
use Rattle.irtext_graph.proofs.Nests.{climb-same}
use Rattle.irtext_graph.specs.Nest.{parent_in, children_in, datum_in}
use Rattle.irtext_graph.specs.Objects.{up, kids, what, Lives, SameNodes}
use Rattle.irtext_graph.specs.Objects as objects
use Rattle.irtext_graph.specs.Graph.{SamePlaces, graph_of, parent_of, children_of, content_of, parent, children, content, IsLive, IsInside, CanInsert, KeepsObjects, KeepsRest, Appends, Unlinks}
use Rattle.irtext_graph.proofs.Stores.{get_seen, generation_seen, length_seen, mapped_seen, seen_mapped}

module _ {P C D E : Type 0} (see : D → E) where
  seen_as : {K V : Type 0} (f : Option (Entry (Node P C E)) → V) (g : Option (Entry (Nest P C D)) → V) → f None ≡ g None → ((e : Entry (Nest P C D)) → f (Some (object_of (node_of see) e)) ≡ g (Some e))
      → (a : Arena (Nest P C D)) (p : Ptr K) → f (get (store_of (node_of see) a) p) ≡ g (arena.get a p)
  seen_as f g none some a p = ap f (get_seen (node_of see) a p) ∙ seen_mapped (object_of (node_of see)) f g none some (arena.get a p)

  parent_seen : {K : Type 0} (a : Arena (Nest P C D)) (p : Ptr K) → parent_of (get (store_of (node_of see) a) p) ≡ parent_in (arena.get a p)
  parent_seen a p = seen_as parent_of parent_in refl (λ e. refl) a p

  children_seen : {K : Type 0} (a : Arena (Nest P C D)) (p : Ptr K) → children_of (get (store_of (node_of see) a) p) ≡ children_in (arena.get a p)
  children_seen a p = seen_as children_of children_in refl (λ e. refl) a p

  content_seen : {K V : Type 0} (f : ℕ → E → V) (a : Arena (Nest P C D)) (p : Ptr K) → option_map (λ d. f d.0 d.1) (content_of (get (store_of (node_of see) a) p)) ≡ option_map (λ d. f d.0 (see d.1)) (datum_in (arena.get a p))
  content_seen f a p = seen_as (λ e. option_map (λ d. f d.0 d.1) (content_of e)) (λ e. option_map (λ d. f d.0 (see d.1)) (datum_in e)) refl (λ e. refl) a p

  pub places_seen : (a b : Arena (Nest P C D)) → KeepsPlaces a b → SamePlaces (store_of (node_of see) a) (store_of (node_of see) b)
  places_seen a b k = record {
    generations = λ i. generation_seen (node_of see) b i ∙ k.generations i ∙ sym (generation_seen (node_of see) a i);
    free = k.free;
    len = length_seen (node_of see) b.slots.items ∙ k.len ∙ sym (length_seen (node_of see) a.slots.items);
  }

store_is : {P C D E : Type 0} (see : D → E) (a b : Arena (Nest P C D)) → nodes b ≡ nodes a → store_of (node_of see) b ≡ store_of (node_of see) a
store_is {P} {C} {D} {E} see a b e = sym (mapped_seen (node_of (λ d. d)) through b) ∙ ap (mapped through) e ∙ mapped_seen (node_of (λ d. d)) through a
  where
    through : Node P C D → Node P C E
    through n = record { parent = n.parent; children = n.children; content = see n.content }

module _ {O B T : Type 0} where
  pub up_seen : (m : ℕ) (v : Counters) (x : Objects O B T) (o : Object) → parent (graph_of m v x) o ≡ up x o
  up_seen m v x (TheOperation p) = ap (option_map TheBlock) (parent_seen operation_content x.operations p)
  up_seen m v x (TheBlock p) = ap (option_map TheRegion) (parent_seen block_content x.blocks p)
  up_seen m v x (TheRegion p) = ap (option_map TheOperation) (parent_seen region_content x.regions p)

  pub kids_seen : (m : ℕ) (v : Counters) (x : Objects O B T) (o : Object) → children (graph_of m v x) o ≡ kids x o
  kids_seen m v x (TheOperation p) = ap (map TheRegion) (children_seen operation_content x.operations p)
  kids_seen m v x (TheBlock p) = ap (map TheOperation) (children_seen block_content x.blocks p)
  kids_seen m v x (TheRegion p) = ap (map TheBlock) (children_seen region_content x.regions p)

  pub what_seen : (m : ℕ) (v : Counters) (x : Objects O B T) (o : Object) → content (graph_of m v x) o ≡ what x o
  what_seen m v x (TheOperation p) = content_seen operation_content AnOperation x.operations p
  what_seen m v x (TheBlock p) = content_seen block_content ABlock x.blocks p
  what_seen m v x (TheRegion p) = content_seen region_content ARegion x.regions p

  pub lives_at : (m : ℕ) (v : Counters) (x : Objects O B T) (o : Object) → IsLive (graph_of m v x) o → Lives x o
  lives_at m v x o l = rw (what_seen m v x o) at l

  pub within_seen : (m : ℕ) (v : Counters) (x : Objects O B T) (o q : Object) → Within (up x) o q → IsInside (graph_of m v x) o q
  within_seen m v x o q w = (w.0, climb-same (up x) (parent (graph_of m v x)) (up_seen m v x) w.0 (Some q) ∙ w.1)

  pub within_at : (m : ℕ) (v : Counters) (x : Objects O B T) (o q : Object) → IsInside (graph_of m v x) o q → Within (up x) o q
  within_at m v x o q w = (w.0, sym (climb-same (up x) (parent (graph_of m v x)) (up_seen m v x) w.0 (Some q)) ∙ w.1)

  pub can_seen : (m : ℕ) (v : Counters) (x : Objects O B T) (k c : Object) → objects.CanInsert x k c → CanInsert (graph_of m v x) k c
  can_seen m v x k c a = record { free = up_seen m v x c ∙ a.free; apart = λ w. a.apart (within_at m v x c k w) }

  pub can_at : (m : ℕ) (v : Counters) (x : Objects O B T) (k c : Object) → CanInsert (graph_of m v x) k c → objects.CanInsert x k c
  can_at m v x k c a = record { free = sym (up_seen m v x c) ∙ a.free; apart = λ w. a.apart (within_seen m v x c k w) }

  -- what is unchanged of the slots is seen as unchanged
  pub rest_seen : (m : ℕ) (v : Counters) (x y : Objects O B T) → objects.SamePlaces x y → KeepsRest (graph_of m v x) (graph_of m v y)
  rest_seen m v x y p = record {
    operation_places = places_seen operation_content x.operations y.operations p.operation_places;
    block_places = places_seen block_content x.blocks y.blocks p.block_places;
    region_places = places_seen region_content x.regions y.regions p.region_places;
    made = refl;
    values = refl;
    first_place = refl;
  }

  pub keeps_seen : (m : ℕ) (v : Counters) (x y : Objects O B T) → ((q : Object) → what y q ≡ what x q) → objects.SamePlaces x y → KeepsObjects (graph_of m v x) (graph_of m v y)
  keeps_seen m v x y w p = record {
    contents = λ q. what_seen m v y q ∙ w q ∙ sym (what_seen m v x q);
    rest = rest_seen m v x y p;
  }

  -- an object that was removed from its parent
  pub unlinks_seen : (m : ℕ) (v : Counters) (x y : Objects O B T) (c : Object) → up y c ≡ None → ((q : Object) → q ≢ c → up y q ≡ up x q)
      → ((k : Object) (i : ℕ) → up x c ≡ Some k → slice_get (kids x k) i ≡ Some c → kids y k ≡ remove (kids x k) i) → ((q : Object) → up x c ≢ Some q → kids y q ≡ kids x q)
      → ((q : Object) → what y q ≡ what x q) → objects.SamePlaces x y → Unlinks (graph_of m v x) (graph_of m v y) c
  unlinks_seen m v x y c free ups left others whats places = record {
    free = up_seen m v y c ∙ free;
    parents = λ q ne. up_seen m v y q ∙ ups q ne ∙ sym (up_seen m v x q);
    left = λ k i e f. kids_seen m v y k ∙ left k i (sym (up_seen m v x c) ∙ e) (sym (ap (λ cs. slice_get cs i) (kids_seen m v x k)) ∙ f) ∙ ap (λ cs. remove cs i) (sym (kids_seen m v x k));
    others = λ q ne. kids_seen m v y q ∙ others q (λ e. ne (up_seen m v x c ∙ e)) ∙ sym (kids_seen m v x q);
    objects = keeps_seen m v x y whats places;
  }

  pub same_seen : (m : ℕ) (v : Counters) (x y : Objects O B T) → SameNodes x y → graph_of m v y ≡ graph_of m v x
  same_seen m v x y s = rw (store_is operation_content x.operations y.operations s.same_operations, store_is block_content x.blocks y.blocks s.same_blocks, store_is region_content x.regions y.regions s.same_regions) refl

  pub refused_seen : (m : ℕ) (v : Counters) (x y : Objects O B T) {E : Type 0} (r : Result (Unit {0}) E) → OnErr r (SameNodes x y) → OnErr r (graph_of m v y ≡ graph_of m v x)
  refused_seen m v x y (Ok u) s = s
  refused_seen m v x y (Err e) s = same_seen m v x y s

  pub lives_seen : (m : ℕ) (v : Counters) (x : Objects O B T) (o : Object) → Lives x o → IsLive (graph_of m v x) o
  lives_seen m v x o l = rw (what_seen m v x o) l
