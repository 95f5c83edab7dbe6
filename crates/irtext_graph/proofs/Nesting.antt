-- What always holds of the nesting that a graph shows.
use Rattle.std.proofs.Common.{◌≡◌, ◌∙◌, ◌∷◌, ℕ, zero, suc, List, [], map, Option, Some, None, IfSome, sym, ap, slice_get}
use Rattle.irtext_graph.specs.declared.graph.Counters.{Counters}
use Rattle.irtext_graph.specs.declared.object.Object.{Object}
use Rattle.irtext_graph.specs.declared.objects.Objects.{Objects}
use Rattle.irtext_graph.specs.Nested.{Nested}
use Rattle.irtext_graph.specs.declared.object.Object.TheVariants.{TheOperation, TheBlock, TheRegion}
use Rattle.irtext_graph.specs.Store.{get}
use Rattle.irtext_graph.specs.Objects.{up, IsForest, Fits}
use Rattle.irtext_graph.specs.Graph.{GraphView, graph_of, parent, children, children_of, IsLive}
use Rattle.irtext_graph.proofs.Nests.{climb-same, some_eq}
use Rattle.irtext_graph.proofs.Places.{parent_lives}
use Rattle.irtext_graph.proofs.Views.{lives_seen, up_seen, kids_seen}

-- what an item of a mapped list is the image of
mapped : {X Y : Type 0} (f : X → Y) (xs : List X) (i : ℕ) (y : Y) → slice_get (map f xs) i ≡ Some y → (x : X) × (y ≡ f x)
mapped f [] i y e = absurd (cc)
mapped f (x ∷ xs) zero y e = (x, sym (some_eq e))
mapped f (x ∷ xs) (suc i) y e = mapped f xs i y e

-- a child of an object is of the kind that the object contains
pub child_fits : {O B T : Type 0} (g : GraphView O B T) (k c : Object) (i : ℕ) → slice_get (children g k) i ≡ Some c → Fits k c
child_fits g (TheOperation p) c i e = let m = mapped TheRegion (children_of (get g.operations p)) i c e in rw m.1 tt
child_fits g (TheBlock p) c i e = let m = mapped TheOperation (children_of (get g.blocks p)) i c e in rw m.1 tt
child_fits g (TheRegion p) c i e = let m = mapped TheBlock (children_of (get g.regions p)) i c e in rw m.1 tt

module _ {O B T : Type 0} (m : ℕ) (v : Counters) (x : Objects O B T) where
  -- the parent of an object is live
  pub holder_is_live : (o : Object) → IsForest x → (r : Option Object) → r ≡ up x o → IfSome r (λ k. IsLive (graph_of m v x) k)
  holder_is_live o f None e = tt
  holder_is_live o f (Some k) e = lives_seen m v x k (parent_lives x o k f (sym e))

  -- what is shown of a forest is one
  pub forest_seen : IsForest x → Nested (children (graph_of m v x)) (parent (graph_of m v x))
  forest_seen f = record {
    down = λ k i c e. up_seen m v x c ∙ f.down k i c (sym (ap (λ cs. slice_get cs i) (kids_seen m v x k)) ∙ e);
    listed = λ c k e. let at = f.listed c k (sym (up_seen m v x c) ∙ e) in (at.0, ap (λ cs. slice_get cs at.0) (kids_seen m v x k) ∙ at.1);
    once = λ k i j c d e. f.once k i j c (sym (ap (λ cs. slice_get cs i) (kids_seen m v x k)) ∙ d) (sym (ap (λ cs. slice_get cs j) (kids_seen m v x k)) ∙ e);
    ends = λ o. let e = f.ends o in (e.0, climb-same (up x) (parent (graph_of m v x)) (up_seen m v x) e.0 (Some o) ∙ e.1);
  }
