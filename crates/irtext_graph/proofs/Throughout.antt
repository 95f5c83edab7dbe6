-- Going through all objects inside an object of a graph: what comes is what comes in the arenas.
use Rattle.std.proofs.Common.{◌≡◌, ◌∙◌, ◌∷◌, ℕ, suc, refl, sym, ap, arith, subst, Option, Some, None, IfSome}
use Rattle.irtext_graph.specs.declared.graph.Counters.{Counters}
use Rattle.irtext_graph.specs.declared.object.Object.{Object}
use Rattle.irtext_graph.specs.declared.objects.Objects.{Objects}
use Rattle.irtext_graph.specs.Chained.{Among}
use Rattle.irtext_graph.specs.Content.{node_of, operation_content, block_content, region_content}
use Rattle.irtext_graph.specs.Graph.{graph_of, parent, children, IsLive, IsInside}
use Rattle.irtext_graph.specs.Nested.{Within}
use Rattle.irtext_graph.specs.Objects.{up, kids, Lives, IsForest, eq_object}
use Rattle.irtext_graph.specs.Preorder.{left, onward, slots}
use Rattle.irtext_graph.specs.Throughout.{places, all_from}
use Rattle.irtext_graph.proofs.Afters.{all_left}
use Rattle.irtext_graph.proofs.Preorders.{onward_same}
use Rattle.irtext_graph.proofs.Stores.{length_seen}
use Rattle.irtext_graph.proofs.Views.{up_seen, kids_seen, within_at, within_seen, lives_seen}

module _ {O B T : Type 0} (m : ℕ) (v : Counters) (x : Objects O B T) where
  -- what is seen to come from an object on is what comes in the arenas
  pub all_seen : (o : Object) (at : Option Object) → all_from (graph_of m v x) o at ≡ left x o at
  all_seen o at =
      let a = length_seen (node_of operation_content) x.operations.slots.items in
      let b = length_seen (node_of block_content) x.blocks.slots.items in
      let c = length_seen (node_of region_content) x.regions.slots.items in
      let n : places (graph_of m v x) ≡ slots x = omega (arith, a, b, c) in
      ap (λ (k : ℕ). onward eq_object (children (graph_of m v x)) (parent (graph_of m v x)) (suc k) o at) n
      ∙ onward_same eq_object (kids x) (children (graph_of m v x)) (up x) (parent (graph_of m v x)) (kids_seen m v x) (up_seen m v x) (suc (slots x)) o at

  pub next_seen : (o q : Object) (r : Option Object) → left x o (Some q) ≡ q ∷ left x o r → all_from (graph_of m v x) o (Some q) ≡ q ∷ all_from (graph_of m v x) o r
  next_seen o q r e = all_seen o (Some q) ∙ e ∙ ap (λ xs. q ∷ xs) (sym (all_seen o r))

  pub found_inside : (o : Object) (r : Option Object) → ((q : Object) → r ≡ Some q → Within (up x) o q) → IfSome r (λ q. IsInside (graph_of m v x) o q)
  found_inside o None f = tt
  found_inside o (Some q) f = within_seen m v x o q (f q refl)

  pub found_is_live : (r : Option Object) → ((q : Object) → r ≡ Some q → Lives x q) → IfSome r (λ q. IsLive (graph_of m v x) q)
  found_is_live None f = tt
  found_is_live (Some q) f = lives_seen m v x q (f q refl)

  -- all objects inside an object come from it on
  pub all_come : (o q : Object) → IsForest x → IsInside (graph_of m v x) o q → Among q (all_from (graph_of m v x) o (Some o))
  all_come o q s w = subst (Among q) (sym (all_seen o (Some o))) (all_left x o q s (within_at m v x o q w))
