-- No object is older than the mark 0, so all can be given back to it.
use Rattle.std.proofs.Common.{◌≡◌, ℕ, refl, arith, false, nat_lt, Option, Some, None}
use Rattle.std.proofs.lemmas.Bool.Decides.{nat_tests}
use Rattle.irtext_graph.specs.Back.{IsClosedBelow}
use Rattle.irtext_graph.specs.Content.{Content}
use Rattle.irtext_graph.specs.Graph.{GraphView, content, IsNew}
use Rattle.irtext_graph.specs.Objects.{born_of, is_older}
use Rattle.irtext_graph.specs.declared.object.Object.{Object}
use Rattle.irtext_graph.specs.declared.object.Object.TheVariants.{TheOperation}

not_below_zero : (n : ℕ) → nat_lt n 0 ≡ false
not_below_zero n = grind (arith, nat_tests)

module _ {O B T : Type 0} where
  all_new : (g : GraphView O B T) (o : Object) → IsNew 0 g o
  all_new g o = go (content g o)
    where
      go : (k : Option (Content O B T)) → is_older 0 k ≡ false
      go None = refl
      go (Some k) = not_below_zero (born_of k)

  pub closed_below_all : (g : GraphView O B T) → IsClosedBelow 0 g
  closed_below_all g = record {
    parents = λ o k e n. all_new g o;
    children = λ o c i e n. all_new g o;
    operands = λ p i v e n. all_new g (TheOperation p);
    successors = λ p i b e n. all_new g (TheOperation p);
  }
