-- How deep an object is nested, counted with as many steps as there are places.
use Rattle.std.specs.Prelude.{ℕ, suc, Option}
use Rattle.irtext_graph.specs.declared.object.Object.{Object}
use Rattle.irtext_graph.specs.declared.objects.Objects.{Objects}
use Rattle.irtext_graph.specs.Objects.{up}
use Rattle.irtext_graph.specs.Preorder.{slots}
use Rattle.irtext_graph.proofs.Rank.{depth}

module _ {O B T : Type 0} where
  -- how deep an object is nested
  abbrev pub depth_of : Objects O B T → Option Object → ℕ
  depth_of x o = depth (up x) (suc (slots x)) o
