-- Ways downwards end.
use Rattle.std.proofs.Common.{◌≡◌, ◌<◌, ◌-◌, suc, Some, arith}
use Rattle.irtext_graph.specs.declared.object.Object.{Object}
use Rattle.irtext_graph.specs.declared.objects.Objects.{Objects}
use Rattle.irtext_graph.specs.Objects.{up, IsForest}
use Rattle.irtext_graph.specs.Preorder.{slots}
use Rattle.irtext_graph.proofs.Depth.{depth_of}
use Rattle.irtext_graph.proofs.Rank.{depth-le}
use Rattle.irtext_graph.proofs.Places.{one_deeper}

-- one step downwards leaves less below
pub lower-down : {O B T : Type 0} (x : Objects O B T) (o c : Object) → IsForest x → up x c ≡ Some o → suc (slots x) - depth_of x (Some c) < suc (slots x) - depth_of x (Some o)
lower-down x o c s e =
    let d = one_deeper x c o s e in
    let m = depth-le (up x) (suc (slots x)) (Some c) in
    omega (arith, d, m)
