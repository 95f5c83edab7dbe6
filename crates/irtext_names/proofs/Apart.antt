-- An object without children may be put into another one.
use Rattle.std.proofs.Common.{◌≡◌, List, [], Option, sym}
use Rattle.irtext_graph.specs.Nested.{Nested, Within}
use Rattle.irtext_graph.proofs.Inside.{alone}

-- nothing else is inside of it
pub apart_of : {O : Type 0} {kids : O → List O} {up : O → Option O} → Nested kids up → (inner outer : O) → kids inner ≡ [] → (outer ≡ inner → ⊥) → Within up inner outer → ⊥
apart_of nested inner outer none other w = other (alone nested inner outer none w)
