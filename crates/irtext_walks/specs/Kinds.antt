-- The objects of one kind among objects of all kinds.
use Rattle.std.specs.Prelude.{◌≡◌, ◌++◌, ◌∷◌, List, [], Option, Some, None}
use Rattle.std.proofs.Common.{refl}
use Rattle.irtext_graph.specs.declared.arena.Ptr.{Ptr}
use Rattle.irtext_graph.specs.declared.object.BasicBlock.{BasicBlock}
use Rattle.irtext_graph.specs.declared.object.Object.{Object}
use Rattle.irtext_graph.specs.declared.object.Object.TheVariants.{TheOperation, TheBlock, TheRegion}
use Rattle.irtext_graph_queries.specs.Nested.{operations_among}

-- the list with the element, if there is one, in front
abbrev pub put_first : {X : Type 0} → Option X → List X → List X
put_first None xs = xs
put_first (Some x) xs = x ∷ xs

-- the blocks among these objects, in order
abbrev pub blocks_among : List Object → List (Ptr BasicBlock)
blocks_among [] = []
blocks_among (TheBlock b ∷ os) = b ∷ blocks_among os
blocks_among (_ ∷ os) = blocks_among os

-- `among` gives the pointers of one kind among objects, each at its place
pub record Picks {P : Type 0} (object : P → Object) (among : List Object → List P) : Type 0 where
  pub none : among [] ≡ []
  pub own : (p : P) → among (object p ∷ []) ≡ p ∷ []
  pub each : (o : Object) (os : List Object) → among (o ∷ os) ≡ among (o ∷ []) ++ among os

-- operations are picked
pub picks_operations : Picks TheOperation operations_among
picks_operations = record { none = refl; own = λ p. refl; each = each }
  where
    each : (o : Object) (os : List Object) → operations_among (o ∷ os) ≡ operations_among (o ∷ []) ++ operations_among os
    each (TheOperation p) os = refl
    each (TheBlock b) os = refl
    each (TheRegion r) os = refl

-- blocks are picked
pub picks_blocks : Picks TheBlock blocks_among
picks_blocks = record { none = refl; own = λ p. refl; each = each }
  where
    each : (o : Object) (os : List Object) → blocks_among (o ∷ os) ≡ blocks_among (o ∷ []) ++ blocks_among os
    each (TheOperation p) os = refl
    each (TheBlock b) os = refl
    each (TheRegion r) os = refl
