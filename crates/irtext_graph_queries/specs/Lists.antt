-- What the calls that list parts of objects return.
use Rattle.std.specs.Prelude.{◌≡◌, ◌++◌, ◌∷◌, ℕ, zero, suc, List, [], length, slice_get, Option, Some, None}
use Rattle.irtext_graph.specs.declared.arena.Ptr.{Ptr}
use Rattle.irtext_graph.specs.declared.object.BasicBlock.{BasicBlock}
use Rattle.irtext_graph.specs.declared.object.Defined.TheVariants.{OfBlock}
use Rattle.irtext_graph.specs.declared.object.Site.{Site}
use Rattle.irtext_graph.specs.Store.{get}
use Rattle.irtext_graph.specs.Chained.{Lists}
use Rattle.irtext_graph.specs.Graph.{GraphView, parent_of}
use Rattle.irtext_graph.specs.Used.{IsUse, user}

-- f of each number below n, in order
abbrev pub each : {X : Type 0} → (ℕ → X) → ℕ → List X
each f zero = []
each f (suc n) = each f n ++ f n ∷ []

-- the list has n elements, and each is at its index what the relation says
pub record AreEach {X : Type 0} (At : ℕ → X → Type 0) (n : ℕ) (xs : List X) : Type 0 where
  pub counted : length xs ≡ n
  pub met : (i : ℕ) (x : X) → slice_get xs i ≡ Some x → At i x

-- the list with the element, if there is one, in front
abbrev pub put_first : {X : Type 0} → Option X → List X → List X
put_first None xs = xs
put_first (Some x) xs = x ∷ xs

module _ {O B T : Type 0} where
  -- the block of the operation of each use, for the operations that are in a block
  abbrev pub blocks_of : GraphView O B T → List Site → List (Ptr BasicBlock)
  blocks_of g [] = []
  blocks_of g (u ∷ us) = put_first (parent_of (get g.operations (user u))) (blocks_of g us)

  -- the blocks of the operations that have b as a successor, one for each use by an operation in a block
  pub record ArePreds (g : GraphView O B T) (b : Ptr BasicBlock) (preds : List (Ptr BasicBlock)) : Type 0 where
    pub uses : List Site
    pub lists : Lists (IsUse g (OfBlock b)) uses
    pub blocks : preds ≡ blocks_of g uses
