-- What a caller needs to give back what was made since a mark: what was made is new, what was new stays so, and what is older comes back.
use Rattle.std.proofs.Common.{◌≡◌, ◌≤◌, ◌∙◌, ℕ, refl, ap, arith, cond, Some, None, List}
use Rattle.std.proofs.lemmas.Bool.{le-ltb}
use Rattle.irtext_graph.specs.Arena.{older}
use Rattle.irtext_graph.specs.declared.arena.Entry.{Entry}
use Rattle.irtext_graph.specs.declared.arena.Ptr.{Ptr}
use Rattle.irtext_graph.specs.declared.object.BasicBlock.{BasicBlock}
use Rattle.irtext_graph.specs.declared.object.Operation.{Operation}
use Rattle.irtext_graph.specs.declared.object.Region.{Region}
use Rattle.irtext_graph.specs.declared.object.Value.{Value}
use Rattle.irtext_graph.specs.Back.{AllOlder, IsClosedBelow, RollsBack}
use Rattle.irtext_graph.specs.Graph.{GraphView, MakesOperation, MakesBlock, MakesRegion, KeepsOlder, CountsOn}
use Rattle.irtext_graph.specs.Store.{Store, Inserts, get, before}
use Rattle.irtext_graph.proofs.Closed.{closed_kept as closed, back_to}
use Rattle.irtext_graph.proofs.Once.{gives_itself, gives_on, gives_back}

module _ {X K : Type 0} where
  -- what was inserted since a mark is not there before it
  pub came : (m : ℕ) (old new : Store X) (p : Ptr K) (x : Entry X) → m ≤ x.born → Inserts old new p x → before m new p ≡ None
  came m old new p x up i = ap (older m) i.updates.changed ∙ ap (λ b. cond b (Some x) None) (le-ltb x.born m up)

module _ {O B T : Type 0} where
  -- what was made since a mark is not there before it
  pub operation_came : (m : ℕ) (old new : GraphView O B T) (p : Ptr Operation) (value : O) (types : List T) (operands : List Value) (successors : List (Ptr BasicBlock)) → m ≤ old.made
      → MakesOperation old new p value types operands successors → before m new.operations p ≡ None
  operation_came m old new p value types operands successors up k = came m old.operations new.operations p _ up k.operations

  pub block_came : (m : ℕ) (old new : GraphView O B T) (p : Ptr BasicBlock) (value : B) (types : List T) → m ≤ old.made → MakesBlock old new p value types → before m new.blocks p ≡ None
  block_came m old new p value types up k = came m old.blocks new.blocks p _ up k.blocks

  pub region_came : (m : ℕ) (old new : GraphView O B T) (p : Ptr Region) → m ≤ old.made → MakesRegion old new p → before m new.regions p ≡ None
  region_came m old new p up k = came m old.regions new.regions p _ up k.regions

  -- nothing is given twice where what is older is kept
  pub counts_itself : (g : GraphView O B T) → CountsOn g g
  counts_itself g = record { made = omega arith; values = omega arith; first_place = refl; pointers = gives_itself g }

  pub counts_kept : (m : ℕ) (old new : GraphView O B T) → KeepsOlder m old new → CountsOn old new
  counts_kept m old new k = record { made = k.made; values = k.values; first_place = k.first_place; pointers = k.pointers }

  pub counts_on : (old mid new : GraphView O B T) → CountsOn old mid → CountsOn mid new → CountsOn old new
  counts_on old mid new a b = record {
    made = let k = a.made in let l = b.made in omega (arith, k, l);
    values = let k = a.values in let l = b.values in omega (arith, k, l);
    first_place = b.first_place ∙ a.first_place;
    pointers = gives_on old mid new a.pointers b.pointers;
  }

  -- nor where it is rolled back after that
  pub counts_back : (m : ℕ) (old mid new : GraphView O B T) → KeepsOlder m old mid → RollsBack m mid new → CountsOn old new
  counts_back m old mid new k r = record {
    made = let a = k.made in let b = r.made in omega (arith, a, b);
    values = let a = k.values in let b = r.values in omega (arith, a, b);
    first_place = r.first_place ∙ k.first_place;
    pointers = gives_on old mid new k.pointers (gives_back m mid new r);
  }

  -- where all was older than the mark and is kept, a roll-back can be made
  pub can_roll_back : (m : ℕ) (old mid : GraphView O B T) → KeepsOlder m old mid → IsClosedBelow m old → IsClosedBelow m mid
  can_roll_back m old mid k c = closed m old mid k c

  -- and restores each object that was live, and no other
  pub operations_back : (m : ℕ) (old mid new : GraphView O B T) → AllOlder m old → KeepsOlder m old mid → RollsBack m mid new → (p : Ptr Operation) → get new.operations p ≡ get old.operations p
  operations_back m old mid new a k r = (back_to m old mid k a r).0

  pub blocks_back : (m : ℕ) (old mid new : GraphView O B T) → AllOlder m old → KeepsOlder m old mid → RollsBack m mid new → (p : Ptr BasicBlock) → get new.blocks p ≡ get old.blocks p
  blocks_back m old mid new a k r = (back_to m old mid k a r).1

  pub regions_back : (m : ℕ) (old mid new : GraphView O B T) → AllOlder m old → KeepsOlder m old mid → RollsBack m mid new → (p : Ptr Region) → get new.regions p ≡ get old.regions p
  regions_back m old mid new a k r = (back_to m old mid k a r).2
