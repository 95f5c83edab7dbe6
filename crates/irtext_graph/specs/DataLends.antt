-- The graph after the data of an operation or a block was borrowed as `&mut`, and the graph's owner after the graph was.
use Rattle.std.specs.Borrow.{Lends, Fml, RattleType, MutBor}
use Rattle.irtext_graph.specs.declared.arena.Ptr.{Ptr}
use Rattle.irtext_graph.specs.declared.object.Operation.{Operation}
use Rattle.irtext_graph.specs.declared.object.BasicBlock.{BasicBlock}
use Rattle.irtext_graph.specs.Graph.{GraphView}
use Rattle.irtext_graph.specs.Data.{with_operation_data, with_block_data}
use Rattle.irtext_graph.specs.contracts.graph.Graph as graph

module _ (O B T : RattleType) (g : MutBor (GraphView O.Denot B.Denot T.Denot)) where
  -- when the borrow ends, the data of the operation is the reference's last value; all else in the graph is unchanged
  abbrev pub LendsOperation : Ptr Operation → MutBor O.Denot → Fml
  LendsOperation p r = Lends (graph.the_row O B T) O g r (with_operation_data g.now p)

  -- when the borrow ends, the data of the block is the reference's last value; all else in the graph is unchanged
  abbrev pub LendsBlock : Ptr BasicBlock → MutBor B.Denot → Fml
  LendsBlock p r = Lends (graph.the_row O B T) B g r (with_block_data g.now p)

-- when the borrow ends, the owner's graph is the reference's last value
abbrev pub LendsGraph : (O B T C : RattleType) → (C.Denot → GraphView O.Denot B.Denot T.Denot → C.Denot) → MutBor C.Denot → MutBor (GraphView O.Denot B.Denot T.Denot) → Fml
LendsGraph O B T C with_graph c r = Lends C (graph.the_row O B T) c r (with_graph c.now)
