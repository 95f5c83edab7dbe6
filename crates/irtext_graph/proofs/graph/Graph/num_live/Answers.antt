use Rattle.std.proofs.Common.{arith}
use Rattle.irtext_graph.specs.Content.{node_of, operation_content, block_content, region_content}
use Rattle.irtext_graph.proofs.Stores.{count_seen}
use Rattle.irtext_graph.proofs.graph.Graph.num_live.Goals as goal

pub returns : goal.returns
returns g c =
    let x = c.self.inside.objects in
    let a = count_seen (node_of operation_content) x.operations in
    let b = count_seen (node_of block_content) x.blocks in
    let d = count_seen (node_of region_content) x.regions in
    rw (← c.self.view_is) (omega (arith, a, b, d, c.count-operations.ensures, c.count-blocks.ensures, c.count-regions.ensures))
