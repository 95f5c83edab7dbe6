use Rattle.std.proofs.Common.{sym, subst}
use Rattle.std.specs.Option.{option_map}
use Rattle.irtext_base.specs.declared.location.Location.{Unknown}
use Rattle.irtext_context.specs.Context.{with_loc, with_block_loc}
use Rattle.irtext_graph.specs.Data.{with_operation_data}
use Rattle.irtext_graph.specs.Throughout.{EditsObject}
use Rattle.irtext_graph.proofs.Going.{written_operation, written_block, written_region}
use Rattle.irtext_context.proofs.location.erase_object.Goals as goal

pub returns-in-TheOperation : goal.returns-in-TheOperation
returns-in-TheOperation g c =
    subst (λ d. EditsObject c.args.graph.now (with_operation_data c.args.graph.now c.in-TheOperation.p d) c.args.o (option_map (with_loc Unknown)) (with_block_loc Unknown)) (sym c.erase_held.ensures)
    (written_operation (option_map (with_loc Unknown)) (with_block_loc Unknown) c.args.graph.now c.args.o c.in-TheOperation.p c.operation_mut.result.now c.in-TheOperation.is c.operation_mut.ensures.value)

pub returns-in-TheBlock : goal.returns-in-TheBlock
returns-in-TheBlock g c = written_block (option_map (with_loc Unknown)) (with_block_loc Unknown) c.args.graph.now c.args.o c.in-TheBlock.p c.block_mut.result.now c.in-TheBlock.is c.block_mut.ensures.value

pub returns-in-TheRegion : goal.returns-in-TheRegion
returns-in-TheRegion g c = written_region (option_map (with_loc Unknown)) (with_block_loc Unknown) c.args.graph.now c.args.o c.in-TheRegion.field-0 c.in-TheRegion.is
