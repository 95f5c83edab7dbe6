use Rattle.irtext_graph.proofs.Going.{written_operation, written_block, written_region}
use Rattle.irtext_tests_graph.proofs.tests.walks.overwrite_one.Goals as goal

pub returns-in-TheOperation : goal.returns-in-TheOperation
returns-in-TheOperation c = written_operation (λ _. 7) (λ _. 7) c.args.graph.now c.args.o c.in-TheOperation.p c.operation_mut.result.now c.in-TheOperation.is c.operation_mut.ensures.value

pub returns-in-TheBlock : goal.returns-in-TheBlock
returns-in-TheBlock c = written_block (λ _. 7) (λ _. 7) c.args.graph.now c.args.o c.in-TheBlock.p c.block_mut.result.now c.in-TheBlock.is c.block_mut.ensures.value

pub returns-in-TheRegion : goal.returns-in-TheRegion
returns-in-TheRegion c = written_region (λ _. 7) (λ _. 7) c.args.graph.now c.args.o c.in-TheRegion.field-0 c.in-TheRegion.is
