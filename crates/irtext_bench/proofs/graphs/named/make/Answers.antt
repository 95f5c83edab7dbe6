use Rattle.irtext_names.proofs.Added.{operation_tried}
use Rattle.irtext_bench.proofs.graphs.named.make.Goals as goal

pub returns : goal.returns
returns c = operation_tried c.args.names.now.values c.args.names.now.labels _ _ _ _ c.make_operation.result c.make_operation.ensures.made c.make_operation.ensures.err c.requires
