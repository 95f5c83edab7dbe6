use Rattle.irtext_names.proofs.Added.{operation_tried}
use Rattle.irtext_bench.proofs.graphs.named.use_number.Goals as goal

pub returns : goal.returns
returns c = operation_tried c.use_name.new.names.values c.use_name.new.names.labels _ _ _ _ c.make_operation.result c.make_operation.ensures.made c.make_operation.ensures.err c.use_name.ensures.ties.tied
