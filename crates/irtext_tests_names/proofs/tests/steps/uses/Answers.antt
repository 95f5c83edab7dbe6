use Rattle.irtext_names.proofs.Added.{operation_tried}
use Rattle.irtext_tests_names.proofs.tests.steps.uses.Goals as goal

pub returns : goal.returns
returns c = operation_tried c.use_name.new.names.values c.use_name.new.names.labels _ _ _ _ c.make_operation.result c.make_operation.ensures.made c.make_operation.ensures.err c.use_name.ensures.ties.tied
