use Rattle.irtext_tests_graph.proofs.tests.nesting.make_operation.Goals as goal

pub returns : goal.returns
returns g c = record { kept = c.make_operation.ensures.kept }
