use Rattle.irtext_tests_graph.proofs.tests.script.Script.make_one.Goals as goal

pub returns : goal.returns
returns g c = record { kept = c.make.ensures.kept }
