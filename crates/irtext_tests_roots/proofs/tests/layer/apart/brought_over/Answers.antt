use Rattle.irtext_tests_roots.proofs.tests.layer.apart.brought_over.Goals as goal

pub carried-answer-requires-clause-known : goal.carried-answer-requires-clause-known
carried-answer-requires-clause-known g c = record { alike = λ q view w is. c.requires view.id }
