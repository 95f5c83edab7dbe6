use Rattle.irtext_tool.proofs.run.run.Goals as goal

pub returns : goal.returns
returns g c = record { standard = λ asks. (c.run_to_end.result.took, c.run_to_end.ensures.standard asks) }
