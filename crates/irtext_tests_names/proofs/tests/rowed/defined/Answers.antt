use Rattle.std.proofs.Common.{◌<◌, [], length, subst, sym}
use Rattle.irtext_names.proofs.Added.{added_ties}
use Rattle.irtext_names.proofs.Gained.{operation_added}
use Rattle.irtext_names.proofs.Made.{made_ready}
use Rattle.irtext_tests_names.proofs.tests.rowed.defined.Goals as goal

pub process_parsed_ssa_defs-requires-clause-tied : goal.process_parsed_ssa_defs-requires-clause-tied
process_parsed_ssa_defs-requires-clause-tied c = added_ties (operation_added c.in-Ok.op c.in-Ok.ensures.made) c.args.names.now.values c.args.names.now.labels c.requires.tied

pub process_parsed_ssa_defs-requires-clause-ready : goal.process_parsed_ssa_defs-requires-clause-ready
process_parsed_ssa_defs-requires-clause-ready c = λ i l.
    made_ready c.in-Ok.op 3 c.two.result [] [] c.in-Ok.ensures.made c.args.names.now.values c.args.names.now.labels c.requires.tied i (subst (λ ts. i < length ts) (sym c.two.ensures) l)
