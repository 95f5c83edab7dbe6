use Rattle.irtext_graph.specs.declared.object.Defined.TheVariants.{OfValue}
use Rattle.irtext_graph.specs.declared.object.Value.TheVariants.{Result}
use Rattle.irtext_names.proofs.Added.{added_ties, made_none}
use Rattle.irtext_names.proofs.Gained.{operation_added}
use Rattle.irtext_tests_names.proofs.tests.steps.defines.Goals as goal

pub define_name-requires-clause-tied : goal.define_name-requires-clause-tied
define_name-requires-clause-tied c = added_ties (operation_added c.in-Ok.made c.in-Ok.ensures.made) c.args.names.now.values c.args.names.now.labels c.requires

pub define_name-requires-clause-no_placeholder : goal.define_name-requires-clause-no_placeholder
define_name-requires-clause-no_placeholder c = made_none OfValue c.args.names.now.values (Result c.in-Ok.made 0) c.requires.value_ties (operation_added c.in-Ok.made c.in-Ok.ensures.made)
