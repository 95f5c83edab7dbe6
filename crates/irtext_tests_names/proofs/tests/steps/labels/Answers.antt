use Rattle.irtext_graph.specs.declared.object.Defined.TheVariants.{OfBlock}
use Rattle.irtext_names.proofs.Added.{added_ties, made_none}
use Rattle.irtext_names.proofs.Gained.{block_added}
use Rattle.irtext_tests_names.proofs.tests.steps.labels.Goals as goal

pub define_name-requires-clause-tied : goal.define_name-requires-clause-tied
define_name-requires-clause-tied c = added_ties (block_added c.in-Ok.made c.in-Ok.ensures.made) c.args.names.now.values c.args.names.now.labels c.requires

pub define_name-requires-clause-no_placeholder : goal.define_name-requires-clause-no_placeholder
define_name-requires-clause-no_placeholder c = made_none OfBlock c.args.names.now.labels c.in-Ok.made c.requires.label_ties (block_added c.in-Ok.made c.in-Ok.ensures.made)
