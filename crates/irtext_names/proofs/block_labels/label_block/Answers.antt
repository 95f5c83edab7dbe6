use Rattle.std.proofs.Common.{sym, subst}
use Rattle.irtext_graph.specs.declared.object.Defined.TheVariants.{OfBlock}
use Rattle.irtext_names.specs.LosesPlaceholders.{LosesPlaceholders}
use Rattle.irtext_names.proofs.Losing.{defined_loses, loses_nothing}
use Rattle.irtext_names.proofs.block_labels.label_block.Goals as goal

pub returns-in-Ok-clause-loses : goal.returns-in-Ok-clause-loses
returns-in-Ok-clause-loses g c =
    defined_loses OfBlock c.args.names.now.labels c.define_name.new.names.labels c.args.graph.now c.define_name.new.graph c.args.label.name c.args.block c.requires.tied.label_ties c.in-Ok.ensures.defines

pub returns-in-Err-NoRoom-clause-loses : goal.returns-in-Err-NoRoom-clause-loses
returns-in-Err-NoRoom-clause-loses g c = subst (λ k. LosesPlaceholders c.args.graph.now k) (sym c.in-Err-NoRoom.ensures.objects) (loses_nothing c.args.graph.now)

pub returns-in-Err-MultipleDefinitions-clause-loses : goal.returns-in-Err-MultipleDefinitions-clause-loses
returns-in-Err-MultipleDefinitions-clause-loses g c = subst (λ k. LosesPlaceholders c.args.graph.now k) (sym c.in-Err-MultipleDefinitions.ensures.objects) (loses_nothing c.args.graph.now)
