use Rattle.irtext_grammar.proofs.Names.Injective.{values_differ, blocks_differ, value_no_block}
use Rattle.pliron_text.proofs.laws.printed_names_differ.Goals as goal

pub returns-clause-values : goal.returns-clause-values
returns-clause-values c = values_differ

pub returns-clause-blocks : goal.returns-clause-blocks
returns-clause-blocks c = blocks_differ

pub returns-clause-between : goal.returns-clause-between
returns-clause-between c = value_no_block
