use Rattle.irtext_tokens.specs.AttrTexts.{attr_at}
use Rattle.irtext_grammar.proofs.Beside.{both_tree, operation_beside, rest_beside, whole_beside}
use Rattle.pliron_text.proofs.laws.actions.actions_side_by_side.Goals as goal

pub returns-clause-tree : goal.returns-clause-tree
returns-clause-tree g c isolated d e x s t = both_tree d e isolated x s t

pub returns-clause-operation : goal.returns-clause-operation
returns-clause-operation g c dialects d e same inside text s t = operation_beside d e same dialects g.T.IrText.reading (attr_at g.A.IrText.reading) inside text s t

pub returns-clause-rest : goal.returns-clause-rest
returns-clause-rest g c dialects d e same o text s t = rest_beside d e same dialects g.T.IrText.reading (attr_at g.A.IrText.reading) o text s t

pub returns-clause-whole : goal.returns-clause-whole
returns-clause-whole g c dialects d e same next frames s t text = whole_beside d e same dialects g.T.IrText.reading (attr_at g.A.IrText.reading) next frames s t text
