use Rattle.irtext_graph.specs.declared.object.Object.TheVariants.{TheOperation, TheBlock}
use Rattle.irtext_graph.proofs.Going.{edits_operation, edits_block}
use Rattle.irtext_walks.proofs.Kept.{edited_walks}
use Rattle.irtext_walks.proofs.laws.data_edits_keep_walks.Goals as goal

pub returns-clause-operation : goal.returns-clause-operation
returns-clause-operation g c = λ old new p f e. edited_walks old new (TheOperation p) f (λ b. b) (edits_operation f (λ b. b) old new p e)

pub returns-clause-block : goal.returns-clause-block
returns-clause-block g c = λ old new p h e. edited_walks old new (TheBlock p) (λ o. o) h (edits_block (λ o. o) h old new p e)
