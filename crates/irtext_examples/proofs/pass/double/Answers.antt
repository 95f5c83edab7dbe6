use Rattle.irtext_examples.proofs.Changes.{attribute_set}
use Rattle.irtext_examples.proofs.pass.double.Goals as goal

pub returns : goal.returns
returns c = attribute_set _ _ _ _ _ c.in_ok-set_attribute.ensures.edits
