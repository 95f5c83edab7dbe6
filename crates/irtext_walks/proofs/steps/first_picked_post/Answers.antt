use Rattle.std.proofs.Common.{◌∙◌, sym, ap}
use Rattle.irtext_walks.proofs.steps.first_picked_post.Goals as goal

pub returns-clause-first : goal.returns-clause-first
returns-clause-first g c = sym c.pick_post_from.ensures.picked ∙ ap g.K.Picked.among c.first_in_postorder.ensures.first
