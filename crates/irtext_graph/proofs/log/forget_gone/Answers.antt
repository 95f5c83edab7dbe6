use Rattle.std.proofs.Common.{rules}
use Rattle.std.proofs.lemmas.Fn.{filter_same}
use Rattle.irtext_graph.proofs.Forgotten.{logged_live}
use Rattle.irtext_graph.proofs.log.forget_gone.Goals as goal

pub returns : goal.returns
returns g c = λ made i. logged_live made _ _ c.args.objects.now (filter_same _ _ _ (λ x b f' k. search rules) _ _ c.retain.ensures.filtered) i
