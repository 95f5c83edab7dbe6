use Rattle.irtext_parse_locations.specs.Rules.{rule_for}
use Rattle.irtext_parse_section.proofs.PairSteps.{may_keep}
use Rattle.irtext_parse_section.proofs.pairs.kept_parse.Goals as goal

pub returns : goal.returns
returns g c = may_keep (rule_for c.args.of_block) c.position-at.result c.pair_parse-answer.result c.allowed.result c.pair_parse-answer.ensures c.position-at.ensures c.allowed.ensures
