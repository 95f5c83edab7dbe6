use Rattle.pliron_text.proofs.NamesDiffer.{one_value, one_block, not_both}
use Rattle.pliron_text.proofs.laws.headline.printed_names_differ.Goals as goal

pub returns-clause-values : goal.returns-clause-values
returns-clause-values g c = λ v w name e f. one_value c.args.ctx.now c.keeps_parts.ensures.all v w name e f

pub returns-clause-blocks : goal.returns-clause-blocks
returns-clause-blocks g c = λ b d name e f. one_block c.args.ctx.now c.keeps_parts.ensures.all b d name e f

pub returns-clause-between : goal.returns-clause-between
returns-clause-between g c = λ v b name e f. not_both c.args.ctx.now c.keeps_parts.ensures.all v b name e f
