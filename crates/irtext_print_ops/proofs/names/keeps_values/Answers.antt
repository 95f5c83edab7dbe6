use Rattle.std.proofs.Common.{subst}
use Rattle.irtext_graph.specs.Numbers.{NumbersDiffer}
use Rattle.irtext_print_ops.proofs.ValuesByNumber.{given_by_number, type_by_number}
use Rattle.irtext_print_ops.proofs.names.keeps_values.Goals as goal

pub returns-clause-given : goal.returns-clause-given
returns-clause-given g c = given_by_number c.args.ctx.now (subst (λ x. NumbersDiffer x) c.graph.ensures c.keeps_numbers.ensures.differ) c.args.value

pub returns-clause-of_type : goal.returns-clause-of_type
returns-clause-of_type g c = type_by_number c.args.ctx.now (subst (λ x. NumbersDiffer x) c.graph.ensures c.keeps_numbers.ensures.differ) c.args.value
