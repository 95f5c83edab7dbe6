use Rattle.irtext_base.proofs.Walks.{row_goes_on, row_turns_on, row_ends}
use Rattle.irtext_base.proofs.location.walk.Walk.go_on.Goals as goal

pub returns-in-Some-clause-on : goal.returns-in-Some-clause-on
returns-in-Some-clause-on g c =
    λ w. row_goes_on c.args.row c.in-Some.next c.in-Some.left c.in-Some.ensures.cases.0 (g.M.NewSources.rule c.args.self.now.sources.now) w

pub returns-in-Some-clause-less : goal.returns-in-Some-clause-less
returns-in-Some-clause-less g c = row_turns_on c.args.row c.in-Some.next c.in-Some.left c.in-Some.ensures.cases.0

pub returns-in_ok-fused-in-None-clause-on : goal.returns-in_ok-fused-in-None-clause-on
returns-in_ok-fused-in-None-clause-on g c =
    λ w. row_ends c.args.row c.in-None.ensures.cases (g.M.NewSources.rule c.args.self.now.sources.now) w c.in_ok-fused-in-None.field-0 c.in_ok-fused-in-None.ensures
