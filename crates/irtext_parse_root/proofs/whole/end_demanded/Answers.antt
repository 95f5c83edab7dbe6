use Rattle.irtext_parse_root.proofs.WholeSteps.{ends_here, expects_end, end_refused}
use Rattle.irtext_parse_root.proofs.whole.end_demanded.Goals as goal

pub returns-then-is_none-clause-ends : goal.returns-then-is_none-clause-ends
returns-then-is_none-clause-ends g c = ends_here c.skip_white_space.ensures c.peek.result c.peek.ensures c.if-is_none.ensures

pub returns-clause-more : goal.returns-clause-more
returns-clause-more g c = expects_end c.skip_white_space.ensures c.peek.result c.peek.ensures c.if-is_none.ensures c.commit_unexpected.ensures

pub returns-clause-refused : goal.returns-clause-refused
returns-clause-refused g c = end_refused c.commit_unexpected.ensures
