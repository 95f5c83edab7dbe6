use Rattle.irtext_tokens.proofs.Steps.{alone, may_read, begins_with, begins_refused, begun_by, last}
use Rattle.std.proofs.Common.{Ok, Err}
use Rattle.irtext_base.specs.Faults.{demand_of}
use Rattle.irtext_syntax.specs.Words.{dotted_at}
use Rattle.irtext_syntax.proofs.table.table_slowly.Goals as goal

pub returns-in-Ok : goal.returns-in-Ok
returns-in-Ok g c =
    let h = may_read alone (λ w. w) (dotted_at g.W.Table.word c.args.refusal.now (demand_of c.args.expected)) c.args.stream.now c.dotted_parse.new.stream (Ok c.in-Ok.word) c.in-Ok.ensures in
    begun_by alone g.W.Table.following h (last alone (begins_with alone g.W.Table.following h) c.parse.ensures)

pub returns-in-Err : goal.returns-in-Err
returns-in-Err g c =
    let h = may_read alone (λ w. w) (dotted_at g.W.Table.word c.args.refusal.now (demand_of c.args.expected)) c.args.stream.now c.dotted_parse.new.stream (Err c.in-Err.fault) c.in-Err.ensures in
    begins_refused alone (λ x. x) g.W.Table.following h
