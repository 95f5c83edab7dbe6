use Rattle.std.proofs.Common.{Ok}
use Rattle.irtext_base.specs.Faults.{demand_of}
use Rattle.irtext_tokens.proofs.Steps.{alone, may_read, begins_with, begun_by, last}
use Rattle.irtext_syntax.specs.Words.{dotted_at}
use Rattle.irtext_syntax.proofs.table.table_parse.Goals as goal

pub returns : goal.returns
returns g c =
    let refusal = c.args.refusal.now in
    let demand = demand_of c.args.expected in
    let h = may_read alone (λ w. w) (dotted_at g.W.Table.word refusal demand) c.args.stream.now c.dotted_there.new.stream (Ok c.in-Some.word) (c.in-Some.ensures refusal demand) in
    let m = rw c.in_default-parse_known.ensures at c.parse.ensures in
    begun_by alone g.W.Table.following h (last alone (begins_with alone g.W.Table.following h) m)

pub returns-in-Some-parse_known : goal.returns-in-Some-parse_known
returns-in-Some-parse_known g c =
    let refusal = c.args.refusal.now in
    let demand = demand_of c.args.expected in
    let h = may_read alone (λ w. w) (dotted_at g.W.Table.word refusal demand) c.args.stream.now c.dotted_there.new.stream (Ok c.in-Some.word) (c.in-Some.ensures refusal demand) in
    begun_by alone g.W.Table.following h (last alone (begins_with alone g.W.Table.following h) c.in-Some-parse_known.ensures)
