use Rattle.irtext_base.proofs.Results.{where_ok}
use Rattle.irtext_base.proofs.Waits.{next_noted, next_less}
use Rattle.irtext_base.proofs.location.sources.note_next.Goals as goal
use Rattle.irtext_base.specs.declared.location.sources.Waits.TheVariants.{Row}
use Rattle.std.proofs.Common.{refl}

pub returns-clause-noted : goal.returns-clause-noted
returns-clause-noted g c =
    where_ok c.note_one-2.result (λ n. next_noted c.args.found.now.items c.note_one-2.new.found.items c.args.waits.now.items c.wait.new.waits.items c.note_one-2.new.waits.items (Row c.in-Some.others) c.args.next c.in-Row.locations c.in-Some.others c.in-Some.first.now
    c.in-Row.is c.in-Some.ensures.cases.0 refl c.in_ok-wait.ensures n) c.note_one-2.ensures.noted

pub returns-clause-less : goal.returns-clause-less
returns-clause-less g c =
    where_ok c.note_one-2.result (λ n. next_less c.args.waits.now.items c.wait.new.waits.items c.note_one-2.new.waits.items (Row c.in-Some.others) c.args.next c.in-Row.locations c.in-Some.others c.in-Some.first.now
    c.in-Row.is c.in-Some.ensures.cases.0 refl c.in_ok-wait.ensures n) c.note_one-2.ensures.less
