use Rattle.std.proofs.Common.{refl}
use Rattle.irtext_survey.proofs.Reading.{region_entered, region_not_entered, must_miss}
use Rattle.irtext_survey.proofs.parts.region_begin.Goals as goal

pub returns-in-Ok-brace_demanded : goal.returns-in-Ok-brace_demanded
returns-in-Ok-brace_demanded g c = record { enters = region_entered {A = g.row.A.Denot} c.args.isolated c.args.stream.now c.brace_demanded.new.stream c.args.book.now _ c.position-at.result c.position-at.ensures c.in-Ok-brace_demanded.ensures c.in-Ok.ensures.items refl }

pub returns-in-Err : goal.returns-in-Err
returns-in-Err g c = record { enters = region_not_entered c.args.isolated c.args.stream.now c.brace_demanded.new.stream c.args.book.now _ (must_miss c.requires.fine c.in-Err.ensures) c.in-Ok.ensures.items refl }
