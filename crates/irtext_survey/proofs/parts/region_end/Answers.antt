use Rattle.std.proofs.Common.{refl}
use Rattle.irtext_survey.proofs.Reading.{region_left, unread, must_miss}
use Rattle.irtext_survey.proofs.parts.region_end.Goals as goal

pub returns-in-Err : goal.returns-in-Err
returns-in-Err g c = record { leaves = unread c.args.book.now (must_miss c.requires.fine c.in-Err.ensures) }

pub returns-in-Ok : goal.returns-in-Ok
returns-in-Ok g c = record { leaves = region_left {A = g.row.A.Denot} c.args.region c.args.stream.now c.text_demanded.new.stream c.args.book.now _ c.in_default.ensures c.in-Ok.ensures.items refl }
