use Rattle.std.proofs.Common.{refl, subst, sym}
use Rattle.std.specs.Prelude.{OnErr}
use Rattle.irtext_context.specs.Context.{RollsBack}
use Rattle.irtext_graph.specs.Back.{IsClosedBelow}
use Rattle.irtext_parse_root.proofs.Undoing.{takes_none, takes_all}
use Rattle.irtext_parse_root.proofs.undo.undone_on_error.Goals as goal

pub roll_back-requires : goal.roll_back-requires
roll_back-requires g c = record { closed = subst (λ a. OnErr a (IsClosedBelow c.args.start.made c.args.s.now.state.ctx.now.graph)) c.in-Err.is c.requires.closed }

pub returns-in-Ok-clause-back : goal.returns-in-Ok-clause-back
returns-in-Ok-clause-back g c = takes_none c.args.start c.args.answer c.args.s.now c.args.s.now c.in-Ok.parsed c.in-Ok.is

pub returns-in-Err-clause-back : goal.returns-in-Err-clause-back
returns-in-Err-clause-back g c =
    let e = c.truncate_marks.ensures in
    takes_all c.args.start c.args.answer c.args.s.now (record { stream = c.args.s.now.stream; state = c.truncate_marks.new.self }) c.in-Err.fault c.in-Err.is (record { src = e.src; aux_data = e.aux_data }) refl
    (subst (RollsBack c.args.start.made c.args.s.now.state.ctx.now) (sym e.ctx) c.roll_back.ensures.back) e.marks
