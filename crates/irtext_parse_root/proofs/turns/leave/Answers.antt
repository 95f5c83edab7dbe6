use Rattle.std.proofs.Common.{ap, sym, subst}
use Rattle.irtext_context.specs.Context.{KeepsOlder}
use Rattle.irtext_tokens.specs.AttrTexts.{attr_at}
use Rattle.irtext_parse_state.specs.States.{marks_of}
use Rattle.irtext_names.proofs.Lasting.{lasts_itself}
use Rattle.irtext_parse_root.proofs.Handing.{leaves_given, spares_same}
use Rattle.irtext_parse_root.proofs.Looping.{keeps_itself}
use Rattle.irtext_parse_root.proofs.turns.leave.Goals as goal

pub region_end-requires-clause-tied : goal.region_end-requires-clause-tied
region_end-requires-clause-tied g c = c.requires.steady.sound.sound.tied

pub returns-clause-leaves : goal.returns-clause-leaves
returns-clause-leaves g c =
    let e = c.region_end.ensures in
    leaves_given g.T.IrText.reading (attr_at g.A.IrText.reading) c.args.names.now c.args.s.now c.region_end.new.names c.region_end.new.s (record { src = ap (λ s. s.src) e.state; aux_data = ap (λ s. s.aux_data) e.state }) c.args.region c.region_end.result c.requires.begun e.state e.names e.ends e.values e.labels e.sound
    (lasts_itself c.args.s.now.state.ctx.now)

pub returns-clause-spares : goal.returns-clause-spares
returns-clause-spares g c =
    let e = c.region_end.ensures in
    spares_same g.T.IrText.reading (attr_at g.A.IrText.reading) c.args.names.now c.args.s.now c.region_end.new.names c.region_end.new.s (record { src = ap (λ s. s.src) e.state; aux_data = ap (λ s. s.aux_data) e.state }) c.region_end.result (λ i text h. rw e.names h) (ap marks_of e.state)
    (λ m le new. subst (λ s. KeepsOlder m c.args.s.now.state.ctx.now s.ctx.now) (sym e.state) (keeps_itself m c.args.s.now.state.ctx.now))
