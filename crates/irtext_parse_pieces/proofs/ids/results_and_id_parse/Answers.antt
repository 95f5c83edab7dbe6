use Rattle.std.proofs.Common.{[], sym, ◌∙◌, ap}
use Rattle.irtext_base.proofs.Compose.{seen_after}
use Rattle.irtext_parse_pieces.proofs.Leads.{lead_taken, lead_since, lead_refused, led_read, led_missed}
use Rattle.irtext_parse_pieces.proofs.Lenses.{lens_of}
use Rattle.irtext_parse_pieces.proofs.Meanings.{names_none, may_fail}
use Rattle.irtext_parse_pieces.proofs.ids.results_and_id_parse.Goals as goal

pub returns-then-has_failed-clause-read : goal.returns-then-has_failed-clause-read
returns-then-has_failed-clause-read g c = may_fail (lens_of g.world g.met.S.CharStream) ([], record { dialect = []; name = [] }) (sym c.has_failed.ensures ∙ c.if-has_failed.true) c.refuse.ensures

pub returns-in-Err-clause-read : goal.returns-in-Err-clause-read
returns-in-Err-clause-read g c =
    lead_refused (lens_of g.world g.met.S.CharStream) c.args.ctx.now.dialects (c.in-Err.ensures.read (sym c.has_failed.ensures ∙ c.if-has_failed.false))

pub returns-then-has_failed-clause-names : goal.returns-then-has_failed-clause-names
returns-then-has_failed-clause-names g c = names_none c.args.names.now

pub returns-in-Err-clause-names : goal.returns-in-Err-clause-names
returns-in-Err-clause-names g c = c.in-Err.ensures.names

pub text_since-requires : goal.text_since-requires
text_since-requires g c =
    let l = lens_of g.world g.met.S.CharStream in
    let old = c.args.stream.now in
    let t = lead_taken l (c.in-Ok.ensures.read (sym c.has_failed.ensures ∙ c.if-has_failed.false)) in
    ((l.view old).passed, t.taken, sym (ap (λ v. v.passed) (seen_after l.view l.at l.view_at l.at_at old c.lead_parse.new.stream t.taken (l.view c.lead_parse.new.stream).rest t.takes)), c.position-start.ensures)

pub returns-in-Err-id_after-clause-read : goal.returns-in-Err-id_after-clause-read
returns-in-Err-id_after-clause-read g c =
    let l = lens_of g.world g.met.S.CharStream in
    let h = c.in-Ok.ensures.read (sym c.has_failed.ensures ∙ c.if-has_failed.false) in
    let e = lead_since l h c.position-start.result c.text_since.result.now c.is_empty-led.result c.position-start.ensures c.text_since.ensures c.is_empty-led.ensures in
    rw c.failed.ensures (led_missed l c.args.ctx.now.dialects c.position-start.result _ h e c.position-start.ensures c.in-Err-id_after.ensures.read)

pub returns-in-Err-id_after-clause-known : goal.returns-in-Err-id_after-clause-known
returns-in-Err-id_after-clause-known g c = rw c.failed.ensures tt

pub returns-in-Err-id_after-clause-names : goal.returns-in-Err-id_after-clause-names
returns-in-Err-id_after-clause-names g c = c.in-Ok.ensures.names

pub returns-clause-read : goal.returns-clause-read
returns-clause-read g c =
    let l = lens_of g.world g.met.S.CharStream in
    let h = c.in-Ok.ensures.read (sym c.has_failed.ensures ∙ c.if-has_failed.false) in
    let e = lead_since l h c.position-start.result c.text_since.result.now c.is_empty-led.result c.position-start.ensures c.text_since.ensures c.is_empty-led.ensures in
    led_read l _ c.args.ctx.now.dialects c.position-start.result _ h e c.position-start.ensures c.in-Ok-id_after.ensures.read

pub returns-clause-known : goal.returns-clause-known
returns-clause-known g c = c.in-Ok-id_after.ensures.known

pub returns-clause-names : goal.returns-clause-names
returns-clause-names g c = c.in-Ok.ensures.names
