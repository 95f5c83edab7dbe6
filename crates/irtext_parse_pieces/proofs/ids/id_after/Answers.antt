use Rattle.std.proofs.Common.{◌≡◌, ◌++◌, Err, is_some, sym, ap, subst}
use Rattle.irtext_base.specs.Answers.{SameStream}
use Rattle.irtext_base.specs.Places.{IsPlaceAfter}
use Rattle.irtext_base.specs.Stream.{StreamView}
use Rattle.irtext_base.specs.Text.{Text}
use Rattle.irtext_stream.specs.declared.position.Place.{Place}
use Rattle.irtext_tokens.proofs.SetBack.{set_back, set_within}
use Rattle.irtext_tokens.proofs.Steps.{Lens}
use Rattle.irtext_parse_pieces.specs.Ids.{id_in, AnswersLed}
use Rattle.irtext_parse_pieces.proofs.Leads.{found_after, refused_after, registered_led}
use Rattle.irtext_parse_pieces.proofs.Lenses.{lens_of}
use Rattle.irtext_parse_pieces.proofs.ids.id_after.Goals as goal

-- set back, the stream is what it was
back : {S : Type 0} (l : Lens S) (old mid new : S) (place : Place) → SameStream l.view l.at (l.view old).failed old mid → IsPlaceAfter place (l.view old).passed
    → ((passed rest : Text) → passed ++ rest ≡ (l.view mid).passed ++ (l.view mid).rest → IsPlaceAfter place passed → new ≡ l.at mid (let v : StreamView = record { passed = passed; rest = rest; failed = (l.view mid).failed } in v)) → new ≡ old
back l old mid new place s p reset = set_back l old mid new s (reset (l.view old).passed (l.view old).rest (set_within l old mid s) p)

pub returns-in-Some-clause-read : goal.returns-in-Some-clause-read
returns-in-Some-clause-read g c =
    found_after c.args.ctx.now.dialects (lens_of g.world g.met.S.CharStream) c.args.start c.args.led c.shared.result c.in-Some.ensures.read (ap is_some c.in-Some.ensures.known.known) c.shared.ensures.id c.shared.ensures.stream c.shared.ensures.ran_out

pub returns-in-Err-clause-read : goal.returns-in-Err-clause-read
returns-in-Err-clause-read g c =
    let l = lens_of g.world g.met.S.CharStream in
    let again = back l c.args.stream.now c.look_up.new.stream c.reset.new.self c.position-at.result c.in-None.ensures.same_stream c.position-at.ensures c.reset.ensures in
    subst (λ s. AnswersLed {A = g.row.A.Denot} l.view l.at c.args.ctx.now.dialects c.args.start c.args.led s (Err c.in-Err.fault) c.demand_if.new.stream) again
    (refused_after c.args.ctx.now.dialects l c.id_parse-answer.new.stream c.id_parse-answer.result c.args.start c.args.led c.id_parse-answer.ensures c.in-Err.ensures)

pub returns-in-Ok-clause-read : goal.returns-in-Ok-clause-read
returns-in-Ok-clause-read g c =
    let l = lens_of g.world g.met.S.CharStream in
    let again = back l c.args.stream.now c.look_up.new.stream c.reset.new.self c.position-at.result c.in-None.ensures.same_stream c.position-at.ensures c.reset.ensures in
    let at = subst (λ s. IsPlaceAfter c.position-at.result (l.view s).passed) (sym again) c.position-at.ensures in
    subst (λ s. AnswersLed {A = g.row.A.Denot} l.view l.at c.args.ctx.now.dialects c.args.start c.args.led s (id_in c.registered.result) c.registered.new.stream) again
    (registered_led c.args.ctx.now.dialects l c.id_parse-answer.new.stream c.demand_if.new.stream c.id_parse-answer.result c.in-Ok.id c.args.start c.position-at.result c.args.led (id_in c.registered.result) c.id_parse-answer.ensures c.in-Ok.ensures at c.registered.ensures.registers)
