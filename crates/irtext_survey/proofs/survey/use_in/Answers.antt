use Rattle.std.proofs.Common.{Option, sym, subst, arith}
use Rattle.irtext_stream.specs.declared.position.Place.{Place}
use Rattle.irtext_grammar.specs.Contexts.Held.{whole}
use Rattle.irtext_grammar.specs.Parsed.{Leaves, Optional}
use Rattle.irtext_survey.specs.Notes.{ended_at, is_at, first_unresolved}
use Rattle.irtext_survey.proofs.Related.{look_on, look_found, look_done, unresolved_alike}
use Rattle.irtext_survey.proofs.survey.use_in.Goals as goal

pub loop-index-preserved : goal.loop-index-preserved
loop-index-preserved c = look_on (whole c.args.stream.now) c.args.notes.now (ended_at (is_at (whole c.args.stream.now) c.args.region)) (λ seen iso n. first_unresolved iso n seen) c.loop-index.index c.loop-index.invariant c.note_at.result c.ended_here.result c.note_at.ensures c.ended_here.ensures c.in_default.is

pub returns-in-Some : goal.returns-in-Some
returns-in-Some c = look_found (whole c.args.stream.now) c.args.notes.now (ended_at (is_at (whole c.args.stream.now) c.args.region)) (λ seen iso n. first_unresolved iso n seen) c.loop-index.index c.loop-index.invariant c.note_at.result c.ended_here.result c.in-Some.isolated c.unresolved.result c.note_at.ensures c.ended_here.ensures c.in-Some.is
    (λ seen e. subst (λ (o : Option Place). Optional (Leaves (whole c.args.stream.now)) o (first_unresolved c.in-Some.isolated c.loop-index.index seen)) (sym c.unresolved.ensures) (unresolved_alike (whole c.args.stream.now) c.args.notes.now seen e c.loop-index.index c.in-Some.isolated))

pub returns : goal.returns
returns c = look_done (whole c.args.stream.now) c.args.notes.now (ended_at (is_at (whole c.args.stream.now) c.args.region)) (λ seen iso n. first_unresolved iso n seen) c.loop-index.index c.loop-index.invariant (omega (arith, c.loop-index-test.false, c.loop-index.auto.index-end))
