use Rattle.std.proofs.Common.{Option, sym, subst, arith}
use Rattle.irtext_stream.specs.declared.position.Place.{Place}
use Rattle.irtext_grammar.specs.Contexts.Held.{whole}
use Rattle.irtext_grammar.specs.Parsed.{Leaves, Optional}
use Rattle.irtext_survey.specs.Notes.{defined_at, is_at, first_in_scope}
use Rattle.irtext_survey.proofs.Related.{look_on, look_found, look_done, scope_alike}
use Rattle.irtext_survey.proofs.survey.definition_in.Goals as goal

pub loop-index-preserved : goal.loop-index-preserved
loop-index-preserved c = look_on (whole c.args.stream.now) c.args.notes.now (defined_at (is_at (whole c.args.stream.now) c.args.second)) (λ seen m n. first_in_scope m n seen) c.loop-index.index c.loop-index.invariant c.note_at.result c.defined_here.result c.note_at.ensures c.defined_here.ensures c.in_default.is

pub returns-in-Some : goal.returns-in-Some
returns-in-Some c = look_found (whole c.args.stream.now) c.args.notes.now (defined_at (is_at (whole c.args.stream.now) c.args.second)) (λ seen m n. first_in_scope m n seen) c.loop-index.index c.loop-index.invariant c.note_at.result c.defined_here.result c.in-Some.mention c.defined.result c.note_at.ensures c.defined_here.ensures c.in-Some.is
    (λ seen e. subst (λ (o : Option Place). Optional (Leaves (whole c.args.stream.now)) o (first_in_scope c.in-Some.mention c.loop-index.index seen)) (sym c.defined.ensures) (scope_alike (whole c.args.stream.now) c.in-Some.mention c.args.notes.now seen e c.loop-index.index))

pub returns : goal.returns
returns c = look_done (whole c.args.stream.now) c.args.notes.now (defined_at (is_at (whole c.args.stream.now) c.args.second)) (λ seen m n. first_in_scope m n seen) c.loop-index.index c.loop-index.invariant (omega (arith, c.loop-index-test.false, c.loop-index.auto.index-end))
