use Rattle.std.proofs.Common.{Ok, Err, refl, subst}
use Rattle.irtext_base.specs.Answers.{Outcome}
use Rattle.irtext_base.specs.Text.{Text}
use Rattle.irtext_tokens.specs.MustRead.{MayRead}
use Rattle.irtext_tokens.specs.Tokens.{space_at, text_at}
use Rattle.irtext_tokens.proofs.Steps.{alone, may_read, begins_with, begun_by, begins_refused, last_spaced}
use Rattle.irtext_syntax.proofs.fixed.open_parse.Goals as goal

-- white space after the bracket
abbrev following : Unit {0} → Text → Outcome Unit
following u t = space_at t

pub returns-in-Ok : goal.returns-in-Ok
returns-in-Ok g c =
    let k = may_read alone (λ u. u) (text_at _) c.args.stream.now c.text_parse.new.stream (Ok c.in-Ok.field-0) c.in-Ok.ensures.answers in
    let h = subst (λ w. MayRead {A = g.row.A.Denot} (λ s. s) (λ s v. v) (λ u. u) (text_at w) c.args.stream.now (Ok c.in-Ok.field-0) c.text_parse.new.stream) c.opening.ensures k in
    begun_by alone following h (last_spaced alone (λ u. u) (λ u. u) tt refl (begins_with alone following h) c.skip_white_space.ensures)

pub returns-in-Err : goal.returns-in-Err
returns-in-Err g c =
    let k = may_read alone (λ u. u) (text_at _) c.args.stream.now c.text_parse.new.stream (Err c.in-Err.fault) c.in-Err.ensures.answers in
    let h = subst (λ w. MayRead {A = g.row.A.Denot} (λ s. s) (λ s v. v) (λ u. u) (text_at w) c.args.stream.now (Err c.in-Err.fault) c.text_parse.new.stream) c.opening.ensures k in
    begins_refused alone (λ u. u) following h
