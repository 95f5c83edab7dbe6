use Rattle.std.proofs.Common.{Ok, Err}
use Rattle.irtext_base.specs.Text.{Text}
use Rattle.irtext_tokens.proofs.Steps.{alone, may_read, begins_with, begins_refused, begun_by, last}
use Rattle.irtext_syntax.specs.FixedTexts.{open_at}
use Rattle.irtext_syntax.specs.ListParts.{items_at}
use Rattle.irtext_syntax.proofs.list.ListOfPart.read.Goals as goal

pub returns-in-Err-items_parse : goal.returns-in-Err-items_parse
returns-in-Err-items_parse g c =
    let inside = λ (u : Unit {0}) (t : Text). items_at g.B.Separated.separator g.P.Part.text.reading g.B.Brackets.closer t in
    let h = may_read alone (λ u. u) (open_at g.B.Brackets.opener) c.args.stream.now c.open_parse.new.stream (Ok tt) c.in-Ok.ensures.answers in
    begun_by alone inside h (last alone (begins_with alone inside h) (record { answers = c.in-Err-items_parse.ensures.answers }))

pub returns-in-Ok-items_parse : goal.returns-in-Ok-items_parse
returns-in-Ok-items_parse g c =
    let inside = λ (u : Unit {0}) (t : Text). items_at g.B.Separated.separator g.P.Part.text.reading g.B.Brackets.closer t in
    let h = may_read alone (λ u. u) (open_at g.B.Brackets.opener) c.args.stream.now c.open_parse.new.stream (Ok tt) c.in-Ok.ensures.answers in
    rw c.new.ensures (begun_by alone inside h (last alone (begins_with alone inside h) (record { answers = c.in-Ok-items_parse.ensures.answers })))

pub returns-in-Err : goal.returns-in-Err
returns-in-Err g c =
    let inside = λ (u : Unit {0}) (t : Text). items_at g.B.Separated.separator g.P.Part.text.reading g.B.Brackets.closer t in
    let h = may_read alone (λ u. u) (open_at g.B.Brackets.opener) c.args.stream.now c.open_parse.new.stream (Err c.in-Err.fault) c.in-Err.ensures.answers in
    begins_refused alone (λ x. x) inside h
