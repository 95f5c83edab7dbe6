use Rattle.std.proofs.Common.{Ok, Err, codes}
use Rattle.irtext_base.specs.Text.{Text}
use Rattle.irtext_tokens.specs.Tokens.{text_at}
use Rattle.irtext_tokens.proofs.Steps.{alone, may_read, begins_with, begins_refused, begun_by, last}
use Rattle.irtext_parts.specs.SymbolTexts.{symbol_name_at}
use Rattle.irtext_parts.proofs.symbol.at_name_parse.Goals as goal

pub returns-in-Ok : goal.returns-in-Ok
returns-in-Ok g c =
    let next = λ (u : Unit {0}) (t : Text). symbol_name_at t in
    let h = may_read alone (λ u. u) (text_at (codes "@")) c.args.stream.now c.text_parse.new.stream (Ok tt) c.in-Ok.ensures.answers in
    begun_by alone next h (last alone (begins_with alone next h) c.name_demanded.ensures)

pub returns-in-Err : goal.returns-in-Err
returns-in-Err g c =
    let next = λ (u : Unit {0}) (t : Text). symbol_name_at t in
    let h = may_read alone (λ u. u) (text_at (codes "@")) c.args.stream.now c.text_parse.new.stream (Err c.in-Err.fault) c.in-Err.ensures.answers in
    begins_refused alone (λ x. x) next h
