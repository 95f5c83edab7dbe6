use Rattle.std.proofs.Common.{ℤ, refl, rules}
use Rattle.std.proofs.lemmas.Int.{to_z-of_z}
use Rattle.std.specs.Int.{w32}
use Rattle.std.specs.Prelude.{FitsSigned}
use Rattle.irtext_stream.specs.declared.position.SourcePosition.{SourcePosition}
use Rattle.irtext_tokens.proofs.Exits.{propagated}
use Rattle.irtext_grammar.proofs.Readers.Steps.{lens, first, more, refuses, refuses_seen, last_seen}
use Rattle.irtext_parse_locations.proofs.location.read.position_demanded.Goals as goal

pub returns-in_err-spaced_text_demanded : goal.returns-in_err-spaced_text_demanded
returns-in_err-spaced_text_demanded g c =
    let l = lens g.S.CharStream.view g.S.CharStream.at g.met.S.CharStream.view_at g.met.S.CharStream.at_view g.met.S.CharStream.at_at in
    rw (propagated c.from_residual-in_err-spaced_text_demanded.result c.from_residual-in_err-spaced_text_demanded.ensures.1) (refuses l _ (first l _ c.in_ok-line.ensures) c.in_err-spaced_text_demanded.ensures)

pub returns-in_err-column : goal.returns-in_err-column
returns-in_err-column g c =
    let l = lens g.S.CharStream.view g.S.CharStream.at g.met.S.CharStream.view_at g.met.S.CharStream.at_view g.met.S.CharStream.at_at in
    rw (propagated c.from_residual-in_err-column.result c.from_residual-in_err-column.ensures.1) (refuses_seen l _ (more l _ (first l _ c.in_ok-line.ensures) c.in_ok-spaced_text_demanded.ensures) c.in_err-column.ensures)

pub returns : goal.returns
returns g c =
    let l = lens g.S.CharStream.view g.S.CharStream.at g.met.S.CharStream.view_at g.met.S.CharStream.at_view g.met.S.CharStream.at_at in
    let line : FitsSigned w32 c.in_ok-line.line = search rules in
    let column : FitsSigned w32 c.in_ok-column.column = search rules in
    let place : ℤ → SourcePosition = λ column. record { line = c.in_ok-line.line; column = column } in
    rw (to_z-of_z w32 c.in_ok-line.line line, to_z-of_z w32 c.in_ok-column.column column) (last_seen l (λ at. at) place (place c.in_ok-column.column) refl (more l _ (first l _ c.in_ok-line.ensures) c.in_ok-spaced_text_demanded.ensures) c.in_ok-column.ensures)
