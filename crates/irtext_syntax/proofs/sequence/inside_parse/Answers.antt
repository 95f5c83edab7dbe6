use Rattle.std.proofs.Common.{refl}
use Rattle.irtext_base.specs.Text.{Text}
use Rattle.irtext_tokens.proofs.Exits.{propagated}
use Rattle.irtext_tokens.proofs.Steps.{alone, first, refuses_seen, last_seen}
use Rattle.irtext_syntax.specs.Sequences.{within_with, shut_at}
use Rattle.irtext_syntax.proofs.sequence.inside_parse.Goals as goal

pub returns-in_err-close_demanded : goal.returns-in_err-close_demanded
returns-in_err-close_demanded g c =
    let shut = λ (x : g.row.P.Denot) (t : Text). shut_at g.B.Brackets.closer x t in
    rw (propagated c.from_residual-in_err-close_demanded.result c.from_residual-in_err-close_demanded.ensures.1) (refuses_seen alone (λ _. within_with c.in_ok-inside.inside) (first alone shut c.in_ok-inside.ensures) c.in_err-close_demanded.ensures)

pub returns : goal.returns
returns g c =
    let shut = λ (x : g.row.P.Denot) (t : Text). shut_at g.B.Brackets.closer x t in
    last_seen alone (λ x. x) (λ _. within_with c.in_ok-inside.inside) _ refl (first alone shut c.in_ok-inside.ensures) c.in_ok-close_demanded.ensures
