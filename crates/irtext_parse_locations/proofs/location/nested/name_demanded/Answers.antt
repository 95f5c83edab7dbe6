use Rattle.std.proofs.Common.{refl, string_bytes}
use Rattle.irtext_tokens.proofs.Exits.{propagated}
use Rattle.irtext_grammar.proofs.Readers.PlainStream.{alone}
use Rattle.irtext_grammar.proofs.Readers.Steps.{first, more, refuses, refuses_seen, last_seen}
use Rattle.irtext_parse_locations.proofs.location.nested.name_demanded.Goals as goal

pub returns-in_err-spaced_text_demanded : goal.returns-in_err-spaced_text_demanded
returns-in_err-spaced_text_demanded g c =
    rw (propagated c.from_residual-in_err-spaced_text_demanded.result c.from_residual-in_err-spaced_text_demanded.ensures.1) (refuses alone _ (first alone _ c.in_ok-text_demanded.ensures) c.in_err-spaced_text_demanded.ensures)

pub returns-in_err-name : goal.returns-in_err-name
returns-in_err-name g c =
    rw (propagated c.from_residual-in_err-name.result c.from_residual-in_err-name.ensures.1) (refuses alone _ (more alone _ (first alone _ c.in_ok-text_demanded.ensures) c.in_ok-spaced_text_demanded.ensures) c.in_err-name.ensures)

pub returns-in_err-spaced_text_demanded-2 : goal.returns-in_err-spaced_text_demanded-2
returns-in_err-spaced_text_demanded-2 g c =
    rw (propagated c.from_residual-in_err-spaced_text_demanded-2.result c.from_residual-in_err-spaced_text_demanded-2.ensures.1) (refuses alone _ (more alone _ (more alone _ (first alone _ c.in_ok-text_demanded.ensures) c.in_ok-spaced_text_demanded.ensures) c.in_ok-name.ensures) c.in_err-spaced_text_demanded-2.ensures)

pub returns-in_err-text_demanded-2 : goal.returns-in_err-text_demanded-2
returns-in_err-text_demanded-2 g c =
    rw (propagated c.from_residual-in_err-text_demanded-2.result c.from_residual-in_err-text_demanded-2.ensures.1) (refuses alone _ (more alone _ (more alone _ (more alone _ (first alone _ c.in_ok-text_demanded.ensures) c.in_ok-spaced_text_demanded.ensures) c.in_ok-name.ensures) c.in_ok-spaced_text_demanded-2.ensures) c.in_err-text_demanded-2.ensures)

pub returns-in_err-spaced_text_demanded-3 : goal.returns-in_err-spaced_text_demanded-3
returns-in_err-spaced_text_demanded-3 g c =
    rw (propagated c.from_residual-in_err-spaced_text_demanded-3.result c.from_residual-in_err-spaced_text_demanded-3.ensures.1) (refuses alone _ (more alone _ (more alone _ (more alone _ (more alone _ (first alone _ c.in_ok-text_demanded.ensures) c.in_ok-spaced_text_demanded.ensures) c.in_ok-name.ensures) c.in_ok-spaced_text_demanded-2.ensures) c.in_ok-text_demanded-2.ensures) c.in_err-spaced_text_demanded-3.ensures)

pub returns-in_err-text_demanded-3 : goal.returns-in_err-text_demanded-3
returns-in_err-text_demanded-3 g c =
    rw (propagated c.from_residual-in_err-text_demanded-3.result c.from_residual-in_err-text_demanded-3.ensures.1) (refuses_seen alone _ (more alone _ (more alone _ (more alone _ (more alone _ (more alone _ (first alone _ c.in_ok-text_demanded.ensures) c.in_ok-spaced_text_demanded.ensures) c.in_ok-name.ensures) c.in_ok-spaced_text_demanded-2.ensures) c.in_ok-text_demanded-2.ensures) c.in_ok-spaced_text_demanded-3.ensures) c.in_err-text_demanded-3.ensures)

pub returns : goal.returns
returns g c = last_seen alone (λ s. string_bytes s) (λ _. string_bytes c.in_ok-name.name) c.in_ok-name.name refl (more alone _ (more alone _ (more alone _ (more alone _ (more alone _ (first alone _ c.in_ok-text_demanded.ensures) c.in_ok-spaced_text_demanded.ensures) c.in_ok-name.ensures) c.in_ok-spaced_text_demanded-2.ensures) c.in_ok-text_demanded-2.ensures) c.in_ok-spaced_text_demanded-3.ensures) c.in_ok-text_demanded-3.ensures
