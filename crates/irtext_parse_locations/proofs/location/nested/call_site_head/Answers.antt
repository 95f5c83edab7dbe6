use Rattle.irtext_grammar.specs.Readers.Positions.{spaced_at}
use Rattle.irtext_grammar.proofs.Readers.PlainStream.{alone}
use Rattle.irtext_grammar.proofs.Readers.Steps.{first, last}
use Rattle.std.proofs.Common.{codes}
use Rattle.irtext_tokens.proofs.Exits.{propagated}
use Rattle.irtext_parse_locations.proofs.Refusals.{first_fails}
use Rattle.irtext_parse_locations.proofs.location.nested.call_site_head.Goals as goal

pub returns : goal.returns
returns g c = last alone (first alone (λ _ t. spaced_at (codes "(") t) c.in_ok-text_demanded.ensures) c.spaced_text_demanded.ensures

pub returns-in_err-text_demanded : goal.returns-in_err-text_demanded
returns-in_err-text_demanded g c =
    rw (propagated c.from_residual.result c.from_residual.ensures.1) (first_fails (λ u. u) (λ _ t. spaced_at (codes "(") t) c.in_err-text_demanded.ensures)
