use Rattle.std.proofs.Common.{codes, refl}
use Rattle.irtext_base.specs.Answers.{Outcome, followed}
use Rattle.irtext_base.specs.Text.{Text}
use Rattle.irtext_tokens.specs.Tokens.{space_at, text_at}
use Rattle.irtext_tokens.proofs.Exits.{propagated}
use Rattle.irtext_tokens.proofs.Steps.{alone, first, more, refuses, last_spaced}
use Rattle.irtext_parse_pieces.proofs.EntrySteps.{first_refused}
use Rattle.irtext_parse_section.proofs.given.end_missed.Goals as goal

-- what follows the bracket
abbrev after_bracket : Unit {0} → Text → Outcome (Unit {0})
after_bracket u t = followed (text_at (codes ",") t) (λ _ v. space_at v)

pub returns-in_err-spaced_text_demanded : goal.returns-in_err-spaced_text_demanded
returns-in_err-spaced_text_demanded g c =
    rw (propagated c.from_residual.result c.from_residual.ensures.1) (first_refused alone {sees = λ u. u} after_bracket c.in_err-spaced_text_demanded.ensures)

pub returns-in_err-text_demanded : goal.returns-in_err-text_demanded
returns-in_err-text_demanded g c =
    rw (propagated c.from_residual-in_err-text_demanded.result c.from_residual-in_err-text_demanded.ensures.1) (refuses alone {sees = λ u. u} (λ _ v. space_at v) (first alone after_bracket c.in_ok-spaced_text_demanded.ensures) c.in_err-text_demanded.ensures)

pub returns : goal.returns
returns g c =
    last_spaced alone {A = g.row.A.Denot} (λ u. u) (λ u. u) tt refl (more alone (λ _ v. space_at v) (first alone after_bracket c.in_ok-spaced_text_demanded.ensures) c.in_ok-text_demanded.ensures) c.skip_white_space.ensures
