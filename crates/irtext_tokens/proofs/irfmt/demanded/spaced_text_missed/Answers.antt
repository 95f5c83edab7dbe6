use Rattle.std.proofs.Common.{◌∙◌, refl, sym}
use Rattle.irtext_base.specs.Answers.{Outcome, followed}
use Rattle.irtext_base.specs.Faults.{characters}
use Rattle.irtext_base.specs.Text.{Text}
use Rattle.irtext_tokens.specs.Tokens.{space_at, text_at}
use Rattle.irtext_tokens.proofs.Exits.{propagated}
use Rattle.irtext_tokens.proofs.Steps.{lens, starts, spaced, more, refuses, last_spaced}
use Rattle.irtext_tokens.proofs.irfmt.demanded.spaced_text_missed.Goals as goal

-- a text and white space after it
abbrev and_space : Text → Text → Outcome (Unit {0})
and_space word text = followed (text_at word text) (λ _ t. space_at t)

abbrev within_space : Text → Text → Outcome (Unit {0})
within_space word text = followed (space_at text) (λ _ t. and_space word t)

pub returns-in_err-text_demanded : goal.returns-in_err-text_demanded
returns-in_err-text_demanded g c =
    let m = g.met.S.CharStream in
    let l = lens g.S.CharStream.view g.S.CharStream.at m.view_at m.at_view m.at_at in
    let word = characters c.args.text.now in
    let p = spaced l (λ _ t. and_space word t) (starts l (within_space word) (within_space word) c.args.stream.now (sym c.has_failed.ensures ∙ c.if-has_failed.false) refl) c.skip_white_space.ensures in
    rw (propagated c.from_residual.result c.from_residual.ensures.1) (refuses l (λ _ t. space_at t) p c.in_err-text_demanded.ensures)

pub returns : goal.returns
returns g c =
    let m = g.met.S.CharStream in
    let l = lens g.S.CharStream.view g.S.CharStream.at m.view_at m.at_view m.at_at in
    let word = characters c.args.text.now in
    let p = spaced l (λ _ t. and_space word t) (starts l (within_space word) (within_space word) c.args.stream.now (sym c.has_failed.ensures ∙ c.if-has_failed.false) refl) c.skip_white_space.ensures in
    last_spaced l {A = g.row.A.Denot} (λ u. u) (λ u. u) tt refl (more l (λ _ t. space_at t) p c.in_ok-text_demanded.ensures) c.skip_white_space-2.ensures
