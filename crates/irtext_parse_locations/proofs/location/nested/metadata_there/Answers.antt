use Rattle.std.proofs.Common.{refl, Option, Some, codes}
use Rattle.irtext_base.specs.Answers.{Outcome, mapped, followed}
use Rattle.irtext_base.specs.Locations.{AttrView, attr_view, attr_view_in}
use Rattle.irtext_base.specs.Text.{Text}
use Rattle.irtext_tokens.specs.Tokens.{text_at}
use Rattle.irtext_tokens.specs.AttrTexts.{attr_at}
use Rattle.irtext_grammar.specs.Readers.Positions.{space_at}
use Rattle.irtext_tokens.proofs.Exits.{propagated}
use Rattle.irtext_grammar.proofs.Readers.PlainStream.{alone}
use Rattle.irtext_grammar.proofs.Readers.Steps.{first, more, spaced, refuses, refuses_seen, last_seen}
use Rattle.irtext_parse_locations.proofs.location.nested.metadata_there.Goals as goal

-- what follows the attribute
abbrev following : {A : Type 0} → AttrView A → Text → Outcome (Option (AttrView A))
following a text = followed (space_at text) (λ _ t. mapped (λ _. Some a) (text_at (codes ">") t))

pub returns-in_err-attr : goal.returns-in_err-attr
returns-in_err-attr g c =
    rw (propagated c.from_residual-in_err-attr.result c.from_residual-in_err-attr.ensures.1) (refuses alone following (spaced alone (λ _ t. followed (attr_at g.A.IrText.reading t) following) (first alone (λ _ t. followed (space_at t) (λ _ u. followed (attr_at g.A.IrText.reading u) following)) c.in_ok-text_demanded.ensures) c.skip_white_space.ensures) c.in_err-attr.ensures)

pub returns-in_err-text_demanded-2 : goal.returns-in_err-text_demanded-2
returns-in_err-text_demanded-2 g c =
    rw (propagated c.from_residual-in_err-text_demanded-2.result c.from_residual-in_err-text_demanded-2.ensures.1) (refuses_seen alone (λ _. Some (attr_view c.in_ok-attr.attr)) (spaced alone (λ _ t. mapped (λ _. Some (attr_view c.in_ok-attr.attr)) (text_at (codes ">") t)) (more alone following (spaced alone (λ _ t. followed (attr_at g.A.IrText.reading t) following) (first alone (λ _ t. followed (space_at t) (λ _ u. followed (attr_at g.A.IrText.reading u) following)) c.in_ok-text_demanded.ensures) c.skip_white_space.ensures) c.in_ok-attr.ensures) c.skip_white_space-2.ensures) c.in_err-text_demanded-2.ensures)

pub returns : goal.returns
returns g c = last_seen alone attr_view_in (λ _. Some (attr_view c.in_ok-attr.attr)) (Some c.in_ok-attr.attr) refl (spaced alone (λ _ t. mapped (λ _. Some (attr_view c.in_ok-attr.attr)) (text_at (codes ">") t)) (more alone following (spaced alone (λ _ t. followed (attr_at g.A.IrText.reading t) following) (first alone (λ _ t. followed (space_at t) (λ _ u. followed (attr_at g.A.IrText.reading u) following)) c.in_ok-text_demanded.ensures) c.skip_white_space.ensures) c.in_ok-attr.ensures) c.skip_white_space-2.ensures) c.in_ok-text_demanded-2.ensures
