use Rattle.std.proofs.Common.{Option, List, refl, codes}
use Rattle.irtext_base.specs.Answers.{Outcome, mapped, followed}
use Rattle.irtext_base.specs.Text.{Text}
use Rattle.irtext_tokens.specs.AttrTexts.{given_name_at, names_at, bracketed_names_at}
use Rattle.irtext_tokens.specs.Tokens.{space_at, text_at}
use Rattle.irtext_tokens.proofs.Exits.{propagated}
use Rattle.irtext_tokens.proofs.ListOutcomes.{separated_never_missing}
use Rattle.irtext_tokens.proofs.Steps.{lens, starts, never_missing, spaced, more, refuses, refuses_seen, last_seen}
use Rattle.irtext_tokens.proofs.irfmt.parsers.attributes.given_names.Goals as goal

-- what follows the names
abbrev after_names : List (Option Text) → Text → Outcome (List (Option Text))
after_names names t = mapped (λ _. names) (text_at (codes "]") t)

-- what follows the opening bracket
abbrev after_bracket : Unit {0} → Text → Outcome (List (Option Text))
after_bracket u t = followed (space_at t) (λ _ u. followed (names_at u) after_names)

pub returns-in_err-text_demanded : goal.returns-in_err-text_demanded
returns-in_err-text_demanded g c = λ fine.
    let m = g.met.S.CharStream in
    let l = lens g.S.CharStream.view g.S.CharStream.at m.view_at m.at_view m.at_at in
    let p1 = spaced l (λ _ u. followed (text_at (codes "[") u) after_bracket) (starts l bracketed_names_at bracketed_names_at c.args.stream.now fine refl) c.skip_white_space.ensures in
    rw (propagated c.from_residual.result c.from_residual.ensures.1) (refuses l after_bracket p1 c.in_err-text_demanded.ensures)

pub returns-in_err-names : goal.returns-in_err-names
returns-in_err-names g c = λ fine.
    let m = g.met.S.CharStream in
    let l = lens g.S.CharStream.view g.S.CharStream.at m.view_at m.at_view m.at_at in
    let p1 = spaced l (λ _ u. followed (text_at (codes "[") u) after_bracket) (starts l bracketed_names_at bracketed_names_at c.args.stream.now fine refl) c.skip_white_space.ensures in
    let p2 = spaced l (λ _ u. followed (names_at u) after_names) (more l after_bracket p1 c.in_ok-text_demanded.ensures) c.skip_white_space-2.ensures in
    rw (propagated c.from_residual-in_err-names.result c.from_residual-in_err-names.ensures.1) (refuses l after_names p2 (never_missing l names_at (separated_never_missing 44 given_name_at) c.in_err-names.ensures))

pub returns-in_err-text_demanded-2 : goal.returns-in_err-text_demanded-2
returns-in_err-text_demanded-2 g c = λ fine.
    let m = g.met.S.CharStream in
    let l = lens g.S.CharStream.view g.S.CharStream.at m.view_at m.at_view m.at_at in
    let p1 = spaced l (λ _ u. followed (text_at (codes "[") u) after_bracket) (starts l bracketed_names_at bracketed_names_at c.args.stream.now fine refl) c.skip_white_space.ensures in
    let p2 = spaced l (λ _ u. followed (names_at u) after_names) (more l after_bracket p1 c.in_ok-text_demanded.ensures) c.skip_white_space-2.ensures in
    let p3 = more l after_names p2 (never_missing l names_at (separated_never_missing 44 given_name_at) c.in_ok-names.ensures) in
    rw (propagated c.from_residual-in_err-text_demanded-2.result c.from_residual-in_err-text_demanded-2.ensures.1) (refuses_seen l (λ _. c.in_ok-names.names.items) p3 c.in_err-text_demanded-2.ensures)

pub returns : goal.returns
returns g c = λ fine.
    let m = g.met.S.CharStream in
    let l = lens g.S.CharStream.view g.S.CharStream.at m.view_at m.at_view m.at_at in
    let p1 = spaced l (λ _ u. followed (text_at (codes "[") u) after_bracket) (starts l bracketed_names_at bracketed_names_at c.args.stream.now fine refl) c.skip_white_space.ensures in
    let p2 = spaced l (λ _ u. followed (names_at u) after_names) (more l after_bracket p1 c.in_ok-text_demanded.ensures) c.skip_white_space-2.ensures in
    let p3 = more l after_names p2 (never_missing l names_at (separated_never_missing 44 given_name_at) c.in_ok-names.ensures) in
    last_seen l (λ names. names.items) (λ _. c.in_ok-names.names.items) c.in_ok-names.names refl p3 c.in_ok-text_demanded-2.ensures
