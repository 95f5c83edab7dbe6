use Rattle.std.proofs.Common.{refl, sym, ◌∙◌}
use Rattle.std.specs.Char.{is_whitespace}
use Rattle.irtext_base.specs.Text.{front, after}
use Rattle.irtext_tokens.specs.Infix.{◌▷◌}
use Rattle.irtext_tokens.specs.Tokens.{space_at}
use Rattle.irtext_tokens.proofs.Steps.{alone, starts, spaced, last, insisted}
use Rattle.irtext_syntax.proofs.Restored.{earlier, restored}
use Rattle.irtext_syntax.proofs.table.after_known.Goals as goal

pub returns-in-Some : goal.returns-in-Some
returns-in-Some g c =
    let item = g.P.Part.text.reading in
    let p = starts alone (space_at ▷ item) (space_at ▷ item) c.args.stream.now (sym c.has_failed.ensures ∙ c.if-has_failed.false) refl in
    last alone (spaced alone (λ _ t. item t) p c.skip_white_space.ensures) (insisted alone c.in-Some.ensures (refl, refl))

pub reset-requires : goal.reset-requires
reset-requires g c =
    let old = c.args.stream.now in
    rw c.in_default.ensures (earlier c.position-place.result (front is_whitespace old.rest) (after is_whitespace old.rest) old c.skip_white_space.new.stream c.skip_white_space.ensures c.position-place.ensures)

pub returns : goal.returns
returns g c =
    let old = c.args.stream.now in
    let h = rw c.in_default.ensures at c.reset.ensures in
    restored c.position-place.result (front is_whitespace old.rest) (after is_whitespace old.rest) old c.skip_white_space.new.stream c.skip_white_space.ensures c.position-place.ensures c.reset.new.self h
