use Rattle.std.proofs.Common.{refl, sym, ◌∙◌}
use Rattle.irtext_tokens.specs.Infix.{◌▷◌}
use Rattle.irtext_tokens.specs.Tokens.{space_at}
use Rattle.irtext_tokens.proofs.Steps.{alone, starts, spaced, last}
use Rattle.irtext_syntax.proofs.table.after_word.Goals as goal

pub returns : goal.returns
returns g c =
    let item = g.P.Part.text.reading in
    let p = starts alone (space_at ▷ item) (space_at ▷ item) c.args.stream.now (sym c.has_failed.ensures ∙ c.if-has_failed.false) refl in
    last alone (spaced alone (λ _ t. item t) p c.skip_white_space.ensures) c.demanded.ensures
