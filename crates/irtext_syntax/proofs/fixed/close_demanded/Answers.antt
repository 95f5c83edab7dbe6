use Rattle.std.proofs.Common.{refl, sym, ◌∙◌, subst}
use Rattle.irtext_tokens.specs.MustRead.{MustRead}
use Rattle.irtext_tokens.specs.Tokens.{text_at}
use Rattle.irtext_tokens.proofs.Steps.{alone, starts, spaced, last}
use Rattle.irtext_syntax.specs.FixedTexts.{close_at}
use Rattle.irtext_syntax.proofs.fixed.close_demanded.Goals as goal

pub returns : goal.returns
returns g c =
    let closer = g.B.Brackets.closer in
    let p = starts alone (close_at closer) (close_at closer) c.args.stream.now (sym c.has_failed.ensures ∙ c.if-has_failed.false) refl in
    let m = subst (λ w. MustRead (λ s. s) (λ s v. v) (λ u. u) (text_at w) c.skip_white_space.new.stream c.text_demanded.result c.text_demanded.new.stream) c.closing.ensures c.text_demanded.ensures in
    last alone (spaced alone (λ _ t. text_at closer t) p c.skip_white_space.ensures) m
