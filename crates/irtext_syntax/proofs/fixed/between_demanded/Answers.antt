use Rattle.std.proofs.Common.{subst}
use Rattle.irtext_tokens.specs.Demanded.{spaced_at}
use Rattle.irtext_tokens.specs.MustRead.{MustRead}
use Rattle.irtext_syntax.proofs.fixed.between_demanded.Goals as goal

pub returns : goal.returns
returns g c = subst (λ w. MustRead (λ s. s) (λ s v. v) (λ u. u) (spaced_at w) c.args.stream.now c.spaced_text_demanded.result c.spaced_text_demanded.new.stream) c.text.ensures c.spaced_text_demanded.ensures
