use Rattle.std.proofs.Common.{Ok, refl}
use Rattle.irtext_base.specs.Answers.{unless_failed}
use Rattle.irtext_base.specs.Faults.{characters}
use Rattle.irtext_base.proofs.Compose.{answers_demanded}
use Rattle.irtext_tokens.specs.Tokens.{text_at}
use Rattle.irtext_tokens.proofs.irfmt.demanded.text_demanded.Goals as goal

pub returns-then-text_there : goal.returns-then-text_there
returns-then-text_there g c =
    let view = g.S.CharStream.view in
    let at = g.S.CharStream.at in
    let m = g.met.S.CharStream in
    let old = c.args.stream.now in
    let new = c.text_there.new.stream in
    let outcome = unless_failed (view old).failed (text_at (characters c.args.text.now) (view old).rest) in
    record { answers = answers_demanded view at m.view_at m.at_at {A = g.row.A.Denot} (λ u. u) outcome old new new (Ok tt) (Ok tt) c.if-text_there.ensures (refl, refl) }

pub returns : goal.returns
returns g c = rw c.if-text_there.ensures at c.text_missed.ensures
