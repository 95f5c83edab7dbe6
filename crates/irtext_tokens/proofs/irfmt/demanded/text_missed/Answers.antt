use Rattle.irtext_base.specs.Answers.{unless_failed}
use Rattle.irtext_base.specs.Faults.{characters}
use Rattle.irtext_base.proofs.Compose.{answers_demanded}
use Rattle.irtext_tokens.specs.Tokens.{text_at}
use Rattle.irtext_tokens.proofs.irfmt.demanded.text_missed.Goals as goal

pub returns : goal.returns
returns g c =
    let view = g.S.CharStream.view in
    let m = g.met.S.CharStream in
    let old = c.args.stream.now in
    record { answers = answers_demanded view g.S.CharStream.at m.view_at m.at_at (λ u. u) (unless_failed (view old).failed (text_at (characters c.args.text.now) (view old).rest)) old c.text_parse-answer.new.stream c.committed.new.stream c.text_parse-answer.result c.committed.result c.text_parse-answer.ensures.answers c.committed.ensures }
