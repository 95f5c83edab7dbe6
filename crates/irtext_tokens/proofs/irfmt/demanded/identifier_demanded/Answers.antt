use Rattle.irtext_base.specs.Answers.{unless_failed}
use Rattle.irtext_base.proofs.Compose.{answers_demanded}
use Rattle.irtext_tokens.specs.Tokens.{identifier_at}
use Rattle.irtext_tokens.proofs.irfmt.demanded.identifier_demanded.Goals as goal

pub returns : goal.returns
returns g c =
    let view = g.S.CharStream.view in
    let m = g.met.S.CharStream in
    let old = c.args.stream.now in
    record { answers = answers_demanded view g.S.CharStream.at m.view_at m.at_at (λ name. name) (unless_failed (view old).failed (identifier_at (view old).rest)) old c.identifier_parse-answer.new.stream c.committed.new.stream c.identifier_parse-answer.result c.committed.result c.identifier_parse-answer.ensures c.committed.ensures }
