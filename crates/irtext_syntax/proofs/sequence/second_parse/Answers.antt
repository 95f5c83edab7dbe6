use Rattle.std.proofs.Common.{refl}
use Rattle.irtext_base.specs.Answers.{mapped}
use Rattle.irtext_base.specs.Text.{Text}
use Rattle.irtext_tokens.proofs.Exits.{propagated}
use Rattle.irtext_tokens.proofs.Steps.{alone, first, refuses_seen, last_seen}
use Rattle.irtext_syntax.specs.Sequences.{then_with}
use Rattle.irtext_syntax.proofs.sequence.second_parse.Goals as goal

pub returns-in_err-second : goal.returns-in_err-second
returns-in_err-second g c =
    let following = λ (u : Unit {0}) (t : Text). mapped (then_with c.args.first) (g.Q.Part.text.reading t) in
    rw (propagated c.from_residual-in_err-second.result c.from_residual-in_err-second.ensures.1) (refuses_seen alone (then_with c.args.first) (first alone following c.in_ok-between_demanded.ensures) c.in_err-second.ensures)

pub returns : goal.returns
returns g c =
    let following = λ (u : Unit {0}) (t : Text). mapped (then_with c.args.first) (g.Q.Part.text.reading t) in
    last_seen alone (λ x. x) (then_with c.args.first) _ refl (first alone following c.in_ok-between_demanded.ensures) c.in_ok-second.ensures
