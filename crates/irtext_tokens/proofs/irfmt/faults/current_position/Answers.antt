use Rattle.std.proofs.Common.{refl}
use Rattle.irtext_tokens.proofs.irfmt.faults.current_position.Goals as goal

pub returns : goal.returns
returns g c =
    let v = g.S.CharStream.view c.args.stream.now in
    c.locate.ensures v.passed v.rest refl c.position.ensures
