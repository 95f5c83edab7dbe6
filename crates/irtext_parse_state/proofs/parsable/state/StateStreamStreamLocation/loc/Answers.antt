use Rattle.std.proofs.Common.{refl}
use Rattle.irtext_parse_state.proofs.parsable.state.StateStreamStreamLocation.loc.Goals as goal

pub returns : goal.returns
returns g c =
    let v = c.args.self.now.stream in
    record { at = c.locate.result; is = refl; positioned = c.locate.ensures v.passed v.rest refl c.position.ensures }
