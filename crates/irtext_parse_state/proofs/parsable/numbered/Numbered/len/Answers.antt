use Rattle.std.proofs.Common.{◌≡◌, ap, arith, length}
use Rattle.irtext_parse_state.proofs.NumberedPlaces.{length_marks}
use Rattle.irtext_parse_state.specs.Numbered.{all_numbered}
use Rattle.irtext_parse_state.proofs.parsable.numbered.Numbered.len.Goals as goal

pub returns : goal.returns
returns g c =
    let dense = c.self.inside.dense.items in
    let others = c.self.inside.others.entries in
    let all : length (all_numbered dense others) ≡ length c.args.self.now = ap length c.self.view_is in
    omega (arith, c.len.ensures, c.len-2.ensures.len, length_marks dense others, all)
