use Rattle.std.proofs.Common.{◌≡◌, ◌-◌, ◌∙◌, ap, ap₂, arith, length, take}
use Rattle.irtext_parse_state.proofs.NumberedPlaces.{first_marks}
use Rattle.irtext_parse_state.specs.Numbered.{all_numbered}
use Rattle.irtext_parse_state.proofs.parsable.numbered.Numbered.truncate.Goals as goal

pub returns : goal.returns
returns g c =
    let left : c.saturating_sub.result ≡ c.args.len - length c.self.inside.dense.items = omega (arith, c.saturating_sub.ensures, c.len-dense.ensures) in
    ap₂ all_numbered c.truncate-2.ensures.items c.truncate.ensures.entries
    ∙ first_marks c.args.len c.saturating_sub.result c.self.inside.dense.items c.self.inside.others.entries left
    ∙ ap (take c.args.len) c.self.view_is
