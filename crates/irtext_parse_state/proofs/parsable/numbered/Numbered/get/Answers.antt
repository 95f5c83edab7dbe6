use Rattle.std.proofs.Common.{◌<◌, ◌≤◌, ◌∙◌, ap, sym, refl, arith, length, Some}
use Rattle.std.specs.Map.{lookup}
use Rattle.irtext_parse_state.proofs.NumberedPlaces.{dense_found, dense_passed, dense_only}
use Rattle.irtext_parse_state.specs.States.{same_index}
use Rattle.irtext_parse_state.proofs.parsable.numbered.Numbered.get.Goals as goal

pub returns-then-index-len : goal.returns-then-index-len
returns-then-index-len g c =
    let here : c.args.index < length c.self.inside.dense.items = omega (arith, c.if-index-len.true, c.len.ensures) in
    ap Some c.index.ensures
    ∙ sym (dense_found c.args.index c.self.inside.dense.items c.self.inside.others.entries c.index.result.now here)
    ∙ ap (lookup (same_index c.args.index)) c.self.view_is

pub returns-then-is_empty : goal.returns-then-is_empty
returns-then-is_empty g c =
    let past : length c.self.inside.dense.items ≤ c.args.index = omega (arith, c.if-index-len.false, c.len.ensures) in
    dense_only c.args.index c.self.inside.dense.items c.self.inside.others.entries (c.if-is_empty.ensures.0 refl) past
    ∙ ap (lookup (same_index c.args.index)) c.self.view_is

pub returns : goal.returns
returns g c =
    let past : length c.self.inside.dense.items ≤ c.args.index = omega (arith, c.if-index-len.false, c.len.ensures) in
    c.get.ensures.value
    ∙ sym (dense_passed c.args.index c.self.inside.dense.items c.self.inside.others.entries past)
    ∙ ap (lookup (same_index c.args.index)) c.self.view_is
