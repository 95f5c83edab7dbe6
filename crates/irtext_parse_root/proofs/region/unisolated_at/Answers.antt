use Rattle.std.proofs.Common.{◌∙◌, sym}
use Rattle.irtext_parse_root.proofs.RegionRefused.{none_reported, one_reported}
use Rattle.irtext_parse_root.proofs.region.unisolated_at.Goals as goal

pub returns-then-isolated_by : goal.returns-then-isolated_by
returns-then-isolated_by g c = none_reported c.args.ctx.now c.args.op c.get_opid.result.now c.get_opid.ensures (sym c.isolated_by.ensures ∙ c.if-isolated_by.true)

pub returns : goal.returns
returns g c = one_reported c.args.ctx.now c.args.op c.get_opid.result.now c.get_opid.ensures (sym c.isolated_by.ensures ∙ c.if-isolated_by.false) c.loc.result.now c.loc.ensures c.position_of.result c.position_of.ensures
