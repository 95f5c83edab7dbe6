use Rattle.std.specs.Prelude.{string_bytes}
use Rattle.irtext_tool.proofs.Telling.{detailed}
use Rattle.irtext_tool.proofs.report.detailed.Goals as goal

pub returns : goal.returns
returns g c = detailed c.format-2.result (string_bytes c.in_ok-detail.detail) c.args.sentence.now (g.D.Display.output c.args.detail.now) c.in_ok-detail.ensures.ok c.format-2.ensures.ok
