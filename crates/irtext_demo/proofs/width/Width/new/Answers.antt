use Rattle.std.proofs.Common.{sym}
use Rattle.irtext_demo.specs.WidthLaws.{width_found}
use Rattle.irtext_demo.proofs.width.Width.new.Goals as goal

-- src/width.rt:16:5
pub returns : goal.returns
returns c = sym (width_found _)
