use Rattle.std.proofs.Common.{◌∙◌}
use Rattle.irtext_base.specs.FormatViews.{directives_of}
use Rattle.irtext_format_check.proofs.Formats as formats
use Rattle.irtext_format_check.proofs.format.rules.regions_last.Goals as goal

pub returns : goal.returns
returns c = c.all_keep.ensures ∙ formats.regions_last (directives_of c.args.directives.now)
