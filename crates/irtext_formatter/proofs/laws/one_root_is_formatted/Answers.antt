use Rattle.irtext_formatter.specs.Rows.{Rows.{none}, Formats.{roots}}
use Rattle.irtext_formatter.proofs.laws.one_root_is_formatted.Goals as goal

pub returns : goal.returns
returns g c layout text root next ctx shown some gives last = roots none some gives last
