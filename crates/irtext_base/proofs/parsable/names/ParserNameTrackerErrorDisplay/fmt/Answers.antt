use Rattle.std.proofs.Common.{ap, sym}
use Rattle.std.proofs.Output.{has_written_of_eq}
use Rattle.irtext_base.specs.Causes.{name_tracker_text}
use Rattle.irtext_base.proofs.parsable.names.ParserNameTrackerErrorDisplay.fmt.Goals as goal

pub returns-in-MultipleDefinitions-clause-writes :
    goal.returns-in-MultipleDefinitions-clause-writes
returns-in-MultipleDefinitions-clause-writes g c = λ plain ok.
    has_written_of_eq _ _ _ _ _ (ap name_tracker_text (sym c.in-MultipleDefinitions.is)) (c.write.ensures.writes plain ok)
