use Rattle.std.proofs.Common.{refl}
use Rattle.irtext_tokens.specs.Integers.{bool_at}
use Rattle.irtext_syntax.proofs.Seen.{gives_seen}
use Rattle.irtext_parts.specs.Truths.{truth_of}
use Rattle.irtext_parts.proofs.truth.TruthPart.read.Goals as goal

pub returns-in-Ok : goal.returns-in-Ok
returns-in-Ok g c = record { answers = gives_seen truth_of c.args.stream.now.failed (bool_at c.args.stream.now.rest) c.args.stream.now c.bool_parse.new.stream c.in-Ok.value (truth_of c.in-Ok.value) refl c.in-Ok.ensures.answers }
