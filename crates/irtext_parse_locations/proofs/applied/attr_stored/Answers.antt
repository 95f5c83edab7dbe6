use Rattle.std.proofs.Common.{ap, ◌∙◌}
use Rattle.irtext_grammar.specs.Contexts.Held.{entries_of}
use Rattle.irtext_grammar.proofs.Lists.Stored.{put_stored}
use Rattle.irtext_parse_locations.proofs.applied.attr_stored.Goals as goal

pub returns : goal.returns
returns g c = ap entries_of c.in-Ok.ensures.entries ∙ put_stored c.args.attributes.now c.args.key c.args.attr
