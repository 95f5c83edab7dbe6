use Rattle.std.proofs.Common.{length, sym, subst}
use Rattle.irtext_names.specs.Rows.{AreKnown}
use Rattle.irtext_grammar.specs.Contexts.Held.{whole}
use Rattle.irtext_names.specs.Gathering.{entries_in}
use Rattle.irtext_names.specs.Definitions.{numbers_of}
use Rattle.irtext_parse_nested.proofs.BlockReady.{makes_head}
use Rattle.irtext_parse_nested.proofs.blocks.head_made.Goals as goal

pub block_attributes-requires : goal.block_attributes-requires
block_attributes-requires g c = subst (λ ns. AreKnown (length c.args.names.now.names) (numbers_of ns)) (sym c.in-Ok.ensures.0) c.requires.known

pub returns-in-Err-clause-refused : goal.returns-in-Err-clause-refused
returns-in-Err-clause-refused g c = c.in-Err.ensures.refused

pub returns-in-Ok-block_made-clause-makes : goal.returns-in-Ok-block_made-clause-makes
returns-in-Ok-block_made-clause-makes g c = makes_head c.args.names.now.names c.args.s.now.state.src (whole c.args.s.now.stream) c.args.label c.args.arguments (entries_in c.args.entries) c.args.s.now.state.ctx.now c.block_made.new.ctx c.args.region
    c.in-Ok-block_made.block c.in-Ok-block_attributes.attributes c.in-Ok.types c.in-Ok.arguments c.in-Ok.ensures.1 c.in-Ok.ensures.0 c.in-Ok-block_attributes.ensures.allowed c.in-Ok-block_attributes.ensures.stored c.location_at-loc.result c.in-Ok-block_made.ensures.places c.location_at-loc.ensures
