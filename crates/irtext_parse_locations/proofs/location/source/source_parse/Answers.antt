use Rattle.std.proofs.Common.{sym, ◌∙◌}
use Rattle.irtext_grammar.proofs.Locations.Begins.{source_begins, may_of_must}
use Rattle.irtext_parse_locations.proofs.location.source.source_parse.Goals as goal

pub returns-clause-read : goal.returns-clause-read
returns-clause-read g c =
    let h = c.source_demanded.ensures.read in
    record { known = h.known; read = may_of_must (source_begins c.args.stream.now.rest (sym c.begins_source.ensures ∙ c.if-not-begins_source.false)) h.read }
