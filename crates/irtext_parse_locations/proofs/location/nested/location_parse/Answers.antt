use Rattle.std.proofs.Common.{sym, ◌∙◌, arith, length}
use Rattle.irtext_tokens.specs.AttrTexts.{attr_at}
use Rattle.irtext_grammar.specs.Readers.Locations.{location_at}
use Rattle.irtext_grammar.proofs.Locations.Begins.{one_begins, may_of_must}
use Rattle.irtext_parse_locations.proofs.location.nested.location_parse.Goals as goal

pub returns-clause-read : goal.returns-clause-read
returns-clause-read g c =
    let text = c.args.stream.now.rest in
    let attr = attr_at g.A.IrText.reading in
    let h = c.location_demanded.ensures.read.within (length text) (omega arith) in
    record { known = h.known; read = may_of_must {f = location_at attr} (one_begins attr (length text) text (omega arith) (sym c.begins_location.ensures ∙ c.if-not-begins_location.false)) (record { answers = h.read.answers }) }
