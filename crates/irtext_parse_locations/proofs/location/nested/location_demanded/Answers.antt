use Rattle.std.proofs.Common.{sym, ◌∙◌}
use Rattle.irtext_tokens.specs.AttrTexts.{attr_at}
use Rattle.irtext_parse_locations.proofs.Places.{place_is}
use Rattle.irtext_parse_locations.proofs.location.nested.location_demanded.Goals as goal

pub returns-then-begins_source : goal.returns-then-begins_source
returns-then-begins_source g c =
    let r = c.place_demanded.ensures in
    record { adds = r.adds; read = place_is (attr_at g.A.IrText.reading) (sym c.begins_source.ensures ∙ c.if-begins_source.true) r.read; paths = r.paths }

pub returns : goal.returns
returns g c = let r = c.nested_demanded.ensures in record { adds = r.adds; read = r.read; paths = r.paths }
