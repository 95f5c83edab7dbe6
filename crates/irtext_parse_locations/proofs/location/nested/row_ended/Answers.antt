use Rattle.std.proofs.Common.{map}
use Rattle.irtext_base.specs.Locations.{attr_view_in, fused, in_row, location_view}
use Rattle.irtext_tokens.proofs.Exits.{propagated}
use Rattle.irtext_parse_locations.specs.Frames.{whole}
use Rattle.irtext_parse_locations.proofs.FrameSteps.{made_whole}
use Rattle.irtext_grammar.proofs.Readers.PartSteps.{part_read, part_refused, part_ran_out}
use Rattle.irtext_parse_locations.proofs.location.nested.row_ended.Goals as goal

pub returns-in_err-text_demanded : goal.returns-in_err-text_demanded
returns-in_err-text_demanded g c =
    let l = fused (attr_view_in c.args.metadata.value) (in_row (map location_view c.args.locations.items)) in
    rw (propagated c.from_residual.result c.from_residual.ensures.1) (part_refused (λ _. whole l) c.in_err-text_demanded.ensures)

pub returns-in_err-location : goal.returns-in_err-location
returns-in_err-location g c =
    let l = fused (attr_view_in c.args.metadata.value) (in_row (map location_view c.args.locations.items)) in
    rw (propagated c.from_residual-in_err-location.result c.from_residual-in_err-location.ensures.1) (part_ran_out (λ _. whole l) c.in_ok-text_demanded.ensures c.in_err-location.ensures)

pub returns : goal.returns
returns g c =
    let l = fused (attr_view_in c.args.metadata.value) (in_row (map location_view c.args.locations.items)) in
    made_whole (part_read (λ _. whole l) c.in_ok-text_demanded.ensures) c.in_ok-location.ensures
