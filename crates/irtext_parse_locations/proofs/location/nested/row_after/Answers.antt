use Rattle.std.proofs.Common.{ap, refl, sym, ◌∙◌, map}
use Rattle.irtext_base.specs.Answers.{mapped}
use Rattle.irtext_base.specs.Locations.{attr_view_in, location_view, in_row}
use Rattle.irtext_grammar.specs.Readers.Positions.{space_at}
use Rattle.irtext_tokens.proofs.Exits.{propagated}
use Rattle.irtext_grammar.proofs.Readers.PlainStream.{alone}
use Rattle.irtext_grammar.proofs.Readers.Steps.{starts, more, last, refuses, last_spaced, ran_out}
use Rattle.irtext_parse_locations.specs.Frames.{inside, for_row, progress_view, with_one, row_after_at}
use Rattle.irtext_parse_locations.proofs.FrameSteps.{row_grew, row_goes_on, row_ends}
use Rattle.irtext_parse_locations.proofs.location.nested.row_after.Goals as goal

pub returns-in_err-push_location : goal.returns-in_err-push_location
returns-in_err-push_location g c =
    let m = attr_view_in c.args.metadata.value in
    let row = with_one (in_row (map location_view c.args.locations.items)) (location_view c.args.location) in
    rw (propagated c.from_residual.result c.from_residual.ensures.1) (ran_out alone (starts alone (row_after_at m row) (row_after_at m row) c.args.stream.now c.requires.fine refl) c.in_err-push_location.ensures)

pub returns-in_err-text_demanded : goal.returns-in_err-text_demanded
returns-in_err-text_demanded g c =
    let m = attr_view_in c.args.metadata.value in
    let row = with_one (in_row (map location_view c.args.locations.items)) (location_view c.args.location) in
    rw (propagated c.from_residual-in_err-text_demanded.result c.from_residual-in_err-text_demanded.ensures.1) (refuses alone (λ _ u. mapped (λ _. inside (for_row m row)) (space_at u)) (row_goes_on m row c.requires.fine c.in_ok-push_location.ensures.1 (sym c.next_is.ensures ∙ c.if-next_is.true)) c.in_err-text_demanded.ensures)

pub returns-then-next_is : goal.returns-then-next_is
returns-then-next_is g c =
    let m = attr_view_in c.args.metadata.value in
    let row = with_one (in_row (map location_view c.args.locations.items)) (location_view c.args.location) in
    let q = more alone (λ _ u. mapped (λ _. inside (for_row m row)) (space_at u)) (row_goes_on m row c.requires.fine c.in_ok-push_location.ensures.1 (sym c.next_is.ensures ∙ c.if-next_is.true)) c.in_ok-text_demanded.ensures in
    let same = ap progress_view c.row_opened.ensures ∙ ap (λ r. inside (for_row m r)) (row_grew c.args.locations.items c.push_location.new.found.items c.args.location c.in_ok-push_location.ensures.0) in
    last_spaced alone progress_view (λ _. inside (for_row m row)) c.row_opened.result same q c.skip_white_space.ensures

pub returns : goal.returns
returns g c =
    let m = attr_view_in c.args.metadata.value in
    let row = with_one (in_row (map location_view c.args.locations.items)) (location_view c.args.location) in
    let grew = row_grew c.args.locations.items c.push_location.new.found.items c.args.location c.in_ok-push_location.ensures.0 in
    last alone (row_ends m row c.requires.fine c.in_ok-push_location.ensures.1 (sym c.next_is.ensures ∙ c.if-next_is.false)) (rw grew at c.row_ended.ensures)
