use Rattle.std.proofs.Common.{sym, ◌∙◌}
use Rattle.irtext_base.proofs.Compose.{takes_same_stream}
use Rattle.irtext_tokens.proofs.SetBack.{set_back, set_within}
use Rattle.irtext_parse_pieces.proofs.Looks.{dotted_there}
use Rattle.irtext_parse_pieces.proofs.Lenses.{lens_of}
use Rattle.irtext_parse_pieces.proofs.results.begins_id.Goals as goal

pub reset-requires : goal.reset-requires
reset-requires g c =
    let l = lens_of g.world g.met.S.CharStream in
    let old = c.args.stream.now in
    let s = takes_same_stream l.view l.at l.view_at l.at_at old c.skip_identifier.new.stream _ _ c.if-not-skip_identifier.ensures.1 in
    record { passed = (l.view old).passed; rest = (l.view old).rest; same = set_within l old c.skip_identifier.new.stream s; positioned = c.position-place.ensures }

pub returns-clause-no_results : goal.returns-clause-no_results
returns-clause-no_results g c = λ e.
    let word = c.if-not-skip_identifier.ensures in
    dotted_there (lens_of g.world g.met.S.CharStream) c.args.stream.now c.skip_identifier.new.stream word.0 word.1 (sym c.next_is-dotted.ensures ∙ e)

pub returns-clause-still : goal.returns-clause-still
returns-clause-still g c =
    let l = lens_of g.world g.met.S.CharStream in
    let old = c.args.stream.now in
    let s = takes_same_stream l.view l.at l.view_at l.at_at old c.skip_identifier.new.stream _ _ c.if-not-skip_identifier.ensures.1 in
    set_back l old c.skip_identifier.new.stream c.reset.new.self s (c.reset.ensures (l.view old).passed (l.view old).rest (set_within l old c.skip_identifier.new.stream s) c.position-place.ensures)
