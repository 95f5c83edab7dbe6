use Rattle.std.proofs.Common.{◌∙◌, sym, ap}
use Rattle.std.specs.Char.{is_ascii_digit}
use Rattle.irtext_stream.specs.NotationPieces.{means, index_at}
use Rattle.irtext_stream.proofs.NotationSteps.{index_ok, index_err, passed_front, since_is, unmet_back}
use Rattle.irtext_stream.proofs.notation.pieces.index.Goals as goal

pub returns-in-Ok : goal.returns-in-Ok
returns-in-Ok c =
    let old = c.args.stream.now in
    let mid = c.skip.new.self in
    let s = since_is is_ascii_digit old mid c.position-place.result c.text_since.result.now c.skip.ensures c.position-place.ensures c.text_since.ensures in
    let p = passed_front is_ascii_digit old mid c.skip.ensures in
    (index_ok (Unit {0}) c.args.expected old c.text_since.result.now c.in-Ok.index s c.in-Ok.ensures.value.0 ∙ ap (means c.in-Ok.index) (sym p.0), p.1)

pub returns-in-Err : goal.returns-in-Err
returns-in-Err c =
    let old = c.args.stream.now in
    let mid = c.skip.new.self in
    let p = passed_front is_ascii_digit old mid c.skip.ensures in
    let s = since_is is_ascii_digit old mid c.position-place.result c.text_since.result.now c.skip.ensures c.position-place.ensures c.text_since.ensures in
    let q = index_err c.args.expected old c.text_since.result.now c.in-Err.field-0 s c.in-Err.ensures.value.0 in
    unmet_back old mid c.position-place.result c.args.expected (index_at c.args.expected old.rest) c.lack_at.result q p.1 c.position-place.ensures c.lack_at.ensures
