use Rattle.std.specs.Char.{is_ascii_digit}
use Rattle.irtext_base.specs.Text.{front, after}
use Rattle.irtext_syntax.proofs.Restored.{earlier, restored}
use Rattle.irtext_demo.proofs.integer_type.width_there.Goals as goal

pub reset-requires : goal.reset-requires
reset-requires c =
    let old = c.args.stream.now in
    earlier c.position-place.result (front is_ascii_digit old.rest) (after is_ascii_digit old.rest) old c.take_digits-number.new.stream c.take_digits-number.ensures.takes c.position-place.ensures

pub returns : goal.returns
returns c =
    let old = c.args.stream.now in
    restored c.position-place.result (front is_ascii_digit old.rest) (after is_ascii_digit old.rest) old c.take_digits-number.new.stream c.take_digits-number.ensures.takes c.position-place.ensures c.reset.new.self c.reset.ensures
