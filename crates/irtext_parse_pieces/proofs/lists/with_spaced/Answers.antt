use Rattle.std.proofs.Common.{refl}
use Rattle.irtext_parse_pieces.proofs.lists.with_spaced.Goals as goal

pub returns-in-Ok : goal.returns-in-Ok
returns-in-Ok g c = record { mid = c.skip_white_space.new.stream; spaced = c.skip_white_space.ensures; appended = (c.in-Ok.ensures, refl) }

pub returns-in-Err : goal.returns-in-Err
returns-in-Err g c = record { mid = c.skip_white_space.new.stream; spaced = c.skip_white_space.ensures; appended = c.out_of_memory.ensures }
