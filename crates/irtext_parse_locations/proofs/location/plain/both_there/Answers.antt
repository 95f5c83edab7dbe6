use Rattle.std.proofs.lemmas.Int.{to_z-of_z}
use Rattle.std.specs.Int.{w32}
use Rattle.irtext_parse_locations.proofs.Plain.{position_taken, line_after, column_after}
use Rattle.irtext_parse_locations.proofs.location.plain.both_there.Goals as goal

pub returns : goal.returns
returns c =
    let line = c.in_ok-line.line in
    let column = c.in_ok-column.column in
    let mid = c.number_after_text.new.stream in
    let new = c.number_after_text-2.new.stream in
    rw (to_z-of_z w32 line c.in_ok-line.ensures.fits, to_z-of_z w32 column c.in_ok-column.ensures.fits) (position_taken c.args.stream.now mid new line column (line_after c.args.stream.now mid line c.in_ok-line.ensures) (column_after mid new column c.in_ok-column.ensures))
