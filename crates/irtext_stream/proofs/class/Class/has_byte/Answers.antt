use Rattle.irtext_stream.proofs.Tables.{table_answers}
use Rattle.irtext_stream.proofs.class.Class.has_byte.Goals as goal

pub returns : goal.returns
returns c = rw (c.classes_of.ensures, c.bit.ensures) (table_answers c.args.self c.args.b c.ranges.b.fits)
