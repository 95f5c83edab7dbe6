use Rattle.std.proofs.Common.{arith, refl}
use Rattle.irtext_print.proofs.Printers.Appended.{front-ascii}
use Rattle.irtext_print.proofs.printable.fmt_colon_newline.Goals as goal

pub fmt_line-requires : goal.fmt_line-requires
fmt_line-requires c = record { line = refl; ascii = front-ascii 58 256 (omega arith) }
