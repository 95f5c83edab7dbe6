use Rattle.std.proofs.Common.{string_bytes}
use Rattle.irtext_base.specs.Faults.{characters}
use Rattle.irtext_tree.proofs.Written.{spaced_bytes}
use Rattle.irtext_tree.proofs.marks.write_spaced_row.Goals as goal

pub returns-clause-text : goal.returns-clause-text
returns-clause-text g c = spaced_bytes (string_bytes c.args.f.now) (string_bytes c.write_row.new.f) (string_bytes c.write_word.new.f) (characters c.args.word.now) (g.P.Part.text.written c.args.part.now) c.in_ok-write_row.ensures.text c.in_ok-write_word.ensures.text
