use Rattle.irtext_syntax.proofs.BoxedRead.{not_boxed}
use Rattle.irtext_syntax.proofs.boxed.BoxedPart.read.Goals as goal

pub returns-in-Err-new : goal.returns-in-Err-new
returns-in-Err-new g c = not_boxed c.args.stream.now c.read.new.stream c.out_of_memory.new.stream c.in-Ok.value c.out_of_memory.result g.P.Part.text.reading c.in-Ok.ensures c.out_of_memory.ensures
