use Rattle.std.proofs.lemmas.Str.{IsCharBoundary-from_drop}
use Rattle.irtext_stream.proofs.scan.decode.Goals as goal

pub range_from-requires : goal.range_from-requires
range_from-requires c = λ _. IsCharBoundary-from_drop c.args.text.now c.args.at c.requires.within c.requires.utf8
