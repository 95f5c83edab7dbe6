use Rattle.std.proofs.Common.{length, sym, ap}
use Rattle.irtext_grammar.specs.Found.{with_words}
use Rattle.irtext_grammar.proofs.found.CustomPieces.none.Goals as goal

pub invariant_of-result : goal.invariant_of-result
invariant_of-result g c = sym (ap (λ l. length (with_words l 0)) c.new.ensures.items)
