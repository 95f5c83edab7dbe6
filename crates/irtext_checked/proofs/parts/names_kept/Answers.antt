use Rattle.irtext_grammar.specs.Spelling.Spellable.{Each, IsGiven}
use Rattle.irtext_grammar.proofs.KeptParts.{next_kept}
use Rattle.irtext_checked.proofs.parts.names_kept.Goals as goal

pub loop-name-preserved : goal.loop-name-preserved
loop-name-preserved c = next_kept IsGiven (Each IsGiven) (λ x xs h q. (h, q)) _ c.loop-name.name-index c.name-item.result c.loop-name-test.true c.name-item.is c.given_kept.ensures c.loop-name.invariant
