use Rattle.irtext_grammar.specs.Readers.Positions.{position_at}
use Rattle.irtext_tokens.proofs.Steps.{alone, first, last}
use Rattle.irtext_parse_locations.proofs.location.read.position_read.Goals as goal

pub returns : goal.returns
returns g c = last alone (first alone (λ _ t. position_at t) c.in_ok-spaced_text_demanded.ensures) c.position_demanded.ensures
