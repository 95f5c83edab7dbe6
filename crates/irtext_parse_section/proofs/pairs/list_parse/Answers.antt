use Rattle.std.proofs.Common.{[], refl}
use Rattle.irtext_tokens.proofs.Steps.{alone}
use Rattle.irtext_tokens.specs.AttrTexts.{attr_at}
use Rattle.irtext_parse_pieces.proofs.Meanings.{must_refuse}
use Rattle.irtext_parse_pieces.proofs.Listings.{list_bad, list_none}
use Rattle.irtext_parse_locations.specs.Rules.{rule_for}
use Rattle.irtext_parse_section.proofs.PairSteps.{kept_at, list_pairs}
use Rattle.irtext_parse_section.proofs.pairs.list_parse.Goals as goal

pub returns-in-Ok : goal.returns-in-Ok
returns-in-Ok g c = list_pairs (kept_at (attr_at g.A.IrText.reading) (rule_for c.args.of_block)) c.in-Ok.ensures c.skip_white_space.ensures c.more_pairs.ensures

pub returns-then-fault : goal.returns-then-fault
returns-then-fault g c = must_refuse alone (list_bad alone (kept_at (attr_at g.A.IrText.reading) (rule_for c.args.of_block)) (λ _. []) c.if-fault.true c.in-Err.ensures.read)

pub returns-else-fault : goal.returns-else-fault
returns-else-fault g c = record {
  meant = λ _. [];
  means = rw c.new.ensures.items tt;
  read = list_none alone (kept_at (attr_at g.A.IrText.reading) (rule_for c.args.of_block)) (λ _. []) c.new.result refl c.if-fault.false c.in-Err.ensures.read;
}
