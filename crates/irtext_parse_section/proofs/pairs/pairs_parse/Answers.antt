use Rattle.std.proofs.Common.{sym, ◌∙◌}
use Rattle.irtext_tokens.specs.AttrTexts.{attr_at}
use Rattle.irtext_parse_locations.specs.Rules.{rule_for}
use Rattle.irtext_parse_section.proofs.PlainEntries.{no_pairs_come}
use Rattle.irtext_parse_section.proofs.pairs.pairs_parse.Goals as goal

pub returns-then-accept : goal.returns-then-accept
returns-then-accept g c =
    no_pairs_come (attr_at g.A.IrText.reading) (rule_for c.args.of_block) c.args.stream.now c.accept.new.self (sym c.has_failed.ensures ∙ c.if-has_failed.false) c.new.result c.new.ensures.items c.if-accept.ensures
