use Rattle.irtext_parse_nested.proofs.blocks.head_parse.Goals as goal

pub returns : goal.returns
returns g c = record { read = c.block_head_parse-answer.ensures.read; names = c.block_head_parse-answer.ensures.names; distinct = c.keeps_names.ensures }
