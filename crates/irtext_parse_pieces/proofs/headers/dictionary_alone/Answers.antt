use Rattle.irtext_parse_pieces.proofs.headers.dictionary_alone.Goals as goal

pub returns : goal.returns
returns g c = record { mid = c.skip_white_space.new.stream; space = c.skip_white_space.ensures; read = c.dictionary_if_parse-entries.ensures }
