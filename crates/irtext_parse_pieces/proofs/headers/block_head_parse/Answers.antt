use Rattle.irtext_tokens.specs.AttrTexts.{attr_at}
use Rattle.irtext_parse_pieces.proofs.HeaderSteps.{no_label, no_opening, no_arguments, no_end, head_read}
use Rattle.irtext_parse_pieces.proofs.Lenses.{lens_of}
use Rattle.irtext_parse_pieces.proofs.Meanings.{names_more}
use Rattle.irtext_parse_pieces.proofs.headers.block_head_parse.Goals as goal

pub returns-in-Err : goal.returns-in-Err
returns-in-Err g c = record {
  read = (no_label (lens_of g.world g.met.S.CharStream) g.T.IrText.reading (attr_at g.A.IrText.reading) c.label_demanded.new.names.names c.in-Err.ensures.read);
  names = c.in-Err.ensures.names;
}

pub returns-in-Err-spaced_text_demanded : goal.returns-in-Err-spaced_text_demanded
returns-in-Err-spaced_text_demanded g c = record {
  read = (no_opening (lens_of g.world g.met.S.CharStream) g.T.IrText.reading (attr_at g.A.IrText.reading) c.label_demanded.new.names.names c.in-Ok.ensures.read c.in-Err-spaced_text_demanded.ensures);
  names = c.in-Ok.ensures.names;
}

pub returns-in-Err-arguments_parse : goal.returns-in-Err-arguments_parse
returns-in-Err-arguments_parse g c = record {
  read = (no_arguments (lens_of g.world g.met.S.CharStream) g.T.IrText.reading (attr_at g.A.IrText.reading) c.label_demanded.new.names.names c.in-Ok.ensures.read c.in_default.ensures c.arguments_parse.new.names.names c.in-Err-arguments_parse.ensures.read);
  names = names_more _ _ _ c.in-Ok.ensures.names c.in-Err-arguments_parse.ensures.names;
}

pub returns-in-Err-head_end_parse : goal.returns-in-Err-head_end_parse
returns-in-Err-head_end_parse g c = record {
  read =
      rw c.failed.ensures (no_end (lens_of g.world g.met.S.CharStream) g.T.IrText.reading (attr_at g.A.IrText.reading) c.label_demanded.new.names.names c.in-Ok.ensures.read c.in_default.ensures c.arguments_parse.new.names.names c.in-Ok-arguments_parse.ensures.read c.in-Err-head_end_parse.ensures);
  names = names_more _ _ _ c.in-Ok.ensures.names c.in-Ok-arguments_parse.ensures.names;
}

pub returns : goal.returns
returns g c = record {
  read =
      head_read (lens_of g.world g.met.S.CharStream) g.T.IrText.reading (attr_at g.A.IrText.reading) c.label_demanded.new.names.names c.in-Ok.ensures.read c.in_default.ensures c.arguments_parse.new.names.names c.in-Ok-arguments_parse.ensures.read c.in-Ok-arguments_parse.ensures.names.kept c.in-Ok-head_end_parse.ensures;
  names = names_more _ _ _ c.in-Ok.ensures.names c.in-Ok-arguments_parse.ensures.names;
}
