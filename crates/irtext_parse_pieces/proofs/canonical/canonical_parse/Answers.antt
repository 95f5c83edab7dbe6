use Rattle.irtext_tokens.specs.AttrTexts.{attr_at}
use Rattle.irtext_parse_pieces.proofs.CanonicalParts.{no_operands, no_successors, no_entries, no_types, form_read}
use Rattle.irtext_parse_pieces.proofs.Lenses.{lens_of}
use Rattle.irtext_parse_pieces.proofs.Meanings.{names_more}
use Rattle.irtext_parse_pieces.proofs.canonical.canonical_parse.Goals as goal

pub returns-in-Err-clause-read : goal.returns-in-Err-clause-read
returns-in-Err-clause-read g c = λ fine.
    no_operands (lens_of g.world g.met.S.CharStream) g.T.IrText.reading (attr_at g.A.IrText.reading) c.args.setting fine c.args.names.now.names c.names_between.new.names.names c.in-Err.ensures.read

pub returns-in-Err-names_between-clause-read : goal.returns-in-Err-names_between-clause-read
returns-in-Err-names_between-clause-read g c = λ fine.
    rw c.failed.ensures
    (no_successors (lens_of g.world g.met.S.CharStream) g.T.IrText.reading (attr_at g.A.IrText.reading) c.args.setting fine c.args.names.now.names c.names_between.new.names.names c.in-Ok.ensures.names.kept c.in-Ok.ensures.read c.names_between-2.new.names.names c.in-Err-names_between.ensures.read)

pub returns-in-Err-entries_parse-clause-read : goal.returns-in-Err-entries_parse-clause-read
returns-in-Err-entries_parse-clause-read g c = λ fine.
    rw c.failed-in-Err-entries_parse.ensures
    (no_entries (lens_of g.world g.met.S.CharStream) g.T.IrText.reading (attr_at g.A.IrText.reading) c.args.setting fine c.args.names.now.names c.names_between.new.names.names c.in-Ok.ensures.names.kept c.in-Ok.ensures.read c.names_between-2.new.names.names c.in-Ok-names_between.ensures.names.kept c.in-Ok-names_between.ensures.read (c.in-Err-entries_parse.ensures c.names_between-2.new.names.names))

pub returns-in-Err-signature_parse-clause-read : goal.returns-in-Err-signature_parse-clause-read
returns-in-Err-signature_parse-clause-read g c = λ fine.
    rw c.failed-in-Err-signature_parse.ensures
    (no_types (lens_of g.world g.met.S.CharStream) g.T.IrText.reading (attr_at g.A.IrText.reading) c.args.setting fine c.args.names.now.names c.names_between.new.names.names c.in-Ok.ensures.names.kept c.in-Ok.ensures.read c.names_between-2.new.names.names c.in-Ok-names_between.ensures.names.kept c.in-Ok-names_between.ensures.read (c.in-Ok-entries_parse.ensures c.names_between-2.new.names.names) (c.in-Err-signature_parse.ensures c.names_between-2.new.names.names))

pub returns-clause-read : goal.returns-clause-read
returns-clause-read g c = λ fine.
    form_read (lens_of g.world g.met.S.CharStream) g.T.IrText.reading (attr_at g.A.IrText.reading) c.args.setting fine c.args.names.now.names c.names_between.new.names.names c.in-Ok.ensures.names.kept c.in-Ok.ensures.read c.names_between-2.new.names.names c.in-Ok-names_between.ensures.names.kept c.in-Ok-names_between.ensures.read (c.in-Ok-entries_parse.ensures c.names_between-2.new.names.names) (c.in-Ok-signature_parse.ensures c.names_between-2.new.names.names)

pub returns-in-Err-names_between-clause-names : goal.returns-in-Err-names_between-clause-names
returns-in-Err-names_between-clause-names g c = names_more _ _ _ c.in-Ok.ensures.names c.in-Err-names_between.ensures.names

pub returns-in-Err-signature_parse-clause-names : goal.returns-in-Err-signature_parse-clause-names
returns-in-Err-signature_parse-clause-names g c = names_more _ _ _ c.in-Ok.ensures.names c.in-Ok-names_between.ensures.names

pub returns-clause-names : goal.returns-clause-names
returns-clause-names g c = names_more _ _ _ c.in-Ok.ensures.names c.in-Ok-names_between.ensures.names

pub returns-in-Err-clause-names : goal.returns-in-Err-clause-names
returns-in-Err-clause-names g c = c.in-Err.ensures.names

pub returns-in-Err-entries_parse-clause-names : goal.returns-in-Err-entries_parse-clause-names
returns-in-Err-entries_parse-clause-names g c = names_more _ _ _ c.in-Ok.ensures.names c.in-Ok-names_between.ensures.names
