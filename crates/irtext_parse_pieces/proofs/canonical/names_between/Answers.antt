use Rattle.irtext_base.specs.Faults.{characters}
use Rattle.irtext_tokens.specs.ListOutcomes.{separated_at}
use Rattle.irtext_tokens.specs.AttrTexts.{attr_at}
use Rattle.irtext_grammar.specs.Heads.{flat}
use Rattle.irtext_parse_pieces.specs.Kinds.{named_at, names_directive, names_tree}
use Rattle.irtext_grammar.specs.Forms.{read_names}
use Rattle.irtext_grammar.specs.Parsed.{Represents, Each}
use Rattle.irtext_parse_pieces.proofs.CanonicalSteps.{unopened, unfilled, ended}
use Rattle.irtext_parse_pieces.proofs.KindSteps.{names_step, names_represent}
use Rattle.irtext_parse_pieces.proofs.Lenses.{lens_of}
use Rattle.irtext_parse_pieces.proofs.Meanings.{names_none}
use Rattle.irtext_parse_pieces.proofs.canonical.names_between.Goals as goal

pub returns-in-Err-clause-read : goal.returns-in-Err-clause-read
returns-in-Err-clause-read g c = λ fine.
    unopened (lens_of g.world g.met.S.CharStream) g.T.IrText.reading (attr_at g.A.IrText.reading) c.args.setting (characters c.args.opening.now) (characters c.args.closing.now) (flat (names_directive c.args.kind)) (separated_at 44 (named_at c.args.kind c.args.setting.inside)) (names_tree c.args.kind)
    (names_step g.T.IrText.reading (attr_at g.A.IrText.reading) c.args.setting c.args.kind) (λ names text. Each (Represents names text)) (read_names c.args.kind) (names_represent g.row.T.Denot g.row.A.Denot c.args.kind) fine c.args.names.now.names c.in-Err.ensures

pub returns-in-Err-names_parse-clause-read : goal.returns-in-Err-names_parse-clause-read
returns-in-Err-names_parse-clause-read g c = λ fine.
    unfilled (lens_of g.world g.met.S.CharStream) g.T.IrText.reading (attr_at g.A.IrText.reading) c.args.setting (characters c.args.opening.now) (characters c.args.closing.now) (flat (names_directive c.args.kind)) (separated_at 44 (named_at c.args.kind c.args.setting.inside)) (names_tree c.args.kind)
    (names_step g.T.IrText.reading (attr_at g.A.IrText.reading) c.args.setting c.args.kind) (λ names text. Each (Represents names text)) (read_names c.args.kind) (names_represent g.row.T.Denot g.row.A.Denot c.args.kind) fine c.in_default.ensures c.skip_white_space.ensures c.names_parse.new.names.names c.in-Err-names_parse.ensures.read

pub returns-clause-read : goal.returns-clause-read
returns-clause-read g c = λ fine.
    ended (lens_of g.world g.met.S.CharStream) g.T.IrText.reading (attr_at g.A.IrText.reading) c.args.setting (characters c.args.opening.now) (characters c.args.closing.now) (flat (names_directive c.args.kind)) (separated_at 44 (named_at c.args.kind c.args.setting.inside)) (names_tree c.args.kind)
    (names_step g.T.IrText.reading (attr_at g.A.IrText.reading) c.args.setting c.args.kind) (λ names text. Each (Represents names text)) (read_names c.args.kind) (names_represent g.row.T.Denot g.row.A.Denot c.args.kind) fine c.in_default.ensures c.skip_white_space.ensures c.names_parse.new.names.names c.in-Ok.ensures.read c.word_parse-answer.result c.closed_by.ensures c.word_parse-answer.ensures

pub returns-in-Err-clause-names : goal.returns-in-Err-clause-names
returns-in-Err-clause-names g c = names_none c.args.names.now

pub returns-in-Err-names_parse-clause-names : goal.returns-in-Err-names_parse-clause-names
returns-in-Err-names_parse-clause-names g c = c.in-Err-names_parse.ensures.names

pub returns-clause-names : goal.returns-clause-names
returns-clause-names g c = c.in-Ok.ensures.names
