use Rattle.std.proofs.Common.{◌≡◌, refl, sym, ap, codes}
use Rattle.irtext_tokens.specs.AttrTexts.{attr_at}
use Rattle.irtext_tokens.specs.ListOutcomes.{separated_at}
use Rattle.irtext_grammar.specs.Grammar.Tree as tree
use Rattle.irtext_grammar.specs.Heads.{types}
use Rattle.irtext_grammar.specs.declared.parsed.ReadPiece.TheVariants as read
use Rattle.irtext_grammar.specs.Parsed.{Each}
use Rattle.irtext_parse_pieces.proofs.CanonicalSteps.{unopened, unfilled, ended}
use Rattle.irtext_parse_pieces.proofs.PieceSteps.{each_same}
use Rattle.irtext_parse_pieces.proofs.Lenses.{lens_of}
use Rattle.irtext_parse_pieces.proofs.canonical.parenthesized_parse.Goals as goal

pub returns-in-Err : goal.returns-in-Err
returns-in-Err g c = λ names fine.
    unopened (lens_of g.world g.met.S.CharStream) g.T.IrText.reading (attr_at g.A.IrText.reading) c.args.setting (codes "(") (codes ")") types (separated_at 44 g.T.IrText.reading) tree.types (λ u. refl)
    (λ names text. Each ◌≡◌) read.Types (λ names text y x m. ap tree.types (sym (each_same y x m))) fine names c.in-Err.ensures

pub returns-in-Err-types_parse : goal.returns-in-Err-types_parse
returns-in-Err-types_parse g c = λ names fine.
    unfilled (lens_of g.world g.met.S.CharStream) g.T.IrText.reading (attr_at g.A.IrText.reading) c.args.setting (codes "(") (codes ")") types (separated_at 44 g.T.IrText.reading) tree.types (λ u. refl)
    (λ names text. Each ◌≡◌) read.Types (λ names text y x m. ap tree.types (sym (each_same y x m))) fine c.in_default.ensures c.skip_white_space.ensures names c.in-Err-types_parse.ensures

pub returns : goal.returns
returns g c = λ names fine.
    ended (lens_of g.world g.met.S.CharStream) g.T.IrText.reading (attr_at g.A.IrText.reading) c.args.setting (codes "(") (codes ")") types (separated_at 44 g.T.IrText.reading) tree.types (λ u. refl)
    (λ names text. Each ◌≡◌) read.Types (λ names text y x m. ap tree.types (sym (each_same y x m))) fine c.in_default.ensures c.skip_white_space.ensures names c.in-Ok.ensures c.word_parse-answer.result c.closed_by.ensures c.word_parse-answer.ensures
