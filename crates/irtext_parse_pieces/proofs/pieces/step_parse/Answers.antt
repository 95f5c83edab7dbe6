use Rattle.std.proofs.Common.{sym, subst}
use Rattle.irtext_base.specs.FormatViews.{directive_of}
use Rattle.irtext_tokens.specs.AttrTexts.{attr_at}
use Rattle.irtext_parse_pieces.specs.Pieces.{MustPiece}
use Rattle.irtext_parse_pieces.proofs.FormatSteps.{step_reads}
use Rattle.irtext_parse_pieces.proofs.Meanings.{names_none}
use Rattle.irtext_parse_pieces.proofs.pieces.step_parse.Goals as goal

pub returns-in-Directive : goal.returns-in-Directive
returns-in-Directive g c =
    let e = step_reads g.T.IrText.reading (attr_at g.A.IrText.reading) c.args.setting (directive_of c.in-Directive.directive.now) in
    let h = subst (λ r. MustPiece {T = g.row.T.Denot} {A = g.row.A.Denot} g.S.CharStream.view g.S.CharStream.at c.piece_parse.new.names.names r c.args.stream.now c.piece_parse.result c.piece_parse.new.stream) (sym e) c.piece_parse.ensures.read in
    record { read = rw c.in-Directive.is h; names = c.piece_parse.ensures.names }

pub returns-in-Word : goal.returns-in-Word
returns-in-Word g c = record { read = rw c.in-Word.is (c.word_piece.ensures c.args.names.now.names); names = names_none c.args.names.now }

pub returns-in-Operands : goal.returns-in-Operands
returns-in-Operands g c = record { read = rw c.in-Operands.is c.names_piece.ensures.read; names = c.names_piece.ensures.names }

pub returns-in-Successors : goal.returns-in-Successors
returns-in-Successors g c = record { read = rw c.in-Successors.is c.names_piece-in-Successors.ensures.read; names = c.names_piece-in-Successors.ensures.names }

pub returns-in-Dictionary : goal.returns-in-Dictionary
returns-in-Dictionary g c = record { read = rw c.in-Dictionary.is (c.dictionary_piece.ensures c.args.names.now.names); names = names_none c.args.names.now }

pub returns-in-Types : goal.returns-in-Types
returns-in-Types g c = record { read = rw c.in-Types.is (c.types_piece.ensures c.args.names.now.names); names = names_none c.args.names.now }

pub returns-in-Regions : goal.returns-in-Regions
returns-in-Regions g c = record { read = rw c.in-Regions.is (c.no_piece.ensures c.args.names.now.names); names = names_none c.args.names.now }
