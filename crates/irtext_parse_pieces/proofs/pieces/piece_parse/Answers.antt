use Rattle.std.proofs.Common.{◌∙◌, ap, subst}
use Rattle.std.proofs.lemmas.Str.{chars_from_encodes}
use Rattle.std.specs.Str.{chars}
use Rattle.irtext_base.specs.Faults.{characters}
use Rattle.irtext_tokens.specs.Infix.{◌⇒◌}
use Rattle.irtext_tokens.specs.Tokens.{text_at}
use Rattle.irtext_tokens.proofs.Characters.{encodes-characters}
use Rattle.irtext_grammar.specs.Grammar.Tree as tree
use Rattle.irtext_parse_pieces.specs.Pieces.{MustPiece}
use Rattle.irtext_parse_pieces.proofs.Meanings.{names_none}
use Rattle.irtext_parse_pieces.proofs.pieces.piece_parse.Goals as goal

pub returns-in-Literal : goal.returns-in-Literal
returns-in-Literal g c =
    let bytes = c.as_str.result.now in
    let names = c.args.names.now.names in
    let e = chars_from_encodes (characters bytes) bytes c.as_str.utf8 (encodes-characters bytes c.as_str.utf8) ∙ ap chars c.as_str.ensures.value in
    let h = subst (λ w. MustPiece {T = g.row.T.Denot} {A = g.row.A.Denot} g.S.CharStream.view g.S.CharStream.at names (text_at w ⇒ λ _. tree.word w) c.args.stream.now c.word_piece.result c.word_piece.new.stream) e (c.word_piece.ensures names) in
    record { read = rw c.in-Literal.is h; names = names_none c.args.names.now }

pub returns-in-Operand : goal.returns-in-Operand
returns-in-Operand g c = record { read = rw c.in-Operand.is c.name_piece.ensures.read; names = c.name_piece.ensures.names }

pub returns-in-Operands : goal.returns-in-Operands
returns-in-Operands g c = record { read = rw c.in-Operands.is c.names_piece.ensures.read; names = c.names_piece.ensures.names }

pub returns-in-Successor : goal.returns-in-Successor
returns-in-Successor g c = record { read = rw c.in-Successor.is c.name_piece-in-Successor.ensures.read; names = c.name_piece-in-Successor.ensures.names }

pub returns-in-Successors : goal.returns-in-Successors
returns-in-Successors g c = record { read = rw c.in-Successors.is c.names_piece-in-Successors.ensures.read; names = c.names_piece-in-Successors.ensures.names }

pub returns-in-Attr : goal.returns-in-Attr
returns-in-Attr g c = record { read = rw c.in-Attr.is (c.attr_piece.ensures c.args.names.now.names); names = names_none c.args.names.now }

pub returns-in-AttrDict : goal.returns-in-AttrDict
returns-in-AttrDict g c = record { read = rw c.in-AttrDict.is (c.dictionary_piece.ensures c.args.names.now.names); names = names_none c.args.names.now }

pub returns-in-ResultType : goal.returns-in-ResultType
returns-in-ResultType g c = record { read = rw c.in-ResultType.is (c.type_piece.ensures c.args.names.now.names); names = names_none c.args.names.now }

pub returns-in-SymbolHeader : goal.returns-in-SymbolHeader
returns-in-SymbolHeader g c = record { read = rw c.in-SymbolHeader.is (c.header_piece.ensures c.args.names.now.names); names = names_none c.args.names.now }

pub returns-in-Region : goal.returns-in-Region
returns-in-Region g c = record { read = rw c.in-Region.is (c.no_piece.ensures c.args.names.now.names); names = names_none c.args.names.now }

pub returns-in-Regions : goal.returns-in-Regions
returns-in-Regions g c = record { read = rw c.in-Regions.is (c.no_piece-in-Regions.ensures c.args.names.now.names); names = names_none c.args.names.now }
