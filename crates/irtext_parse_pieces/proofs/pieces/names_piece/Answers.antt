use Rattle.std.proofs.Common.{refl}
use Rattle.irtext_grammar.specs.Grammar.Tree as tree
use Rattle.irtext_grammar.specs.declared.parsed.ReadPiece.TheVariants as read
use Rattle.irtext_parse_pieces.specs.Kinds.{names_tree}
use Rattle.irtext_parse_pieces.proofs.PieceSteps.{no_tree, piece_there, piece_refused}
use Rattle.irtext_parse_pieces.proofs.Lenses.{lens_of}
use Rattle.irtext_parse_pieces.proofs.pieces.names_piece.Goals as goal

pub returns-in-Err : goal.returns-in-Err
returns-in-Err g c = record { read = piece_refused (lens_of g.world g.met.S.CharStream) (names_tree c.args.kind) no_tree c.in-Err.ensures.read.read; names = c.in-Err.ensures.names }

pub returns-in-Value : goal.returns-in-Value
returns-in-Value g c =
    let m = rw c.in-Value.is at c.in-Ok.ensures.read in
    record { read = rw c.in-Value.is (piece_there (lens_of g.world g.met.S.CharStream) tree.operands (read.Operands c.in-Ok.found) m (_, refl, m.means)); names = c.in-Ok.ensures.names }

pub returns-in-Block : goal.returns-in-Block
returns-in-Block g c =
    let m = rw c.in-Block.is at c.in-Ok.ensures.read in
    record { read = rw c.in-Block.is (piece_there (lens_of g.world g.met.S.CharStream) tree.successors (read.Successors c.in-Ok.found) m (_, refl, m.means)); names = c.in-Ok.ensures.names }
