use Rattle.std.proofs.Common.{Ok, Err, refl}
use Rattle.irtext_grammar.specs.Grammar.Tree as tree
use Rattle.irtext_grammar.specs.declared.parsed.ReadPiece.TheVariants as read
use Rattle.irtext_parse_pieces.specs.Kinds.{name_tree}
use Rattle.irtext_parse_pieces.proofs.Meanings.{insisted_mean}
use Rattle.irtext_parse_pieces.proofs.PieceSteps.{no_tree, piece_there, piece_refused}
use Rattle.irtext_parse_pieces.proofs.Lenses.{lens_of}
use Rattle.irtext_parse_pieces.proofs.pieces.name_piece.Goals as goal

pub returns-in-Err : goal.returns-in-Err
returns-in-Err g c =
    let l = lens_of g.world g.met.S.CharStream in
    let m = insisted_mean l c.named_parse-answer.result (Err _) c.named_parse-answer.ensures.read c.in-Err.ensures in
    record { read = piece_refused l (name_tree c.args.kind c.args.index) no_tree m.read; names = c.named_parse-answer.ensures.names }

pub returns-in-Value : goal.returns-in-Value
returns-in-Value g c =
    let l = lens_of g.world g.met.S.CharStream in
    let m = rw c.in-Value.is at (insisted_mean l c.named_parse-answer.result (Ok c.in-Ok.name) c.named_parse-answer.ensures.read c.in-Ok.ensures) in
    record { read = rw c.in-Value.is (piece_there l (tree.operand c.args.index) (read.Operand c.args.index c.in-Ok.name) m (_, refl, m.means)); names = c.named_parse-answer.ensures.names }

pub returns-in-Block : goal.returns-in-Block
returns-in-Block g c =
    let l = lens_of g.world g.met.S.CharStream in
    let m = rw c.in-Block.is at (insisted_mean l c.named_parse-answer.result (Ok c.in-Ok.name) c.named_parse-answer.ensures.read c.in-Ok.ensures) in
    record { read = rw c.in-Block.is (piece_there l (tree.successor c.args.index) (read.Successor c.args.index c.in-Ok.name) m (_, refl, m.means)); names = c.named_parse-answer.ensures.names }
