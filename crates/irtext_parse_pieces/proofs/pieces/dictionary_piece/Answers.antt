use Rattle.std.proofs.Common.{refl}
use Rattle.irtext_grammar.specs.Grammar.Tree as tree
use Rattle.irtext_parse_pieces.proofs.PieceSteps.{no_tree, piece_there, piece_refused}
use Rattle.irtext_grammar.specs.declared.parsed.ReadPiece.TheVariants as read
use Rattle.irtext_parse_pieces.proofs.Lenses.{lens_of}
use Rattle.irtext_parse_pieces.proofs.pieces.dictionary_piece.Goals as goal

pub returns-in-Err : goal.returns-in-Err
returns-in-Err g c = λ names. piece_refused (lens_of g.world g.met.S.CharStream) tree.dictionary no_tree c.in-Err.ensures.read

pub returns-in-Ok : goal.returns-in-Ok
returns-in-Ok g c = λ names. piece_there (lens_of g.world g.met.S.CharStream) tree.dictionary (read.Dictionary c.in-Ok.entries) c.in-Ok.ensures (_, refl, c.in-Ok.ensures.means)
