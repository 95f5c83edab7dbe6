use Rattle.std.proofs.Common.{refl}
use Rattle.irtext_base.specs.Faults.{characters}
use Rattle.irtext_grammar.specs.Grammar.Tree as tree
use Rattle.irtext_grammar.specs.declared.parsed.ReadPiece.TheVariants as read
use Rattle.irtext_parse_pieces.proofs.PieceSteps.{no_tree, piece_closed}
use Rattle.irtext_parse_pieces.proofs.Lenses.{lens_of}
use Rattle.irtext_parse_pieces.proofs.pieces.word_piece.Goals as goal

pub returns : goal.returns
returns g c = λ names. piece_closed (lens_of g.world g.met.S.CharStream) (λ _. tree.word (characters c.args.text.now)) no_tree read.Word c.text_demanded-answer.result c.closed_by.ensures c.text_demanded-answer.ensures (λ u. (_, refl))
