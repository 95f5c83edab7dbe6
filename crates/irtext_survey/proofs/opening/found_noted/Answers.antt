use Rattle.std.proofs.Common.{take, map, sym, subst, arith}
use Rattle.irtext_survey.specs.Walk.{Notes, all_read, read_uses}
use Rattle.irtext_survey.proofs.Mentions.{notes_none, notes_then, pieces_more, piece_one, take_over}
use Rattle.irtext_survey.proofs.opening.found_noted.Goals as goal

pub loop-index-init : goal.loop-index-init
loop-index-init g c = notes_none c.args.names.now.names c.args.name.now c.args.book.now

pub piece_noted-requires : goal.piece_noted-requires
piece_noted-requires g c = piece_one c.args.names.now.names c.args.pieces.now c.loop-index.index c.piece_at.result.now c.piece_at.ensures c.requires

pub loop-index-preserved : goal.loop-index-preserved
loop-index-preserved g c =
    subst (λ rs. Notes c.args.names.now.names c.args.name.now rs c.args.book.now c.piece_noted.new.book) (sym (pieces_more c.args.pieces.now c.loop-index.index c.piece_at.result.now c.piece_at.ensures))
    (notes_then c.args.names.now.names c.args.name.now (all_read (map (λ f. f.1) (take c.loop-index.index c.args.pieces.now))) (read_uses c.piece_at.result.now) c.args.book.now c.loop-index.book c.piece_noted.new.book c.loop-index.invariant c.in_default.ensures)

pub returns : goal.returns
returns g c = subst (λ rs. Notes c.args.names.now.names c.args.name.now (all_read (map (λ f. f.1) rs)) c.args.book.now c.loop-index.book) (take_over c.args.pieces.now c.loop-index.index (omega (arith, c.loop-index-test.false, c.loop-index.auto.index-end))) c.loop-index.invariant
