use Rattle.irtext_parse_pieces.proofs.FrontSteps.{piece_found, piece_missed, found_ran_out}
use Rattle.irtext_parse_pieces.proofs.Lenses.{lens_of}
use Rattle.irtext_parse_pieces.proofs.fronts.piece_kept.Goals as goal

pub returns-in-Err : goal.returns-in-Err
returns-in-Err g c = λ names outcome old h. let m = rw c.in-Err.is at h in piece_missed (lens_of g.world g.met.S.CharStream) c.args.found.now _ m

pub returns-in-Ok-push : goal.returns-in-Ok-push
returns-in-Ok-push g c = λ names outcome old h. let m = rw c.in-Ok.is at h in piece_found (lens_of g.world g.met.S.CharStream) c.args.found.now _ c.in-Ok.piece c.in-Ok-push.ensures m

pub returns-in-Err-push : goal.returns-in-Err-push
returns-in-Err-push g c = λ names outcome old h. let m = rw c.in-Ok.is at h in found_ran_out (lens_of g.world g.met.S.CharStream) c.args.found.now _ m c.out_of_memory.ensures
