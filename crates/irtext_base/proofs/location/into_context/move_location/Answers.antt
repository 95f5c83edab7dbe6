use Rattle.irtext_base.proofs.Results.{at_err}
use Rattle.irtext_base.proofs.Moves.{place_is_kept}
use Rattle.irtext_base.proofs.location.into_context.move_location.Goals as goal

pub returns-in_err-src-in-SrcPos-clause-free : goal.returns-in_err-src-in-SrcPos-clause-free
returns-in_err-src-in-SrcPos-clause-free g c =
    at_err c.from_residual.result (place_is_kept c.args.from.now c.args.to.now c.args.location.now c.in-SrcPos.src c.in-SrcPos.pos c.in-SrcPos.is c.requires c.in_err-src-in-SrcPos.ensures.file)
