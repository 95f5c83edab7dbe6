use Rattle.std.proofs.Common.{length}
use Rattle.irtext_tokens.specs.AttrTexts.{attr_at}
use Rattle.irtext_grammar.specs.Readers.NewPaths.{AddsPaths}
use Rattle.irtext_parse_locations.proofs.FrameSteps.{attr_leaves, SoFar}
use Rattle.irtext_parse_locations.proofs.location.nested.nested_demanded.Given as goal

-- the open frames and what was parsed are all that was parsed
abbrev pub invariant-loop-progress : goal.invariant-loop-progress
invariant-loop-progress g l = record {
  adds : AddsPaths l.fn.ctx l.ctx;
  so_far : SoFar (attr_at g.A.IrText.reading) (attr_leaves g.A.IrText.reading g.met.A.IrText.sincere) l.fn.ctx.paths l.fn.stream l.ctx.paths l.frames.items l.progress l.stream;
}

abbrev pub decreases-loop-progress : goal.decreases-loop-progress
decreases-loop-progress g l = length l.stream.rest
