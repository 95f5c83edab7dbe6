use Rattle.std.proofs.Common.{sym, ◌∙◌, subst, arith, [], ◌∷◌, ◌++◌}
use Rattle.irtext_base.specs.Answers.{Outcome}
use Rattle.irtext_base.specs.Locations.{AttrView, location_view}
use Rattle.irtext_base.specs.Text.{Text}
use Rattle.irtext_tokens.specs.AttrTexts.{attr_at}
use Rattle.irtext_tokens.proofs.Exits.{propagated}
use Rattle.irtext_grammar.proofs.Readers.Answered.{no_longer}
use Rattle.irtext_grammar.specs.Readers.RestLengths.{LeavesNoMore}
use Rattle.irtext_grammar.proofs.Readers.NewPaths.{adds_more}
use Rattle.irtext_parse_locations.specs.Frames.{frame_view}
use Rattle.irtext_parse_locations.proofs.FrameSteps.{attr_leaves, SoFar, begun, not_begun, runs_out_so_far, fine_so_far, opened, not_opened, came_after, nothing_after, all_read, all_kept_there, at_every, refused_every, opened_shorter, after_less, place_opens, place_refused}
use Rattle.irtext_parse_locations.proofs.location.nested.nested_demanded.Given as given
use Rattle.irtext_parse_locations.proofs.location.nested.nested_demanded.Goals as goal

-- the parser of a caller's attributes
abbrev attr : (g : given.Over) → Text → Outcome (AttrView g.row.A.Denot)
attr g = attr_at g.A.IrText.reading

-- it leaves no more than it was given
abbrev no_more : (g : given.Over) → LeavesNoMore (attr g)
no_more g = attr_leaves g.A.IrText.reading g.met.A.IrText.sincere

pub returns-in_err-place-in-Inside-clause-adds : goal.returns-in_err-place-in-Inside-clause-adds
returns-in_err-place-in-Inside-clause-adds g c = adds_more c.loop-progress.invariant.adds c.in_err-place-in-Inside.ensures.adds

pub returns-in_err-progress-in-Inside-clause-adds : goal.returns-in_err-progress-in-Inside-clause-adds
returns-in_err-progress-in-Inside-clause-adds g c = adds_more c.loop-progress.invariant.adds c.in_ok-place-in-Inside.ensures.adds

pub returns-in_err-progress-in-Inside-2-clause-adds : goal.returns-in_err-progress-in-Inside-2-clause-adds
returns-in_err-progress-in-Inside-2-clause-adds g c = adds_more c.loop-progress.invariant.adds c.in_err-progress-in-Inside-2.ensures.adds

pub returns-in_err-progress-clause-read : goal.returns-in_err-progress-clause-read
returns-in_err-progress-clause-read g c =
    rw (propagated c.from_residual.result c.from_residual.ensures.1) (refused_every (attr g) (no_more g) c.location_opened.new.ctx.paths (not_begun (attr g) (no_more g) c.in_err-progress.ensures.read))

pub loop-progress-init : goal.loop-progress-init
loop-progress-init g c =
    record {
      adds = c.in_ok-progress.ensures.adds;
      so_far = subst (λ fs. SoFar (attr g) (no_more g) c.args.ctx.now.paths c.args.stream.now c.location_opened.new.ctx.paths fs c.in_ok-progress.progress c.location_opened.new.stream) (sym c.new-frames.ensures.items) (begun (attr g) (no_more g) c.in_ok-progress.ensures.read c.in_ok-progress.ensures.paths);
    }

pub returns-in_default-clause-read : goal.returns-in_default-clause-read
returns-in_default-clause-read g c =
    at_every (attr g) (no_more g) c.loop-progress.ctx.paths (all_read (attr g) (no_more g) c.loop-progress.frames.items (omega (arith, c.in_default.ensures.cases.0, c.loop-progress.frames.ok.0)) (rw c.in-Whole.is at c.loop-progress.invariant.so_far))

pub returns-in_default-clause-paths : goal.returns-in_default-clause-paths
returns-in_default-clause-paths g c =
    all_kept_there (attr g) (no_more g) c.loop-progress.frames.items (omega (arith, c.in_default.ensures.cases.0, c.loop-progress.frames.ok.0)) (rw c.in-Whole.is at c.loop-progress.invariant.so_far)

pub returns-in_err-progress-in-Whole-clause-read : goal.returns-in_err-progress-in-Whole-clause-read
returns-in_err-progress-in-Whole-clause-read g c =
    let paths = c.loop-progress.ctx.paths in
    let s = rw (c.in-Whole.is, c.in-Some.ensures.items) at c.loop-progress.invariant.so_far in
    rw (propagated c.from_residual-in_err-progress-in-Whole.result c.from_residual-in_err-progress-in-Whole.ensures.1) (refused_every (attr g) (no_more g) paths (nothing_after (attr g) (no_more g) c.pop.new.self.items c.in-Some.frame s paths c.in_err-progress-in-Whole.ensures))

pub loop-progress-smaller-in-Whole : goal.loop-progress-smaller-in-Whole
loop-progress-smaller-in-Whole g c = after_less (frame_view c.in-Some.frame) (location_view c.in-Whole.location) c.in_ok-progress-in-Whole.ensures

pub loop-progress-preserved-in-Whole : goal.loop-progress-preserved-in-Whole
loop-progress-preserved-in-Whole g c =
    let s = rw (c.in-Whole.is, c.in-Some.ensures.items) at c.loop-progress.invariant.so_far in
    record { adds = c.loop-progress.invariant.adds; so_far = came_after (attr g) (no_more g) c.pop.new.self.items c.in-Some.frame s c.in_ok-progress-in-Whole.ensures }

pub returns-in_err-place-in-Inside-clause-read : goal.returns-in_err-place-in-Inside-clause-read
returns-in_err-place-in-Inside-clause-read g c =
    let one = c.in_err-place-in-Inside.ensures in
    rw (propagated c.from_residual-in_err-place-in-Inside.result c.from_residual-in_err-place-in-Inside.ensures.1) (refused_every (attr g) (no_more g) _ (not_opened (attr g) (no_more g) c.loop-progress.frames.items c.in-Inside.frame _ one.adds.kept (rw c.in-Inside.is at c.loop-progress.invariant.so_far) (place_refused (attr g) (sym c.begins_source.ensures ∙ c.if-begins_source.true) one.read)))

pub location_after-requires-then-begins_source : goal.location_after-requires-then-begins_source
location_after-requires-then-begins_source g c =
    let one = c.in_ok-place-in-Inside.ensures in
    let s = rw c.in-Inside.is at c.loop-progress.invariant.so_far in
    let o = opened (attr g) (no_more g) c.loop-progress.frames.items c.in-Inside.frame c.place_demanded.new.ctx.paths one.adds.kept s (place_opens (attr g) (sym c.begins_source.ensures ∙ c.if-begins_source.true) one.read) one.paths in
    record { fine = fine_so_far (attr g) (no_more g) (c.loop-progress.frames.items ++ c.in-Inside.frame ∷ []) o }

pub returns-in_err-progress-in-Inside-clause-read : goal.returns-in_err-progress-in-Inside-clause-read
returns-in_err-progress-in-Inside-clause-read g c =
    let one = c.in_ok-place-in-Inside.ensures in
    let paths = c.place_demanded.new.ctx.paths in
    let s = rw c.in-Inside.is at c.loop-progress.invariant.so_far in
    let o = opened (attr g) (no_more g) c.loop-progress.frames.items c.in-Inside.frame paths one.adds.kept s (place_opens (attr g) (sym c.begins_source.ensures ∙ c.if-begins_source.true) one.read) one.paths in
    rw (propagated c.from_residual-in_err-progress-in-Inside.result c.from_residual-in_err-progress-in-Inside.ensures.1) (refused_every (attr g) (no_more g) paths (nothing_after (attr g) (no_more g) c.loop-progress.frames.items c.in-Inside.frame o paths c.in_err-progress-in-Inside.ensures))

pub loop-progress-smaller-then-begins_source : goal.loop-progress-smaller-then-begins_source
loop-progress-smaller-then-begins_source g c = omega (arith, no_longer c.in_ok-place-in-Inside.ensures.read.read, after_less (frame_view c.in-Inside.frame) (location_view c.in_ok-place-in-Inside.place) c.in_ok-progress-in-Inside.ensures)

pub loop-progress-preserved-then-begins_source : goal.loop-progress-preserved-then-begins_source
loop-progress-preserved-then-begins_source g c =
    let one = c.in_ok-place-in-Inside.ensures in
    let s = rw c.in-Inside.is at c.loop-progress.invariant.so_far in
    let o = opened (attr g) (no_more g) c.loop-progress.frames.items c.in-Inside.frame c.place_demanded.new.ctx.paths one.adds.kept s (place_opens (attr g) (sym c.begins_source.ensures ∙ c.if-begins_source.true) one.read) one.paths in
    record { adds = adds_more c.loop-progress.invariant.adds one.adds; so_far = came_after (attr g) (no_more g) c.loop-progress.frames.items c.in-Inside.frame o c.in_ok-progress-in-Inside.ensures }

pub returns-in_default-push-clause-read : goal.returns-in_default-push-clause-read
returns-in_default-push-clause-read g c =
    let paths = c.loop-progress.ctx.paths in
    refused_every (attr g) (no_more g) paths (runs_out_so_far (attr g) (no_more g) c.loop-progress.frames.items paths c.loop-progress.invariant.so_far c.out_of_memory.ensures)

pub loop-progress-smaller : goal.loop-progress-smaller
loop-progress-smaller g c =
    opened_shorter (attr g) (no_more g) (sym c.begins_source.ensures ∙ c.if-begins_source.false) c.in_ok-progress-in-Inside-2.ensures.read

pub loop-progress-preserved : goal.loop-progress-preserved
loop-progress-preserved g c =
    let one = c.in_ok-progress-in-Inside-2.ensures in
    let paths = c.location_opened-else-begins_source.new.ctx.paths in
    let s = rw c.in-Inside.is at c.loop-progress.invariant.so_far in
    let o = opened (attr g) (no_more g) c.loop-progress.frames.items c.in-Inside.frame paths one.adds.kept s one.read one.paths in
    record {
      adds = adds_more c.loop-progress.invariant.adds one.adds;
      so_far = subst (λ fs. SoFar (attr g) (no_more g) c.args.ctx.now.paths c.args.stream.now paths fs c.in_ok-progress-in-Inside-2.progress c.location_opened-else-begins_source.new.stream) (sym c.in-Ok.ensures.items) o;
    }

pub returns-in_err-progress-in-Inside-2-clause-read : goal.returns-in_err-progress-in-Inside-2-clause-read
returns-in_err-progress-in-Inside-2-clause-read g c =
    let one = c.in_err-progress-in-Inside-2.ensures in
    rw (propagated c.from_residual-in_err-progress-in-Inside-2.result c.from_residual-in_err-progress-in-Inside-2.ensures.1) (refused_every (attr g) (no_more g) _ (not_opened (attr g) (no_more g) c.loop-progress.frames.items c.in-Inside.frame _ one.adds.kept (rw c.in-Inside.is at c.loop-progress.invariant.so_far) one.read))
