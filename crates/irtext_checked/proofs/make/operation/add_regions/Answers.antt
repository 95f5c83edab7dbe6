use Rattle.std.proofs.Common.{◌≡◌, subst, arith}
use Rattle.irtext_context.specs.Made.{AddsRegions}
use Rattle.irtext_context.proofs.Made.{still_live, kept_more, adds_last}
use Rattle.irtext_checked.proofs.make.operation.add_regions.Goals as goal

pub add_region-requires : goal.add_region-requires
add_region-requires g c = c.loop-region.invariant.alive

pub loop-region-preserved : goal.loop-region-preserved
loop-region-preserved g c =
    let i = c.loop-region.invariant in
    let a = c.in_ok-add_region.ensures.added in
    record {
      alive = still_live i.alive a;
      adds = adds_last _ _ _ _ _ c.loop-region._region i.adds a;
      kept = λ mark h none. kept_more c.args.op mark i.count (i.kept mark) c.add_region.ensures.kept h none;
      count = let m = a.graph.made in omega (arith, i.count, m);
    }

pub returns-in_err-add_region-clause-kept : goal.returns-in_err-add_region-clause-kept
returns-in_err-add_region-clause-kept g c = λ mark h none. kept_more c.args.op mark c.loop-region.invariant.count (c.loop-region.invariant.kept mark) c.add_region.ensures.kept h none

pub returns-clause-adds : goal.returns-clause-adds
returns-clause-adds g c =
    let all : c.loop-region._region ≡ c.args.count = omega (arith, c.loop-region-test.false, c.loop-region.auto._region-end) in
    subst (λ n. AddsRegions n c.args.ctx.now c.loop-region.ctx c.args.op) all c.loop-region.invariant.adds

pub returns-clause-kept : goal.returns-clause-kept
returns-clause-kept g c = c.loop-region.invariant.kept
