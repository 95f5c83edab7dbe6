use Rattle.std.proofs.Common.{◌≡◌, refl, ap, arith, subst, length, Some}
use Rattle.std.specs.Option.{option_map}
use Rattle.irtext_base.specs.declared.location.Location.{Unknown}
use Rattle.irtext_context.specs.Context.{with_loc, with_block_loc}
use Rattle.irtext_context.proofs.Locations.{erased_twice, now_inside}
use Rattle.irtext_graph.specs.Throughout.{all_from}
use Rattle.irtext_graph.proofs.Going.{Going, going_begins, going_shrinks, going_on}
use Rattle.irtext_context.proofs.location.erase_inside.Goals as goal

pub loop-at-init : goal.loop-at-init
loop-at-init g c = record { so_far = going_begins (option_map (with_loc Unknown)) (with_block_loc Unknown) c.args.graph.now c.args.o c.requires c.keeps_nesting.ensures.all }

pub next_inside-at-requires-clause-within : goal.next_inside-at-requires-clause-within
next_inside-at-requires-clause-within g c =
    let d = subst (Going (option_map (with_loc Unknown)) (with_block_loc Unknown) c.args.graph.now c.loop-at.graph c.args.o) c.in-Some.is c.loop-at.invariant.so_far in
    now_inside (option_map (with_loc Unknown)) (with_block_loc Unknown) c.args.graph.now c.loop-at.graph c.args.o _ d c.in-Some.q d.at_inside

pub loop-at-smaller : goal.loop-at-smaller
loop-at-smaller g c =
    let d = subst (Going (option_map (with_loc Unknown)) (with_block_loc Unknown) c.args.graph.now c.loop-at.graph c.args.o) c.in-Some.is c.loop-at.invariant.so_far in
    let less = going_shrinks (option_map (with_loc Unknown)) (with_block_loc Unknown) erased_twice (λ x. refl) c.args.graph.now c.loop-at.graph c.erase_object.new.graph c.args.o c.in-Some.q c.next_inside-at.result d c.next_inside-at.ensures.next in
    let same : length (all_from c.args.graph.now c.args.o c.loop-at.at) ≡ length (all_from c.args.graph.now c.args.o (Some c.in-Some.q)) = ap (λ r. length (all_from c.args.graph.now c.args.o r)) c.in-Some.is in
    omega (arith, less, same)

pub loop-at-preserved : goal.loop-at-preserved
loop-at-preserved g c =
    let d = subst (Going (option_map (with_loc Unknown)) (with_block_loc Unknown) c.args.graph.now c.loop-at.graph c.args.o) c.in-Some.is c.loop-at.invariant.so_far in
    let n = c.next_inside-at.ensures in
    record {
      so_far = going_on (option_map (with_loc Unknown)) (with_block_loc Unknown) erased_twice (λ x. refl) c.args.graph.now c.loop-at.graph c.erase_object.new.graph c.args.o c.in-Some.q c.next_inside-at.result d n.next n.inside n.there c.erase_object.ensures;
    }
