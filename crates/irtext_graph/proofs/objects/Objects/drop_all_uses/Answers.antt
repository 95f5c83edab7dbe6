use Rattle.std.proofs.Common.{◌≡◌, ap, subst, arith, length, Some}
use Rattle.irtext_graph.specs.Objects.{eq_object}
use Rattle.irtext_graph.specs.Preorder.{left}
use Rattle.irtext_graph.proofs.Same.{object_tells}
use Rattle.irtext_graph.proofs.Nests.{renested}
use Rattle.irtext_graph.proofs.Dropping.{Dropping, dropping_begins, dropping_goes_on, fewer_left, q_inside, q_lives, forest_kept, dropped_inside, dropped_outside}
use Rattle.irtext_graph.proofs.objects.Objects.drop_all_uses.Goals as goal

pub loop-at-init : goal.loop-at-init
loop-at-init g c = record { so_far = dropping_begins c.args.self.now c.args.o c.requires.forest c.requires.lives c.requires.linked c.requires.used }

pub drop_uses_of-requires-clause-lives : goal.drop_uses_of-requires-clause-lives
drop_uses_of-requires-clause-lives g c = c.loop-at.invariant.so_far.at_lives c.in-Some.q c.in-Some.is

pub after-at-requires-clause-forest : goal.after-at-requires-clause-forest
after-at-requires-clause-forest g c =
    let e = c.drop_uses_of.ensures in
    renested eq_object object_tells (forest_kept c.args.self.now c.loop-at.self c.args.o c.loop-at.at c.requires.forest c.loop-at.invariant.so_far) e.kids e.ups

pub after-at-requires-clause-lives : goal.after-at-requires-clause-lives
after-at-requires-clause-lives g c =
    let e = c.drop_uses_of.ensures in
    let d = subst (Dropping c.args.self.now c.loop-at.self c.args.o) c.in-Some.is c.loop-at.invariant.so_far in
    q_lives c.args.self.now c.loop-at.self c.drop_uses_of.new.self c.args.o c.in-Some.q c.loop-at.at d e.linked e.used e.here e.others e.ups e.kids e.places

pub after-at-requires-clause-inside : goal.after-at-requires-clause-inside
after-at-requires-clause-inside g c =
    let e = c.drop_uses_of.ensures in
    let d = subst (Dropping c.args.self.now c.loop-at.self c.args.o) c.in-Some.is c.loop-at.invariant.so_far in
    q_inside c.args.self.now c.loop-at.self c.drop_uses_of.new.self c.args.o c.in-Some.q c.loop-at.at d e.linked e.used e.here e.others e.ups e.kids e.places

pub loop-at-smaller : goal.loop-at-smaller
loop-at-smaller g c =
    let e = c.drop_uses_of.ensures in
    let d = subst (Dropping c.args.self.now c.loop-at.self c.args.o) c.in-Some.is c.loop-at.invariant.so_far in
    let f = fewer_left c.args.self.now c.loop-at.self c.drop_uses_of.new.self c.args.o c.in-Some.q c.after-at.result d e.linked e.used e.here e.others e.ups e.kids e.places c.after-at.ensures.next in
    let s : length (left c.loop-at.self c.args.o c.loop-at.at) ≡ length (left c.loop-at.self c.args.o (Some c.in-Some.q)) = ap (λ q. length (left c.loop-at.self c.args.o q)) c.in-Some.is in
    omega (arith, f, s)

pub loop-at-preserved : goal.loop-at-preserved
loop-at-preserved g c =
    let e = c.drop_uses_of.ensures in
    let a = c.after-at.ensures in
    let d = subst (Dropping c.args.self.now c.loop-at.self c.args.o) c.in-Some.is c.loop-at.invariant.so_far in
    record {
      so_far = dropping_goes_on c.args.self.now c.loop-at.self c.drop_uses_of.new.self c.args.o c.in-Some.q c.after-at.result d e.linked e.used e.here e.others e.ups e.kids e.places a.next a.found a.lives;
    }

pub returns-clause-forest : goal.returns-clause-forest
returns-clause-forest g c = forest_kept c.args.self.now c.loop-at.self c.args.o c.loop-at.at c.requires.forest c.loop-at.invariant.so_far

pub returns-clause-inside : goal.returns-clause-inside
returns-clause-inside g c = dropped_inside c.args.self.now c.loop-at.self c.args.o (subst (Dropping c.args.self.now c.loop-at.self c.args.o) c.in_default.is c.loop-at.invariant.so_far)

pub returns-clause-others : goal.returns-clause-others
returns-clause-others g c = dropped_outside c.args.self.now c.loop-at.self c.args.o c.loop-at.at c.loop-at.invariant.so_far
