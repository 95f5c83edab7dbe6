use Rattle.std.proofs.Common.{◌≡◌, ◌≢◌, refl, subst}
use Rattle.irtext_graph.proofs.Erased.{Erasing, erasing_begins, erasing_goes_on, parent_inside, parent_stays, end_forest, end_gone, end_kept, end_data}
use Rattle.irtext_graph.proofs.Kept.{sheds_on}
use Rattle.irtext_graph.proofs.objects.Objects.erase_all.Goals as goal

pub loop-at-init : goal.loop-at-init
loop-at-init g c =
    let i = c.innermost-at.ensures in
    erasing_begins c.args.self.now c.args.o c.innermost-at.result c.requires.forest c.requires.free c.requires.lives i.inside i.lives i.leaf

pub drop_leaf-k-requires-clause-alive : goal.drop_leaf-k-requires-clause-alive
drop_leaf-k-requires-clause-alive g c =
    let v = c.loop-at.invariant in
    let ne : c.loop-at.at ≢ c.args.o = λ e. let yes = c.same_object.ensures.1 e in let none = c.loop-at-test.true in absurd (cc) in
    let p = parent_inside c.loop-at.self c.args.o c.loop-at.at v.at_inside ne in
    rw p.1 refl

pub innermost-at-requires-in-loop-at-clause-lives : goal.innermost-at-requires-in-loop-at-clause-lives
innermost-at-requires-in-loop-at-clause-lives g c =
    let v = c.loop-at.invariant in
    let ne : c.loop-at.at ≢ c.args.o = λ e. let yes = c.same_object.ensures.1 e in let none = c.loop-at-test.true in absurd (cc) in
    let d = c.drop_leaf-k.ensures in
    parent_stays c.args.self.now c.loop-at.self c.drop_leaf-k.new.self c.args.o c.drop_leaf-k.result c.loop-at.at v ne d.parent d.drops

pub loop-at-preserved : goal.loop-at-preserved
loop-at-preserved g c =
    let v = c.loop-at.invariant in
    let ne : c.loop-at.at ≢ c.args.o = λ e. let yes = c.same_object.ensures.1 e in let none = c.loop-at-test.true in absurd (cc) in
    let d = c.drop_leaf-k.ensures in
    let i = c.innermost-at-in-loop-at.ensures in
    erasing_goes_on c.args.self.now c.loop-at.self c.drop_leaf-k.new.self c.args.o c.drop_leaf-k.result c.loop-at.at v ne d.parent d.drops c.innermost-at-in-loop-at.result i.inside i.lives i.leaf

pub returns : goal.returns
returns g c =
    let x0 = c.args.self.now in
    let x = c.loop-at.self in
    let o = c.args.o in
    let v = c.vacate.ensures in
    let here : c.loop-at.at ≡ o = c.same_object.ensures.0 c.loop-at-test.false in
    let w : Erasing x0 x o o = subst (Erasing x0 x o) here c.loop-at.invariant in
    let y = c.vacate.new.self in
    record {
      forest = end_forest x0 x y o w v.gone v.gone_up v.gone_kids v.others;
      gone = end_gone x0 x y o w v.gone v.gone_up v.gone_kids v.others;
      kept = end_kept x0 x y o w v.gone v.gone_up v.gone_kids v.others;
      kept_data = end_data x0 x y o w v.gone v.gone_up v.gone_kids v.others v.data;
      sheds = sheds_on w.sheds v.sheds;
    }
