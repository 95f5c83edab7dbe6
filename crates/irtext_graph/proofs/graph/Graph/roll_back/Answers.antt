use Rattle.std.proofs.Common.{◌∙◌, ap, sym, take}
use Rattle.irtext_graph.proofs.Backs.{given_back, back_keeps}
use Rattle.irtext_graph.proofs.Logs.{logged_list}
use Rattle.irtext_graph.proofs.Numbers.{numbers_kept, rolled_numbers}
use Rattle.irtext_graph.proofs.graph.Graph.roll_back.Goals as goal

pub count_before-start-requires : goal.count_before-start-requires
count_before-start-requires g c = (c.self.inside.made, logged_list c.self.inside.made c.self.inside.log.items _ c.self.inside.objects c.as_slice-log.ensures.value c.self.invariant.logged)

pub invariant_of-self : goal.invariant_of-self
invariant_of-self g c =
    let i = c.self.inside in
    let s = c.detach_since.ensures in
    let t = c.take_out_since.ensures in
    let r = given_back i.made i.counters c.args.mark c.count_before-start.result _ i.objects c.detach_since.new.self c.take_out_since.new.self c.self.invariant.sound (logged_list i.made i.log.items _ i.objects c.as_slice-log.ensures.value c.self.invariant.logged) (rw (← c.self.view_is) at c.requires.closed)
    c.count_before-start.ensures.all c.count_before-start.ensures.since s.seen s.linked s.gone s.kept t.sheds t.gone in
    record {
      sound = r.sound;
      logged = logged_list i.made (take c.count_before-start.result c.as_slice-log.result.now) c.truncate.new.self.items c.take_out_since.new.self (c.truncate.ensures.items ∙ ap (take c.count_before-start.result) (sym c.as_slice-log.ensures.value)) r.logged;
      numbered = numbers_kept _ _ (rolled_numbers c.args.mark _ _ r.view) c.self.invariant.numbered;
    }

pub returns-clause-back : goal.returns-clause-back
returns-clause-back g c =
    let i = c.self.inside in
    let s = c.detach_since.ensures in
    let t = c.take_out_since.ensures in
    let r = given_back i.made i.counters c.args.mark c.count_before-start.result _ i.objects c.detach_since.new.self c.take_out_since.new.self c.self.invariant.sound (logged_list i.made i.log.items _ i.objects c.as_slice-log.ensures.value c.self.invariant.logged) (rw (← c.self.view_is) at c.requires.closed)
    c.count_before-start.ensures.all c.count_before-start.ensures.since s.seen s.linked s.gone s.kept t.sheds t.gone in
    rw (← c.self.view_is) r.view

pub returns-clause-kept : goal.returns-clause-kept
returns-clause-kept g c = λ m up. back_keeps m c.args.mark _ _ up (returns-clause-back g c)
