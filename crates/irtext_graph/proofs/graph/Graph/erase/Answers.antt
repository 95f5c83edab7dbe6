use Rattle.irtext_graph.proofs.Inside.{within_self}
use Rattle.irtext_graph.specs.Objects.{up}
use Rattle.irtext_graph.proofs.Views.{lives_at}
use Rattle.irtext_graph.proofs.Erasures.{still_lives, sound_erased, erases_seen, erased-keeps, inside_known}
use Rattle.irtext_graph.proofs.LogsSeen.{logged_dropped, logged_erased}
use Rattle.irtext_graph.proofs.Numbers.{numbers_kept, erased_numbers}
use Rattle.irtext_graph.proofs.graph.Graph.erase.Goals as goal

pub drop_all_uses-requires-clause-lives : goal.drop_all_uses-requires-clause-lives
drop_all_uses-requires-clause-lives g c = lives_at c.self.inside.made c.self.inside.counters c.self.inside.objects c.args.o (rw (← c.self.view_is) at c.requires.alive)

pub erase-count-requires-clause-lives : goal.erase-count-requires-clause-lives
erase-count-requires-clause-lives g c =
    let x = c.self.inside.objects in
    still_lives x c.drop_all_uses.new.self c.args.o (c.drop_all_uses.ensures.inside c.args.o (within_self (up x) c.args.o)) (lives_at c.self.inside.made c.self.inside.counters x c.args.o (rw (← c.self.view_is) at c.requires.alive))

pub invariant_of-self : goal.invariant_of-self
invariant_of-self g c =
    let d = c.drop_all_uses.ensures in
    let e = c.erase-count.ensures in
    record {
      sound = sound_erased c.self.inside.made c.self.inside.made c.self.inside.counters c.self.inside.objects c.drop_all_uses.new.self c.erase-count.new.self c.args.o c.self.invariant.sound (rw (← c.self.view_is) at c.requires.can)
          d.inside d.others d.ups d.kids d.places d.linked d.used e.forest e.gone e.kept e.parent e.whats e.«data» e.sheds e.left;
      logged = c.forget_gone-left.ensures c.self.inside.made (logged_erased c.self.inside.made c.self.inside.log.items c.drop_all_uses.new.self c.erase-count.new.self c.args.o d.forest e.gone e.whats
          (logged_dropped c.self.inside.made c.self.inside.log.items c.self.inside.objects c.drop_all_uses.new.self c.args.o c.self.invariant.sound.forest d.inside d.others c.self.invariant.logged));
      numbered = numbers_kept _ _ (erased_numbers _ _ c.args.o (λ q. inside_known c.self.inside.made c.self.inside.counters c.self.inside.objects c.args.o q c.self.invariant.sound.forest)
          (erases_seen c.self.inside.made c.self.inside.made c.self.inside.counters c.self.inside.objects c.drop_all_uses.new.self c.erase-count.new.self c.args.o c.self.invariant.sound (rw (← c.self.view_is) at c.requires.can)
          d.inside d.others d.ups d.kids d.places d.linked d.used e.forest e.gone e.kept e.parent e.whats e.«data» e.sheds e.left)) c.self.invariant.numbered;
    }

pub returns-clause-erases : goal.returns-clause-erases
returns-clause-erases g c =
    let d = c.drop_all_uses.ensures in
    let e = c.erase-count.ensures in
    rw (← c.self.view_is) (erases_seen c.self.inside.made c.self.inside.made c.self.inside.counters c.self.inside.objects c.drop_all_uses.new.self c.erase-count.new.self c.args.o c.self.invariant.sound (rw (← c.self.view_is) at c.requires.can)
    d.inside d.others d.ups d.kids d.places d.linked d.used e.forest e.gone e.kept e.parent e.whats e.«data» e.sheds e.left)

pub returns-clause-kept : goal.returns-clause-kept
returns-clause-kept g c = λ m new above.
    erased-keeps m _ _ c.args.o (returns-clause-erases g c) (rw (← c.self.view_is) (λ q. inside_known c.self.inside.made c.self.inside.counters c.self.inside.objects c.args.o q c.self.invariant.sound.forest)) new above
