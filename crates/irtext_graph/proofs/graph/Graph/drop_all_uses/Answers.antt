use Rattle.irtext_graph.proofs.Views.{lives_at}
use Rattle.irtext_graph.proofs.Sounds.{sound_dropped}
use Rattle.irtext_graph.proofs.Erasures.{drops_seen, dropped-keeps, inside_known}
use Rattle.irtext_graph.proofs.LogsSeen.{logged_dropped}
use Rattle.irtext_graph.proofs.Numbers.{numbers_kept, dropped_numbers}
use Rattle.irtext_graph.proofs.graph.Graph.drop_all_uses.Goals as goal

pub drop_all_uses-requires-clause-lives : goal.drop_all_uses-requires-clause-lives
drop_all_uses-requires-clause-lives g c = lives_at c.self.inside.made c.self.inside.counters c.self.inside.objects c.args.o (rw (← c.self.view_is) at c.requires)

pub invariant_of-self : goal.invariant_of-self
invariant_of-self g c =
    let s = c.drop_all_uses.ensures in
    record {
      sound = sound_dropped c.self.inside.made c.self.inside.objects c.drop_all_uses.new.self c.self.invariant.sound s.forest s.linked s.used s.places;
      logged = logged_dropped c.self.inside.made c.self.inside.log.items c.self.inside.objects c.drop_all_uses.new.self c.args.o c.self.invariant.sound.forest s.inside s.others c.self.invariant.logged;
      numbered = numbers_kept _ _ (dropped_numbers _ _ c.args.o (λ q. inside_known c.self.inside.made c.self.inside.counters c.self.inside.objects c.args.o q c.self.invariant.sound.forest)
          (drops_seen c.self.inside.made c.self.inside.counters c.self.inside.objects c.drop_all_uses.new.self c.args.o s.inside s.others s.ups s.kids s.places)) c.self.invariant.numbered;
    }

pub returns-clause-drops : goal.returns-clause-drops
returns-clause-drops g c =
    let s = c.drop_all_uses.ensures in
    rw (← c.self.view_is) (drops_seen c.self.inside.made c.self.inside.counters c.self.inside.objects c.drop_all_uses.new.self c.args.o s.inside s.others s.ups s.kids s.places)

pub returns-clause-kept : goal.returns-clause-kept
returns-clause-kept g c = λ m new.
    dropped-keeps m _ _ c.args.o (returns-clause-drops g c) (rw (← c.self.view_is) (λ q. inside_known c.self.inside.made c.self.inside.counters c.self.inside.objects c.args.o q c.self.invariant.sound.forest)) new
