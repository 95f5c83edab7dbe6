use Rattle.std.proofs.Common.{refl}
use Rattle.irtext_graph.proofs.Bare.{sound_bare}
use Rattle.irtext_graph.proofs.LogsSeen.{logged_bare}
use Rattle.irtext_graph.proofs.Numbers.{numbers_kept, bare_numbers}
use Rattle.irtext_graph.proofs.Redirects.{redirects_seen, redirects_keeps}
use Rattle.irtext_graph.proofs.UsesSeen.{head_there, val_seen}
use Rattle.irtext_graph.proofs.graph.Graph.set_use.Goals as goal

pub redirect-requires-clause-used : goal.redirect-requires-clause-used
redirect-requires-clause-used g c = rw (val_seen c.self.inside.made c.self.inside.counters c.self.inside.objects c.self.invariant.sound.all_used c.args.u) (rw (← c.self.view_is) at c.requires.used)

pub stored-stored-requires-clause-used : goal.stored-stored-requires-clause-used
stored-stored-requires-clause-used g c = rw (val_seen c.self.inside.made c.self.inside.counters c.self.inside.objects c.self.invariant.sound.all_used c.args.u) (rw (← c.self.view_is) at c.requires.used)

pub redirect-requires-clause-alive : goal.redirect-requires-clause-alive
redirect-requires-clause-alive g c = head_there c.self.inside.made c.self.inside.counters c.self.inside.objects c.args.e (rw (← c.self.view_is) at c.requires.alive)

pub invariant_of-self : goal.invariant_of-self
invariant_of-self g c =
    let s = c.redirect.ensures in
    let x = c.self.inside.objects in
    let y = c.redirect.new.self in
    record {
      sound = sound_bare x y s.bare c.self.inside.made c.self.invariant.sound s.linked s.all_used;
      logged = logged_bare c.self.inside.made c.self.inside.log.items x y s.bare c.self.invariant.logged;
      numbered = numbers_kept _ _ (bare_numbers _ _
          (redirects_seen x y s.bare c.self.inside.made c.self.inside.counters c.args.u c.args.e c.self.invariant.sound.all_used s.all_used s.here s.others).rest) c.self.invariant.numbered;
    }

pub returns-clause-redirects : goal.returns-clause-redirects
returns-clause-redirects g c =
    let s = c.redirect.ensures in
    rw (← c.self.view_is) (redirects_seen c.self.inside.objects c.redirect.new.self s.bare c.self.inside.made c.self.inside.counters c.args.u c.args.e c.self.invariant.sound.all_used s.all_used s.here s.others)

pub returns-clause-kept : goal.returns-clause-kept
returns-clause-kept g c = λ m new. redirects_keeps m _ _ c.args.u c.args.e (returns-clause-redirects g c) new
