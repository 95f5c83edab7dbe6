use Rattle.std.proofs.Common.{refl}
use Rattle.irtext_graph.proofs.Made.{same_keeps}
use Rattle.irtext_graph.proofs.LogsSeen.{logged_bare}
use Rattle.irtext_graph.proofs.Bare.{sound_bare, replaces_seen, replaces_self, replaces_keeps}
use Rattle.irtext_graph.proofs.UsesSeen.{head_there}
use Rattle.irtext_graph.proofs.Numbers.{numbers_kept, replaced_numbers}
use Rattle.irtext_graph.proofs.graph.Graph.replace_all_uses.Goals as goal

pub replace_uses-requires-clause-alive : goal.replace_uses-requires-clause-alive
replace_uses-requires-clause-alive g c = head_there c.self.inside.made c.self.inside.counters c.self.inside.objects c.args.d (rw (← c.self.view_is) at c.requires.alive)

pub replace_uses-requires-clause-alive_too : goal.replace_uses-requires-clause-alive_too
replace_uses-requires-clause-alive_too g c = head_there c.self.inside.made c.self.inside.counters c.self.inside.objects c.args.e (rw (← c.self.view_is) at c.requires.alive_too)

pub invariant_of-self : goal.invariant_of-self
invariant_of-self g c =
    let s = c.replace_uses.ensures in
    record {
      sound = sound_bare c.self.inside.objects c.replace_uses.new.self s.bare c.self.inside.made c.self.invariant.sound s.linked s.all_used;
      logged = logged_bare c.self.inside.made c.self.inside.log.items c.self.inside.objects c.replace_uses.new.self s.bare c.self.invariant.logged;
      numbered = numbers_kept _ _ (replaced_numbers _ _ c.args.d c.args.e
          (replaces_seen c.self.inside.objects c.replace_uses.new.self s.bare c.self.inside.made c.self.inside.counters c.args.d c.args.e c.self.invariant.sound s.all_used s.uses)) c.self.invariant.numbered;
    }

pub replace_uses-requires-clause-differ : goal.replace_uses-requires-clause-differ
replace_uses-requires-clause-differ g c = λ e. let yes = c.same_defined.ensures.1 e in let none = c.if-not-same_defined.true in absurd (cc)

pub returns-then-not-same_defined-clause-replaces : goal.returns-then-not-same_defined-clause-replaces
returns-then-not-same_defined-clause-replaces g c =
    let s = c.replace_uses.ensures in
    rw (← c.self.view_is) (replaces_seen c.self.inside.objects c.replace_uses.new.self s.bare c.self.inside.made c.self.inside.counters c.args.d c.args.e c.self.invariant.sound s.all_used s.uses)

pub returns-then-not-same_defined-clause-kept : goal.returns-then-not-same_defined-clause-kept
returns-then-not-same_defined-clause-kept g c = λ m unused. replaces_keeps m _ _ c.args.d c.args.e (returns-then-not-same_defined-clause-replaces g c) unused

pub returns-else-not-same_defined-clause-replaces : goal.returns-else-not-same_defined-clause-replaces
returns-else-not-same_defined-clause-replaces g c = replaces_self _ c.args.d c.args.e (c.same_defined.ensures.0 (let none = c.if-not-same_defined.false in cc))

pub returns-else-not-same_defined-clause-kept : goal.returns-else-not-same_defined-clause-kept
returns-else-not-same_defined-clause-kept g c = λ m unused. same_keeps m _ _ refl
