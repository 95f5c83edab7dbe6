use Rattle.std.proofs.Common.{◌≡◌, ◌∙◌, sym, ap, inl, inr, arith, Some, IsSome, refl}
use Rattle.irtext_graph.specs.Uses.{use_at, val, def_of}
use Rattle.irtext_graph.specs.Used.{without_uses, uses_left}
use Rattle.irtext_graph.proofs.Nests.{same_or_other}
use Rattle.irtext_graph.proofs.Linked.{site_tells}
use Rattle.irtext_graph.proofs.SameSeen.{same_def, same_there, same_back, same_head_there}
use Rattle.irtext_graph.proofs.Redirected.{val_there, val_names, renamed_there, renamed_def, renamed_free, renamed_linked, some_use}
use Rattle.irtext_graph.proofs.objects.Objects.redirect.Goals as goal

pub set_def-requires-clause-there : goal.set_def-requires-clause-there
set_def-requires-clause-there g c = same_there c.args.self.now c.detach.new.self c.detach.ensures.seen c.args.u (val_there _ c.requires.used)

pub attach-requires-clause-linked : goal.attach-requires-clause-linked
attach-requires-clause-linked g c =
    let s = c.set_def.ensures in
    renamed_linked c.detach.new.self c.set_def.new.self c.args.u c.args.e c.detach.ensures.gone s.here c.detach.ensures.linked s.others s.heads

pub attach-requires-clause-there : goal.attach-requires-clause-there
attach-requires-clause-there g c =
    let x = c.args.self.now in
    rw c.set_def.ensures.here (renamed_there c.args.e _ (same_there x c.detach.new.self c.detach.ensures.seen c.args.u (val_there _ c.requires.used)))

pub attach-requires-clause-free : goal.attach-requires-clause-free
attach-requires-clause-free g c = renamed_free c.detach.new.self c.set_def.new.self c.args.u c.args.e c.detach.ensures.gone c.set_def.ensures.here

pub attach-requires-clause-alive : goal.attach-requires-clause-alive
attach-requires-clause-alive g c = λ o is.
    let same : o.def ≡ c.args.e = renamed_def c.args.e _ o (sym c.set_def.ensures.here ∙ is) in
    rw (same, c.set_def.ensures.heads c.args.e) (same_head_there c.args.self.now c.detach.new.self c.detach.ensures.seen c.args.e c.requires.alive)

pub returns-clause-here : goal.returns-clause-here
returns-clause-here g c =
    let there = same_there c.args.self.now c.detach.new.self c.detach.ensures.seen c.args.u (val_there _ c.requires.used) in
    let k = some_use (use_at c.set_def.new.self c.args.u) (rw c.set_def.ensures.here (renamed_there c.args.e _ there)) in
    c.attach.ensures.used k.0 k.1 ∙ ap Some (renamed_def c.args.e _ k.0 (sym c.set_def.ensures.here ∙ k.1))

pub returns-clause-others : goal.returns-clause-others
returns-clause-others g c = λ w ne. c.attach.ensures.kept w ne ∙ ap def_of (c.set_def.ensures.others w ne) ∙ c.detach.ensures.kept w ne

pub returns-clause-all_used : goal.returns-clause-all_used
returns-clause-all_used g c = λ w h. elim (same_or_other site_tells w c.args.u) [
  | inl s ↦ rw (ap (val c.attach.new.self) s ∙ returns-clause-here g c) refl
  | inr ne ↦
      let before : IsSome (use_at c.set_def.new.self w) = same_back c.set_def.new.self c.attach.new.self c.attach.ensures.seen w h in
      let there = same_back c.args.self.now c.detach.new.self c.detach.ensures.seen w (rw (c.set_def.ensures.others w ne) at before) in
      rw (returns-clause-others g c w ne) (c.requires.all_used w there)
]

pub returns-clause-bare : goal.returns-clause-bare
returns-clause-bare g c = ap without_uses c.attach.ensures.seen ∙ c.set_def.ensures.bare ∙ ap without_uses c.detach.ensures.seen

pub returns-clause-fewer : goal.returns-clause-fewer
returns-clause-fewer g c = λ d is ne.
    let k = c.set_def.ensures.fewer d (same_def c.args.self.now c.detach.new.self c.detach.ensures.seen c.args.u ∙ val_names _ d is) ne in
    let a = ap (λ g. uses_left d g.operations) c.attach.ensures.seen in
    let b = ap (λ g. uses_left d g.operations) c.detach.ensures.seen in
    omega (arith, k, a, b)
