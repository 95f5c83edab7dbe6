use Rattle.std.proofs.Common.{◌≡◌, ◌++◌, ◌∙◌, refl, sym, ap, subst, Some}
use Rattle.irtext_graph.specs.Uses.{val, next_of}
use Rattle.irtext_graph.specs.Chained.{Lists}
use Rattle.irtext_graph.proofs.Linked.{there}
use Rattle.irtext_graph.proofs.Listed.{walk_begins, walk_on, walk_ends, pushed, all_met}
use Rattle.irtext_graph.proofs.objects.Objects.list_uses.Goals as goal

pub loop-at-init : goal.loop-at-init
loop-at-init g c =
    let w = walk_begins c.requires.linked c.args.d c.site-at.result (c.head_of.ensures ∙ ap Some (sym c.site-at.ensures.value)) in
    record { walk = w.0; split = ap (λ us. us ++ w.0.rest) c.new-uses.ensures.items ∙ w.1 }

pub use_of-requires : goal.use_of-requires
use_of-requires g c = there _ c.args.d (walk_on c.requires.linked c.args.d c.loop-at.at _ c.in-Some.u c.in-Some.is refl c.loop-at.invariant.walk).3

pub loop-at-preserved : goal.loop-at-preserved
loop-at-preserved g c =
    let inv = c.loop-at.invariant in
    let w = walk_on c.requires.linked c.args.d c.loop-at.at _ c.in-Some.u c.in-Some.is (ap next_of c.use_of.ensures ∙ sym c.site-at-in-Some.ensures.value) inv.walk in
    let split = pushed c.loop-at.uses.items c.in-Some.u w.0.rest inv.walk.rest inv.walk.list w.2 inv.split in
    record { walk = w.0; split = ap (λ us. us ++ w.0.rest) c.in_ok-push.ensures.items ∙ split ∙ sym w.1 }

pub returns : goal.returns
returns g c =
    let inv = c.loop-at.invariant in
    let ends = walk_ends c.requires.linked c.args.d c.loop-at.at c.in_default.is inv.walk in
    subst (λ us. Lists (λ u. val c.args.self.now u ≡ Some c.args.d) us) (all_met c.loop-at.uses.items inv.walk.rest inv.walk.list ends inv.split) inv.walk.lists
