use Rattle.std.proofs.Common.{◌∙◌, sym, ap, subst, arith, IsSome}
use Rattle.irtext_graph.specs.Linking.{site_of}
use Rattle.irtext_graph.specs.Uses.{use_at, val}
use Rattle.irtext_graph.proofs.Backs.{use_there}
use Rattle.irtext_graph.proofs.Detached.{detaching_begins, detaching_on, detaching_ends}
use Rattle.irtext_graph.proofs.objects.Objects.detach_side.Goals as goal

pub detach_linked-requires-clause-there : goal.detach_linked-requires-clause-there
detach_linked-requires-clause-there g c =
    subst (λ u. IsSome (use_at c.loop-i.self u)) (sym c.site_at.ensures)
    (use_there c.args.self.now c.loop-i.self c.loop-i.invariant.same (site_of c.args.side c.args.p c.loop-i.i) (c.use_count-i-end.ensures.there c.loop-i.i c.loop-i-test.true))

pub loop-i-init : goal.loop-i-init
loop-i-init g c = detaching_begins c.args.self.now (site_of c.args.side c.args.p) c.requires.linked

pub loop-i-preserved : goal.loop-i-preserved
loop-i-preserved g c =
    let s = c.detach_linked.ensures in
    let at = c.site_at.ensures in
    detaching_on c.args.self.now c.loop-i.self c.detach_linked.new.self (site_of c.args.side c.args.p) c.loop-i.i c.loop-i.invariant s.linked (ap (val c.detach_linked.new.self) (sym at) ∙ s.gone) (λ u ne. s.kept u (λ e. ne (e ∙ at))) s.seen

pub returns-clause-gone : goal.returns-clause-gone
returns-clause-gone g c = detaching_ends c.args.self.now c.loop-i.self (site_of c.args.side c.args.p) c.loop-i.i c.loop-i.invariant (λ j high. c.use_count-i-end.ensures.past j (let l = c.loop-i-test.false in omega (arith, l, high)))
