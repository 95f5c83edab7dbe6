use Rattle.std.proofs.Common.{◌≡◌, ◌≢◌, ◌∙◌, sym, ap, Some, option_map}
use Rattle.irtext_graph.specs.Uses.{def_of, prev_of, next_of, val, relinked, eq_site, eq_defined}
use Rattle.irtext_graph.specs.declared.object.Defined.{Defined}
use Rattle.irtext_graph.specs.declared.objects.Use.{Use}
use Rattle.irtext_graph.proofs.Nests.{some_eq}
use Rattle.irtext_graph.proofs.Chains.{attached}
use Rattle.irtext_graph.proofs.Linked.{site_tells, defined_tells, there}
use Rattle.irtext_graph.proofs.objects.Objects.attach.Goals as goal

pub set_prev_of-requires : goal.set_prev_of-requires
set_prev_of-requires g c = λ x hx.
    let k = c.requires.linked.head_ok c.use_of-d.result.def x (c.head_of-h.ensures ∙ ap Some (sym c.site.ensures.value ∙ hx)) in
    let f = c.requires.free in
    let apart : x ≢ c.args.u = λ p. let q : val c.args.self.now x ≡ val c.args.self.now c.args.u = ap (val c.args.self.now) p in let r = k.0 in cc in
    rw (c.set_links.ensures.others x apart) (there _ _ k.0)

pub returns-clause-linked : goal.returns-clause-linked
returns-clause-linked g c =
    let s0 = c.set_links.ensures in
    let s1 = c.set_prev_of.ensures in
    let s2 = c.set_head.ensures in
    let u = c.args.u in
    let here = s0.here ∙ ap (option_map (relinked _)) c.use_of-d.ensures in
    let next = c.site.ensures.value in
    let not_u : c.site.result ≢ Some u = λ p.
    let k = c.requires.linked.head_ok c.use_of-d.result.def u (c.head_of-h.ensures ∙ ap Some (sym next ∙ p)) in
    let r = k.0 in let f = c.requires.free in cc in
    attached eq_site site_tells eq_defined defined_tells c.requires.linked (record {
      free = c.requires.free;
      first = c.head_of-h.ensures;
      used = ap def_of (s2.uses u) ∙ s1.values u ∙ ap def_of here;
      kept = λ w ne. ap def_of (s2.uses w) ∙ s1.values w ∙ ap def_of (s0.others w ne);
      on_here = ap next_of (s2.uses u) ∙ s1.nexts u ∙ ap next_of here;
      on = λ w ne. ap next_of (s2.uses w) ∙ s1.nexts w ∙ ap next_of (s0.others w ne);
      back_here = ap prev_of (s2.uses u) ∙ s1.others u not_u ∙ ap prev_of here ∙ c.of.ensures;
      back_old = λ w hw. ap prev_of (s2.uses w) ∙ s1.here w (next ∙ hw) ∙ c.of-2.ensures;
      back = λ w ne nh. ap prev_of (s2.uses w) ∙ s1.others w (λ p. nh (sym next ∙ p)) ∙ ap prev_of (s0.others w ne);
      head = s2.here ∙ ap Some c.of-3.ensures;
      heads_kept = λ e ne. s2.others e ne ∙ s1.heads e ∙ s0.heads e;
    })

pub returns-clause-used : goal.returns-clause-used
returns-clause-used g c = λ o e.
    let s0 = c.set_links.ensures in
    let u = c.args.u in
    let here = s0.here ∙ ap (option_map (relinked _)) c.use_of-d.ensures in
    let same : c.use_of-d.result ≡ o = some_eq (sym c.use_of-d.ensures ∙ e) in
    ap def_of (c.set_head.ensures.uses u) ∙ c.set_prev_of.ensures.values u ∙ ap def_of here ∙ ap (λ (o : Use Defined). Some o.def) same

pub head_of-h-requires : goal.head_of-h-requires
head_of-h-requires g c = c.requires.alive c.use_of-d.result c.use_of-d.ensures
