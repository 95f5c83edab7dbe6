use Rattle.std.proofs.Common.{◌≡◌, ◌≢◌, ◌∙◌, sym, ap, Some, arith, refl, option_map}
use Rattle.irtext_graph.specs.Uses.{def_of, prev_of, next_of, val, prv, nxt, relinked, eq_site, eq_defined}
use Rattle.irtext_graph.proofs.Chains.{detached}
use Rattle.irtext_graph.proofs.Linked.{site_tells, defined_tells, there, used_def}
use Rattle.irtext_graph.proofs.objects.Objects.detach.Goals as goal

pub set_prev_of-requires : goal.set_prev_of-requires
set_prev_of-requires g c = λ x hx.
    let read = c.use_of-o.ensures in
    let used : val c.args.self.now c.args.u ≡ Some c.use_of-o.result.def = used_def _ _ read c.requires.used in
    let next : nxt c.args.self.now c.args.u ≡ Some x = ap next_of read ∙ sym c.site.ensures.value ∙ hx in
    let k = c.requires.linked.next_ok c.args.u x c.use_of-o.result.def used next in
    let apart : x ≢ c.args.u = λ p. let r = ap c.requires.linked.rank p in omega (arith, k.2) in
    rw (c.set_links.ensures.others x apart) (there _ _ k.0)

pub set_next_of-requires-clause-sites : goal.set_next_of-requires-clause-sites
set_next_of-requires-clause-sites g c = λ x hx.
    let read = c.use_of-o.ensures in
    let used : val c.args.self.now c.args.u ≡ Some c.use_of-o.result.def = used_def _ _ read c.requires.used in
    let prev : prv c.args.self.now c.args.u ≡ Some x = ap prev_of read ∙ sym c.site-2.ensures.value ∙ hx in
    let k = c.requires.linked.prev_ok c.args.u x c.use_of-o.result.def used prev in
    let up = c.requires.linked.next_ok x c.args.u c.use_of-o.result.def k.0 k.1 in
    let apart : x ≢ c.args.u = λ p. let r = ap c.requires.linked.rank p in omega (arith, up.2) in
    c.set_prev_of.ensures.sites x (rw (c.set_links.ensures.others x apart) (there _ _ k.0))

pub set_next_of-requires-clause-alive : goal.set_next_of-requires-clause-alive
set_next_of-requires-clause-alive g c =
    let read = c.use_of-o.ensures in
    let d = c.use_of-o.result.def in
    let used : val c.args.self.now c.args.u ≡ Some d = used_def _ _ read c.requires.used in
    let st = c.requires.linked.alive c.args.u d used in
    rw (c.set_prev_of.ensures.heads d ∙ c.set_links.ensures.heads d ∙ st.1) refl

pub returns-clause-linked : goal.returns-clause-linked
returns-clause-linked g c =
    let d = c.use_of-o.result.def in
    let read = c.use_of-o.ensures in
    let u = c.args.u in
    let used : val c.args.self.now u ≡ Some d = used_def _ _ read c.requires.used in
    let s0 = c.set_links.ensures in
    let s1 = c.set_prev_of.ensures in
    let s2 = c.set_next_of.ensures in
    let after = ap next_of read ∙ sym c.site.ensures.value in
    let before = ap prev_of read ∙ sym c.site-2.ensures.value in
    detached eq_site site_tells eq_defined defined_tells c.requires.linked (record {
      used = used;
      gone = s2.values u ∙ s1.values u ∙ ap def_of (s0.here ∙ ap (option_map (relinked _)) read);
      kept = λ w ne. s2.values w ∙ s1.values w ∙ ap def_of (s0.others w ne);
      next_back = λ w hw. s2.prevs w ∙ s1.here w (sym after ∙ hw) ∙ sym (ap prev_of read);
      back = λ w ne nh. s2.prevs w ∙ s1.others w (λ p. nh (after ∙ p)) ∙ ap prev_of (s0.others w ne);
      prev_on = λ w hw. s2.here w (sym before ∙ hw) ∙ sym (ap next_of read);
      on = λ w ne nh. s2.others w (λ p. nh (before ∙ p)) ∙ s1.nexts w ∙ ap next_of (s0.others w ne);
      head = λ p. s2.head (sym before ∙ p) ∙ ap Some (sym (ap next_of read));
      head_kept = λ w p. s2.head_kept w (sym before ∙ p) ∙ s1.heads d ∙ s0.heads d;
      heads_kept = λ e ne. s2.heads e ne ∙ s1.heads e ∙ s0.heads e;
    })
