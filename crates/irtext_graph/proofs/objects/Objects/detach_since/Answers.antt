use Rattle.std.proofs.Common.{◌∙◌, sym, ap, inl, inr, arith, subst, slice_get}
use Rattle.std.proofs.lemmas.Option.{slice_get_within}
use Rattle.irtext_graph.specs.Arena.{AtLeast}
use Rattle.irtext_graph.specs.Used.{user}
use Rattle.irtext_graph.specs.Log.{age}
use Rattle.irtext_graph.specs.declared.object.Object.TheVariants.{TheOperation}
use Rattle.irtext_graph.proofs.Backs.{seen_what}
use Rattle.irtext_graph.proofs.Logs.{same_age}
use Rattle.irtext_graph.proofs.Pointers.{equal_or_not}
use Rattle.irtext_graph.proofs.objects.Objects.detach_since.Goals as goal

pub loop-k-preserved : goal.loop-k-preserved
loop-k-preserved g c =
    let inv = c.loop-k.invariant in
    let s = c.detach_new.ensures in
    let x = c.args.self.now in
    let w = c.loop-k.self in
    record {
      linked = s.linked;
      gone = λ j a u le low e at l. elim (equal_or_not j c.loop-k.k) [
        | inl here ↦
            let f = c.object_at-o.ensures a (ap (slice_get c.args.log.now) (sym here) ∙ e) in
            s.gone (subst (AtLeast c.args.mark) (ap (age x) f ∙ sym (same_age x w c.object_at-o.result (seen_what x w inv.same c.object_at-o.result))) l) u (sym at ∙ f)
        | inr ne ↦ s.fewer u (inv.gone j a u le (omega (arith, low, ne)) e at l)
      ];
      kept = λ u n. s.kept u (λ l. n (subst (AtLeast c.args.mark) (same_age x w (TheOperation (user u)) (seen_what x w inv.same (TheOperation (user u)))) l)) ∙ inv.kept u n;
      same = s.seen ∙ inv.same;
    }

pub returns-clause-gone : goal.returns-clause-gone
returns-clause-gone g c = λ k a u le e. let low = slice_get_within c.args.log.now k a e in c.loop-k.invariant.gone k a u le (omega (arith, low, c.loop-k-test.false)) e
