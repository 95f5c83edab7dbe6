use Rattle.std.proofs.Common.{◌∙◌, sym, ap, inl, inr, arith, subst, slice_get}
use Rattle.std.proofs.lemmas.Option.{slice_get_within}
use Rattle.irtext_graph.specs.Arena.{AtLeast}
use Rattle.irtext_graph.specs.Log.{age}
use Rattle.irtext_graph.proofs.Pointers.{equal_or_not}
use Rattle.irtext_graph.proofs.Sheds.{sheds_all_on, shed_object}
use Rattle.irtext_graph.proofs.objects.Objects.take_out_since.Goals as goal

pub loop-k-preserved : goal.loop-k-preserved
loop-k-preserved g c =
    let inv = c.loop-k.invariant in
    let s = c.take_out.ensures in
    let y = c.take_out.new.self in
    record {
      sheds = sheds_all_on c.args.mark c.args.self.now c.loop-k.self y inv.sheds s.sheds;
      gone = λ j a le low e l. elim (equal_or_not j c.loop-k.k) [
        | inl here ↦ s.gone (subst (AtLeast c.args.mark) (ap (age y) (c.object_at-o.ensures a (ap (slice_get c.args.log.now) (sym here) ∙ e))) l)
        | inr ne ↦ inv.gone j a le (omega (arith, low, ne)) e (shed_object c.args.mark c.loop-k.self y s.sheds a l)
      ];
    }

pub returns-clause-gone : goal.returns-clause-gone
returns-clause-gone g c = λ k a le e. let low = slice_get_within c.args.log.now k a e in c.loop-k.invariant.gone k a le (omega (arith, low, c.loop-k-test.false)) e
