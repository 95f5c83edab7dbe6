use Rattle.std.proofs.Common.{◌≡◌, true, sym, subst}
use Rattle.std.specs.Map.{keys_of}
use Rattle.std.specs.Str.{bytes_eq}
use Rattle.irtext_context.proofs.FewEntries.{distinct_removed}
use Rattle.irtext_base.specs.Format.{distinct}
use Rattle.irtext_context.specs.Others.{entries_of}
use Rattle.irtext_context.proofs.base.attributes.others.Others.take.Goals as goal

pub invariant_of-self : goal.invariant_of-self
invariant_of-self g c = (
  c.take.ensures.few c.self.invariant.0,
  subst (λ es. distinct bytes_eq (keys_of es) ≡ true) (sym c.take.ensures.entries) (distinct_removed (bytes_eq c.args.key.now) (entries_of c.self.inside.stored) c.self.invariant.1),
)
