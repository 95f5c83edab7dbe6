use Rattle.irtext_scopes.proofs.Known.{known_kept}
use Rattle.irtext_scopes.proofs.tracker.NameTracker.intern.Goals as goal

pub invariant_of-self : goal.invariant_of-self
invariant_of-self g c =
    let s = c.args.self.now in
    record {
      values_known = known_kept c.intern.result s.names c.intern.new.self c.args.text.now s.values c.intern.ensures.kept c.intern.ensures.err s.values_known;
      labels_known = known_kept c.intern.result s.names c.intern.new.self c.args.text.now s.labels c.intern.ensures.kept c.intern.ensures.err s.labels_known;
    }
