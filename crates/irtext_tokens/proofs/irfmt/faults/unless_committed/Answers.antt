use Rattle.std.proofs.Common.{refl, sym, ◌∙◌}
use Rattle.irtext_tokens.proofs.irfmt.faults.unless_committed.Goals as goal

pub returns-then-is_committed : goal.returns-then-is_committed
returns-then-is_committed g c = rw (sym c.is_committed.ensures ∙ c.if-is_committed.true) refl

pub returns : goal.returns
returns g c = rw (sym c.is_committed.ensures ∙ c.if-is_committed.false) refl
