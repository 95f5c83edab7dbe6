use Rattle.std.proofs.Common.{◌≡◌, ap, arith, rules}
use Rattle.std.proofs.lemmas.Grind.{common_steps}
use Rattle.irtext_base.specs.FormatViews.{format_of}
use Rattle.irtext_context.proofs.Dialects.{accepted_put}
use Rattle.irtext_context.proofs.dialect.Dialect.add_op.Goals as goal

pub returns-then-not-is_of-clause-refused : goal.returns-then-not-is_of-clause-refused
returns-then-not-is_of-clause-refused g c = rw (c.invalid.ensures, ← c.self.view_is) (c.wrong_dialect.ensures c.args.format)

pub invariant_of-self : goal.invariant_of-self
invariant_of-self g c =
    let i = c.self.inside in
    let d : c.args.id.dialect ≡ i.name = first_of (search rules, grind (arith, common_steps)) in
    let e = c.put_accepted.ensures in (
      accepted_put c.put_accepted.result i.name i.ops.entries c.put_accepted.new.ops.entries c.args.id (record { format = format_of c.args.format; isolated = c.args.isolated }) e.ok e.err c.self.invariant.0 d e.accepted,
      e.keyed c.self.invariant.1,
    )

pub returns-in-Ok-clause-ok : goal.returns-in-Ok-clause-ok
returns-in-Ok-clause-ok g c = rw (← c.self.view_is) (ap (λ es. record { name = c.self.inside.name; entries = es }) c.in-Ok.ensures.ok)
