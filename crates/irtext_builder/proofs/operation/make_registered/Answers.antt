use Rattle.std.proofs.Common.{arith, rules}
use Rattle.irtext_context.proofs.Kept.{kept_trans, kept_closed, rolled_back}
use Rattle.irtext_builder.proofs.operation.make_registered.Goals as goal

pub roll_back-requires : goal.roll_back-requires
roll_back-requires g c = record { closed = kept_closed c.made-mark.ensures.closed (c.in-Err-make.ensures.kept c.made-mark.result (omega (arith, c.made-mark.ensures.made))) }

pub returns-in-Err-make-clause-registered : goal.returns-in-Err-make-clause-registered
returns-in-Err-make-clause-registered g c = record {
  registers = search rules;
  kept = λ mark h. kept_trans (c.in-Err-make.ensures.kept mark h) (c.roll_back.ensures.kept mark (omega (arith, h, c.made-mark.ensures.made)));
  objects = rolled_back c.made-mark.ensures.older (c.in-Err-make.ensures.kept c.made-mark.result (omega (arith, c.made-mark.ensures.made))) c.roll_back.ensures.back;
  unregistered = search rules;
  kind = search rules;
}
