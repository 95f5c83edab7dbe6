use Rattle.std.proofs.Common.{arith, refl, rules, subst}
use Rattle.irtext_context.proofs.Contexts.{same-keeps}
use Rattle.irtext_context.proofs.Kept.{kept_trans, kept_closed, rolled_back}
use Rattle.irtext_context.specs.Made.{MakesWithRegions}
use Rattle.irtext_graph.proofs.Marks.{counts_itself}
use Rattle.irtext_checked.proofs.make.operation.NewOperation.new.Goals as goal

pub returns-in-Err-clause-registered : goal.returns-in-Err-clause-registered
returns-in-Err-clause-registered g c = record {
  registers = tt;
  kept = λ mark h. same-keeps mark c.args.ctx.now c.args.ctx.now refl;
  objects = record { operations = λ p. refl; blocks = λ p. refl; regions = λ p. refl; counts = counts_itself c.args.ctx.now.graph; paths = λ i path e. e; dialects = refl };
  unregistered = λ none. refl;
  kind = search rules;
}

pub returns-in-Ok-make-clause-made : goal.returns-in-Ok-make-clause-made
returns-in-Ok-make-clause-made g c =
    let a = c.args in
    subst (λ id. MakesWithRegions a.num_regions a.ctx.now c.make.new.ctx c.in-Ok-make.op id a.result_types a.operands.now a.successors.now) c.in-Ok.ensures.ok.0 c.in-Ok-make.ensures.made

pub roll_back-requires : goal.roll_back-requires
roll_back-requires g c = record { closed = kept_closed c.made-made.ensures.closed (c.in-Err-make.ensures.kept c.made-made.result (omega (arith, c.made-made.ensures.made))) }

pub returns-in-Err-make-clause-registered : goal.returns-in-Err-make-clause-registered
returns-in-Err-make-clause-registered g c = record {
  registers = search rules;
  kept = λ mark h. kept_trans (c.in-Err-make.ensures.kept mark h) (c.roll_back.ensures.kept mark (omega (arith, h, c.made-made.ensures.made)));
  objects = rolled_back c.made-made.ensures.older (c.in-Err-make.ensures.kept c.made-made.result (omega (arith, c.made-made.ensures.made))) c.roll_back.ensures.back;
  unregistered = search rules;
  kind = search rules;
}
