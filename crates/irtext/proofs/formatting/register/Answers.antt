use Rattle.std.proofs.Common.{◌≡◌, sym, subst}
use Rattle.std.specs.Prelude.{OnOk}
use Rattle.irtext.specs.Formatting.{demo_context}
use Rattle.irtext.proofs.Reading.{registered}
use Rattle.irtext.proofs.formatting.register.Goals as goal
use Rattle.irtext.proofs.formatting.register.Goals.{in-Ok, in-Err}

pub returns : goal.returns
returns g c =
    elim c.match-register_demo.branch [
      | in-Ok w ↦ subst (λ r. OnOk r (c.register_demo.new.ctx ≡ demo_context)) (sym w.result-is) (registered c.args.ctx.now c.register_demo.new.ctx c.requires c.register_demo.ensures.rest w.in-Ok.ensures.ok)
      | in-Err w ↦ subst (λ r. OnOk r (c.register_demo.new.ctx ≡ demo_context)) (sym w.result-is) tt
    ]
