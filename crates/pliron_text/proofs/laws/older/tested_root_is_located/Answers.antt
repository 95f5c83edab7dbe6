use Rattle.std.proofs.Common.{subst}
use Rattle.std.specs.Prelude.{IfSome}
use Rattle.irtext_graph.specs.declared.object.Object.TheVariants.{TheOperation, TheBlock}
use Rattle.irtext_closed.specs.Located.{IsLocatedIn}
use Rattle.pliron_text.specs.Older.{OperationLocated, BlockLocated}
use Rattle.pliron_text.proofs.AllInside.{all_inside}
use Rattle.pliron_text.proofs.laws.older.tested_root_is_located.Goals as goal

pub returns : goal.returns
returns g c = λ op located.
    let now = c.args.ctx.now in
    all_inside now.graph op c.keeps_parts.ensures.all.counters.nested (OperationLocated now) (BlockLocated now)
    (λ q w view is. subst (λ o. IfSome o (λ v. IsLocatedIn now v.loc)) is (located.located (TheOperation q) w))
    (λ b w view is. subst (λ o. IfSome o (λ v. IsLocatedIn now v.loc)) is (located.located (TheBlock b) w))
