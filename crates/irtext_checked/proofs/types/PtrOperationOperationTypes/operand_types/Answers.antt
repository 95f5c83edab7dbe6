use Rattle.std.proofs.Common.{◌∙◌, ap, map}
use Rattle.std.specs.Prelude.{filter_map}
use Rattle.std.proofs.lemmas.Result.{IfOk-weaker}
use Rattle.irtext_checked.proofs.TypesListed.{operands_listed}
use Rattle.irtext_checked.proofs.types.PtrOperationOperationTypes.operand_types.Goals as goal

pub returns : goal.returns
returns g c = IfOk-weaker c.present.result _ _
    (λ all e. operands_listed c.args.ctx.now (λ t. t.now) c.in_ok-types.types.items c.args.self (map (λ t. t.now) all.items) c.in_ok-types.ensures (e ∙ ap (λ xs. filter_map (λ t. t.now) xs) c.deref.ensures.value)) c.present.ensures
