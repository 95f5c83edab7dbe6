use Rattle.std.proofs.Common.{◌∙◌, refl, ap}
use Rattle.std.proofs.lemmas.Result.{on_err_weaker}
use Rattle.irtext_base.proofs.Results.{at_ok}
use Rattle.irtext_context.proofs.base.context.Context.keep_dialect.Goals as goal

pub returns-clause-index : goal.returns-clause-index
returns-clause-index g c = rw (← c.self.view_is) c.keep.ensures.index

pub returns-clause-rest : goal.returns-clause-rest
returns-clause-rest g c = rw (← c.self.view_is) (at_ok c.keep.result refl)

pub returns-clause-err : goal.returns-clause-err
returns-clause-err g c =
    let i = c.self.inside in
    on_err_weaker c.keep.result (λ e. ap (λ dialects. record { graph = i.graph; paths = i.paths; dialects = dialects }) e ∙ c.self.view_is) c.keep.ensures.err
