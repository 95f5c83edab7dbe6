use Rattle.std.proofs.Common.{◌∙◌, ap, rules}
use Rattle.std.proofs.lemmas.Result.{on_err_weaker}
use Rattle.indexmap.specs.Layout.{set_value_at}
use Rattle.irtext_context.proofs.DialectTables.{set_same}
use Rattle.irtext_context.proofs.base.context.Context.put_at.Goals as goal

pub returns : goal.returns
returns g c =
    let now = c.args.self.now in
    record {
      ok = search rules;
      rest = search rules;
      err = on_err_weaker c.add_op.result
          (λ e. ap (λ dialects. record { graph = now.graph; paths = now.paths; dialects = dialects })
          (ap (set_value_at now.dialects c.args.index) e ∙ set_same now.dialects c.args.index _ c.dialect_at.ensures.value))
          c.add_op.ensures.err;
      refused = search rules;
      kind = search rules;
    }
