use Rattle.std.proofs.Common.{◌≡◌, ◌∙◌, sym, ap}
use Rattle.std.specs.Option.{option_map}
use Rattle.irtext_base.specs.Faults.{id_of}
use Rattle.irtext_grammar.specs.Contexts.Formats.{isolated}
use Rattle.irtext_parse_root.proofs.one_region.is_isolated.Goals as goal

pub returns : goal.returns
returns g c = λ view is.
    let e = ap (option_map (λ op. op.id)) (sym is) ∙ c.get_opid.ensures in
    let f : view.id ≡ c.get_opid.result.now = cc e in
    c.isolated_by.ensures ∙ ap (λ i. isolated c.args.ctx.now.dialects (id_of i)) (sym f)
