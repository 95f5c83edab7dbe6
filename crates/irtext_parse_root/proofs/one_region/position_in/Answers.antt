use Rattle.std.proofs.Common.{◌≡◌, ◌∙◌, sym, ap, subst}
use Rattle.std.specs.Option.{option_map}
use Rattle.irtext_names.specs.Alone.{IsOutermost}
use Rattle.irtext_parse_root.proofs.one_region.position_in.Goals as goal

pub returns : goal.returns
returns g c = λ view is.
    let e = ap (option_map (λ op. op.loc)) (sym is) ∙ c.loc.ensures in
    let f : view.loc ≡ c.loc.result.now = cc e in
    subst (λ l. IsOutermost l c.position_of.result) (sym f) c.position_of.ensures
