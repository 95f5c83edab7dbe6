use Rattle.std.proofs.Common.{◌∙◌, sym, ap, Some}
use Rattle.std.specs.Option.{option_copied}
use Rattle.std.specs.Str.{bytes_eq}
use Rattle.irtext_context.proofs.FewEntries.{absent_from_place, lookup-first}
use Rattle.irtext_context.proofs.Spliced.{lookup-absent, first_at}
use Rattle.irtext_context.proofs.base.attributes.others.attr_of.Goals as goal

pub returns-in_err-place : goal.returns-in_err-place
returns-in_err-place g c =
    let test = bytes_eq c.args.key.now in
    ap option_copied c.from_residual.ensures
    ∙ sym (lookup-absent test c.args.few.now.items (absent_from_place test c.args.few.now.items (sym c.in_err-place.ensures)))

pub returns : goal.returns
returns g c =
    let test = bytes_eq c.args.key.now in
    ap (λ e. Some e.1) c.index.ensures
    ∙ sym (lookup-first test c.args.few.now.items c.in_ok-place.place c.index.result.now (first_at test c.args.few.now.items c.in_ok-place.place (sym c.in_ok-place.ensures)))
