use Rattle.std.proofs.Common.{◌∙◌, sym, ap, Some}
use Rattle.std.specs.Option.{option_map}
use Rattle.std.specs.Str.{bytes_eq}
use Rattle.irtext_context.proofs.FewEntries.{absent_from_place, lookup-first, remove-first}
use Rattle.irtext_context.proofs.Spliced.{lookup-absent, remove-absent, first_at}
use Rattle.irtext_context.proofs.base.attributes.others.take_out.Goals as goal

pub returns-in_err-place-clause-entries : goal.returns-in_err-place-clause-entries
returns-in_err-place-clause-entries g c =
    let test = bytes_eq c.args.key.now in
    sym (remove-absent test c.args.few.now.items (absent_from_place test c.args.few.now.items (sym c.in_err-place.ensures)))

pub returns-in_err-place-clause-value : goal.returns-in_err-place-clause-value
returns-in_err-place-clause-value g c =
    let test = bytes_eq c.args.key.now in
    ap (option_map (λ p. p.1)) c.from_residual.ensures
    ∙ sym (lookup-absent test c.args.few.now.items (absent_from_place test c.args.few.now.items (sym c.in_err-place.ensures)))

pub returns-clause-entries : goal.returns-clause-entries
returns-clause-entries g c =
    let test = bytes_eq c.args.key.now in
    c.remove-attr.ensures.items
    ∙ sym (remove-first test c.args.few.now.items c.in_ok-place.place (first_at test c.args.few.now.items c.in_ok-place.place (sym c.in_ok-place.ensures)))

pub returns-clause-value : goal.returns-clause-value
returns-clause-value g c =
    let test = bytes_eq c.args.key.now in
    ap (λ e. Some e.1) c.remove-attr.ensures.value
    ∙ sym (lookup-first test c.args.few.now.items c.in_ok-place.place c.remove-attr.result (first_at test c.args.few.now.items c.in_ok-place.place (sym c.in_ok-place.ensures)))
