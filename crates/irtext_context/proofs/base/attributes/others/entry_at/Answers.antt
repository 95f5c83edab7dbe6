use Rattle.std.proofs.Common.{◌∙◌, ap, sym, slice_get, length, refl}
use Rattle.std.proofs.lemmas.Option.{slice_get_past, slice_get_read}
use Rattle.std.specs.Option.{option_map}
use Rattle.std.specs.Map.Iter.{deref_pair}
use Rattle.irtext_context.proofs.base.attributes.others.entry_at.Goals as goal

pub returns-in_err-entry : goal.returns-in_err-entry
returns-in_err-entry g c =
    ap (option_map deref_pair) c.from_residual.ensures
    ∙ (sym (slice_get_past c.deref.result.now c.args.i c.in_err-entry.ensures.lookup.3) ∙ ap (λ xs. slice_get xs c.args.i) c.deref.ensures.value)

pub returns : goal.returns
returns g c =
    sym (slice_get_read c.deref.result.now (length c.deref.result.now) c.args.i c.in_ok-entry.entry.now refl c.in_ok-entry.ensures.lookup.3.0 c.in_ok-entry.ensures.lookup.1)
    ∙ ap (λ xs. slice_get xs c.args.i) c.deref.ensures.value
