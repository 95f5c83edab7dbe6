use Rattle.std.proofs.Common.{◌∙◌, ap, ap₂}
use Rattle.std.specs.Str.{bytes_eq}
use Rattle.indexmap.specs.IndexMap.{insert_entry, insert_all}
use Rattle.irtext_context.proofs.FewEntries.{all_put}
use Rattle.irtext_context.proofs.base.attributes.others.widened.Goals as goal

pub returns-clause-ok : goal.returns-clause-ok
returns-clause-ok g c =
    c.put_within.ensures.entries
    ∙ ap (λ es. insert_entry bytes_eq es c.args.key c.args.attr)
    (ap (λ m. m.entries) c.deref_mut-2.ensures.value
    ∙ c.put_all.ensures.entries
    ∙ ap₂ (insert_all bytes_eq) (ap (λ m. m.entries) c.deref_mut.ensures.value ∙ c.in_ok-map.ensures.empty) (ap (λ v. v.items) c.replace.ensures.value)
    ∙ all_put c.args.few.now.entries.items c.requires.differ)
