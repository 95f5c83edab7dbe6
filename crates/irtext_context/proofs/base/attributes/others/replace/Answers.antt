use Rattle.std.proofs.Common.{◌∙◌, ap, slice_set}
use Rattle.std.specs.Str.{bytes_eq}
use Rattle.irtext_context.proofs.FewEntries.{insert-first}
use Rattle.irtext_context.proofs.Spliced.{first_at}
use Rattle.irtext_context.proofs.base.attributes.others.replace.Goals as goal

pub returns-clause-entries : goal.returns-clause-entries
returns-clause-entries g c =
    ap (λ e. slice_set c.args.few.now.items c.args.place (e.0, c.args.attr)) c.index_mut.ensures.value
    ∙ insert-first bytes_eq c.args.key.now c.args.attr c.args.few.now.items c.args.place c.index_mut.result.now
    (first_at (bytes_eq c.args.key.now) c.args.few.now.items c.args.place c.requires)
