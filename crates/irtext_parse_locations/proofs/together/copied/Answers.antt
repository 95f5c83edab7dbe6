use Rattle.std.proofs.Common.{◌++◌, ◌∙◌, sym, ap}
use Rattle.std.proofs.lemmas.List.{append-nil}
use Rattle.irtext_context.specs.Entries.{entries_left}
use Rattle.irtext_grammar.specs.Contexts.Held.{attribute_of, entries_of}
use Rattle.irtext_parse_locations.proofs.Copies.{copied_more}
use Rattle.irtext_parse_locations.proofs.together.copied.Goals as goal

pub loop-key-init : goal.loop-key-init
loop-key-init g c =
    ap (λ z. entries_of z ++ entries_of (entries_left c.into_iter-key-iterator.result)) c.with_seed-copy.ensures
    ∙ ap entries_of (ap entries_left c.into_iter-key-iterator.ensures.into_iter_gives ∙ c.iter-key-items.ensures)

pub loop-key-preserved : goal.loop-key-preserved
loop-key-preserved g c =
    copied_more c.args.attributes.now c.keeps_keys.ensures.differ (entries_of c.loop-key.copy) (entries_of c.entry_copied.new.copy) (entries_of (entries_left c.next.new.self)) (c.in-Some.key.now, attribute_of c.in-Some.attr.now)
    (ap (λ z. entries_of c.loop-key.copy ++ entries_of z) (sym c.in-Some.ensures.steps) ∙ c.loop-key.invariant) c.in_ok-entry_copied.ensures

pub returns : goal.returns
returns g c =
    sym (append-nil (entries_of c.loop-key.copy)) ∙ (ap (λ z. entries_of c.loop-key.copy ++ entries_of z) (sym c.in-None.ensures.steps.0) ∙ c.loop-key.invariant)
