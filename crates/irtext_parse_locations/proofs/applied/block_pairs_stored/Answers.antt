use Rattle.std.proofs.Common.{rules, ◌≡◌, ◌∙◌, None, sym, ap}
use Rattle.irtext_grammar.specs.Contexts.Held.{entries_of}
use Rattle.irtext_grammar.specs.Graphs.Build.{put_all}
use Rattle.irtext_parse_locations.specs.Applied.{stored_by, all_stored, no_label, label_in}
use Rattle.irtext_parse_locations.proofs.ApplySteps.{put_both, no_label_both, label_both}
use Rattle.irtext_parse_locations.proofs.applied.block_pairs_stored.Goals as goal

pub loop-pair-init : goal.loop-pair-init
loop-pair-init g c =
    let once = c.args.once.now.entries in
    let e : c.into_iter-pair-iterator.result.rest.items ≡ c.args.pairs.items = search rules in
    (ap (λ ps. put_all (entries_of c.args.attributes.now) (no_label (all_stored once ps))) e, ap (λ ps. label_in None (all_stored once ps)) e)

pub loop-pair-preserved : goal.loop-pair-preserved
loop-pair-preserved g c =
    let once = c.args.once.now.entries in
    let rest = all_stored once c.next.new.self.rest.items in
    let one = stored_by once c.in-Some.pair in
    let before = entries_of c.loop-pair.attributes in
    let steps = c.in-Some.ensures.steps.0 in
    let s = c.in_ok-last.ensures in
    let i = c.loop-pair.invariant in (
      ap (λ d. put_all d (no_label rest)) s.stored ∙ (sym (put_both before (no_label one) (no_label rest)) ∙ (ap (put_all before) (sym (no_label_both one rest)) ∙ (ap (λ ps. put_all before (no_label (all_stored once ps))) (sym steps) ∙ i.0))),
      ap (λ l. label_in l rest) s.label ∙ (sym (label_both c.loop-pair.label one rest) ∙ (ap (λ ps. label_in c.loop-pair.label (all_stored once ps)) (sym steps) ∙ i.1)),
    )
