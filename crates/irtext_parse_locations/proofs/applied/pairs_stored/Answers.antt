use Rattle.std.proofs.Common.{rules, ◌≡◌, ◌∙◌, sym, ap, arith}
use Rattle.std.specs.Vec.{vec_len}
use Rattle.irtext_grammar.specs.Contexts.Held.{entries_of}
use Rattle.irtext_grammar.specs.Graphs.Build.{put_all}
use Rattle.irtext_parse_locations.specs.Applied.{stored_by, all_stored}
use Rattle.irtext_parse_locations.proofs.ApplySteps.{put_both, no_length, none_stored}
use Rattle.irtext_parse_locations.proofs.applied.pairs_stored.Goals as goal

pub loop-pair-init : goal.loop-pair-init
loop-pair-init g c =
    let e : c.into_iter-pair-iterator.result.rest.items ≡ c.args.pairs.items = search rules in
    ap (λ ps. put_all (entries_of c.args.attributes.now) (all_stored c.args.once.now.entries ps)) e

pub loop-pair-preserved : goal.loop-pair-preserved
loop-pair-preserved g c =
    let once = c.args.once.now.entries in
    let rest = c.next.new.self.rest.items in
    let before = entries_of c.loop-pair.attributes in
    ap (λ d. put_all d (all_stored once rest)) c.in_ok-pair_stored.ensures ∙ (sym (put_both before (stored_by once c.in-Some.pair) (all_stored once rest)) ∙ (ap (λ ps. put_all before (all_stored once ps)) (sym c.in-Some.ensures.steps.0) ∙ c.loop-pair.invariant))

pub returns-then-is_empty : goal.returns-then-is_empty
returns-then-is_empty g c =
    let none : vec_len c.args.pairs ≡ 0 = no_length (vec_len c.args.pairs) (sym c.is_empty.ensures ∙ c.if-is_empty.true) in
    none_stored (entries_of c.args.attributes.now) c.args.once.now.entries c.args.pairs.items (omega (arith, none, c.args.pairs.ok.0))
