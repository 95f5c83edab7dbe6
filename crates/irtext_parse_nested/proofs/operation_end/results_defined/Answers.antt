use Rattle.std.proofs.Common.{inl, inr, refl, sym, subst, []}
use Rattle.irtext_graph.specs.declared.object.Object.TheVariants.{TheOperation}
use Rattle.irtext_graph.specs.declared.object.Value.TheVariants.{Result}
use Rattle.irtext_grammar.specs.Contexts.Held.{whole}
use Rattle.irtext_names.specs.Rows.{ValuesReady, DefinesRow}
use Rattle.irtext_names.specs.LosesPlaceholders.{LosesPlaceholders}
use Rattle.irtext_names.specs.Definitions.{numbers_of}
use Rattle.irtext_parse_nested.specs.Ends.{RefusesResults}
use Rattle.irtext_parse_nested.proofs.Ends.{closes_acts, results_fail}
use Rattle.irtext_names.proofs.Lasting.{loses_lasts, results_ready}
use Rattle.irtext_parse_nested.proofs.Marking.{on_both}
use Rattle.irtext_names.proofs.Outcomes.{if_err}
use Rattle.irtext_parse_nested.proofs.Sparing.{loses_spares}
use Rattle.irtext_parse_nested.proofs.Blanks.{loses_sound}
use Rattle.irtext_names.specs.Tied.{ArePending}
use Rattle.irtext_parse_nested.proofs.operation_end.results_defined.Goals as goal

pub define_results-requires-clause-ready : goal.define_results-requires-clause-ready
define_results-requires-clause-ready g c =
    let ctx = c.args.s.now.state.ctx.now in
    let names = c.args.names.now in
    let b = c.args.begun.now in
    subst (λ g. ValuesReady (λ i. Result b.op i) b.results names.values g) (sym c.graph_mut.ensures.value) (results_ready ctx b.op b.results names.values names.labels c.requires.alive c.requires.counts c.requires.tied)

pub returns-clause-closes : goal.returns-clause-closes
returns-clause-closes g c =
    let b = c.args.begun.now in
    let r = c.define_results in
    on_both r.result (λ counts d o is. closes_acts _ _ _ b o is _ _ counts (subst (λ g. DefinesRow (λ i. Result b.op i) (numbers_of b.names) c.args.names.now r.new.names g r.new.graph) c.graph_mut.ensures.value d) refl) r.ensures.counts r.ensures.defines

pub returns-clause-refused : goal.returns-clause-refused
returns-clause-refused g c =
    let b = c.args.begun.now in
    let r = c.define_results in
    if_err r.result (λ f u. elim u [
      | inl ran_out ↦ inl ran_out
      | inr q ↦ inr (λ o is. results_fail _ _ _ b o is f (subst (λ g. RefusesResults b c.args.names.now g (whole c.args.s.now.stream) f) c.graph_mut.ensures.value q))
    ]) r.ensures.refused

pub returns-clause-lasts : goal.returns-clause-lasts
returns-clause-lasts g c =
    loses_lasts _ _ (subst (λ g. LosesPlaceholders g c.define_results.new.graph) c.graph_mut.ensures.value c.define_results.ensures.loses) refl

pub returns-clause-spares : goal.returns-clause-spares
returns-clause-spares g c =
    loses_spares _ _ (subst (λ g. LosesPlaceholders g c.define_results.new.graph) c.graph_mut.ensures.value c.define_results.ensures.loses)

pub returns-clause-sound : goal.returns-clause-sound
returns-clause-sound g c = λ m h.
    let d = c.define_results in
    loses_sound c.args.names.now d.new.names c.args.s.now.state _ (subst (λ g. LosesPlaceholders g d.new.graph) c.graph_mut.ensures.value d.ensures.loses) d.ensures.tied m
    (λ w. d.ensures.waiting m [] (subst (λ g. ArePending m [] c.args.names.now.values c.args.names.now.labels g) (sym c.graph_mut.ensures.value) w)) h

pub returns-clause-newer : goal.returns-clause-newer
returns-clause-newer g c = λ m n.
    let l = subst (λ g. LosesPlaceholders g c.define_results.new.graph) c.graph_mut.ensures.value c.define_results.ensures.loses in
    l.newer m (TheOperation c.args.begun.now.op) n
