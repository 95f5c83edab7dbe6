use Rattle.std.proofs.Common.{◌≡◌, ◌<◌, ◌∙◌, inl, inr, length, sym, subst, arith}
use Rattle.irtext_base.specs.Faults as causes
use Rattle.irtext_graph.specs.declared.object.Value.TheVariants.{Result}
use Rattle.irtext_grammar.specs.Contexts.Held.{whole}
use Rattle.irtext_names.specs.Rows.{ValuesReady, AreKnown}
use Rattle.irtext_names.specs.Definitions.{IsFaultOf, numbers_of}
use Rattle.irtext_parse_nested.specs.Ends.{no_scope, defined_twice}
use Rattle.irtext_names.proofs.Losing.{loses_nothing}
use Rattle.irtext_names.proofs.Numbered.{item_there, number_there, known_at}
use Rattle.irtext_names.proofs.Lists.{older_itself}
use Rattle.irtext_parse_nested.proofs.operation_end.define_results.Goals as goal

pub returns-then-not-has_value_scope-clause-refused : goal.returns-then-not-has_value_scope-clause-refused
returns-then-not-has_value_scope-clause-refused g c =
    let counts : length c.args.begun.now.names ≡ c.args.begun.now.results = sym c.len.ensures ∙ c.if-len-begun.false in
    let there : 0 < length c.args.begun.now.names = omega (arith, counts, c.if-begun-eq0.false) in
    elim c.name_error.ensures [
      | inl ran_out ↦ inl ran_out
      | inr says ↦ inr (no_scope c.index.result.now (item_there c.args.begun.now.names 0 c.index.result.now there c.index.ensures) counts (sym c.has_value_scope.ensures ∙ c.if-not-has_value_scope.true) says)
    ]

pub returns-then-len-begun-clause-loses : goal.returns-then-len-begun-clause-loses
returns-then-len-begun-clause-loses g c = loses_nothing c.args.graph.now

pub returns-then-begun-eq0-clause-loses : goal.returns-then-begun-eq0-clause-loses
returns-then-begun-eq0-clause-loses g c = loses_nothing c.args.graph.now

pub returns-then-not-has_value_scope-clause-loses : goal.returns-then-not-has_value_scope-clause-loses
returns-then-not-has_value_scope-clause-loses g c = loses_nothing c.args.graph.now

pub name_error-requires : goal.name_error-requires
name_error-requires g c =
    let names = c.args.begun.now.names in
    let counts : length names ≡ c.args.begun.now.results = sym c.len.ensures ∙ c.if-len-begun.false in
    let there : 0 < length names = omega (arith, counts, c.if-begun-eq0.false) in
    known_at (length c.args.names.now.names) (numbers_of names) 0 c.index.result.now.name (number_there names 0 c.index.result.now (item_there names 0 c.index.result.now there c.index.ensures)) c.requires.known

pub define_values-requires-clause-ready : goal.define_values-requires-clause-ready
define_values-requires-clause-ready g c =
    subst (λ n. ValuesReady (λ i. Result c.args.begun.now.op i) n c.args.names.now.values c.args.graph.now) (sym (sym c.len.ensures ∙ c.if-len-begun.false)) c.requires.ready

pub undefined_error-requires-clause-known : goal.undefined_error-requires-clause-known
undefined_error-requires-clause-known g c = subst (λ ns. AreKnown (length ns) (numbers_of c.args.begun.now.names)) (sym c.in-Err.ensures.rest.0) c.requires.known

pub returns-in-Err-clause-committed : goal.returns-in-Err-clause-committed
returns-in-Err-clause-committed g c = elim c.undefined_error.ensures [ inl ran_out ↦ ran_out.flag | inr r ↦ r.says.flag ]

pub returns-then-not-has_value_scope-clause-committed : goal.returns-then-not-has_value_scope-clause-committed
returns-then-not-has_value_scope-clause-committed g c = elim c.name_error.ensures [ inl ran_out ↦ ran_out.flag | inr says ↦ says.flag ]

pub returns-in-Err-clause-refused : goal.returns-in-Err-clause-refused
returns-in-Err-clause-refused g c =
    let counts : length c.args.begun.now.names ≡ c.args.begun.now.results = sym c.len.ensures ∙ c.if-len-begun.false in
    elim c.undefined_error.ensures [
      | inl ran_out ↦ inl ran_out
      | inr r ↦ inr (defined_twice c.in-Err.undefined.index r.read r.is counts (c.in-Err.ensures.fails r.twice)
          (subst (λ ns. IsFaultOf ns (whole c.args.stream.now) causes.MultipleDefinitions r.read c.undefined_error.result) c.in-Err.ensures.rest.0 r.says))
    ]

pub returns-then-len-begun-clause-kept : goal.returns-then-len-begun-clause-kept
returns-then-len-begun-clause-kept g c = λ m own closed waits. older_itself m c.args.graph.now

pub returns-then-begun-eq0-clause-kept : goal.returns-then-begun-eq0-clause-kept
returns-then-begun-eq0-clause-kept g c = λ m own closed waits. older_itself m c.args.graph.now

pub returns-then-not-has_value_scope-clause-kept : goal.returns-then-not-has_value_scope-clause-kept
returns-then-not-has_value_scope-clause-kept g c = λ m own closed waits. older_itself m c.args.graph.now

pub returns-then-len-begun-clause-waiting : goal.returns-then-len-begun-clause-waiting
returns-then-len-begun-clause-waiting g c = λ m own waits. waits

pub returns-then-begun-eq0-clause-waiting : goal.returns-then-begun-eq0-clause-waiting
returns-then-begun-eq0-clause-waiting g c = λ m own waits. waits

pub returns-then-not-has_value_scope-clause-waiting : goal.returns-then-not-has_value_scope-clause-waiting
returns-then-not-has_value_scope-clause-waiting g c = λ m own waits. waits
