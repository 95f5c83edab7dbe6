use Rattle.std.proofs.Common.{slice_get, Some, ◌≡◌, ◌∙◌, length, take, drop, suc, sym, ap, subst, arith, Err}
use Rattle.irtext_graph.specs.declared.object.Defined.TheVariants.{OfValue}
use Rattle.irtext_grammar.specs.Names.Script.{Place, define_value}
use Rattle.irtext_grammar.specs.Names.TextScopes.{Word}
use Rattle.irtext_names.specs.Linked.{TakesDefinition}
use Rattle.irtext_names.specs.Placeholders.{Defines}
use Rattle.irtext_names.specs.Definitions.{defined_value, numbers_of}
use Rattle.irtext_names.specs.Rows.{DefinesRow, FailsRow}
use Rattle.irtext_names.proofs.Losing.{loses_more, defined_loses}
use Rattle.irtext_names.proofs.Numbered.{known_at, number_more, number_here, numbers_before, numbered_within, take_numbers}
use Rattle.irtext_names.proofs.Results.{settles_both, still_ready, define_open, define_length, define_more, define_fails}
use Rattle.irtext_names.proofs.defining.define_values.Goals as goal

pub define_name-requires-clause-known : goal.define_name-requires-clause-known
define_name-requires-clause-known g c =
    rw c.loop-index.invariant.rest.0 (known_at (length c.args.names.now.names) (numbers_of c.args.defined.now) c.loop-index.index c.number_at-name.result c.number_at-name.ensures c.requires.known)

pub define_name-requires-clause-there : goal.define_name-requires-clause-there
define_name-requires-clause-there g c =
    rw c.defined_value.ensures (c.loop-index.invariant.ready c.loop-index.index (numbered_within c.args.defined.now c.loop-index.index c.number_at-name.result c.number_at-name.ensures)).0

pub define_name-requires-clause-no_placeholder : goal.define_name-requires-clause-no_placeholder
define_name-requires-clause-no_placeholder g c =
    rw c.defined_value.ensures (c.loop-index.invariant.ready c.loop-index.index (numbered_within c.args.defined.now c.loop-index.index c.number_at-name.result c.number_at-name.ensures)).1

pub returns-in-Err-clause-fails : goal.returns-in-Err-clause-fails
returns-in-Err-clause-fails g c = λ e.
    let ns = numbers_of c.args.defined.now in
    let n = c.loop-index.index in
    let number = c.number_at-name.result in
    let is = c.number_at-name.ensures in
    let i = c.loop-index.invariant in
    let value = defined_value c.args.row in
    let fails = define_fails value (take n ns) number (drop (suc n) ns) c.args.names.now c.loop-index.names c.args.graph.now c.loop-index.graph i.rest.0 i.defines (c.define_name.ensures.fails (c.in-Err.is ∙ ap (λ x. Err x) e)) in
    subst (λ j. FailsRow value ns j c.args.names.now c.args.graph.now) (numbers_before ns n number is)
    (subst (λ ms. FailsRow value ms (length (take n ns)) c.args.names.now c.args.graph.now) (number_here ns n number is) fails)

pub returns-clause-defines : goal.returns-clause-defines
returns-clause-defines g c =
    subst (λ ms. DefinesRow (defined_value c.args.row) ms c.args.names.now c.loop-index.names c.args.graph.now c.loop-index.graph) (take_numbers c.args.defined.now c.loop-index.index (omega (arith, c.len-index-end.ensures, c.loop-index-test.false))) c.loop-index.invariant.defines

pub loop-index-preserved : goal.loop-index-preserved
loop-index-preserved g c =
    let ns = numbers_of c.args.defined.now in
    let n = c.loop-index.index in
    let number = c.number_at-name.result in
    let is = c.number_at-name.ensures in
    let i = c.loop-index.invariant in
    let s = c.in_default.ensures in
    let value = defined_value c.args.row in
    let v = value n in
    let defines = subst (λ x. Defines OfValue c.loop-index.names.values c.define_name.new.names.values c.loop-index.graph c.define_name.new.graph number x) c.defined_value.ensures s.defines in
    let follows = subst (λ x. (w : Word) (q : Place) → slice_get c.loop-index.names.names number ≡ Some w.name → TakesDefinition (define_value w q) c.loop-index.names c.define_name.new.names c.loop-index.graph c.define_name.new.graph q (OfValue x)) (c.defined_value.ensures ∙ ap value (sym (numbers_before ns n number is))) s.follows in
    let more = define_more value (take n ns) number c.args.names.now c.loop-index.names c.define_name.new.names c.args.graph.now c.loop-index.graph c.define_name.new.graph i.rest.0 i.defines follows in
    record {
      defines = subst (λ ms. DefinesRow value ms c.args.names.now c.define_name.new.names c.args.graph.now c.define_name.new.graph) (sym (number_more ns n number is)) more;
      ready = λ j l. still_ready number v (value j) c.loop-index.names.values c.define_name.new.names.values c.loop-index.names.labels c.loop-index.graph c.define_name.new.graph i.ties.tied defines (i.ready j l);
      scope = define_open number v c.loop-index.names.values c.define_name.new.names.values c.loop-index.graph c.define_name.new.graph defines i.scope;
      loses = loses_more i.loses (defined_loses OfValue c.loop-index.names.values c.define_name.new.names.values c.loop-index.graph c.define_name.new.graph number v i.ties.tied.value_ties defines);
      values = define_length value number v c.loop-index.names.values c.define_name.new.names.values c.loop-index.graph c.define_name.new.graph defines ∙ i.values;
      rest = (s.rest.0 ∙ i.rest.0, s.rest.1 ∙ i.rest.1);
      ties = settles_both i.ties s.ties;
    }

pub define_name-requires-clause-tied : goal.define_name-requires-clause-tied
define_name-requires-clause-tied g c = c.loop-index.invariant.ties.tied

pub returns-in-Err-clause-ties : goal.returns-in-Err-clause-ties
returns-in-Err-clause-ties g c = settles_both c.loop-index.invariant.ties c.define_name.ensures.ties
