use Rattle.std.proofs.Common.{◌<◌, ◌++◌, ◌∷◌, ◌∙◌, [], length, map, take, drop, suc, sym, ap, subst, arith, Err}
use Rattle.irtext_graph.specs.declared.object.Value.TheVariants.{Result}
use Rattle.irtext_names.specs.Rows.{DefinesRow, FailsRow}
use Rattle.irtext_names.proofs.Lists.{known_at, number_more, number_here, numbers_before, take_whole}
use Rattle.irtext_names.proofs.Results.{settles_both, still_ready, define_open, define_more, define_fails}
use Rattle.irtext_names.proofs.definitions.process_parsed_ssa_defs.Goals as goal

pub define_name-requires-clause-known : goal.define_name-requires-clause-known
define_name-requires-clause-known g c =
    let f = g.N.Named.numbered in
    let k = known_at f (length c.args.names.now.names) c.args.defined.now c.loop-index.index c.index-defined-index.result (omega arith) c.requires.known in
    rw (c.number.ensures, c.loop-index.invariant.rest.0) (subst (λ x. f x < length c.args.names.now.names) (sym c.index-defined-index.is) k)

pub define_name-requires-clause-no_placeholder : goal.define_name-requires-clause-no_placeholder
define_name-requires-clause-no_placeholder g c = (c.loop-index.invariant.ready c.loop-index.index (omega arith)).1

pub returns-in-Err-clause-fails : goal.returns-in-Err-clause-fails
returns-in-Err-clause-fails g c = λ e.
    let f = g.N.Named.numbered in
    let xs = c.args.defined.now in
    let n = c.loop-index.index in
    let names = map f (take n xs) in
    let i = c.loop-index.invariant in
    let same = c.number.ensures ∙ ap f c.index-defined-index.is in
    let fails = define_fails (Result c.args.op) names c.number.result (map f (drop (suc n) xs)) c.args.names.now c.loop-index.names c.args.graph.now c.loop-index.graph i.rest.0 i.defines (c.define_name.ensures.fails (c.in-Err.is ∙ ap (λ x. Err x) e)) in
    let count = numbers_before f xs n (omega arith) in
    subst (λ j. FailsRow (Result c.args.op) (map f xs) j c.args.names.now c.args.graph.now) count
    (subst (λ ns. FailsRow (Result c.args.op) ns (length names) c.args.names.now c.args.graph.now) (ap (λ m. names ++ m ∷ map f (drop (suc n) xs)) same ∙ number_here f xs n c.index-defined-index.result (omega arith)) fails)

pub loop-index-preserved : goal.loop-index-preserved
loop-index-preserved g c =
    let f = g.N.Named.numbered in
    let xs = c.args.defined.now in
    let n = c.loop-index.index in
    let names = map f (take n xs) in
    let i = c.loop-index.invariant in
    let s = c.in_default.ensures in
    let same = c.number.ensures ∙ ap f c.index-defined-index.is in
    let more = define_more (Result c.args.op) names c.number.result c.args.names.now c.loop-index.names c.define_name.new.names c.args.graph.now c.loop-index.graph c.define_name.new.graph i.rest.0 i.defines
    (rw (numbers_before f xs n (omega arith)) s.follows) in
    record {
      defines = subst (λ ns. DefinesRow (Result c.args.op) ns c.args.names.now c.define_name.new.names c.args.graph.now c.define_name.new.graph) (ap (λ m. names ++ m ∷ []) same ∙ sym (number_more f xs n c.index-defined-index.result (omega arith))) more;
      ready = λ j l. still_ready c.number.result (Result c.args.op n) (Result c.args.op j) c.loop-index.names.values c.define_name.new.names.values c.loop-index.names.labels c.loop-index.graph c.define_name.new.graph i.ties.tied s.defines (i.ready j l);
      scope = define_open c.number.result (Result c.args.op n) c.loop-index.names.values c.define_name.new.names.values c.loop-index.graph c.define_name.new.graph s.defines i.scope;
      rest = (s.rest.0 ∙ i.rest.0, s.rest.1 ∙ i.rest.1);
      ties = settles_both i.ties s.ties;
    }

pub returns-clause-defines : goal.returns-clause-defines
returns-clause-defines g c =
    let f = g.N.Named.numbered in
    let all = take_whole c.args.defined.now c.loop-index.index (omega (arith, c.loop-index-test.false, c.loop-index.auto.index-end)) in
    subst (λ xs. DefinesRow (Result c.args.op) (map f xs) c.args.names.now c.loop-index.names c.args.graph.now c.loop-index.graph) all c.loop-index.invariant.defines

pub define_name-requires-clause-tied : goal.define_name-requires-clause-tied
define_name-requires-clause-tied g c = c.loop-index.invariant.ties.tied

pub returns-in-Err-clause-ties : goal.returns-in-Err-clause-ties
returns-in-Err-clause-ties g c = settles_both c.loop-index.invariant.ties c.define_name.ensures.ties
