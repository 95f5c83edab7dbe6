use Rattle.std.proofs.Common.{inl, inr, length, sym, subst, []}
use Rattle.irtext_base.specs.Faults as causes
use Rattle.irtext_graph.specs.declared.object.Value.TheVariants.{Argument}
use Rattle.irtext_grammar.specs.Contexts.Held.{whole}
use Rattle.irtext_names.specs.Rows.{ValuesReady, DefinesRow, FailsRow, AreKnown}
use Rattle.irtext_names.specs.Definitions.{IsFaultOf, numbers_of}
use Rattle.irtext_names.specs.LosesPlaceholders.{LosesPlaceholders}
use Rattle.irtext_names.specs.Tied.{ArePending}
use Rattle.irtext_parse_nested.proofs.Blanks.{loses_sound}
use Rattle.irtext_parse_nested.proofs.blocks.arguments_defined.Goals as goal

pub define_values-requires-clause-ready : goal.define_values-requires-clause-ready
define_values-requires-clause-ready g c = subst (λ g. ValuesReady (λ i. Argument c.args.block i) (length c.args.arguments.now) c.args.names.now.values g) (sym c.graph_mut.ensures.value) c.requires.ready

pub returns-in-Ok-clause-sound : goal.returns-in-Ok-clause-sound
returns-in-Ok-clause-sound g c = λ m h.
    let d = c.define_values in
    loses_sound c.args.names.now d.new.names c.args.s.now.state _ (subst (λ g. LosesPlaceholders g d.new.graph) c.graph_mut.ensures.value d.ensures.loses) d.ensures.ties.tied m
    (λ w. d.ensures.ties.waiting m [] (subst (λ g. ArePending m [] c.args.names.now.values c.args.names.now.labels g) (sym c.graph_mut.ensures.value) w)) h

pub returns-in-Err-clause-sound : goal.returns-in-Err-clause-sound
returns-in-Err-clause-sound g c = λ m h.
    let d = c.define_values in
    loses_sound c.args.names.now d.new.names c.args.s.now.state _ (subst (λ g. LosesPlaceholders g d.new.graph) c.graph_mut.ensures.value d.ensures.loses) d.ensures.ties.tied m
    (λ w. d.ensures.ties.waiting m [] (subst (λ g. ArePending m [] c.args.names.now.values c.args.names.now.labels g) (sym c.graph_mut.ensures.value) w)) h

pub returns-in-Ok-clause-loses : goal.returns-in-Ok-clause-loses
returns-in-Ok-clause-loses g c = let d = c.define_values in subst (λ g. LosesPlaceholders g d.new.graph) c.graph_mut.ensures.value d.ensures.loses

pub returns-in-Err-clause-loses : goal.returns-in-Err-clause-loses
returns-in-Err-clause-loses g c = let d = c.define_values in subst (λ g. LosesPlaceholders g d.new.graph) c.graph_mut.ensures.value d.ensures.loses

pub returns-in-Ok-clause-defines : goal.returns-in-Ok-clause-defines
returns-in-Ok-clause-defines g c = record {
  same = c.in-Ok.ensures.rest.0;
  row = subst (λ g. DefinesRow (λ i. Argument c.args.block i) (numbers_of c.args.arguments.now) c.args.names.now c.define_values.new.names g c.define_values.new.graph) c.graph_mut.ensures.value c.in-Ok.ensures.defines;
}

pub undefined_error-requires-clause-known : goal.undefined_error-requires-clause-known
undefined_error-requires-clause-known g c = subst (λ ns. AreKnown (length ns) (numbers_of c.args.arguments.now)) (sym c.in-Err.ensures.rest.0) c.requires.known

pub returns-in-Err-clause-committed : goal.returns-in-Err-clause-committed
returns-in-Err-clause-committed g c = elim c.undefined_error.ensures [ inl ran_out ↦ ran_out.flag | inr r ↦ r.says.flag ]

pub returns-in-Err-clause-refused : goal.returns-in-Err-clause-refused
returns-in-Err-clause-refused g c = elim c.undefined_error.ensures [
  | inl ran_out ↦ inl ran_out
  | inr r ↦ inr (record {
    index = c.in-Err.undefined.index;
    read = r.read;
    is = r.is;
    fails = subst (λ g. FailsRow (λ i. Argument c.args.block i) (numbers_of c.args.arguments.now) c.in-Err.undefined.index c.args.names.now g) c.graph_mut.ensures.value (c.in-Err.ensures.fails r.twice);
    says = subst (λ ns. IsFaultOf ns (whole c.args.s.now.stream) causes.MultipleDefinitions r.read c.undefined_error.result) c.in-Err.ensures.rest.0 r.says;
  })
]
