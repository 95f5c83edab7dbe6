use Rattle.std.proofs.Common.{◌≡◌, ◌<◌, ◌∙◌, inl, inr, true, [], length, refl, sym, ap, subst}
use Rattle.irtext_grammar.specs.Contexts.Held.{whole}
use Rattle.irtext_scopes.specs.Scopes.{is_open}
use Rattle.irtext_names.specs.Labels.{RefusesLabel}
use Rattle.irtext_names.specs.Tied.{MatchesGraph, ArePending}
use Rattle.irtext_grammar.specs.Promises.Root.{UnlessMemory}
use Rattle.irtext_graph.specs.Back.{IsClosedBelow}
use Rattle.irtext_graph.specs.Graph as graphs
use Rattle.irtext_graph.specs.Graph.{IsLive}
use Rattle.irtext_graph.specs.declared.object.Object.TheVariants.{TheBlock}
use Rattle.irtext_context.specs.Context.{KeepsOlder}
use Rattle.irtext_context.specs.declared.base.item.Item.TheVariants as item
use Rattle.irtext_parse_nested.specs.Blocks.{DefinesLabel, same_argument}
use Rattle.irtext_names.specs.LosesPlaceholders.{LosesPlaceholders}
use Rattle.irtext_parse_nested.proofs.Blanks.{loses_sound}
use Rattle.irtext_parse_nested.proofs.HeadNamed.{waits_for_none, inside_stays, block_stays, same_sound, kept_twice, mark_stops, label_stops, names_head}
use Rattle.irtext_names.proofs.Losing.{loses_more}
use Rattle.irtext_names.proofs.Outcomes.{on_ok, if_err}
use Rattle.irtext_parse_nested.proofs.Marking.{always_err, gains_nothing, gains_mark}
use Rattle.irtext_parse_nested.proofs.blocks.head_named.Goals as goal

-- ---- an argument is an error
pub returns-in-Err-clause-refused : goal.returns-in-Err-clause-refused
returns-in-Err-clause-refused g c = (elim c.in-Err.ensures.refused [ inl ran_out ↦ inl ran_out | inr r ↦ inr (same_argument r) ])

pub returns-in-Err-clause-labels : goal.returns-in-Err-clause-labels
returns-in-Err-clause-labels g c = ap length c.in-Err.ensures.names.1

pub returns-in-Err-clause-dialects : goal.returns-in-Err-clause-dialects
returns-in-Err-clause-dialects g c = ap (λ x. x.dialects) c.in-Err.ensures.ctx

-- ---- the mark is an error
pub returns-in-Err-note_mark-clause-refused : goal.returns-in-Err-note_mark-clause-refused
returns-in-Err-note_mark-clause-refused g c =
    let a = c.in_default.ensures in
    mark_stops c.args.block c.args.label c.args.arguments.now c.args.mark c.args.names.now c.arguments_defined.new.names c.args.s.now.state c.arguments_defined.new.s.state c.note_mark.new.s.state (whole c.args.s.now.stream)
    a.defines a.marks c.in-Err-note_mark.ensures.ctx (whole c.arguments_defined.new.s.stream) _ (ap whole a.stream) c.in-Err-note_mark.ensures.refused

pub returns-in-Err-note_mark-clause-loses : goal.returns-in-Err-note_mark-clause-loses
returns-in-Err-note_mark-clause-loses g c = subst (λ x. LosesPlaceholders c.args.s.now.state.ctx.now.graph x.graph) (sym c.in-Err-note_mark.ensures.ctx) c.in_default.ensures.loses

pub returns-in-Err-note_mark-clause-dialects : goal.returns-in-Err-note_mark-clause-dialects
returns-in-Err-note_mark-clause-dialects g c = ap (λ x. x.dialects) c.in-Err-note_mark.ensures.ctx ∙ ap (λ x. x.dialects) c.in_default.ensures.ctx

pub returns-in-Err-note_mark-clause-labels : goal.returns-in-Err-note_mark-clause-labels
returns-in-Err-note_mark-clause-labels g c = ap length c.in_default.ensures.names.1

pub returns-in-Err-note_mark-clause-sound : goal.returns-in-Err-note_mark-clause-sound
returns-in-Err-note_mark-clause-sound g c = λ m h. same_sound c.arguments_defined.new.names c.arguments_defined.new.s.state c.note_mark.new.s.state c.in-Err-note_mark.ensures.ctx m (c.in_default.ensures.sound m h)

pub returns-in-Err-note_mark-clause-kept : goal.returns-in-Err-note_mark-clause-kept
returns-in-Err-note_mark-clause-kept g c = λ m closed h. subst (λ x. KeepsOlder m c.args.s.now.state.ctx.now x) (sym c.in-Err-note_mark.ensures.ctx) (c.in_default.ensures.kept m closed h)

-- ---- the label
pub label_block-requires-clause-open : goal.label_block-requires-clause-open
label_block-requires-clause-open g c = subst (λ ls. is_open ls ≡ true) (sym c.in_default.ensures.names.1) c.requires.labels

pub label_block-requires-clause-known : goal.label_block-requires-clause-known
label_block-requires-clause-known g c = subst (λ ns. c.args.label.name < length ns) (sym c.in_default.ensures.names.0) c.requires.label

pub label_block-requires-clause-tied : goal.label_block-requires-clause-tied
label_block-requires-clause-tied g c =
    let m = c.arguments_defined.new.names in
    subst (λ k. MatchesGraph m.values m.labels k) (sym c.graph_mut.ensures.value) (subst (λ x. MatchesGraph m.values m.labels x.graph) (sym c.in_default-note_mark.ensures.ctx) c.in_default.ensures.tied)

pub label_block-requires-clause-there : goal.label_block-requires-clause-there
label_block-requires-clause-there g c = subst (λ k. IsLive k (TheBlock c.args.block)) (sym c.graph_mut.ensures.value) (subst (λ x. IsLive x.graph (TheBlock c.args.block)) (sym c.in_default-note_mark.ensures.ctx)
    (block_stays c.args.s.now.state.ctx.now.graph c.arguments_defined.new.s.state.ctx.now.graph c.in_default.ensures.loses c.args.block c.requires.inside c.requires.there))

pub label_block-requires-clause-no_placeholder : goal.label_block-requires-clause-no_placeholder
label_block-requires-clause-no_placeholder g c =
    let a = c.in_default.ensures in
    waits_for_none c.arguments_defined.new.s.state.ctx.now.graph c.args.block c.arguments_defined.new.names.values c.arguments_defined.new.names.labels a.tied
    (inside_stays c.args.s.now.state.ctx.now.graph c.arguments_defined.new.s.state.ctx.now.graph a.loses c.args.block c.requires.inside)

pub returns-clause-names : goal.returns-clause-names
returns-clause-names g c =
    let a = c.in_default.ensures in
    let n = c.in_default-note_mark.ensures in
    let d = c.label_block in
    on_ok d.result (λ follows. names_head c.args.block c.args.label c.args.arguments.now c.args.mark c.args.names.now c.arguments_defined.new.names c.args.s.now.state c.arguments_defined.new.s.state c.note_mark.new.s.state
    (whole c.args.s.now.stream) a.defines a.marks n.ctx n.notes d.new.names _ refl (subst (λ k. DefinesLabel c.args.label c.args.block c.arguments_defined.new.names d.new.names k d.new.graph) c.graph_mut.ensures.value follows)) d.ensures.follows

pub returns-clause-stream : goal.returns-clause-stream
returns-clause-stream g c = on_ok c.label_block.result (λ e. e ∙ (c.in_default-note_mark.ensures.stream ∙ c.in_default.ensures.stream)) c.label_block.ensures.stream

pub returns-clause-refused : goal.returns-clause-refused
returns-clause-refused g c =
    let a = c.in_default.ensures in
    let n = c.in_default-note_mark.ensures in
    if_err c.label_block.result (λ f u. label_stops c.args.block c.args.label c.args.arguments.now c.args.mark c.args.names.now c.arguments_defined.new.names c.args.s.now.state c.arguments_defined.new.s.state c.note_mark.new.s.state
    (whole c.args.s.now.stream) a.defines a.marks n.ctx n.notes (whole c.note_mark.new.s.stream) f (ap whole (n.stream ∙ a.stream))
    (subst (λ k. UnlessMemory (RefusesLabel c.arguments_defined.new.names k (whole c.note_mark.new.s.stream) c.args.label) f) c.graph_mut.ensures.value u)) c.label_block.ensures.refused

pub returns-clause-committed : goal.returns-clause-committed
returns-clause-committed g c = if_err c.label_block.result (λ f u. elim u [ inl ran_out ↦ ran_out.flag | inr r ↦ r.says.flag ]) c.label_block.ensures.refused

pub returns-clause-loses : goal.returns-clause-loses
returns-clause-loses g c =
    let d = c.label_block in
    loses_more c.in_default.ensures.loses (subst (λ x. LosesPlaceholders x.graph d.new.graph) c.in_default-note_mark.ensures.ctx (subst (λ k. LosesPlaceholders k d.new.graph) c.graph_mut.ensures.value d.ensures.loses))

pub returns-clause-dialects : goal.returns-clause-dialects
returns-clause-dialects g c = ap (λ x. x.dialects) c.in_default-note_mark.ensures.ctx ∙ ap (λ x. x.dialects) c.in_default.ensures.ctx

pub returns-clause-same : goal.returns-clause-same
returns-clause-same g c = c.label_block.ensures.rest.0 ∙ c.in_default.ensures.names.0

pub returns-clause-values : goal.returns-clause-values
returns-clause-values g c = ap length c.label_block.ensures.rest.1 ∙ c.in_default.ensures.values

pub returns-clause-labels : goal.returns-clause-labels
returns-clause-labels g c = c.label_block.ensures.labels ∙ ap length c.in_default.ensures.names.1

pub returns-clause-sound : goal.returns-clause-sound
returns-clause-sound g c = λ m h.
    let d = c.label_block in
    let mid = c.arguments_defined.new.names in
    loses_sound mid d.new.names c.note_mark.new.s.state _ (subst (λ k. LosesPlaceholders k d.new.graph) c.graph_mut.ensures.value d.ensures.loses) d.ensures.ties.tied m
    (λ w. d.ensures.ties.waiting m [] (subst (λ k. ArePending m [] mid.values mid.labels k) (sym c.graph_mut.ensures.value) w))
    (same_sound mid c.arguments_defined.new.s.state c.note_mark.new.s.state c.in_default-note_mark.ensures.ctx m (c.in_default.ensures.sound m h))

pub returns-clause-kept : goal.returns-clause-kept
returns-clause-kept g c = λ m closed h.
    let a = c.in_default.ensures in
    let e = c.in_default-note_mark.ensures.ctx in
    let d = c.label_block in
    let waits = same_sound c.arguments_defined.new.names c.arguments_defined.new.s.state c.note_mark.new.s.state e m (a.sound m h) in
    kept_twice c.args.s.now.state.ctx.now c.arguments_defined.new.s.state.ctx.now c.note_mark.new.s.state.ctx.now _ m e closed (a.kept m closed h)
    (λ closed_there. record {
      graph = subst (λ k. IsClosedBelow m k → ArePending m [] c.arguments_defined.new.names.values c.arguments_defined.new.names.labels k → graphs.KeepsOlder m k d.new.graph) c.graph_mut.ensures.value (d.ensures.ties.kept m []) closed_there waits.waiting;
      paths = λ i path e. e;
      dialects = refl;
    })

-- ---- after an error, its mark may be recorded
pub returns-in-Err-clause-unnoted : goal.returns-in-Err-clause-unnoted
returns-in-Err-clause-unnoted g c = (gains_nothing c.in-Err.ensures.marks)

pub returns-in-Err-note_mark-clause-unnoted : goal.returns-in-Err-note_mark-clause-unnoted
returns-in-Err-note_mark-clause-unnoted g c =
    gains_nothing (c.in-Err-note_mark.ensures.unnoted ∙ c.in_default.ensures.marks)

pub returns-clause-unnoted : goal.returns-clause-unnoted
returns-clause-unnoted g c = always_err c.label_block.result (gains_mark c.args.mark (item.Block c.args.block) c.in_default.ensures.marks c.in_default-note_mark.ensures.notes refl)
