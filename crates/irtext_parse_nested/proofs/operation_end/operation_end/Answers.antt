use Rattle.std.proofs.Common.{◌∙◌, ◌∷◌, [], inl, inr, refl, sym, ap, subst, length}
use Rattle.irtext_tokens.specs.AttrTexts.{attr_at}
use Rattle.irtext_context.specs.declared.base.item.Item.TheVariants as item
use Rattle.irtext_parse_state.specs.States.{marks_of}
use Rattle.irtext_grammar.specs.Contexts.Held.{whole}
use Rattle.irtext_graph.specs.declared.object.Object.TheVariants.{TheOperation}
use Rattle.irtext_grammar.specs.Unchanged.{ModifiesOnly}
use Rattle.irtext_parse_nested.specs.Ends.{BecomesNamed}
use Rattle.irtext_names.specs.Items.{KeepsLive}
use Rattle.irtext_names.specs.Located.{IsLocated}
use Rattle.irtext_parse_nested.specs.Read.{no_results}
use Rattle.irtext_parse_nested.proofs.Depths.{depths_same}
use Rattle.irtext_parse_nested.proofs.Ended.{end_read, end_marked, end_unread, end_noted, must_commit}
use Rattle.irtext_parse_nested.proofs.Marking.{on_both, on_err, always_ok, gains_nothing}
use Rattle.irtext_names.proofs.Outcomes.{if_err}
use Rattle.irtext_parse_nested.proofs.operation_end.operation_end.Goals as goal

-- ---- the results are an error
pub returns-in-Err-clause-refused : goal.returns-in-Err-clause-refused
returns-in-Err-clause-refused g c = (λ o is. elim c.in-Err.ensures.refused [ inl ran_out ↦ inl ran_out | inr f ↦ inr (no_results (f o is)) ])

pub returns-in-Err-clause-names : goal.returns-in-Err-clause-names
returns-in-Err-clause-names g c = let e = c.in-Err.ensures in depths_same c.args.names.now c.close.new.names e.names e.values (ap length e.labels)

pub returns-in-Err-clause-kept : goal.returns-in-Err-clause-kept
returns-in-Err-clause-kept g c = λ m le closed sound new. c.in-Err.ensures.kept m closed sound new

-- ---- no mark can be parsed
pub returns-in-Err-end_parse-clause-refused : goal.returns-in-Err-end_parse-clause-refused
returns-in-Err-end_parse-clause-refused g c =
    let same = c.in_default.ensures.stream in
    (λ o is. end_unread g.T.IrText.reading (attr_at g.A.IrText.reading) o c.args.begun.now c.args.names.now c.close.new.names c.args.s.now c.close.new.s.state (item.Operation c.args.begun.now.op) (marks_of c.close.new.s.state) (c.in_default.ensures.closes o is) refl
    c.close.new.s.stream _ same _ c.close.new.s refl (ap (λ v. v.failed) same ∙ c.requires.fine) c.in-Err-end_parse.ensures)

pub returns-in-Err-end_parse-clause-committed : goal.returns-in-Err-end_parse-clause-committed
returns-in-Err-end_parse-clause-committed g c =
    must_commit (ap (λ v. v.failed) c.in_default.ensures.stream ∙ c.requires.fine) c.in-Err-end_parse.ensures.read

pub returns-in-Err-end_parse-clause-names : goal.returns-in-Err-end_parse-clause-names
returns-in-Err-end_parse-clause-names g c = let e = c.in_default.ensures in depths_same c.args.names.now c.close.new.names e.names e.values (ap length e.labels)

pub returns-in-Err-end_parse-clause-kept : goal.returns-in-Err-end_parse-clause-kept
returns-in-Err-end_parse-clause-kept g c = λ m le closed sound new. c.in_default.ensures.kept m closed sound new

-- ---- the mark is recorded, or was before
pub returns-clause-ends : goal.returns-clause-ends
returns-clause-ends g c =
    on_both c.note_mark.result (λ n e o is. end_read g.T.IrText.reading (attr_at g.A.IrText.reading) o c.args.begun.now c.args.names.now c.close.new.names c.args.s.now c.close.new.s.state (item.Operation c.args.begun.now.op) (marks_of c.close.new.s.state) (c.in_default.ensures.closes o is) refl
    c.close.new.s.stream _ c.in_default.ensures.stream c.note_mark.new.s c.in-Ok.mark (marks_of c.note_mark.new.s.state) e c.in-Ok.ensures n refl c.note_mark.ensures.ctx) c.note_mark.ensures.notes c.note_mark.ensures.stream

pub returns-clause-refused : goal.returns-clause-refused
returns-clause-refused g c =
    if_err c.note_mark.result (λ f u o is. end_marked g.T.IrText.reading (attr_at g.A.IrText.reading) o c.args.begun.now c.args.names.now c.close.new.names c.args.s.now c.close.new.s.state (item.Operation c.args.begun.now.op) (marks_of c.close.new.s.state) (c.in_default.ensures.closes o is) refl
    c.close.new.s.stream _ c.in_default.ensures.stream f c.in-Ok.mark c.in-Ok.ensures u) c.note_mark.ensures.refused

pub returns-clause-lasts : goal.returns-clause-lasts
returns-clause-lasts g c = always_ok c.note_mark.result (subst (λ x. KeepsLive c.args.s.now.state.ctx.now x) (sym c.note_mark.ensures.ctx) c.in_default.ensures.lasts)

pub returns-clause-sound : goal.returns-clause-sound
returns-clause-sound g c = always_ok c.note_mark.result (λ m le sound. let r = c.in_default.ensures.sound m sound in record { tied = rw c.note_mark.ensures.ctx r.tied; waiting = rw c.note_mark.ensures.ctx r.waiting; blanks = rw c.note_mark.ensures.ctx r.blanks })

pub returns-clause-names : goal.returns-clause-names
returns-clause-names g c = let e = c.in_default.ensures in depths_same c.args.names.now c.close.new.names e.names e.values (ap length e.labels)

pub returns-clause-kept : goal.returns-clause-kept
returns-clause-kept g c = λ m le closed sound new. rw c.note_mark.ensures.ctx (c.in_default.ensures.kept m closed sound new)

pub returns-clause-own : goal.returns-clause-own
returns-clause-own g c =
    let L = IsLocated c.args.s.now.state.src (whole c.args.s.now.stream) in
    always_ok c.note_mark.result (subst (λ x. BecomesNamed L c.args.names.now.names (whole c.args.s.now.stream) c.args.begun.now.names c.args.s.now.state.ctx.now x c.args.begun.now.op) (sym c.note_mark.ensures.ctx) c.in_default.ensures.own)

pub returns-clause-spares : goal.returns-clause-spares
returns-clause-spares g c = always_ok c.note_mark.result (subst (λ x. ModifiesOnly (TheOperation c.args.begun.now.op ∷ []) c.args.s.now.state.ctx.now x) (sym c.note_mark.ensures.ctx) c.in_default.ensures.spares)

pub returns-clause-noted : goal.returns-clause-noted
returns-clause-noted g c =
    on_both c.note_mark.result (λ n e mark taken is. end_noted c.args.s.now c.close.new.s.state (item.Operation c.args.begun.now.op) c.close.new.s.stream _ c.in_default.ensures.stream c.in_default.ensures.marks c.note_mark.new.s c.in-Ok.mark e c.in-Ok.ensures n mark taken is)
    c.note_mark.ensures.notes c.note_mark.ensures.stream

-- ---- after an error, no mark is recorded
pub returns-in-Err-clause-unnoted : goal.returns-in-Err-clause-unnoted
returns-in-Err-clause-unnoted g c = (gains_nothing c.in-Err.ensures.marks)

pub returns-in-Err-end_parse-clause-unnoted : goal.returns-in-Err-end_parse-clause-unnoted
returns-in-Err-end_parse-clause-unnoted g c = (gains_nothing c.in_default.ensures.marks)

pub returns-clause-unnoted : goal.returns-clause-unnoted
returns-clause-unnoted g c = on_err c.note_mark.result (λ e. gains_nothing (e ∙ c.in_default.ensures.marks)) c.note_mark.ensures.unnoted
