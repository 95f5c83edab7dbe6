use Rattle.std.proofs.Common.{◌≡◌, ◌++◌, ◌∙◌, sym, map, string_bytes, Some}
use Rattle.std.specs.Str.{encode_utf8_all}
use Rattle.irtext_base.proofs.OnlyAppended.{appends_more, appends_next, appends_this, failed_after, if_failed}
use Rattle.irtext_base.specs.Format as format
use Rattle.irtext_context.specs.Context.{operation}
use Rattle.irtext_grammar.specs.Graphs.Graph.{body_of, value}
use Rattle.irtext_grammar.specs.Spelling.Spell.{results}
use Rattle.irtext_print.proofs.Printers.Appended.{then}
use Rattle.irtext_print_ops.specs.Opened.{body_front}
use Rattle.irtext_print_ops.specs.Heads as heads
use Rattle.irtext_print_ops.proofs.Directives.{seen_id}
use Rattle.irtext_print_ops.proofs.Fronts.{front_custom, front_canonical}
use Rattle.irtext_print_ops.proofs.Seen.{own_holds}
use Rattle.irtext_print_ops.proofs.front.fmt_front.Goals as goal

pub returns-then-not-canonical : goal.returns-then-not-canonical
returns-then-not-canonical g c =
    let ctx = c.args.ctx.now in
    let C = heads.printing_of g.T.IrText g.A.IrText g.A.AttrText g.A.PartialEq.eq ctx in
    let L = heads.language_of g.T.IrText g.A.IrText g.A.AttrText g.A.PartialEq.eq ctx in
    record {
      text = front_custom L C (heads.operation_at g.T.IrText g.A.IrText g.A.AttrText g.A.PartialEq.eq ctx c.args.op) c.get_opid.result.now
          (seen_id g.A.IrText.written ctx c.args.op (operation ctx c.args.op) c.get_opid.result.now c.get_opid.ensures)
          (string_bytes c.args.f.now) (string_bytes c.fmt_results.new.f) (string_bytes c.fmt_id.new.f)
          (own_holds g.A.IrText.written ctx c.args.op (λ o. string_bytes c.fmt_results.new.f ≡ string_bytes c.args.f.now ++ encode_utf8_all (results L (map (λ r. value C r.0) o.results))) c.requires.live c.in_ok-fmt_results.ensures.text)
          c.in_ok-fmt_id.ensures.text (sym c.requires.form ∙ c.if-not-canonical.true);
      refused = tt;
      appended = tt;
    }

pub returns-clause-text : goal.returns-clause-text
returns-clause-text g c =
    let ctx = c.args.ctx.now in
    let C = heads.printing_of g.T.IrText g.A.IrText g.A.AttrText g.A.PartialEq.eq ctx in
    let L = heads.language_of g.T.IrText g.A.IrText g.A.AttrText g.A.PartialEq.eq ctx in
    then c.fmt_canonical_front.result
    (λ p. front_canonical L C (heads.operation_at g.T.IrText g.A.IrText g.A.AttrText g.A.PartialEq.eq ctx c.args.op) c.get_opid.result.now
    (seen_id g.A.IrText.written ctx c.args.op (operation ctx c.args.op) c.get_opid.result.now c.get_opid.ensures)
    (string_bytes c.args.f.now) (string_bytes c.fmt_results.new.f) (string_bytes c.fmt_id.new.f)
    (own_holds g.A.IrText.written ctx c.args.op (λ o. string_bytes c.fmt_results.new.f ≡ string_bytes c.args.f.now ++ encode_utf8_all (results L (map (λ r. value C r.0) o.results))) c.requires.live c.in_ok-fmt_results.ensures.text)
    c.in_ok-fmt_id.ensures.text (string_bytes c.fmt_canonical_front.new.f) (sym c.requires.form ∙ c.if-not-canonical.false)
    (own_holds g.A.IrText.written ctx c.args.op (λ o. string_bytes c.fmt_canonical_front.new.f ≡ string_bytes c.fmt_id.new.f ++ encode_utf8_all (body_front L (body_of C o (Some format.canonical)))) c.requires.live p))
    c.fmt_canonical_front.ensures.text

pub returns-in_err-fmt_id-clause-appended : goal.returns-in_err-fmt_id-clause-appended
returns-in_err-fmt_id-clause-appended g c =
    let ctx = c.args.ctx.now in
    let C = heads.printing_of g.T.IrText g.A.IrText g.A.AttrText g.A.PartialEq.eq ctx in
    let L = heads.language_of g.T.IrText g.A.IrText g.A.AttrText g.A.PartialEq.eq ctx in
    if_failed _ (appends_more {now = c.fmt_results.new.f} (appends_this _ (own_holds g.A.IrText.written ctx c.args.op (λ o. string_bytes c.fmt_results.new.f ≡ string_bytes c.args.f.now ++ encode_utf8_all (results L (map (λ r. value C r.0) o.results))) c.requires.live c.in_ok-fmt_results.ensures.text)) c.in_err-fmt_id.ensures.appended)

pub returns-clause-appended : goal.returns-clause-appended
returns-clause-appended g c =
    let ctx = c.args.ctx.now in
    let C = heads.printing_of g.T.IrText g.A.IrText g.A.AttrText g.A.PartialEq.eq ctx in
    let L = heads.language_of g.T.IrText g.A.IrText g.A.AttrText g.A.PartialEq.eq ctx in
    failed_after c.fmt_canonical_front.result c.fmt_canonical_front.new.f (appends_next {now = c.fmt_results.new.f} {new = c.fmt_id.new.f} (appends_this _ (own_holds g.A.IrText.written ctx c.args.op (λ o. string_bytes c.fmt_results.new.f ≡ string_bytes c.args.f.now ++ encode_utf8_all (results L (map (λ r. value C r.0) o.results))) c.requires.live c.in_ok-fmt_results.ensures.text)) _ c.in_ok-fmt_id.ensures.text) c.fmt_canonical_front.ensures.appended
