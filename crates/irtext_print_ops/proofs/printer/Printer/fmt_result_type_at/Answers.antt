use Rattle.std.proofs.Common.{◌≡◌, ◌≤◌, ◌-◌, ◌∙◌, ◌++◌, suc, arith, ap, sym, refl, codes, Some, length, slice_get, string_bytes}
use Rattle.std.specs.Borrow.{Bor}
use Rattle.std.specs.Option.{option_map}
use Rattle.irtext_graph.specs.Parts.{results}
use Rattle.irtext_grammar.specs.Contexts.Held.{known_types}
use Rattle.irtext_print.proofs.Printers.Appended.{then}
use Rattle.irtext_print_ops.specs.Listed.{texts_of, typed_text}
use Rattle.irtext_print_ops.specs.declared.lists.Facet.TheVariants as facet
use Rattle.irtext_print_ops.specs.declared.lists.Listed.TheVariants.{ResultTypes}
use Rattle.irtext_print_ops.proofs.ItemTexts.{found_at, skipped, passed, reached, missed, spaced_written, nothing_written}
use Rattle.irtext_print_ops.proofs.printer.Printer.fmt_result_type_at.Goals as goal

pub loop-place-preserved-in_default : goal.loop-place-preserved-in_default
loop-place-preserved-in_default g c =
    let texts = texts_of g.T.IrText.written c.args.self.ctx.now (ResultTypes c.args.op) in
    record {
      same = c.loop-place.invariant.same;
      there = skipped texts c.loop-place.place c.loop-place.left (slice_get (known_types texts) c.args.index)
          (sym (found_at (typed_text g.T.IrText.written c.args.self.ctx.now facet.Type) (results c.args.self.ctx.now.graph c.args.op) c.loop-place.place) ∙ sym c.known_type.ensures ∙ ap (option_map (λ (t : Bor _). g.T.IrText.written t.now)) c.in_default.is)
          c.loop-place.invariant.there;
    }

pub loop-place-preserved : goal.loop-place-preserved
loop-place-preserved g c =
    let texts = texts_of g.T.IrText.written c.args.self.ctx.now (ResultTypes c.args.op) in
    let less : c.loop-place.left ≡ suc (c.loop-place.left - 1) = omega (arith, c.if-left-eq0.false) in
    record {
      same = c.loop-place.invariant.same;
      there = passed texts c.loop-place.place c.loop-place.left (c.loop-place.left - 1) (g.T.IrText.written c.in-Some.of_type.now) (slice_get (known_types texts) c.args.index)
          (sym (found_at (typed_text g.T.IrText.written c.args.self.ctx.now facet.Type) (results c.args.self.ctx.now.graph c.args.op) c.loop-place.place) ∙ sym c.known_type.ensures ∙ ap (option_map (λ (t : Bor _). g.T.IrText.written t.now)) c.in-Some.is)
          less c.loop-place.invariant.there;
    }

pub returns-then-left-eq0-clause-text : goal.returns-then-left-eq0-clause-text
returns-then-left-eq0-clause-text g c =
    let texts = texts_of g.T.IrText.written c.args.self.ctx.now (ResultTypes c.args.op) in
    then c.write_text.result
    (λ p. spaced_written (Some (g.T.IrText.written c.in-Some.of_type.now)) (slice_get (known_types texts) c.args.index) refl
    (reached texts c.loop-place.place c.loop-place.left (g.T.IrText.written c.in-Some.of_type.now) (slice_get (known_types texts) c.args.index)
    (sym (found_at (typed_text g.T.IrText.written c.args.self.ctx.now facet.Type) (results c.args.self.ctx.now.graph c.args.op) c.loop-place.place) ∙ sym c.known_type.ensures ∙ ap (option_map (λ (t : Bor _). g.T.IrText.written t.now)) c.in-Some.is)
    c.if-left-eq0.true c.loop-place.invariant.there)
    (string_bytes c.args.f.now) (string_bytes c.push_str.new.text) (string_bytes c.write_text.new.f) (c.in_ok-push_str.ensures.bytes ∙ ap (λ z. z ++ codes " ") c.loop-place.invariant.same) p)
    c.write_text.ensures.text

pub returns-clause-text : goal.returns-clause-text
returns-clause-text g c =
    let texts = texts_of g.T.IrText.written c.args.self.ctx.now (ResultTypes c.args.op) in
    let past : length (texts_of g.T.IrText.written c.args.self.ctx.now (ResultTypes c.args.op)) ≤ c.loop-place.place = omega (arith, c.count-place-end.ensures, c.loop-place-test.false) in
    c.loop-place.invariant.same ∙ nothing_written (slice_get (known_types texts) c.args.index) (string_bytes c.args.f.now) (missed texts c.loop-place.place c.loop-place.left (slice_get (known_types texts) c.args.index) past c.loop-place.invariant.there)
