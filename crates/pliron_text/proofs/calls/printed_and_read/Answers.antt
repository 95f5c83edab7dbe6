use Rattle.std.proofs.Common.{sym, subst}
use Rattle.irtext_grammar.specs.Contexts.Nested.{printing_over}
use Rattle.irtext_grammar.specs.Grammar.Marked.{AllShown}
use Rattle.irtext_grammar.specs.Graphs.Graph.{written}
use Rattle.irtext_print.specs.Printers.Appended.{fresh}
use Rattle.irtext_print.specs.Printers.PrintedOperation.{levels}
use Rattle.pliron_text.proofs.Closing.Root.{in_no_block, closed_as_seen}
use Rattle.pliron_text.proofs.Filling.{seen_closed, filled, never_rejected}
use Rattle.pliron_text.proofs.Unlimited.{unlimited_shown}
use Rattle.pliron_text.proofs.calls.printed_and_read.Goals as goal

-- ---- without a limit
pub returns-clause-equal : goal.returns-clause-equal
returns-clause-equal g c = λ shut limit.
    let ctx = c.args.ctx.now in
    let C = printing_over ctx g.A.AttrText.outlined g.A.AttrText.print_once g.A.PartialEq.eq in
    let nested = c.keeps_parts.ensures.all.counters.nested in
    filled g.T.IrText g.A.IrText g.A.AttrText g.A.PartialEq.eq ctx c.args.op (fresh c.args.layout.now.width c.args.layout.now.indent c.args.layout.now.limit) c.args.other.now c.there_and_back-answer.new.other
    g.met.A.IrText.lawful g.met.A.IrText.sincere g.met.A.AttrText.unreserved c.keeps_parts.ensures.all c.keeps_parts-2.ensures.all shut c.there_and_back-answer.result
    (λ x sees. c.there_and_back-answer.ensures.back (in_no_block ctx g.A.IrText.written C c.args.op nested shut) x sees (subst (λ z. AllShown (written C (levels z) x)) (sym limit) (unlimited_shown C x))
    (λ f. closed_as_seen ctx g.A.IrText.written C c.args.op nested shut x sees (c.keeps_parts.ensures.kept c.args.op x sees).distinct f))

pub returns-clause-accepted : goal.returns-clause-accepted
returns-clause-accepted g c = λ shut limit.
    let ctx = c.args.ctx.now in
    let C = printing_over ctx g.A.AttrText.outlined g.A.AttrText.print_once g.A.PartialEq.eq in
    let nested = c.keeps_parts.ensures.all.counters.nested in
    let seen = seen_closed g.A.IrText.written ctx c.args.op nested shut in
    never_rejected g.T.IrText g.A.IrText g.A.AttrText g.A.PartialEq.eq ctx c.args.op (fresh c.args.layout.now.width c.args.layout.now.indent c.args.layout.now.limit) c.args.other.now c.there_and_back-answer.new.other c.there_and_back-answer.result
    (c.there_and_back-answer.ensures.refused (in_no_block ctx g.A.IrText.written C c.args.op nested shut) seen.0 seen.1 (subst (λ z. AllShown (written C (levels z) seen.0)) (sym limit) (unlimited_shown C seen.0))
    (λ f. closed_as_seen ctx g.A.IrText.written C c.args.op nested shut seen.0 seen.1 (c.keeps_parts.ensures.kept c.args.op seen.0 seen.1).distinct f))

-- ---- in any layout
pub returns-clause-back : goal.returns-clause-back
returns-clause-back g c = λ shut x sees shown.
    let C = printing_over c.args.ctx.now g.A.AttrText.outlined g.A.AttrText.print_once g.A.PartialEq.eq in
    let nested = c.keeps_parts.ensures.all.counters.nested in
    c.there_and_back-answer.ensures.back (in_no_block c.args.ctx.now g.A.IrText.written C c.args.op nested shut) x sees shown
    (λ f. closed_as_seen c.args.ctx.now g.A.IrText.written C c.args.op nested shut x sees (c.keeps_parts.ensures.kept c.args.op x sees).distinct f)

pub returns-clause-whole : goal.returns-clause-whole
returns-clause-whole g c = λ shut x sees shown named.
    let C = printing_over c.args.ctx.now g.A.AttrText.outlined g.A.AttrText.print_once g.A.PartialEq.eq in
    let nested = c.keeps_parts.ensures.all.counters.nested in
    c.there_and_back-answer.ensures.whole (in_no_block c.args.ctx.now g.A.IrText.written C c.args.op nested shut) x sees shown
    (λ f. (closed_as_seen c.args.ctx.now g.A.IrText.written C c.args.op nested shut x sees (c.keeps_parts.ensures.kept c.args.op x sees).distinct f, named))

pub returns-clause-limited : goal.returns-clause-limited
returns-clause-limited g c = λ shut x sees fits out.
    let C = printing_over c.args.ctx.now g.A.AttrText.outlined g.A.AttrText.print_once g.A.PartialEq.eq in
    c.there_and_back-answer.ensures.limited (in_no_block c.args.ctx.now g.A.IrText.written C c.args.op c.keeps_parts.ensures.all.counters.nested shut) x sees fits out

pub returns-clause-refused : goal.returns-clause-refused
returns-clause-refused g c = λ shut x sees shown.
    let C = printing_over c.args.ctx.now g.A.AttrText.outlined g.A.AttrText.print_once g.A.PartialEq.eq in
    let nested = c.keeps_parts.ensures.all.counters.nested in
    c.there_and_back-answer.ensures.refused (in_no_block c.args.ctx.now g.A.IrText.written C c.args.op nested shut) x sees shown
    (λ f. closed_as_seen c.args.ctx.now g.A.IrText.written C c.args.op nested shut x sees (c.keeps_parts.ensures.kept c.args.op x sees).distinct f)
