use Rattle.std.proofs.Common.{◌≡◌, ◌∙◌, sym, subst}
use Rattle.irtext_base.specs.Own.{texts_of}
use Rattle.irtext_graph.proofs.Nests.{some_eq}
use Rattle.irtext_print.specs.Printers.Appended.{fresh}
use Rattle.pliron_text.specs.Calls.{ShowsAll}
use Rattle.pliron_text.proofs.Again.{is_there}
use Rattle.pliron_text.proofs.calls.read_printed_and_read.Goals as goal

pub there_and_back-requires-clause-live : goal.there_and_back-requires-clause-live
there_and_back-requires-clause-live g c =
    (is_there (texts_of g.T.IrText.reading g.T.IrText.written) g.A.IrText.reading g.A.IrText.written g.A.AttrText.outlined g.A.AttrText.print_once g.A.PartialEq.eq c.args.text.now c.args.ctx.now c.in-Ok.root c.read_text.new.ctx
    c.in-Ok.ensures.reads c.read_text.ensures.before c.keeps_parts.ensures.all).live

pub returns-in-Err-clause-refused : goal.returns-in-Err-clause-refused
returns-in-Err-clause-refused g c = c.in-Err.ensures.refuses

pub returns-in-Ok-there_and_back-clause-again : goal.returns-in-Ok-there_and_back-clause-again
returns-in-Ok-there_and_back-clause-again g c =
    let there = is_there (texts_of g.T.IrText.reading g.T.IrText.written) g.A.IrText.reading g.A.IrText.written g.A.AttrText.outlined g.A.AttrText.print_once g.A.PartialEq.eq c.args.text.now c.args.ctx.now c.in-Ok.root c.read_text.new.ctx
    c.in-Ok.ensures.reads c.read_text.ensures.before c.keeps_parts.ensures.all in
    record {
      reads = c.in-Ok.ensures.reads;
      graph = there.graph;
      sees = there.sees;
      again = c.in-Ok-there_and_back.ensures.reads;
      whole = λ shown. c.in-Ok-there_and_back.ensures.whole there.nowhere there.graph there.sees shown (there.closed (c.keeps_parts.ensures.kept c.in-Ok.root there.graph there.sees).distinct);
      only = c.in-Ok-there_and_back.ensures.only;
    }

pub returns-in-Err-there_and_back-clause-refused : goal.returns-in-Err-there_and_back-clause-refused
returns-in-Err-there_and_back-clause-refused g c =
    let there = is_there (texts_of g.T.IrText.reading g.T.IrText.written) g.A.IrText.reading g.A.IrText.written g.A.AttrText.outlined g.A.AttrText.print_once g.A.PartialEq.eq c.args.text.now c.args.ctx.now c.in-Ok.root c.read_text.new.ctx
    c.in-Ok.ensures.reads c.read_text.ensures.before c.keeps_parts.ensures.all in (
      c.in-Ok.root,
      c.in-Ok.ensures.reads,
      λ x sees shown.
          let same : there.graph ≡ x = some_eq (sym there.sees ∙ sees) in
          c.in-Err-there_and_back.ensures.refused there.nowhere there.graph there.sees (subst (ShowsAll g.T.IrText g.A.IrText g.A.AttrText g.A.PartialEq.eq c.read_text.new.ctx c.in-Ok.root (fresh c.args.layout.now.width c.args.layout.now.indent c.args.layout.now.limit)) (sym same) shown)
          (λ f. (there.closed (c.keeps_parts.ensures.kept c.in-Ok.root there.graph there.sees).distinct f).0),
    )
