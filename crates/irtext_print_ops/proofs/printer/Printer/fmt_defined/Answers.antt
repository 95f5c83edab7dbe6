use Rattle.std.proofs.Common.{◌∙◌, sym, string_bytes}
use Rattle.irtext_grammar.specs.Contexts.Held.{known_types}
use Rattle.irtext_print_ops.specs.Listed.{texts_of}
use Rattle.irtext_print_ops.specs.declared.lists.Listed.TheVariants.{Results}
use Rattle.irtext_print_ops.proofs.ResultTexts.{some_defined}
use Rattle.irtext_print_ops.proofs.printer.Printer.fmt_defined.Goals as goal

pub returns-clause-text : goal.returns-clause-text
returns-clause-text g c =
    some_defined (known_types (texts_of g.T.IrText.written c.args.self.ctx.now (Results c.args.op))) (string_bytes c.args.f.now) (string_bytes c.fmt_listed.new.f) (string_bytes c.push_str.new.text)
    (sym c.if-none.false ∙ c.in_ok-none.ensures.none) c.in_ok-none.ensures.text c.in_ok-push_str.ensures.bytes
