use Rattle.std.proofs.Common.{◌≡◌, ◌++◌, ◌∙◌, ap, map, string_bytes}
use Rattle.std.specs.Str.{encode_utf8_all}
use Rattle.irtext_context.specs.Context.{operation}
use Rattle.irtext_context.proofs.Parts.{seen_is_live}
use Rattle.irtext_graph.specs.Parts as parts
use Rattle.irtext_grammar.specs.Contexts.Nested.{seen_operation}
use Rattle.irtext_grammar.specs.Graphs.Graph.{value}
use Rattle.irtext_grammar.specs.Spelling.Spell.{results}
use Rattle.irtext_print.specs.Printers.PrintedOperation.{language_in}
use Rattle.irtext_print.proofs.Printers.Appended.{after_call}
use Rattle.irtext_print_ops.specs.Names.{printing_by}
use Rattle.irtext_print_ops.proofs.ResultTexts.{results_are}
use Rattle.irtext_print_ops.proofs.LiveViews.{for_seen}
use Rattle.irtext_print_ops.proofs.printer.Printer.fmt_results.Goals as goal

pub fmt_defined-requires : goal.fmt_defined-requires
fmt_defined-requires g c = seen_is_live c.args.self.ctx.now c.args.op c.requires.live

pub returns-clause-text : goal.returns-clause-text
returns-clause-text g c =
    let L = language_in {T = g.row.T.Denot} {A = g.row.A.Denot} g.T.IrText g.A.IrText c.args.self.ctx.now in
    let C = printing_by {T = g.row.T.Denot} g.A.AttrText g.A.PartialEq.eq c.args.self.ctx.now in
    after_call c.memory_alone.result c.fmt_defined.result c.memory_alone.ensures.ok c.fmt_defined.ensures.text
    (λ p. for_seen (operation c.args.self.ctx.now c.args.op) (seen_operation g.A.IrText.written c.args.self.ctx.now c.args.op)
    (λ o. string_bytes c.fmt_defined.new.f ≡ string_bytes c.args.f.now ++ encode_utf8_all (results L (map (λ r. value C r.0) o.results)))
    (λ view e. p ∙ ap (λ t. string_bytes c.args.f.now ++ encode_utf8_all t) (results_are L c.args.self.ctx.now (parts.results c.args.self.ctx.now.graph c.args.op))))
