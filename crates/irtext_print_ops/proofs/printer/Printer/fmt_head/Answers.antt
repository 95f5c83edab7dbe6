use Rattle.std.proofs.Common.{◌≡◌, ◌++◌, string_bytes}
use Rattle.std.specs.Str.{encode_utf8_all}
use Rattle.irtext_grammar.specs.Graphs.Graph.{tree_head}
use Rattle.irtext_print.proofs.Printers.Appended.{then}
use Rattle.irtext_print_ops.specs.Heads as heads
use Rattle.irtext_print_ops.specs.Opened.{block_head}
use Rattle.irtext_print_ops.proofs.BlockTexts.{head_appended}
use Rattle.irtext_print_ops.proofs.Seen.{head_holds}
use Rattle.irtext_print_ops.proofs.LiveViews.{block_is_live}
use Rattle.irtext_print_ops.proofs.printer.Printer.fmt_head.Goals as goal

pub fmt_arguments-requires : goal.fmt_arguments-requires
fmt_arguments-requires g c = block_is_live c.args.self.ctx.now c.args.block c.requires.live

pub returns-clause-text : goal.returns-clause-text
returns-clause-text g c =
    let C = heads.printing_of g.T.IrText g.A.IrText g.A.AttrText g.A.PartialEq.eq c.args.self.ctx.now in
    let L = heads.language_of g.T.IrText g.A.IrText g.A.AttrText g.A.PartialEq.eq c.args.self.ctx.now in
    then c.fmt_inline.result
    (λ p. head_holds g.A.IrText.written c.args.self.ctx.now c.args.block (λ h. string_bytes c.fmt_inline.new.f ≡ string_bytes c.args.f.now ++ encode_utf8_all (block_head L (tree_head C 0 h))) c.requires.live
    (head_appended L g.A.AttrText.outlined g.A.AttrText.print_once g.A.PartialEq.eq g.A.IrText.written c.args.self.ctx.now c.args.block c.attributes.result.now (string_bytes c.args.f.now) (string_bytes c.fmt_block_label.new.f) (string_bytes c.fmt_arguments.new.f) (string_bytes c.fmt_inline.new.f) c.attributes.ensures c.in_ok-fmt_block_label.ensures.text c.in_ok-fmt_arguments.ensures.text p))
    c.fmt_inline.ensures.text
