use Rattle.std.proofs.Common.{◌∙◌, Some, refl, ap, string_bytes, length}
use Rattle.std.specs.Prelude.{⊤}
use Rattle.std.specs.Str.{chars}
use Rattle.irtext_base.specs.Format as format
use Rattle.irtext_base.specs.Format.{operand_places, successor_places}
use Rattle.irtext_context.proofs.Parts.{seen_is_live}
use Rattle.irtext_context.specs.Context.{ContextView}
use Rattle.irtext_graph.specs.Parts.{operands, successors}
use Rattle.irtext_base.specs.FormatViews.{directives_of}
use Rattle.irtext_grammar.specs.Graphs.Graph.{Printing}
use Rattle.irtext_base.specs.Own.{Language}
use Rattle.irtext_print.specs.Printers.PieceText.{spaced, word_text}
use Rattle.irtext_print.specs.Printers.PrintedOperation.{language_in}
use Rattle.irtext_print.proofs.Printers.PieceTexts.{unchanged}
use Rattle.irtext_print_ops.specs.Listed.{list_text}
use Rattle.irtext_print_ops.proofs.ItemTexts.{has_name, some_at}
use Rattle.irtext_print_ops.specs.Names.{label_text, operand_text, printing_by}
use Rattle.irtext_print_ops.specs.declared.lists.Listed.TheVariants.{Operands, Successors}
use Rattle.irtext_print_ops.proofs.PartTexts.{attribute_is, dictionary_is, header_is, operand_is, operands_are, successor_is, successors_are, type_is, part_appended, part_written, attributes_written, uses_defined}
use Rattle.irtext_print_ops.proofs.printer.Printer.fmt_part.Given as given
use Rattle.irtext_print_ops.proofs.printer.Printer.fmt_part.Goals as goal

-- the texts of the caller's types and attributes
abbrev language : (g : given.Over) → ContextView g.row.T.Denot g.row.A.Denot → Language ⊤ g.row.T.Denot g.row.A.Denot
language g ctx = language_in g.T.IrText g.A.IrText ctx

-- the context, for printing
abbrev printing : (g : given.Over) → ContextView g.row.T.Denot g.row.A.Denot → Printing g.row.T.Denot g.row.A.Denot
printing g ctx = printing_by g.A.AttrText g.A.PartialEq.eq ctx

pub returns-in-Literal-clause-text : goal.returns-in-Literal-clause-text
returns-in-Literal-clause-text g c = part_written (language g c.args.self.ctx.now) (printing g c.args.self.ctx.now) (directives_of c.args.directives.now) g.A.IrText.written c.args.self.ctx.now c.args.op c.fmt_word.result (string_bytes c.args.f.now) (string_bytes c.fmt_word.new.f) c.in-Literal.is c.fmt_word.ensures.text
    (λ view e. ap (λ w. word_text (chars w)) c.as_str.ensures.value)

pub fmt_item_at-requires : goal.fmt_item_at-requires
fmt_item_at-requires g c =
    let ctx = c.args.self.ctx.now in
    record {
      live = seen_is_live ctx c.args.op c.requires.live;
      text = some_at (operand_text ctx) (operands ctx.graph c.args.op) c.in-Operand.index (λ v e. has_name g.T.IrText.written ctx v (c.keeps_operands.ensures c.in-Operand.index v e));
    }

pub fmt_item_at-requires-in-Successor : goal.fmt_item_at-requires-in-Successor
fmt_item_at-requires-in-Successor g c =
    let ctx = c.args.self.ctx.now in
    record {
      live = seen_is_live ctx c.args.op c.requires.live;
      text = some_at (λ b. Some (label_text ctx b)) (successors ctx.graph c.args.op) c.in-Successor.index (λ b e. refl);
    }

pub returns-in-Operand-clause-text : goal.returns-in-Operand-clause-text
returns-in-Operand-clause-text g c = part_written (language g c.args.self.ctx.now) (printing g c.args.self.ctx.now) (directives_of c.args.directives.now) g.A.IrText.written c.args.self.ctx.now c.args.op c.fmt_item_at.result (string_bytes c.args.f.now) (string_bytes c.fmt_item_at.new.f) c.in-Operand.is c.fmt_item_at.ensures.text
    (λ view e. operand_is (language g c.args.self.ctx.now) c.args.self.ctx.now c.args.op (uses_defined c.args.self.ctx.now c.args.op c.keeps_operands.ensures) c.in-Operand.index)

pub returns-in-Successor-clause-text : goal.returns-in-Successor-clause-text
returns-in-Successor-clause-text g c = part_written (language g c.args.self.ctx.now) (printing g c.args.self.ctx.now) (directives_of c.args.directives.now) g.A.IrText.written c.args.self.ctx.now c.args.op c.fmt_item_at-in-Successor.result (string_bytes c.args.f.now) (string_bytes c.fmt_item_at-in-Successor.new.f) c.in-Successor.is c.fmt_item_at-in-Successor.ensures.text
    (λ view e. successor_is (language g c.args.self.ctx.now) c.args.self.ctx.now c.args.op c.in-Successor.index)

pub returns-in-ResultType-clause-text : goal.returns-in-ResultType-clause-text
returns-in-ResultType-clause-text g c = part_written (language g c.args.self.ctx.now) (printing g c.args.self.ctx.now) (directives_of c.args.directives.now) g.A.IrText.written c.args.self.ctx.now c.args.op c.fmt_result_type_at.result (string_bytes c.args.f.now) (string_bytes c.fmt_result_type_at.new.f) c.in-ResultType.is c.fmt_result_type_at.ensures.text
    (λ view e. type_is (language g c.args.self.ctx.now) c.args.self.ctx.now c.args.op c.in-ResultType.index)

pub returns-in-Operands-clause-text : goal.returns-in-Operands-clause-text
returns-in-Operands-clause-text g c = part_written (language g c.args.self.ctx.now) (printing g c.args.self.ctx.now) (directives_of c.args.directives.now) g.A.IrText.written c.args.self.ctx.now c.args.op c.fmt_spaced.result (string_bytes c.args.f.now) (string_bytes c.fmt_spaced.new.f) c.in-Operands.is c.fmt_spaced.ensures.text
    (λ view e. ap (λ n. spaced (list_text g.T.IrText.written c.args.self.ctx.now (Operands c.args.op) n)) c.count_operands.ensures
    ∙ operands_are (language g c.args.self.ctx.now) c.args.self.ctx.now c.args.op (uses_defined c.args.self.ctx.now c.args.op c.keeps_operands.ensures) (length (operand_places (directives_of c.args.directives.now))))

pub returns-in-Successors-clause-text : goal.returns-in-Successors-clause-text
returns-in-Successors-clause-text g c = part_written (language g c.args.self.ctx.now) (printing g c.args.self.ctx.now) (directives_of c.args.directives.now) g.A.IrText.written c.args.self.ctx.now c.args.op c.fmt_spaced-in-Successors.result (string_bytes c.args.f.now) (string_bytes c.fmt_spaced-in-Successors.new.f) c.in-Successors.is c.fmt_spaced-in-Successors.ensures.text
    (λ view e. ap (λ n. spaced (list_text g.T.IrText.written c.args.self.ctx.now (Successors c.args.op) n)) c.count_successors.ensures
    ∙ successors_are (language g c.args.self.ctx.now) c.args.self.ctx.now c.args.op (length (successor_places (directives_of c.args.directives.now))))

pub returns-in-Attr-clause-text : goal.returns-in-Attr-clause-text
returns-in-Attr-clause-text g c = part_written (language g c.args.self.ctx.now) (printing g c.args.self.ctx.now) (directives_of c.args.directives.now) g.A.IrText.written c.args.self.ctx.now c.args.op c.fmt_keyed.result (string_bytes c.args.f.now) (string_bytes c.fmt_keyed.new.f) c.in-Attr.is c.fmt_keyed.ensures.text
    (attributes_written (language g c.args.self.ctx.now) (printing g c.args.self.ctx.now) (directives_of c.args.directives.now) g.A.IrText.written c.args.self.ctx.now c.args.op (format.attribute c.in-Attr.key) c.attributes.result.now c.attributes.ensures
    (λ o. attribute_is (language g c.args.self.ctx.now) (printing g c.args.self.ctx.now) (directives_of c.args.directives.now) o c.in-Attr.key))

pub returns-in-AttrDict-clause-text : goal.returns-in-AttrDict-clause-text
returns-in-AttrDict-clause-text g c = part_written (language g c.args.self.ctx.now) (printing g c.args.self.ctx.now) (directives_of c.args.directives.now) g.A.IrText.written c.args.self.ctx.now c.args.op c.fmt_dictionary.result (string_bytes c.args.f.now) (string_bytes c.fmt_dictionary.new.f) c.in-AttrDict.is c.fmt_dictionary.ensures.text
    (attributes_written (language g c.args.self.ctx.now) (printing g c.args.self.ctx.now) (directives_of c.args.directives.now) g.A.IrText.written c.args.self.ctx.now c.args.op format.dictionary c.attributes-in-AttrDict.result.now c.attributes-in-AttrDict.ensures
    (dictionary_is (language g c.args.self.ctx.now) (printing g c.args.self.ctx.now) (directives_of c.args.directives.now)))

pub returns-in-SymbolHeader-clause-text : goal.returns-in-SymbolHeader-clause-text
returns-in-SymbolHeader-clause-text g c = part_written (language g c.args.self.ctx.now) (printing g c.args.self.ctx.now) (directives_of c.args.directives.now) g.A.IrText.written c.args.self.ctx.now c.args.op c.fmt_symbol.result (string_bytes c.args.f.now) (string_bytes c.fmt_symbol.new.f) c.in-SymbolHeader.is c.fmt_symbol.ensures.text
    (attributes_written (language g c.args.self.ctx.now) (printing g c.args.self.ctx.now) (directives_of c.args.directives.now) g.A.IrText.written c.args.self.ctx.now c.args.op format.header c.attributes-in-SymbolHeader.result.now c.attributes-in-SymbolHeader.ensures
    (header_is (language g c.args.self.ctx.now) (printing g c.args.self.ctx.now) (directives_of c.args.directives.now)))

pub returns-in-Region-clause-text : goal.returns-in-Region-clause-text
returns-in-Region-clause-text g c = part_appended (language g c.args.self.ctx.now) (printing g c.args.self.ctx.now) (directives_of c.args.directives.now) g.A.IrText.written c.args.self.ctx.now c.args.op (string_bytes c.args.f.now) (string_bytes c.args.f.now) c.in-Region.is (unchanged (string_bytes c.args.f.now)) (λ view e. refl)

pub returns-in-Regions-clause-text : goal.returns-in-Regions-clause-text
returns-in-Regions-clause-text g c = part_appended (language g c.args.self.ctx.now) (printing g c.args.self.ctx.now) (directives_of c.args.directives.now) g.A.IrText.written c.args.self.ctx.now c.args.op (string_bytes c.args.f.now) (string_bytes c.args.f.now) c.in-Regions.is (unchanged (string_bytes c.args.f.now)) (λ view e. refl)
