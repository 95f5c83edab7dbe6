use Rattle.std.proofs.Common.{◌<◌, length, refl, subst, Some}
use Rattle.irtext_graph.specs.Parts.{operands, successors, results, arguments}
use Rattle.irtext_print_ops.specs.Listed.{operand_type_text, texts_of, typed_text}
use Rattle.irtext_print_ops.specs.Names.{operand_text, label_text}
use Rattle.irtext_print_ops.specs.declared.lists.Facet.TheVariants as facet
use Rattle.irtext_print_ops.proofs.ItemTexts.{found_at, has_name, index_in, item_followed, item_left, item_shown, item_text, item_there, operand_at, operand_type_at, successor_at}
use Rattle.irtext_print_ops.proofs.printer.Printer.fmt_item.Goals as goal

pub operand-requires-clause-within : goal.operand-requires-clause-within
operand-requires-clause-within g c =
    let ctx = c.args.self.ctx.now in
    index_in (operand_text ctx) (operands ctx.graph c.in-Operands.op) c.args.index (subst (λ l. c.args.index < length (texts_of g.T.IrText.written ctx l)) c.in-Operands.is c.requires.within)

pub successor-requires-clause-within : goal.successor-requires-clause-within
successor-requires-clause-within g c =
    let ctx = c.args.self.ctx.now in
    index_in (λ b. Some (label_text ctx b)) (successors ctx.graph c.in-Successors.op) c.args.index (subst (λ l. c.args.index < length (texts_of g.T.IrText.written ctx l)) c.in-Successors.is c.requires.within)

pub operand-requires-in-OperandTypes-clause-within : goal.operand-requires-in-OperandTypes-clause-within
operand-requires-in-OperandTypes-clause-within g c =
    let ctx = c.args.self.ctx.now in
    index_in (operand_type_text g.T.IrText.written ctx) (operands ctx.graph c.in-OperandTypes.op) c.args.index (subst (λ l. c.args.index < length (texts_of g.T.IrText.written ctx l)) c.in-OperandTypes.is c.requires.within)

pub fmt_typed-requires : goal.fmt_typed-requires
fmt_typed-requires g c =
    let ctx = c.args.self.ctx.now in
    item_there (typed_text g.T.IrText.written ctx facet.Name) (results ctx.graph c.in-Results.op) c.args.index (subst (λ l. c.args.index < length (texts_of g.T.IrText.written ctx l)) c.in-Results.is c.requires.within)

pub fmt_typed-requires-in-ResultTypes : goal.fmt_typed-requires-in-ResultTypes
fmt_typed-requires-in-ResultTypes g c =
    let ctx = c.args.self.ctx.now in
    item_there (typed_text g.T.IrText.written ctx facet.Type) (results ctx.graph c.in-ResultTypes.op) c.args.index (subst (λ l. c.args.index < length (texts_of g.T.IrText.written ctx l)) c.in-ResultTypes.is c.requires.within)

pub fmt_typed-requires-in-Arguments : goal.fmt_typed-requires-in-Arguments
fmt_typed-requires-in-Arguments g c =
    let ctx = c.args.self.ctx.now in
    item_there (typed_text g.T.IrText.written ctx facet.Both) (arguments ctx.graph c.in-Arguments.block) c.args.index (subst (λ l. c.args.index < length (texts_of g.T.IrText.written ctx l)) c.in-Arguments.is c.requires.within)

pub returns-in_ok-fmt_operand-in-Operands-clause-text : goal.returns-in_ok-fmt_operand-in-Operands-clause-text
returns-in_ok-fmt_operand-in-Operands-clause-text g c = item_shown g.T.IrText.written c.args.self.ctx.now c.args.index c.in-Operands.is (operand_at g.T.IrText.written c.args.self.ctx.now c.in-Operands.op c.args.index c.operand.result c.operand.ensures.value) c.args.first c.args.f.now c.fmt_operand.new.f c.in_ok-fmt_operand-in-Operands.ensures.text

pub returns-in_ok-fmt_operand-in-Operands-clause-left : goal.returns-in_ok-fmt_operand-in-Operands-clause-left
returns-in_ok-fmt_operand-in-Operands-clause-left g c = item_followed g.T.IrText.written c.args.self.ctx.now c.args.index c.in-Operands.is (operand_at g.T.IrText.written c.args.self.ctx.now c.in-Operands.op c.args.index c.operand.result c.operand.ensures.value) c.args.first (has_name g.T.IrText.written c.args.self.ctx.now c.operand.result c.operand.ensures.there)

pub returns-in_ok-fmt_successor-in-Successors-clause-text : goal.returns-in_ok-fmt_successor-in-Successors-clause-text
returns-in_ok-fmt_successor-in-Successors-clause-text g c = item_shown g.T.IrText.written c.args.self.ctx.now c.args.index c.in-Successors.is (successor_at g.T.IrText.written c.args.self.ctx.now c.in-Successors.op c.args.index c.successor.result c.successor.ensures.value) c.args.first c.args.f.now c.fmt_successor.new.f c.in_ok-fmt_successor-in-Successors.ensures.text

pub returns-in_ok-fmt_successor-in-Successors-clause-left : goal.returns-in_ok-fmt_successor-in-Successors-clause-left
returns-in_ok-fmt_successor-in-Successors-clause-left g c = item_followed g.T.IrText.written c.args.self.ctx.now c.args.index c.in-Successors.is (successor_at g.T.IrText.written c.args.self.ctx.now c.in-Successors.op c.args.index c.successor.result c.successor.ensures.value) c.args.first refl

pub returns-in-OperandTypes : goal.returns-in-OperandTypes
returns-in-OperandTypes g c = record { text = item_text g.T.IrText.written c.args.self.ctx.now c.args.index c.in-OperandTypes.is (operand_type_at g.T.IrText.written c.args.self.ctx.now c.in-OperandTypes.op c.args.index c.operand-in-OperandTypes.result c.operand-in-OperandTypes.ensures.value) c.args.first c.fmt_operand_type.result c.args.f.now c.fmt_operand_type.new.f c.fmt_operand_type.ensures.text; left = item_left g.T.IrText.written c.args.self.ctx.now c.args.index c.in-OperandTypes.is (operand_type_at g.T.IrText.written c.args.self.ctx.now c.in-OperandTypes.op c.args.index c.operand-in-OperandTypes.result c.operand-in-OperandTypes.ensures.value) c.args.first c.fmt_operand_type.result c.fmt_operand_type.ensures.left; appended = c.fmt_operand_type.ensures.appended }

pub returns-in-Results : goal.returns-in-Results
returns-in-Results g c = record { text = item_text g.T.IrText.written c.args.self.ctx.now c.args.index c.in-Results.is (found_at (typed_text g.T.IrText.written c.args.self.ctx.now facet.Name) (results c.args.self.ctx.now.graph c.in-Results.op) c.args.index) c.args.first c.fmt_typed.result c.args.f.now c.fmt_typed.new.f c.fmt_typed.ensures.text; left = item_left g.T.IrText.written c.args.self.ctx.now c.args.index c.in-Results.is (found_at (typed_text g.T.IrText.written c.args.self.ctx.now facet.Name) (results c.args.self.ctx.now.graph c.in-Results.op) c.args.index) c.args.first c.fmt_typed.result c.fmt_typed.ensures.left; appended = c.fmt_typed.ensures.appended }

pub returns-in-ResultTypes : goal.returns-in-ResultTypes
returns-in-ResultTypes g c = record { text = item_text g.T.IrText.written c.args.self.ctx.now c.args.index c.in-ResultTypes.is (found_at (typed_text g.T.IrText.written c.args.self.ctx.now facet.Type) (results c.args.self.ctx.now.graph c.in-ResultTypes.op) c.args.index) c.args.first c.fmt_typed-in-ResultTypes.result c.args.f.now c.fmt_typed-in-ResultTypes.new.f c.fmt_typed-in-ResultTypes.ensures.text; left = item_left g.T.IrText.written c.args.self.ctx.now c.args.index c.in-ResultTypes.is (found_at (typed_text g.T.IrText.written c.args.self.ctx.now facet.Type) (results c.args.self.ctx.now.graph c.in-ResultTypes.op) c.args.index) c.args.first c.fmt_typed-in-ResultTypes.result c.fmt_typed-in-ResultTypes.ensures.left; appended = c.fmt_typed-in-ResultTypes.ensures.appended }

pub returns-in-Arguments : goal.returns-in-Arguments
returns-in-Arguments g c = record { text = item_text g.T.IrText.written c.args.self.ctx.now c.args.index c.in-Arguments.is (found_at (typed_text g.T.IrText.written c.args.self.ctx.now facet.Both) (arguments c.args.self.ctx.now.graph c.in-Arguments.block) c.args.index) c.args.first c.fmt_typed-in-Arguments.result c.args.f.now c.fmt_typed-in-Arguments.new.f c.fmt_typed-in-Arguments.ensures.text; left = item_left g.T.IrText.written c.args.self.ctx.now c.args.index c.in-Arguments.is (found_at (typed_text g.T.IrText.written c.args.self.ctx.now facet.Both) (arguments c.args.self.ctx.now.graph c.in-Arguments.block) c.args.index) c.args.first c.fmt_typed-in-Arguments.result c.fmt_typed-in-Arguments.ensures.left; appended = c.fmt_typed-in-Arguments.ensures.appended }
