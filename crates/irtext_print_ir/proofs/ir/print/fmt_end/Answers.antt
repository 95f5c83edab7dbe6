use Rattle.std.proofs.Common.{◌≡◌, ◌∙◌, ◌++◌, List, [], sym, ap, string_bytes, length, true}
use Rattle.std.specs.Str.{encode_utf8_all}
use Rattle.irtext_print.proofs.Printers.Appended.{then}
use Rattle.irtext_print.proofs.Printers.Locations.{more}
use Rattle.irtext_print.specs.Printers.Printing.{gathered_of, with_gathered}
use Rattle.irtext_print_ir.specs.Printers.Printed.{end_text}
use Rattle.irtext_print_ir.proofs.Printers.Ends.{alone_ends, none_gathered, at_success}
use Rattle.irtext_print_ir.proofs.Printers.Gathered.{rests, rests_put}
use Rattle.irtext_base.specs.Text.{Text}
use Rattle.irtext_context.specs.declared.base.item.Item.{Item}
use Rattle.irtext_print.specs.Items.{section_at}
use Rattle.irtext_print_ops.specs.Heads as heads
use Rattle.irtext_print_ir.proofs.ir.print.fmt_end.Goals as goal

pub returns-then-not-has_gathered-clause-text : goal.returns-then-not-has_gathered-clause-text
returns-then-not-has_gathered-clause-text g c =
    let none : gathered_of c.args.state.now ≡ [] = none_gathered (gathered_of c.args.state.now) c.has_gathered.result c.has_gathered.ensures (search) in
    then c.print_alone.result (λ w. w ∙ (ap (λ z. string_bytes c.args.f.now ++ encode_utf8_all z) (alone_ends g.T.IrText g.A.IrText g.A.AttrText g.A.PartialEq.eq c.args.ctx.now c.args.op c.requires.live)
    ∙ ap (λ z. string_bytes c.args.f.now ++ encode_utf8_all (end_text g.T.IrText g.A.IrText g.A.AttrText g.A.PartialEq.eq c.args.ctx.now c.args.op z)) (sym none))) c.print_alone.ensures.text

pub returns-then-not-has_gathered-clause-state : goal.returns-then-not-has_gathered-clause-state
returns-then-not-has_gathered-clause-state g c =
    let none : gathered_of c.args.state.now ≡ [] = none_gathered (gathered_of c.args.state.now) c.has_gathered.result c.has_gathered.ensures (search) in
    at_success c.print_alone.result (ap (λ z. with_gathered c.args.state.now z) none)

pub returns-in-Ok-clause-text : goal.returns-in-Ok-clause-text
returns-in-Ok-clause-text g c =
    let gs = gathered_of c.args.state.now in
    let old = string_bytes c.args.f.now in
    let mid = string_bytes c.end_operation.new.f in
    let new = string_bytes c.print_section.new.f in
    let own = heads.own_items_at g.T.IrText g.A.IrText g.A.AttrText g.A.PartialEq.eq c.args.ctx.now c.args.op true in
    let mark : List Item → Text = λ xs. heads.own_mark_at g.T.IrText g.A.IrText g.A.AttrText g.A.PartialEq.eq c.args.ctx.now c.args.op true (length xs) in
    let all = c.deref.ensures.value ∙ c.in-Ok.ensures.items ∙ ap (λ xs. xs ++ own) c.take_gathered-items.ensures.taken in
    then c.print_section.result (λ w. more old mid new (mark gs) (section_at g.T.IrText g.A.IrText g.A.AttrText g.A.PartialEq.eq c.args.ctx.now (gs ++ own))
    (c.in-Ok.ensures.text ∙ ap (λ xs. old ++ encode_utf8_all (mark xs)) c.take_gathered-items.ensures.taken)
    (w ∙ ap (λ xs. mid ++ encode_utf8_all (section_at g.T.IrText g.A.IrText g.A.AttrText g.A.PartialEq.eq c.args.ctx.now xs)) all)) c.print_section.ensures.text

pub returns-in-Ok-clause-state : goal.returns-in-Ok-clause-state
returns-in-Ok-clause-state g c = at_success c.print_section.result c.take_gathered-items.ensures.left

pub returns-in-Ok-clause-rest : goal.returns-in-Ok-clause-rest
returns-in-Ok-clause-rest g c = rests c.args.state.now c.take_gathered-items.new.state [] c.take_gathered-items.ensures.left

pub returns-in-Err-clause-rest : goal.returns-in-Err-clause-rest
returns-in-Err-clause-rest g c = rests_put c.args.state.now c.take_gathered-items.new.state c.put_gathered.new.state c.end_operation.new.items.items c.take_gathered-items.ensures.left c.put_gathered.ensures
