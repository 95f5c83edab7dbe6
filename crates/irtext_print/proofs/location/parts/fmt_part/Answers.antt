use Rattle.std.proofs.Common.{◌∙◌, ◌++◌, ap, refl, cond, [], false, codes, arith, string_bytes}
use Rattle.irtext_grammar.specs.Spelling.Spell.{comma}
use Rattle.irtext_print.specs.Printers.LocationParts.{list_weight, part_text, part_weight, row_text}
use Rattle.irtext_print.specs.declared.location.parts.Part.TheVariants.{Whole, Row, Caller, Closing}
use Rattle.irtext_print.proofs.Printers.LocationParts.{comma_written, ended, entered, row_ends, row_goes_on, row_weighs}
use Rattle.irtext_print.proofs.Printers.Locations.{word}
use Rattle.irtext_print.proofs.location.parts.fmt_part.Goals as goal

pub returns-in_default-clause-text : goal.returns-in_default-clause-text
returns-in_default-clause-text g c =
    let row = row_text g.A.IrText.written c.args.ctx.now.paths c.in-Row.first c.in-Row.left.now in
    rw c.in-Row.is (ended g.A.IrText.written c.args.ctx.now.paths c.args.f.now c.push_str.new.text (codes "]") row (list_weight c.in-Row.left.now) c.args.waiting.now c.pop.new.self.items c.pop.result
    (c.in_ok-push_str-in-Row.ensures.bytes ∙ ap (λ z. string_bytes c.args.f.now ++ z) (word (codes "]") refl)) (row_ends g.A.IrText.written c.args.ctx.now.paths c.in-Row.first c.in-Row.left.now c.in_default.ensures.cases)
    (row_weighs c.in-Row.left.now) c.pop.ensures.items c.pop.ensures.variant)

pub returns-in_ok-fmt_comma-in-Row-clause-text : goal.returns-in_ok-fmt_comma-in-Row-clause-text
returns-in_ok-fmt_comma-in-Row-clause-text g c =
    let row = row_text g.A.IrText.written c.args.ctx.now.paths c.in-Row.first in
    rw c.in-Row.is (entered g.A.IrText.written c.args.ctx.now.paths c.inside.result c.args.f.now c.fmt_comma.new.f (cond c.in-Row.first [] comma) (row c.in-Row.left.now) (list_weight c.in-Row.left.now)
    c.args.waiting.now.items c.inside.new.waiting.items (Whole c.in-Some.location) (Row c.in-Some.others false) (comma_written c.in-Row.first (string_bytes c.args.f.now) (string_bytes c.fmt_comma.new.f) c.in_ok-fmt_comma-in-Row.ensures.text)
    (ap row c.in-Some.ensures.cases.0 ∙ row_goes_on g.A.IrText.written c.args.ctx.now.paths c.in-Row.first c.in-Some.location.now c.in-Some.others.now) (omega (arith, ap list_weight c.in-Some.ensures.cases.0)) c.inside.ensures.next c.inside.ensures.waiting)

pub returns-in_ok-push_str-in-Caller-clause-text : goal.returns-in_ok-push_str-in-Caller-clause-text
returns-in_ok-push_str-in-Caller-clause-text g c =
    rw c.in-Caller.is (entered g.A.IrText.written c.args.ctx.now.paths c.inside-in-Caller.result c.args.f.now c.push_str-in-Caller.new.text (codes " at ") (part_text g.A.IrText.written c.args.ctx.now.paths (Caller c.in-Caller.caller)) (part_weight (Caller c.in-Caller.caller))
    c.args.waiting.now.items c.inside-in-Caller.new.waiting.items (Whole c.in-Caller.caller) Closing (c.in_ok-push_str-in-Caller.ensures.bytes ∙ ap (λ z. string_bytes c.args.f.now ++ z) (word (codes " at ") refl)) refl (omega arith) c.inside-in-Caller.ensures.next c.inside-in-Caller.ensures.waiting)

pub returns-in_ok-push_str-in-Closing-clause-text : goal.returns-in_ok-push_str-in-Closing-clause-text
returns-in_ok-push_str-in-Closing-clause-text g c =
    rw c.in-Closing.is (ended g.A.IrText.written c.args.ctx.now.paths c.args.f.now c.push_str-in-Closing.new.text (codes ")") (part_text g.A.IrText.written c.args.ctx.now.paths Closing) 1
    c.args.waiting.now c.pop-in-Closing.new.self.items c.pop-in-Closing.result (c.in_ok-push_str-in-Closing.ensures.bytes ∙ ap (λ z. string_bytes c.args.f.now ++ z) (word (codes ")") refl)) refl (omega arith) c.pop-in-Closing.ensures.items c.pop-in-Closing.ensures.variant)
