use Rattle.std.proofs.Common.{◌≡◌, ◌∙◌, Some, sym, ap, string_bytes, option_map}
use Rattle.irtext_grammar.specs.Spelling.Locations.{known_text}
use Rattle.irtext_print.proofs.Printers.Appended.{then}
use Rattle.irtext_print.specs.Given.{printing_of, given_at, entry_of, attributes_of}
use Rattle.irtext_print.specs.Items.{language_of}
use Rattle.irtext_print.proofs.Lone.{gone, marked_alone, location_alone}
use Rattle.irtext_print.proofs.section.fmt_alone.Goals as goal

pub returns-in_default-clause-text : goal.returns-in_default-clause-text
returns-in_default-clause-text g c =
    gone (printing_of g.T.IrText g.A.IrText g.A.AttrText g.A.PartialEq.eq c.args.ctx.now) (language_of g.T.IrText g.A.IrText g.A.AttrText g.A.PartialEq.eq c.args.ctx.now) (given_at g.T.IrText g.A.IrText g.A.AttrText g.A.PartialEq.eq c.args.ctx.now c.args.item) (string_bytes c.args.f.now) (sym c.given_of.ensures ∙ ap (option_map (entry_of (printing_of g.T.IrText g.A.IrText g.A.AttrText g.A.PartialEq.eq c.args.ctx.now) g.A.IrText.written c.args.ctx.now g.A.AttrText.outlined)) c.in_default.is)

pub returns-then-has_attributes-clause-text : goal.returns-then-has_attributes-clause-text
returns-then-has_attributes-clause-text g c =
    let is : Some ((entry_of (printing_of g.T.IrText g.A.IrText g.A.AttrText g.A.PartialEq.eq c.args.ctx.now) g.A.IrText.written c.args.ctx.now g.A.AttrText.outlined) c.in-Some.given) ≡ (given_at g.T.IrText g.A.IrText g.A.AttrText g.A.PartialEq.eq c.args.ctx.now c.args.item) = ap (option_map (entry_of (printing_of g.T.IrText g.A.IrText g.A.AttrText g.A.PartialEq.eq c.args.ctx.now) g.A.IrText.written c.args.ctx.now g.A.AttrText.outlined)) (sym c.in-Some.is) ∙ c.given_of.ensures in
    then c.fmt_section.result (λ v. marked_alone (printing_of g.T.IrText g.A.IrText g.A.AttrText g.A.PartialEq.eq c.args.ctx.now) (language_of g.T.IrText g.A.IrText g.A.AttrText g.A.PartialEq.eq c.args.ctx.now) (given_at g.T.IrText g.A.IrText g.A.AttrText g.A.PartialEq.eq c.args.ctx.now c.args.item) (known_text g.A.IrText.written c.args.ctx.now.paths c.in-Some.given.location.now) (attributes_of g.A.AttrText.outlined c.in-Some.given) (string_bytes c.args.f.now) (string_bytes c.push_str.new.text) (string_bytes c.fmt_section.new.f)
    is (sym c.has_attributes.ensures ∙ c.if-has_attributes.true) c.in_ok-push_str.ensures.bytes v) c.fmt_section.ensures.text

pub returns-clause-text : goal.returns-clause-text
returns-clause-text g c =
    let is : Some ((entry_of (printing_of g.T.IrText g.A.IrText g.A.AttrText g.A.PartialEq.eq c.args.ctx.now) g.A.IrText.written c.args.ctx.now g.A.AttrText.outlined) c.in-Some.given) ≡ (given_at g.T.IrText g.A.IrText g.A.AttrText g.A.PartialEq.eq c.args.ctx.now c.args.item) = ap (option_map (entry_of (printing_of g.T.IrText g.A.IrText g.A.AttrText g.A.PartialEq.eq c.args.ctx.now) g.A.IrText.written c.args.ctx.now g.A.AttrText.outlined)) (sym c.in-Some.is) ∙ c.given_of.ensures in
    then c.fmt_located.result (λ w. location_alone (printing_of g.T.IrText g.A.IrText g.A.AttrText g.A.PartialEq.eq c.args.ctx.now) (language_of g.T.IrText g.A.IrText g.A.AttrText g.A.PartialEq.eq c.args.ctx.now) (given_at g.T.IrText g.A.IrText g.A.AttrText g.A.PartialEq.eq c.args.ctx.now c.args.item) (known_text g.A.IrText.written c.args.ctx.now.paths c.in-Some.given.location.now) (attributes_of g.A.AttrText.outlined c.in-Some.given) (string_bytes c.args.f.now) (string_bytes c.fmt_located.new.f)
    is (sym c.has_attributes.ensures ∙ c.if-has_attributes.false) w) c.fmt_located.ensures.text
