use Rattle.std.proofs.Common.{◌≡◌, ◌∙◌, ◌++◌, ap, sym, codes, string_bytes}
use Rattle.irtext_base.specs.declared.location.Location.TheVariants.{SrcPos}
use Rattle.irtext_base.specs.declared.location.Source.TheVariants.{InMemory}
use Rattle.irtext_grammar.specs.Spelling.Locations.{known_text}
use Rattle.irtext_print.specs.Errors.Located.{framed}
use Rattle.irtext_print.proofs.Lone.{memory_is, place_alone}
use Rattle.irtext_print.proofs.section.fmt_located.Goals as goal

pub returns-then-is_in_memory-clause-text : goal.returns-then-is_in_memory-clause-text
returns-then-is_in_memory-clause-text g c =
    let memory : c.in-SrcPos.src ≡ InMemory = memory_is c.in-SrcPos.src (sym c.is_in_memory.ensures ∙ c.if-is_in_memory.true) in
    let is : SrcPos InMemory c.in-SrcPos.pos ≡ c.args.location.now = ap (λ s. SrcPos s c.in-SrcPos.pos) (sym memory) ∙ sym c.in-SrcPos.is in
    place_alone g.A.IrText.written c.args.ctx.now.paths c.in-SrcPos.pos (string_bytes c.args.f.now) (string_bytes c.push_str.new.text) (string_bytes c.fmt_numbers.new.f) (string_bytes c.push_str-then-is_in_memory.new.text)
    c.in_ok-push_str.ensures.bytes c.in_ok-fmt_numbers.ensures.text c.in_ok-push_str-2.ensures.bytes
    ∙ ap (λ l. string_bytes c.args.f.now ++ framed (codes " !0\n\noutlined_attributes:\n!0 = @[") (codes "], []\n") (known_text g.A.IrText.written c.args.ctx.now.paths l)) is
