use Rattle.std.proofs.Common.{◌≡◌, ◌∙◌, ◌++◌, ap, sym, codes, refl, string_bytes}
use Rattle.std.specs.Fmt.{decimal, signed_decimal}
use Rattle.std.specs.Str.{encode_utf8_all}
use Rattle.irtext_base.specs.declared.location.Location.TheVariants.{SrcPos}
use Rattle.irtext_base.specs.declared.location.Source.TheVariants.{InMemory}
use Rattle.irtext_print.specs.Entries.{location_front}
use Rattle.irtext_print.proofs.Lone.{memory_is, place_between}
use Rattle.irtext_print.proofs.Printers.Appended.{then}
use Rattle.irtext_print.proofs.entries.fmt_front.Goals as goal

pub returns-then-is_in_memory-clause-text : goal.returns-then-is_in_memory-clause-text
returns-then-is_in_memory-clause-text g c =
    let pos = c.in-SrcPos.pos in
    let front = string_bytes c.args.f.now ++ encode_utf8_all (codes "!" ++ decimal c.args.index) in
    let begun = front ++ codes " = @[<in-memory>: line: " in
    let numbers = begun ++ encode_utf8_all (signed_decimal pos.line ++ (codes ", column: " ++ signed_decimal pos.column)) in
    let memory : c.in-SrcPos.src ≡ InMemory = memory_is c.in-SrcPos.src (sym c.is_in_memory.ensures ∙ c.if-is_in_memory.true) in
    let is : SrcPos InMemory c.in-SrcPos.pos ≡ c.args.location.now = ap (λ s. SrcPos s c.in-SrcPos.pos) (sym memory) ∙ sym c.in-SrcPos.is in
    then c.fmt_memory_front.result (λ w. place_between g.A.IrText.written c.args.ctx.now.paths c.in-SrcPos.pos front begun numbers (string_bytes c.fmt_memory_front.new.f) refl refl w
    ∙ ap (λ l. location_front g.A.IrText.written c.args.ctx.now.paths l front) is) c.fmt_memory_front.ensures.text

pub returns-clause-text : goal.returns-clause-text
returns-clause-text g c =
    then c.fmt_entry_location.result (λ w. w ∙ ap (location_front g.A.IrText.written c.args.ctx.now.paths c.args.location.now) c.in_ok-fmt_index.ensures.text) c.fmt_entry_location.ensures.text
