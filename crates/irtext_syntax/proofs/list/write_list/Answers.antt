use Rattle.std.proofs.Common.{◌++◌, ◌∙◌, ap, string_bytes}
use Rattle.std.specs.Str.{encode_utf8_all}
use Rattle.irtext_syntax.specs.ListParts.{joined_text}
use Rattle.irtext_syntax.specs.PartSteps.{ascii_bytes}
use Rattle.irtext_syntax.proofs.ListWritten.{enclosed}
use Rattle.irtext_syntax.proofs.list.write_list.Goals as goal

pub returns-clause-text : goal.returns-clause-text
returns-clause-text g c =
    let b = g.B.Brackets in
    let law = g.met.B.Brackets.law in
    let old = string_bytes c.args.f.now in
    let begun = string_bytes c.push_str.new.text in
    let mid = string_bytes c.write_joined.new.f in
    enclosed b.opener_printed (joined_text g.B.Separated.separator g.P.Part.text.written c.args.items.now) b.closer_printed old begun mid (string_bytes c.push_str-2.new.text) (ascii_bytes b.opener_printed law.ascii_open) (ascii_bytes b.closer_printed law.ascii_close)
    (c.in_ok-push_str.ensures.bytes ∙ ap (λ z. old ++ z) c.printed_opening.ensures)
    (c.in_ok-write_joined.ensures.text ∙ ap (λ s. begun ++ encode_utf8_all (joined_text s g.P.Part.text.written c.args.items.now)) c.separator.ensures)
    (c.in_ok-push_str-2.ensures.bytes ∙ ap (λ z. mid ++ z) c.printed_closing.ensures)
