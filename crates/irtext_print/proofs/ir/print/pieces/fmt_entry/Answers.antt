use Rattle.std.proofs.Common.{◌≡◌, ◌++◌, ◌∙◌, [], cond, codes, refl, sym, ap, string_bytes}
use Rattle.std.proofs.lemmas.List.{append-nil}
use Rattle.std.specs.Str.{encode_utf8_all}
use Rattle.irtext_print.specs.Printers.PieceText.{words}
use Rattle.irtext_grammar.specs.Spelling.Spell.{attribute, comma}
use Rattle.irtext_grammar.specs.Contexts.Held.{attribute_of}
use Rattle.irtext_print.proofs.Printers.Appended.{then}
use Rattle.irtext_print.proofs.Printers.Locations.{worded, more}
use Rattle.irtext_print.proofs.Printers.PieceTexts.{identifier_appended, comma_ascii, attribute_text}
use Rattle.irtext_print.proofs.ir.print.pieces.fmt_entry.Goals as goal
use Rattle.irtext_print.proofs.ir.print.pieces.fmt_entry.Goals.{then-not-first+in_ok-push_str, else-not-first}

pub returns-clause-text : goal.returns-clause-text
returns-clause-text g c =
    let old = string_bytes c.args.f.now in
    let begun = string_bytes c.if-not-first.f in
    let new = string_bytes c.fmt_attr.new.f in
    let key = c.args.key.now in
    let value = attribute (words g.A.IrText.written) (attribute_of c.args.attr.now) in
    let before : begun ≡ old ++ cond c.args.first [] comma = elim c.if-not-first.branch [
      | then-not-first+in_ok-push_str w ↦ ap string_bytes w.f-is ∙ w.in_ok-push_str.ensures.bytes ∙ ap (λ b. old ++ cond b [] comma) (sym w.if-not-first.true)
      | else-not-first w ↦ ap string_bytes w.f-is ∙ sym (append-nil old) ∙ ap (λ b. old ++ cond b [] comma) (sym w.if-not-first.false)
    ] in
    let named = identifier_appended key c.as_str.result.now begun (string_bytes c.push_str-2.new.text) c.as_str.ensures.fits c.as_str.ensures.text c.in_ok-push_str-2.ensures.bytes in
    then c.fmt_attr.result
    (λ p. worded old begun new (cond c.args.first [] comma) (key ++ (codes ": " ++ value)) (comma_ascii c.args.first) before
    (more begun (string_bytes c.push_str-2.new.text) new key (codes ": " ++ value) named
    (worded (string_bytes c.push_str-2.new.text) (string_bytes c.push_str-3.new.text) new (codes ": ") value refl c.in_ok-push_str-3.ensures.bytes (p ∙ ap (λ z. string_bytes c.push_str-3.new.text ++ encode_utf8_all z) (attribute_text g.A.IrText.written c.args.attr.now)))))
    c.fmt_attr.ensures.text
