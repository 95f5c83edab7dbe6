use Rattle.std.proofs.Common.{◌∙◌, ◌++◌, codes, map, refl, sym, ap, string_bytes}
use Rattle.std.specs.Str.{encode_utf8_all}
use Rattle.irtext_base.specs.Locations.{attr_view}
use Rattle.irtext_grammar.specs.Spelling.AttrText.{attr_text}
use Rattle.irtext_grammar.specs.Spelling.Spell.{joined, comma, or_question}
use Rattle.irtext_grammar.proofs.Lists.Ascii.{ascii-from, ascii-identifier}
use Rattle.irtext_print.proofs.Printers.AttrTexts.{bytes_more, word_more, word_last}
use Rattle.irtext_print.proofs.printable.attributes.fmt_attr.Goals as goal

pub returns-in_ok-push_str-in-GivenNames-2-clause-text : goal.returns-in_ok-push_str-in-GivenNames-2-clause-text
returns-in_ok-push_str-in-GivenNames-2-clause-text g c =
    let old = string_bytes c.args.f.now in
    let names = joined comma (map or_question c.in-GivenNames.names.items) in
    let last = word_last _ _ (codes "]") (codes "]") (ascii-from (codes "]") refl) refl c.in_ok-push_str-in-GivenNames-2.ensures.bytes in
    let written = c.in_ok-fmt_names-in-GivenNames.ensures.text ∙ ap (λ z. string_bytes c.push_str.new.text ++ encode_utf8_all (joined comma (map or_question z))) c.deref.ensures.value in
    let inside = bytes_more _ _ _ names (codes "]") written last in
    word_more old _ _ (codes "builtin.given_names [") (names ++ codes "]") (ascii-from (codes "builtin.given_names [") refl) c.in_ok-push_str-in-GivenNames.ensures.bytes inside
    ∙ ap (λ a. old ++ encode_utf8_all (attr_text g.A.IrText.written (attr_view a))) (sym c.in-GivenNames.is)

pub returns-in_ok-push_str-in-Ident-2-clause-text : goal.returns-in_ok-push_str-in-Ident-2-clause-text
returns-in_ok-push_str-in-Ident-2-clause-text g c =
    let old = string_bytes c.args.f.now in
    let name = c.in-Ident.name in
    let last = word_last _ _ name c.as_str.result.now (ascii-identifier name c.as_str.ensures.fits) c.as_str.ensures.text c.in_ok-push_str-in-Ident-2.ensures.bytes in
    word_more old _ _ (codes "builtin.identifier ") name (ascii-from (codes "builtin.identifier ") refl) c.in_ok-push_str-in-Ident.ensures.bytes last
    ∙ ap (λ a. old ++ encode_utf8_all (attr_text g.A.IrText.written (attr_view a))) (sym c.in-Ident.is)
