use Rattle.std.proofs.Common.{◌≡◌, ◌++◌, ◌∙◌, None, Some, ap, sym, refl, codes, string_bytes, option_copied}
use Rattle.std.specs.Map as dictionary
use Rattle.std.specs.Str.{bytes_eq, encode_utf8_all}
use Rattle.irtext_grammar.specs.Graphs.Graph.{lookup}
use Rattle.irtext_print.specs.Printers.PieceText.{inline_text, inline_text_in, spaced_if}
use Rattle.irtext_grammar.specs.Contexts.Held.{attribute_of, entries_of}
use Rattle.irtext_print.proofs.Printers.Appended.{then}
use Rattle.irtext_print.proofs.Printers.Locations.{worded}
use Rattle.irtext_print.proofs.Printers.PieceTexts.{found_under, unchanged}
use Rattle.irtext_print.proofs.ir.print.pieces.fmt_keyed.Goals as goal

pub returns-in_default-clause-text : goal.returns-in_default-clause-text
returns-in_default-clause-text g c =
    unchanged (string_bytes c.args.f.now) ∙ ap (λ o. string_bytes c.args.f.now ++ encode_utf8_all (spaced_if (inline_text_in g.A.IrText.written g.A.AttrText.outlined o)))
    (sym (found_under c.args.key.now c.args.attributes.now (option_copied c.attribute_under.result) None (c.attribute_under.ensures ∙ ap (λ k. dictionary.lookup (bytes_eq k) c.args.attributes.now) c.as_str.ensures.text) (ap option_copied c.in_default.is)))

pub returns-clause-text : goal.returns-clause-text
returns-clause-text g c =
    let found : lookup c.args.key.now (entries_of c.args.attributes.now) ≡ Some (attribute_of c.in-Some.attr.now)
    = found_under c.args.key.now c.args.attributes.now (option_copied c.attribute_under.result) (Some c.in-Some.attr.now) (c.attribute_under.ensures ∙ ap (λ k. dictionary.lookup (bytes_eq k) c.args.attributes.now) c.as_str.ensures.text) (ap option_copied c.in-Some.is) in
    then c.fmt_inline.result
    (λ p. worded (string_bytes c.args.f.now) (string_bytes c.push_str.new.text) (string_bytes c.fmt_inline.new.f) (codes " ") (inline_text g.A.IrText.written g.A.AttrText.outlined (attribute_of c.in-Some.attr.now)) refl c.in_ok-push_str.ensures.bytes p
    ∙ ap (λ o. string_bytes c.args.f.now ++ encode_utf8_all (spaced_if (inline_text_in g.A.IrText.written g.A.AttrText.outlined o))) (sym found))
    c.fmt_inline.ensures.text
