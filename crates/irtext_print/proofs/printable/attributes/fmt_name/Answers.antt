use Rattle.std.proofs.Common.{◌∙◌, ◌++◌, sym, ap, string_bytes}
use Rattle.std.specs.Str.{encode_utf8_all}
use Rattle.irtext_grammar.specs.Spelling.Spell.{or_question}
use Rattle.irtext_grammar.proofs.Lists.Ascii.{encodes-ascii, ascii-identifier}
use Rattle.irtext_print.proofs.printable.attributes.fmt_name.Goals as goal

pub returns-in_ok-push_str-in-Some-clause-text : goal.returns-in_ok-push_str-in-Some-clause-text
returns-in_ok-push_str-in-Some-clause-text c =
    let bytes = encodes-ascii c.in-Some.name (ascii-identifier c.in-Some.name c.as_str.ensures.fits) in
    c.in_ok-push_str-in-Some.ensures.bytes ∙ ap (λ z. string_bytes c.args.f.now ++ z) (c.as_str.ensures.text ∙ (sym bytes ∙ ap (λ o. encode_utf8_all (or_question o)) (sym c.in-Some.is)))
