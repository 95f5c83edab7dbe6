use Rattle.std.proofs.Common.{◌++◌, ◌∙◌, codes, refl, sym, ap, option_copied, string_bytes}
use Rattle.std.specs.Str.{encode_utf8_all}
use Rattle.irtext_print.specs.Printers.PieceText.{symbol_text}
use Rattle.irtext_print.proofs.Printers.Locations.{worded}
use Rattle.irtext_print.proofs.Printers.PieceTexts.{identifier_appended}
use Rattle.irtext_print.proofs.ir.print.pieces.fmt_symbol.Goals as goal

pub returns-clause-text : goal.returns-clause-text
returns-clause-text g c =
    let old = string_bytes c.args.f.now in
    let name = c.in-Some.symbol.now in
    let written = identifier_appended name c.as_str.result.now (string_bytes c.push_str.new.text) (string_bytes c.push_str-2.new.text) c.as_str.ensures.fits c.as_str.ensures.text c.in_ok-push_str-2.ensures.bytes in
    worded old (string_bytes c.push_str.new.text) (string_bytes c.push_str-2.new.text) (codes " @") name refl c.in_ok-push_str.ensures.bytes written
    ∙ ap (λ o. old ++ encode_utf8_all (symbol_text o)) (sym (ap option_copied c.in-Some.is) ∙ c.symbol_of.ensures)
