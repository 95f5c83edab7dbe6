use Rattle.std.proofs.Common.{◌∙◌, sym, ap}
use Rattle.std.specs.Str.{bytes_eq}
use Rattle.irtext_base.specs.FormatViews.{directive_of}
use Rattle.irtext_base.specs.Format.{sym_name_key}
use Rattle.irtext_format_check.proofs.Formats.{same_text_bytes}
use Rattle.irtext_print.specs.Printers.PieceText.{names_key}
use Rattle.irtext_print.proofs.ir.print.pieces.names_key.Goals as goal

pub returns-in-Attr : goal.returns-in-Attr
returns-in-Attr c = c.eq.ensures ∙ ap (bytes_eq c.args.key.now) c.as_str.ensures.text ∙ sym (same_text_bytes c.args.key.now c.in-Attr.named) ∙ ap (λ d. names_key c.args.key.now (directive_of d)) (sym c.in-Attr.is)

pub returns-in-SymbolHeader : goal.returns-in-SymbolHeader
returns-in-SymbolHeader c = c.eq-in-SymbolHeader.ensures ∙ sym (same_text_bytes c.args.key.now sym_name_key) ∙ ap (λ d. names_key c.args.key.now (directive_of d)) (sym c.in-SymbolHeader.is)
