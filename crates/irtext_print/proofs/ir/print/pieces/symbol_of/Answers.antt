use Rattle.std.proofs.Common.{◌∙◌, None, Some, ap, sym, option_copied}
use Rattle.irtext_base.specs.Format.{sym_name_key}
use Rattle.irtext_print.specs.Printers.PieceText.{symbol_in}
use Rattle.irtext_print.proofs.Printers.PieceTexts.{found_under}
use Rattle.irtext_print.proofs.ir.print.pieces.symbol_of.Goals as goal

pub returns-in-Some : goal.returns-in-Some
returns-in-Some g c = c.ident_of.ensures ∙ ap symbol_in (sym (found_under sym_name_key c.args.attributes.now (option_copied c.attribute_under.result) (Some c.in-Some.attr.now) c.attribute_under.ensures (ap option_copied c.in-Some.is)))

pub returns-in-None : goal.returns-in-None
returns-in-None g c = ap symbol_in (sym (found_under sym_name_key c.args.attributes.now (option_copied c.attribute_under.result) None c.attribute_under.ensures (ap option_copied c.in-None.is)))
