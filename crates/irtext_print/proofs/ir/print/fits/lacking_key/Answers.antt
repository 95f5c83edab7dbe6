use Rattle.std.proofs.Common.{◌∙◌, sym, ap, Some, None, cond, is_some, option_copied}
use Rattle.std.specs.Map as dictionary
use Rattle.std.specs.Str.{bytes_eq}
use Rattle.irtext_base.specs.FormatViews.{directive_of}
use Rattle.irtext_grammar.specs.Contexts.Held.{entries_of}
use Rattle.irtext_print.specs.Printers.FitFaults.{lacking_key}
use Rattle.irtext_print.proofs.Printers.PieceTexts.{found_under}
use Rattle.irtext_print.proofs.ir.print.fits.lacking_key.Goals as goal

pub returns-in-Some : goal.returns-in-Some
returns-in-Some g c =
    ap (λ o. cond (is_some o) None (Some c.in-Attr.key)) (sym (found_under c.in-Attr.key c.args.attributes.now (option_copied c.attribute_under.result) (Some c.in-Some.field-0.now) (c.attribute_under.ensures ∙ ap (λ k. dictionary.lookup (bytes_eq k) c.args.attributes.now) c.as_str.ensures.text) (ap option_copied c.in-Some.is)))
    ∙ ap (λ d. lacking_key (entries_of c.args.attributes.now) (directive_of d)) (sym c.in-Attr.is)

pub returns-in-None : goal.returns-in-None
returns-in-None g c =
    ap (λ o. cond (is_some o) None (Some c.in-Attr.key)) (sym (found_under c.in-Attr.key c.args.attributes.now (option_copied c.attribute_under.result) None (c.attribute_under.ensures ∙ ap (λ k. dictionary.lookup (bytes_eq k) c.args.attributes.now) c.as_str.ensures.text) (ap option_copied c.in-None.is)))
    ∙ ap (λ d. lacking_key (entries_of c.args.attributes.now) (directive_of d)) (sym c.in-Attr.is)
