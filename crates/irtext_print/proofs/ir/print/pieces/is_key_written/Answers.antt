use Rattle.std.proofs.Common.{◌≡◌, ◌∙◌, rules}
use Rattle.std.proofs.lemmas.Iterator.{YieldsList-from_slice}
use Rattle.std.proofs.lemmas.Iterator.Search.{any_from_yields_List}
use Rattle.std.specs.List.{list_any}
use borrow.Author.Tests.{tests}
use Rattle.irtext_base.specs.FormatViews.{directive_of}
use Rattle.irtext_print.specs.Printers.PieceText.{names_key}
use Rattle.irtext_print.proofs.Printers.PieceTexts.{any_mapped}
use Rattle.irtext_print.proofs.ir.print.pieces.is_key_written.Goals as goal

pub returns : goal.returns
returns c =
    let e : c.any.result ≡ list_any (λ d. names_key c.args.key.now (directive_of d)) c.args.directives.now =
    any_from_yields_List (λ d. names_key c.args.key.now (directive_of d)) _ _ c.any.result c.any.ensures.ran (YieldsList-from_slice c.args.directives.now cc) (λ x b q k. search (rules, tests)) in
    e ∙ any_mapped (names_key c.args.key.now) directive_of c.args.directives.now
