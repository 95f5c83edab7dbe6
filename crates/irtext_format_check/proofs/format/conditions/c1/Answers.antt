use Rattle.std.proofs.Common.{◌≡◌, ◌∙◌, rules}
use Rattle.std.proofs.lemmas.Iterator.{YieldsList-from_slice}
use Rattle.std.proofs.lemmas.Iterator.Search.{all_from_yields_List}
use Rattle.std.specs.List.{list_all}
use borrow.Author.Tests.{tests}
use Rattle.irtext_base.specs.Format.{word_prints}
use Rattle.irtext_base.specs.FormatViews.{directive_of}
use Rattle.irtext_format_check.proofs.Formats.{all_mapped}
use Rattle.irtext_format_check.proofs.format.conditions.c1.Goals as goal

pub returns : goal.returns
returns c =
    let e : c.all.result ≡ list_all (λ d. word_prints (directive_of d)) c.args.directives.now =
    all_from_yields_List (λ d. word_prints (directive_of d)) _ _ c.all.result c.all.ensures.ran (YieldsList-from_slice c.args.directives.now cc) (λ x b q k. search (rules, tests)) in
    e ∙ all_mapped word_prints directive_of c.args.directives.now
