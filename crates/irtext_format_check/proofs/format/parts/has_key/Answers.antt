use Rattle.std.proofs.Common.{◌≡◌, ◌∙◌, rules}
use Rattle.std.proofs.lemmas.Iterator.{YieldsList-from_slice}
use Rattle.std.proofs.lemmas.Iterator.Search.{any_from_yields_List}
use Rattle.std.specs.List.{list_any}
use borrow.Author.Tests.{tests}
use Rattle.irtext_base.specs.Format.{same_text}
use Rattle.irtext_base.specs.FormatViews.{directive_of}
use Rattle.irtext_format_check.specs.Directives.{key_of, is_value}
use Rattle.irtext_format_check.proofs.Formats.{any_has}
use Rattle.irtext_format_check.proofs.format.parts.has_key.Goals as goal

pub returns : goal.returns
returns c =
    let e : c.any.result ≡ list_any (λ d. is_value same_text c.args.key.now (key_of (directive_of d))) c.args.directives.now =
    any_from_yields_List (λ d. is_value same_text c.args.key.now (key_of (directive_of d))) _ _ c.any.result c.any.ensures.ran (YieldsList-from_slice c.args.directives.now cc) (λ x b q k. search (rules, tests)) in
    e ∙ any_has same_text key_of directive_of c.args.key.now c.args.directives.now
