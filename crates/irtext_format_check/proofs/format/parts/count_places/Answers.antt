use Rattle.std.proofs.Common.{◌≡◌, ◌∙◌, is_some, rules}
use Rattle.std.specs.List.{count_by}
use Rattle.irtext_base.specs.FormatViews.{directive_of}
use Rattle.irtext_format_check.specs.Directives.{place_of}
use Rattle.irtext_format_check.proofs.Formats.{named_count}
use Rattle.irtext_format_check.proofs.format.parts.count_places.Goals as goal

pub returns : goal.returns
returns c =
    let e : c.count.result ≡ count_by (λ d. is_some (place_of c.args.part (directive_of d))) c.args.directives.now = search rules in
    e ∙ named_count (place_of c.args.part) directive_of c.args.directives.now
