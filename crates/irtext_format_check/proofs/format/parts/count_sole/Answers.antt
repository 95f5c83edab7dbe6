use Rattle.std.proofs.Common.{◌≡◌, ◌∙◌, rules}
use Rattle.std.specs.List.{count_by}
use Rattle.irtext_base.specs.FormatViews.{directive_of}
use Rattle.irtext_format_check.specs.Directives.{is_sole}
use Rattle.irtext_format_check.proofs.Formats.{passing_count}
use Rattle.irtext_format_check.proofs.format.parts.count_sole.Goals as goal

pub returns : goal.returns
returns c =
    let e : c.count.result ≡ count_by (λ d. is_sole c.args.sole (directive_of d)) c.args.directives.now = search rules in
    e ∙ passing_count (is_sole c.args.sole) directive_of c.args.directives.now
