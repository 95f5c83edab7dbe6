use Rattle.std.proofs.Common.{◌∙◌, ap, nat_lt}
use Rattle.std.specs.List.{list_all}
use Rattle.irtext_base.specs.FormatViews.{directives_of}
use Rattle.irtext_format_check.specs.Directives.{places_of}
use Rattle.irtext_format_check.proofs.format.conditions.below_their_number.Goals as goal

pub returns : goal.returns
returns c =
    let ks = places_of c.args.part (directives_of c.args.directives.now) in
    c.all_below.ensures ∙ ap (λ n. list_all (λ k. nat_lt k n) ks) c.count_places.ensures
