use Rattle.std.proofs.Common.{◌≡◌, ◌∙◌, ◌==◌, sym, rules, position}
use Rattle.std.proofs.lemmas.Iterator.{YieldsList-from_slice}
use Rattle.std.proofs.lemmas.Iterator.Search.{position_from_yields_List}
use borrow.Author.Tests.{tests}
use Rattle.irtext_base.proofs.KeptPaths.{position-seen}
use Rattle.irtext_names.proofs.making.index_of.Goals as goal

pub returns : goal.returns
returns g c =
    let found : c.position.result ≡ position (λ e. e.0 == c.args.place) c.args.items.now.items =
    position_from_yields_List (λ e. e.0 == c.args.place) _ _ c.position.result c.position.ensures.ran (YieldsList-from_slice c.args.items.now.items cc) (λ x b q k. search (rules, tests)) in
    found ∙ sym (position-seen (λ e. e.0) (λ i. i == c.args.place) c.args.items.now.items)
