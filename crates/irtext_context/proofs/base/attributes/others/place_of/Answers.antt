use Rattle.std.proofs.Common.{◌≡◌, ◌∙◌, sym, rules, position}
use Rattle.std.proofs.lemmas.Iterator.{YieldsList-from_slice}
use Rattle.std.proofs.lemmas.Iterator.Search.{position_from_yields_List}
use Rattle.std.specs.Str.{bytes_eq}
use borrow.Author.Tests.{tests}
use Rattle.irtext_base.proofs.KeptPaths.{position-seen}
use Rattle.irtext_context.proofs.base.attributes.others.place_of.Goals as goal

pub returns : goal.returns
returns g c =
    let found : c.position.result ≡ position (λ e. bytes_eq c.args.key.now e.0) c.args.few.now.items =
    position_from_yields_List (λ e. bytes_eq c.args.key.now e.0) _ _ c.position.result c.position.ensures.ran (YieldsList-from_slice c.args.few.now.items cc) (λ x b q k. search (rules, tests)) in
    found ∙ sym (position-seen (λ e. e.0) (bytes_eq c.args.key.now) c.args.few.now.items)
