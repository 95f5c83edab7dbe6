use Rattle.std.proofs.Common.{◌++◌, ◌∷◌, [], ◌∙◌, ap}
use Rattle.irtext_parse_pieces.proofs.lists.many.Goals as goal

pub returns : goal.returns
returns g c =
    c.from_vec.ensures
    ∙ (c.in-Ok-push-2.ensures.items
    ∙ ap (λ z. z ++ c.args.third ∷ []) (c.in-Ok-push.ensures.items ∙ ap (λ z. z ++ c.args.second ∷ []) (c.in-Ok.ensures.items ∙ ap (λ z. z ++ c.args.first ∷ []) c.new-items.ensures.items)))
