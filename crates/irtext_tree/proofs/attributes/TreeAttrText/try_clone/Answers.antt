use Rattle.std.proofs.Common.{◌∙◌, ◌∷◌, ap₂}
use Rattle.irtext_tree.specs.TreeOf.{tree_same}
use Rattle.irtext_tree.proofs.attributes.TreeAttrText.try_clone.Goals as goal

pub returns : goal.returns
returns g c =
    tree_same g.S.Grows _ c.args.self.now (c.new.ensures ∙ (ap₂ (λ x xs. x ∷ xs) c.in_ok-first.ensures (c.in_ok-rest.ensures ∙ c.rest.ensures) ∙ c.head.ensures))
