-- What is seen of the views of trees.
use Rattle.std.specs.Prelude.{List, ◌∷◌}
use Rattle.irtext_tree.specs.Rows.{children_in}
use Rattle.irtext_tree.specs.declared.grammar.Grows as grows
use Rattle.irtext_tree.specs.declared.views.SubTree.{SubTree}
use Rattle.irtext_tree.specs.declared.views.Children.{Children}

module _ {S H : Type 0} (g : grows.Ghosts S H) where
  -- the heads of a tree that is held
  abbrev pub sub_heads : SubTree S H g → List H
  sub_heads t = t.head.now ∷ t.rest.now

  -- the trees that are still to come
  abbrev pub children_left : Children S H g → List (List H)
  children_left c = children_in g.growth c.rest.now
