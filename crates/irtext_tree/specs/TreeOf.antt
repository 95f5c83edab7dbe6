-- The tree that a row of heads is, if it is one.
use Rattle.std.proofs.Common.{◌≡◌, ◌∙◌, Bool, true, false, Option, Some, None, List, [], refl, sym, ap, true≢false}
use Rattle.std.proofs.Math.Bool.{Bool-set}
use Rattle.std.specs.Prelude.{unwrap_or}
use Rattle.irtext_base.specs.Answers.{Read, Bad}
use Rattle.irtext_base.specs.Faults.{EmptyItem}
use Rattle.irtext_base.specs.Text.{Text}
use Rattle.irtext_tokens.specs.Infix.{Reader, ◌▶◌}
use Rattle.irtext_tree.specs.Growths.{is_tree}
use Rattle.irtext_tree.specs.Trees.{heads_at, heads_text}
use Rattle.irtext_tree.specs.declared.grammar.Grows as grows
use Rattle.irtext_tree.specs.declared.tree.Tree.{Tree}

module _ {S H : Type 0} (g : grows.Ghosts S H) where
  -- the tree of the heads, given whether they are those of one
  abbrev pub tree_by : (hs : List H) (b : Bool) → is_tree g.growth hs ≡ b → Option (Tree S H g)
  tree_by hs true e = Some (record { heads = hs; grammar = record {}; whole = e })
  tree_by hs false e = None

  -- the tree of the heads, if they are those of one
  abbrev pub tree_of : List H → Option (Tree S H g)
  tree_of hs = tree_by hs (is_tree g.growth hs) refl

  -- the tree of the heads; that they are those of one is never in doubt
  abbrev pub whole_at : Option (Tree S H g) → Reader (Tree S H g)
  whole_at (Some t) text = Read t [] text
  whole_at None text = Bad EmptyItem []

  -- a tree
  abbrev pub tree_at : (S → Reader H) → Reader (Tree S H g)
  tree_at reading = heads_at g.growth reading ▶ λ hs. whole_at (tree_of hs)

  -- the text that is printed for a tree
  abbrev pub tree_text : (H → Text) → Tree S H g → Text
  tree_text written t = heads_text written t.heads

  found_by : (t : Tree S H g) (b : Bool) (e : is_tree g.growth t.heads ≡ b) → tree_by t.heads b e ≡ Some t
  found_by t true e = ap (λ (p : is_tree g.growth t.heads ≡ true). let x : Option (Tree S H g) = Some (record { heads = t.heads; grammar = record {}; whole = p }) in x) (Bool-set (is_tree g.growth t.heads) true e t.whole)
  found_by t false e = absurd (true≢false (sym t.whole ∙ e))

  -- the tree of a tree's heads is that tree
  pub tree_found : (t : Tree S H g) → tree_of t.heads ≡ Some t
  tree_found t = found_by t (is_tree g.growth t.heads) refl

  -- two trees with the same heads are equal
  pub tree_same : (s t : Tree S H g) → s.heads ≡ t.heads → s ≡ t
  tree_same s t e = let f : Some s ≡ Some t = sym (tree_found s) ∙ (ap tree_of e ∙ tree_found t) in ap (λ o. unwrap_or o s) f
