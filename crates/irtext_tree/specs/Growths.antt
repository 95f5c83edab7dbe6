-- Trees as rows of heads, in the order of their text: at which place each head can come, and what comes after it.
use Rattle.std.specs.Prelude.{ℕ, Bool, true, false, ◌&&◌, ◌+◌, cond, List, [], ◌∷◌, length}
use Rattle.irtext_base.specs.Text.{Text, begins, begins_word}
use Rattle.irtext_tree.specs.declared.waits.Waits.{Waits}
use Rattle.irtext_tree.specs.declared.waits.Waits.TheVariants as waits

-- the place at which a tree begins, whether two places are the same, the place of each head, and what comes after its text
pub record Growth (S H : Type 0) : Type 0 where
  pub start : S
  pub same : S → S → Bool
  pub place : H → S
  pub waits : H → Waits S

-- the places that come, before those that were waiting already
abbrev pub waiting : {S : Type 0} → Waits S → List S → List S
waiting waits.Nothing left = left
waiting (waits.One s) left = s ∷ left
waiting (waits.Two s t) left = s ∷ t ∷ left

-- the heads fill the places that are waiting, and no place is left
abbrev pub fills : {S H : Type 0} → Growth S H → List S → List H → Bool
fills g [] [] = true
fills g [] (h ∷ hs) = false
fills g (s ∷ left) [] = false
fills g (s ∷ left) (h ∷ hs) = g.same s (g.place h) && fills g (waiting (g.waits h) left) hs

-- the heads are those of one tree
abbrev pub is_tree : {S H : Type 0} → Growth S H → List H → Bool
is_tree g hs = fills g (g.start ∷ []) hs

-- where a tree is to come the text begins with a letter or `_`; at another place it can be any text
abbrev pub leads : {S H : Type 0} → Growth S H → S → Text → Bool
leads g s text = cond (g.same g.start s) (begins begins_word text) true

-- how many heads can still come: at most two for each character, and one for each place that waits
abbrev pub heads_within : {S : Type 0} → List S → Text → ℕ
heads_within left text = length text + (length text + length left)
