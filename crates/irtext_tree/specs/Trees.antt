-- The texts of trees.
use Rattle.std.specs.Prelude.{ℕ, zero, suc, Bool, false, List, [], ◌∷◌, ◌++◌}
use Rattle.irtext_base.specs.Answers.{Read, Bad, followed}
use Rattle.irtext_base.specs.Faults.{EmptyItem}
use Rattle.irtext_base.specs.Text.{Text}
use Rattle.irtext_tokens.specs.Infix.{Reader, ◌▷◌}
use Rattle.irtext_tokens.specs.Tokens.{space_at}
use Rattle.irtext_tree.specs.Growths.{Growth, waiting, heads_within}

module _ {S H : Type 0} (growth : Growth S H) (reading : S → Reader H) where
  -- after the heads found, heads for the places that wait, up to n of them
  abbrev pub grown : ℕ → List S → List H → Reader (List H)
  grown n [] found text = Read found [] text
  grown zero (s ∷ left) found text = Bad EmptyItem []
  grown (suc n) (s ∷ left) found text = followed ((space_at ▷ reading s) text) (λ h u. grown n (waiting (growth.waits h) left) (found ++ (h ∷ [])) u)

  -- what comes after the first head of a tree
  abbrev pub grown_after : H → Reader (List H)
  grown_after h text = grown (suc (heads_within (waiting (growth.waits h) []) text)) (waiting (growth.waits h) []) (h ∷ []) text

  -- the heads of a tree
  abbrev pub heads_at : Reader (List H)
  heads_at text = followed (reading growth.start text) grown_after

-- the texts of the heads, one after another
abbrev pub heads_text : {H : Type 0} → (H → Text) → List H → Text
heads_text written [] = []
heads_text written (h ∷ hs) = written h ++ heads_text written hs

-- what is said of the first head
abbrev pub of_first : {H : Type 0} → (H → Bool) → List H → Bool
of_first test [] = false
of_first test (h ∷ hs) = test h
