-- The indices of a written section's entries are the numbers from 0 on.
use Rattle.std.proofs.Common.{◌≡◌, ℕ, suc, ◌+◌, List, [], ◌∷◌, ◌++◌, map, length, refl, ap, ◌∙◌, arith}
use Rattle.std.specs.Prelude.{⊤}
use Rattle.irtext_base.specs.Text.{Text}
use Rattle.irtext_grammar.specs.Graphs.Graph as graph
use Rattle.irtext_grammar.specs.Graphs.Graph.{Printing, shared}
use Rattle.irtext_grammar.specs.Grammar.Section.{Entry}
use Rattle.irtext_grammar.specs.Spelling.SectionEntries.{index_of, numbers, written_items, written_once, written_section}
use Rattle.irtext_grammar.proofs.Lists.Numbers.{numbers_both}

indices_once : {A : Type 0} (n : ℕ) (xs : List A) → map index_of (written_once n xs) ≡ numbers n (length xs)
indices_once n [] = refl
indices_once n (x ∷ xs) = ap (λ z. n ∷ z) (indices_once (suc n) xs)

module _ {T A : Type 0} (C : Printing T A) where
  indices_items : (items : ℕ) (once : List A) (n : ℕ) (es : List (graph.Entry C)) (last : List (Entry ⊤ A Text)) → map index_of (written_items C items once n es ++ last) ≡ numbers n (length es) ++ map index_of last
  indices_items items once n [] last = refl
  indices_items items once n (e ∷ es) last = ap (λ z. n ∷ z) (indices_items items once (suc n) es last)

  -- the indices of a written section are the numbers from 0 on
  pub section_indices : (es : List (graph.Entry C)) → map index_of (written_section C es) ≡ numbers 0 (length es + length (shared C es))
  section_indices es =
      let m = length es in
      let e : m ≡ 0 + m = omega arith in
      indices_items m (shared C es) 0 es (written_once m (shared C es)) ∙ (ap (λ z. numbers 0 m ++ z) (indices_once m (shared C es) ∙ ap (λ k. numbers k (length (shared C es))) e) ∙ numbers_both 0 m (length (shared C es)))
