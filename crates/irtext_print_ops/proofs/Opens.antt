-- Each turn of the loop that prints is one equation of what is left to be written.
use Rattle.std.proofs.Common.{◌≡◌, ℕ, ◌+◌, List, [], ◌∷◌, ◌++◌, arith, ap, ◌∙◌, append_assoc}
use Rattle.std.specs.Prelude.{⊤}
use Rattle.irtext_base.specs.Text.{Text}
use Rattle.irtext_base.specs.Own.{Language}
use Rattle.irtext_grammar.specs.Graphs.Graph.{Printing}
use Rattle.irtext_print_ops.specs.Opened.{Open, marks, open_marks, rest, open_rest, Turns}

module _ {T A : Type 0} (C : Printing T A) (L : Language ⊤ T A) (width : ℕ) where
  marks_pushed : (gs : List (Open T A)) (f : Open T A) → open_marks C (gs ++ f ∷ []) ≡ open_marks C gs + marks C f
  marks_pushed [] f = omega arith
  marks_pushed (g ∷ gs) f = let k = marks_pushed gs f in omega (arith, k)

  marks_after : (gs hs : List (Open T A)) → open_marks C (gs ++ hs) ≡ open_marks C gs + open_marks C hs
  marks_after [] hs = omega arith
  marks_after (g ∷ gs) hs = let k = marks_after gs hs in omega (arith, k)

  -- only this frame is open
  pub alone : (f : Open T A) (n : ℕ) → open_rest C L width (f ∷ []) n ≡ rest C L width f n
  alone f n = ap (rest C L width f) (nothing_more n)
    where
      nothing_more : (n : ℕ) → n + 0 ≡ n
      nothing_more n = omega arith

  -- a turn of the innermost is one of all that is open
  pub turned : (gs : List (Open T A)) (f : Open T A) (n : ℕ) (text : Text) (k : ℕ) (hs : List (Open T A)) → Turns C L width f n text k hs →
      open_rest C L width (gs ++ f ∷ []) n ≡ text ++ open_rest C L width (gs ++ hs) (n + k)
  turned [] f n text k hs t = alone f n ∙ t.written
  turned (g ∷ gs) f n text k hs t =
      let e : n + open_marks C (gs ++ f ∷ []) ≡ (n + k) + open_marks C (gs ++ hs) = (let a = marks_pushed gs f in let b = marks_after gs hs in let c = t.counted in omega (arith, a, b, c)) in
      ap (λ z. z ++ rest C L width g (n + open_marks C (gs ++ f ∷ []))) (turned gs f n text k hs t)
      ∙ (ap (λ m. (text ++ open_rest C L width (gs ++ hs) (n + k)) ++ rest C L width g m) e
      ∙ append_assoc text (open_rest C L width (gs ++ hs) (n + k)) (rest C L width g ((n + k) + open_marks C (gs ++ hs))))

  -- the marks that are left, after a turn
  pub turned_marks : (gs : List (Open T A)) (f : Open T A) (n : ℕ) (text : Text) (k : ℕ) (hs : List (Open T A)) → Turns C L width f n text k hs →
      open_marks C (gs ++ f ∷ []) ≡ k + open_marks C (gs ++ hs)
  turned_marks gs f n text k hs t = let a = marks_pushed gs f in let b = marks_after gs hs in let c = t.counted in omega (arith, a, b, c)
