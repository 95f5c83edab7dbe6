-- A look for the first mention in a scope, note by note.
use Rattle.std.proofs.Common.{◌≡◌, ◌∙◌, ◌<◌, ◌-◌, ℕ, zero, suc, List, slice_get, Option, Some, None, refl, sym, ap, subst, arith}
use Rattle.irtext_survey.specs.Notes.{back_over, first_before}
use Rattle.irtext_survey.specs.declared.notes.Mention.{Mention}
use Rattle.irtext_survey.specs.declared.notes.Note.{Note}

module _ {P : Type 0} (m : Mention) (notes : List (Note P)) where
  -- what is found before a note, by the note
  abbrev by : ℕ → ℕ × Option P → Option (ℕ × Option P) → Option P
  by n s None = s.1
  by n s (Some before) = first_before m n notes before

  one_more : (n : ℕ) (s : ℕ × Option P) (note : Note P) → slice_get notes n ≡ Some note → first_before m (suc n) notes s ≡ by n s (back_over m note s)
  one_more n s note e = ap (λ o. elim o [ None ↦ s.1 | Some note ↦ elim (back_over m note s) [ None ↦ s.1 | Some before ↦ first_before m n notes before ] ]) e ∙ go (back_over m note s)
    where
      go : (o : Option (ℕ × Option P)) → (elim o [ None ↦ s.1 | Some before ↦ first_before m n notes before ]) ≡ by n s o
      go None = refl
      go (Some before) = refl

  pub looked : (n : ℕ) (s : ℕ × Option P) (note : Note P) → 0 < n → slice_get notes (n - 1) ≡ Some note → first_before m n notes s ≡ by (n - 1) s (back_over m note s)
  looked zero s note l e = absurd (omega (arith, l))
  looked (suc n) s note l e =
      let k : suc n - 1 ≡ n = omega arith in
      subst (λ i. first_before m (suc n) notes s ≡ by i s (back_over m note s)) (sym k) (one_more n s note (subst (λ i. slice_get notes i ≡ Some note) k e))

  pub looked_on : (n : ℕ) (s before : ℕ × Option P) (note : Note P) → 0 < n → slice_get notes (n - 1) ≡ Some note → back_over m note s ≡ Some before → first_before m n notes s ≡ first_before m (n - 1) notes before
  looked_on n s before note l e f = looked n s note l e ∙ ap (by (n - 1) s) f

  pub looked_all : (n : ℕ) (s : ℕ × Option P) (note : Note P) → 0 < n → slice_get notes (n - 1) ≡ Some note → back_over m note s ≡ None → first_before m n notes s ≡ s.1
  looked_all n s note l e f = looked n s note l e ∙ ap (by (n - 1) s) f
