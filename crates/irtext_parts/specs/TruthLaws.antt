-- The law of truth values.
use Rattle.std.proofs.Common.{◌≡◌, ℕ, Bool, true, false, cond, Some, ◌∷◌, ◌++◌, refl, ap, ap₂, arith, codes}
use Rattle.std.proofs.lemmas.Bool.Decides.{nat_tests}
use Rattle.std.specs.Bool.{beq}
use Rattle.std.specs.Char.{is_whitespace}
use Rattle.std.specs.Cmp.{booleans_Decides}
use Rattle.std.specs.Prelude.{◌↔◌, IsTrue}
use Rattle.std.specs.Str.{all_scalars}
use Rattle.irtext_base.specs.Text.{Text, begins}
use Rattle.irtext_base.specs.Reading.{the}
use Rattle.irtext_base.specs.Faults.{Unexpected, ATrueOrFalse}
use Rattle.irtext_base.specs.Answers.{Outcome, Read, Missing, mapped}
use Rattle.irtext_base.specs.Own.{missing, verdict}
use Rattle.irtext_base.proofs.Sincere.{Of, of_either, of_mapped, of_missing, sincere_of}
use Rattle.irtext_tokens.specs.Integers.{bool_at}
use Rattle.irtext_tokens.specs.Tokens.{text_at}
use Rattle.irtext_tokens.proofs.SincereTokens.{of_text}
use Rattle.irtext_syntax.specs.PartLaws.{PartLaw, MissesClosers, is_closer}
use Rattle.irtext_syntax.specs.ReadHere.{read_here}
use Rattle.irtext_syntax.specs.Sequences.{anything}
use Rattle.irtext_parts.specs.Truths.{truth_of, truth_at, truth_text}
use Rattle.irtext_parts.specs.declared.truth.Truth.{Truth}

truth-here : (t : Truth) (rest : Text) → truth_at (truth_text t ++ rest) ≡ Read t (truth_text t) rest
unfolding bool_at
truth-here t rest = by t.value
  where
    by : (b : Bool) → truth_at (cond b (codes "true") (codes "false") ++ rest) ≡ Read (truth_of b) (cond b (codes "true") (codes "false")) rest
    by true = refl
    by false = refl

no_space : (b : Bool) (rest : Text) → begins is_whitespace (cond b (codes "true") (codes "false") ++ rest) ≡ false
no_space true rest = refl
no_space false rest = refl

scalars : (b : Bool) → all_scalars (cond b (codes "true") (codes "false")) ≡ true
scalars true = refl
scalars false = refl

of_truth : (text : Text) → Of text (bool_at text)
unfolding bool_at
of_truth text = of_either text (begins (the 116) text) _ _ (of_mapped text (λ _. true) (text_at (codes "true") text) (of_text (codes "true") text))
    (of_either text (begins (the 102) text) _ _ (of_mapped text (λ _. false) (text_at (codes "false") text) (of_text (codes "false") text)) (of_missing text _ refl))

pub truth_law : PartLaw truth_at truth_text anything
truth_law = record {
  back = λ t rest e. read_here truth_at t (truth_text t ++ rest) (truth_text t) rest (no_space t.value rest) (truth-here t rest);
  closed = λ rest e. refl;
  scalars = λ t. scalars t.value;
  sincere = sincere_of truth_at (λ text. of_mapped text truth_of (bool_at text) (of_truth text));
}

not_t : (c : ℕ) → is_closer c ≡ true → the 116 c ≡ false
not_t c e = grind (arith, nat_tests)

not_f : (c : ℕ) → is_closer c ≡ true → the 102 c ≡ false
not_f c e = grind (arith, nat_tests)

missed : (c : ℕ) (rest : Text) → is_closer c ≡ true → verdict (truth_at (c ∷ rest)) ≡ missing
unfolding bool_at
missed c rest e = ap₂ (λ a b. let o : Outcome Bool = cond a (mapped (λ _. true) (text_at (codes "true") (c ∷ rest))) (cond b (mapped (λ _. false) (text_at (codes "false") (c ∷ rest))) (Missing (Unexpected (Some c) ATrueOrFalse))) in verdict (mapped truth_of o)) (not_t c e) (not_f c e)

pub truth_misses : MissesClosers truth_at
truth_misses = record { misses = missed }

pub truth_decides : (x y : Truth) → IsTrue (beq x.value y.value) ↔ (x ≡ y)
truth_decides x y = (λ e. ap truth_of ((booleans_Decides x.value y.value).0 e), λ e. (booleans_Decides x.value y.value).1 (ap (λ t. t.value) e))
