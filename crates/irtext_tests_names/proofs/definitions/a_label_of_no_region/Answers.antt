use Rattle.std.specs.Prelude.{ℕ, List, [], ◌∷◌, codes, refl}
use Rattle.std.proofs.Common.{inr, sym, ap, ◌∙◌, true≢false}
use Rattle.irtext_base.specs.Text.{Text, begins, after_space}
use Rattle.irtext_base.specs.Reading.{the}
use Rattle.irtext_base.specs.Format as format
use Rattle.irtext_grammar.specs.Grammar.Tree.{Name}
use Rattle.irtext_grammar.specs.Grammar.Reads.{results}
use Rattle.irtext_tests_names.specs.Demo.{counted_demo}
use Rattle.irtext_tests_names.proofs.definitions.a_label_of_no_region.Goals as goal

-- the id is not preceded by names and `=`
no_results : (ns : List (Name ℕ)) (left : Text) → results counted_demo ns (codes "test.br ^a") left → ⊥
no_results [] left (m, (none, same), e) = true≢false none
no_results (n ∷ []) left (m, (k, (at, (first, word, following)), (stops, same)), e) =
    true≢false (sym (ap (begins (the 61)) e) ∙ ap (λ m. begins (the 61) (after_space m)) (same ∙ ap after_space following))
no_results (n ∷ o ∷ ns) left (m, (k, (at, (first, word, following)), (j, comma, others)), e) =
    true≢false (sym (ap (begins (the 44)) comma) ∙ ap (λ k. begins (the 44) (after_space k)) following)

pub returns-clause-is_read : goal.returns-clause-is_read
returns-clause-is_read c = (
  refl,
  (
    (format.custom (format.successor 0 ∷ []), refl, refl),
    (
      codes "test.br ^a",
      inr (refl, refl, no_results),
      (codes " ^a", (codes ".br ^a", (refl, refl, refl), (codes "br ^a", refl, (refl, refl, refl))), ([], ([], (codes "a", refl, (refl, (refl, refl, refl))), refl), (refl, refl))),
    ),
  ),
)
