use Rattle.std.specs.Prelude.{◌≡◌, ℕ, List, [], ◌∷◌, ◌==◌}
use Rattle.std.proofs.Common.{inl, inr, sym, ◌∙◌, ap, true≢false}
use Rattle.irtext_base.specs.Text.{Text, begins, begins_word, after_space}
use Rattle.irtext_grammar.specs.Grammar.Tree.{Name}
use Rattle.irtext_grammar.specs.Grammar.Reads.{results}
use Rattle.irtext_tests_names.specs.Trees.{only_modules}
use Rattle.irtext_tests_names.proofs.definitions.an_empty_text.Goals as goal

-- after names that an empty text would begin with, nothing is left
after_nothing : (ns : List (Name ℕ)) (m : Text) → results only_modules ns [] m → after_space m ≡ []
after_nothing [] m (k, a, b) = absurd (true≢false (ap (begins (λ c. c == 61)) (sym b ∙ ap after_space a.1)))
after_nothing (n ∷ ns) m (k, (k', a, b), c) = absurd (true≢false (sym a.1.0))

pub returns : goal.returns
returns c t u (at, (is, (m, inl a, (w, (v, b, d), e)))) = true≢false (sym b.0 ∙ ap (begins begins_word) (after_nothing t.own.names m a))
returns c t u (at, (is, (m, inr a, (w, (v, b, d), e)))) = true≢false (sym b.0 ∙ ap (begins begins_word) (ap after_space a.1))
