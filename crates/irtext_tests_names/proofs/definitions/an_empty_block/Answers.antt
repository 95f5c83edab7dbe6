use Rattle.std.specs.Prelude.{[], ◌∷◌, refl}
use Rattle.std.proofs.Common.{inl}
use Rattle.irtext_base.specs.Format as format
use Rattle.irtext_base.specs.Own.{Lawful, Unreserved}
use Rattle.irtext_grammar.specs.Spelling.Writable.{Writable}
use Rattle.irtext_grammar.proofs.Grammar.BackTree.{reads_back}
use Rattle.irtext_tests_names.specs.Trees.{none, only_modules, empty_block}
use Rattle.irtext_tests_names.proofs.definitions.an_empty_block.Goals as goal

lawful_none : Lawful ⊥ none
lawful_none = record { starts = λ x rest. absurd x; misses = λ text e. refl; again = λ x rest e. absurd x; scalars = λ x. absurd x }

unreserved_none : Unreserved ⊥ none
unreserved_none = record { given_names = λ a rest left k. absurd a; identifier = λ a rest left k. absurd a }

writable : Writable only_modules empty_block
writable = (
  record {
    names = tt;
    dialect = refl;
    name = refl;
    mark = tt;
    its_format = format.custom (format.header ∷ format.region 0 ∷ []);
    is_format = refl;
    body = (refl, refl, (refl, tt), tt);
  },
  (tt, (record { label = refl; arguments = tt; attributes = tt; mark = tt }, tt, tt), tt),
)

pub returns-clause-is_written : goal.returns-clause-is_written
returns-clause-is_written c = refl

pub returns-clause-is_read : goal.returns-clause-is_read
returns-clause-is_read c = reads_back only_modules lawful_none lawful_none unreserved_none (λ p t. tt) 2 0 empty_block [] writable (record { ends = inl refl; one = λ e. inl refl })
