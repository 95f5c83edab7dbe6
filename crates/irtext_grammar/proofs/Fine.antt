-- No cause that the parsers of a section return says that the stream had failed.
use Rattle.std.proofs.Common.{ℕ, zero, suc, Bool, not, ◌&&◌, Some, None, List, [], ◌∷◌, ◌++◌, length}
use Rattle.std.specs.Prelude.{codes}
use Rattle.irtext_base.specs.Text.{Text, begins}
use Rattle.irtext_base.specs.Reading.{the}
use Rattle.irtext_base.specs.Answers.{Outcome, Read, Missing, Bad}
use Rattle.irtext_base.specs.Locations.{AttrView}
use Rattle.irtext_base.specs.Own.{Sincere}
use Rattle.irtext_base.specs.Paths.{Written}
use Rattle.irtext_base.proofs.Sincere.{of_sincere}
use Rattle.irtext_tokens.specs.AttrTexts.{attr_at}
use Rattle.irtext_tokens.specs.Infix.{Reader}
use Rattle.irtext_tokens.proofs.Honest.{Honest, honest_word, honest_name, honest_space, honest_spaced, honest_index, honest_attr}
use Rattle.irtext_grammar.specs.Grammar.Section.{Item, Entry}
use Rattle.irtext_grammar.specs.Grammar.Tree.{Name, Mark}
use Rattle.irtext_grammar.specs.Names.Acts.{Rule}
use Rattle.irtext_grammar.specs.Names.Script as script
use Rattle.irtext_grammar.specs.Names.Script.{Cause, Failure}
use Rattle.irtext_grammar.specs.Readers.Locations.{WrittenRow, after_location, row_of, row_at, location_at}
use Rattle.irtext_grammar.specs.Readers.Directives.{attribute_at}
use Rattle.irtext_grammar.specs.Readers.Section.{entry_location_at}
use Rattle.irtext_grammar.proofs.Readers.Honest.{Keeps, keeps_within}
use Rattle.irtext_grammar.proofs.Readers.NeverFailed.{NotFailed, Fine, fine_honest, fine_read, fine_bad, fine_either, fine_prefixed, fine_followed, fine_mapped, fine_separated}
use Rattle.irtext_grammar.specs.Heads.{name_at, mark_at}
use Rattle.irtext_grammar.specs.Entries.{item_at, pair_at, is_allowed, kept, begins_given, tested, entry_head_at, pairs_at, given_at, entry_at, may_have, fault_for, upto, wrong_references, unless_wrong, referred, entries_after, entries_at, section_at}

-- a parser of which each outcome is fine
record AllFine {X : Type 0} (f : Reader X) : Type 0 where
  pub fine : (text : Text) → Fine (f text)

fine_row : {A : Type 0} (inner : Reader (Written A)) (more : Reader (WrittenRow A)) → AllFine inner → ((w : Written A) → AllFine (after_location inner more w)) → AllFine (row_at inner more)
fine_row inner more h k = record { fine = λ text. go (inner text) text (h.fine text) }
  where
    go : (o : Outcome (Written _)) (text : Text) → Fine o → Fine (row_of inner more o text)
    go (Read w t r) text i = fine_prefixed t (after_location inner more w r) ((k w).fine r)
    go (Missing cause) text i = fine_read _ _ _
    go (Bad cause upto) text i = fine_bad cause upto i.spares

fine_keeps : Keeps (λ X f. AllFine f)
fine_keeps = record {
  honest = λ h. record { fine = fine_honest h };
  follows = λ {X} {Y} {f} {k} h g. record { fine = λ text. fine_followed (f text) k (h.fine text) (λ x t. (g x).fine t) };
  sees = λ {X} {Y} {f} see h. record { fine = λ text. fine_mapped see (f text) (h.fine text) };
  one_of = λ {X} {f} {g} test h k. record { fine = λ text. fine_either (test text) (f text) (g text) (h.fine text) (k.fine text) };
  row = fine_row;
}

-- no failure has this cause
not_failed : (c : Cause Text) → NotFailed (fault_for c)
not_failed (script.ResultCount types names) e = cc e
not_failed (script.NoActiveScope n) e = cc e
not_failed (script.UnresolvedReference n) e = cc e
not_failed (script.MultipleDefinitions n) e = cc e
not_failed script.NotIsolated e = cc e
not_failed (script.DuplicateIndex i) e = cc e
not_failed (script.UnknownIndex i) e = cc e
not_failed (script.UnknownPrintOnce i) e = cc e
not_failed (script.ReservedKey k) e = cc e

fine_name : (text : Text) → Fine (name_at text)
fine_name text = fine_mapped _ _ (fine_honest (honest_name _) text)

fine_mark : (text : Text) → Fine (mark_at text)
fine_mark text = fine_mapped _ _ (fine_honest honest_index text)

pub fine_head : (text : Text) → Fine (entry_head_at text)
fine_head text = fine_followed (mark_at text) _ (fine_mark text) (λ m t. fine_mapped _ _ (fine_honest (honest_spaced (codes "=")) t))

pub fine_tested : (test : ℕ → Bool) (o : Outcome (Mark ℕ)) → Fine o → Fine (tested test o)
fine_tested test (Read m taken rest) h = fine_either (begins_given rest && not (test m.index)) _ _ (fine_bad _ _ (λ e. cc e)) h
fine_tested test (Missing cause) h = h
fine_tested test (Bad cause upto) h = h

fine_kept : {A : Type 0} (rule : Rule A) (o : Outcome (Name ℕ × Item ℕ A)) → Fine o → Fine (kept rule o)
fine_kept rule (Read p taken rest) h = fine_either (is_allowed rule p) _ _ h (fine_bad _ _ (λ e. cc e))
fine_kept rule (Missing cause) h = h
fine_kept rule (Bad cause upto) h = h

module _ {A : Type 0} (reading : Text → Outcome A) (sincere : Sincere reading) where
  abbrev attr : Text → Outcome (AttrView A)
  attr = attr_at reading

  attr_honest : Honest attr
  attr_honest = honest_attr (record { of = of_sincere reading sincere })

  fine_attribute : (text : Text) → Fine (attribute_at attr text)
  fine_attribute text = fine_mapped _ _ (fine_honest attr_honest text)

  fine_location : (text : Text) → Fine (location_at attr text)
  fine_location text = (keeps_within fine_keeps (record { fine = fine_honest attr_honest }) (length text)).fine text

  fine_entry_location : (text : Text) → Fine (entry_location_at attr text)
  fine_entry_location text = fine_either (begins (the 64) text) _ _
      (fine_followed _ _ (fine_honest (honest_word (codes "@[")) text) (λ _ t. fine_followed _ _ (fine_honest honest_space t)
      (λ _ u. fine_followed _ _ (fine_location u) (λ w v. fine_followed _ _ (fine_honest (honest_spaced (codes "]")) v)
      (λ _ x. fine_followed _ _ (fine_honest (honest_word (codes ",")) x) (λ _ y. fine_mapped (λ _. Some w) _ (fine_honest honest_space y))))))) (fine_read None [] text)

  fine_item : (text : Text) → Fine (item_at attr text)
  fine_item text = fine_either (begins (the 33) text) _ _ (fine_mapped _ _ (fine_mark text)) (fine_mapped _ _ (fine_attribute text))

  fine_pair : (text : Text) → Fine (pair_at attr text)
  fine_pair text = fine_followed _ _ (fine_name text) (λ key t. fine_followed _ _ (fine_honest (honest_spaced (codes "=")) t) (λ _ u. fine_mapped _ _ (fine_item u)))

  module _ (rule : Rule A) where
    pub fine_pairs : (text : Text) → Fine (pairs_at attr rule text)
    unfolding pairs_at
    fine_pairs text = fine_followed _ _ (fine_honest (honest_word (codes "[")) text) (λ _ t. fine_followed _ _ (fine_honest honest_space t)
        (λ _ u. fine_followed _ _ (fine_separated 44 (λ t. kept rule (pair_at attr t)) (λ t. fine_kept rule (pair_at attr t) (fine_pair t)) u)
        (λ ps v. fine_mapped (λ _. ps) _ (fine_honest (honest_word (codes "]")) v))))

    fine_given : (text : Text) → Fine (given_at attr rule text)
    fine_given text = fine_followed _ _ (fine_entry_location text) (λ w t. fine_mapped _ _ (fine_pairs t))

  pub fine_entry : (test : ℕ → Bool) (rules : ℕ → Rule A) (text : Text) → Fine (entry_at attr test rules text)
  fine_entry test rules text = fine_followed _ _ (fine_tested test (entry_head_at text) (fine_head text))
      (λ m t. fine_either (begins_given t) _ _ (fine_mapped _ _ (fine_given (rules m.index) t)) (fine_mapped _ _ (fine_attribute t)))

  module _ (marks : List ℕ) (rules : ℕ → Rule A) where
    pub fine_entries : (n : ℕ) (earlier : List (Entry ℕ A (Written A))) (text : Text) → Fine (entries_after attr marks rules n earlier text)
    fine_entries zero earlier text = fine_read _ _ _
    fine_entries (suc n) earlier text = fine_either (begins (the 33) text) _ _
        (fine_followed _ _ (fine_entry (may_have marks earlier) rules text) (λ e t. fine_followed _ _ (fine_honest honest_space t) (λ _ u. fine_entries n (earlier ++ e ∷ []) u))) (fine_read _ _ _)

    fine_unless : (text : Text) (fs : List (Failure Text ℕ)) (o : Outcome (List (Entry ℕ A (Written A)))) → Fine o → Fine (unless_wrong text fs o)
    fine_unless text [] o h = h
    fine_unless text (f ∷ fs) o h = fine_bad _ _ (not_failed f.cause)

    fine_referred : (text : Text) (o : Outcome (List (Entry ℕ A (Written A)))) → Fine o → Fine (referred rules text o)
    fine_referred text (Read es taken rest) h = fine_unless text (wrong_references rules es) _ h
    fine_referred text (Missing cause) h = h
    fine_referred text (Bad cause upto) h = h

    -- the parser of a section
    pub fine_section : (text : Text) → Fine (section_at attr marks rules text)
    fine_section text = fine_referred text (entries_at attr marks rules text) (fine_followed _ _ (fine_honest (honest_spaced (codes "outlined_attributes:")) text) (λ _ t. fine_entries (length t) [] t))
