-- The parsers of names, labels, symbols and marks return what the grammar parses.
use Rattle.std.proofs.Common.{ℕ, true, Option, [], length, refl, ap}
use Rattle.std.specs.Prelude.{codes}
use Rattle.irtext_base.specs.Text.{Text, begins}
use Rattle.irtext_base.specs.Reading.{◌▸◌, the, literal, identifier, number}
use Rattle.irtext_base.specs.Faults.{AnIdentifier}
use Rattle.irtext_base.specs.Format.{Id, Format}
use Rattle.irtext_base.specs.Own.{Texts, Language, language}
use Rattle.irtext_tokens.specs.Tokens.{identifier_at, number_at}
use Rattle.irtext_grammar.specs.Grammar.Reads as reads
use Rattle.irtext_grammar.specs.Grammar.Tree.{Name}
use Rattle.irtext_grammar.proofs.Joins.Dictionary.{word_missing, missing_word}
use Rattle.irtext_grammar.proofs.Joins.Tokens.{word_read, word-identifier, splits_word, number_read, number_found, splits_number}
use Rattle.irtext_grammar.specs.Exact.{Exact}
use Rattle.irtext_grammar.specs.Heads.{name_of, name_at, label_at, symbol_at, mark_at, mark_if_at, used_at, target_at}
use Rattle.irtext_grammar.proofs.Exact.Combined.{exact_word, exact_then, exact_placed, exact_if}
use Rattle.irtext_grammar.proofs.Exact.Listed.{Starts, starts_seen, starts_so, starts_word}

-- an identifier
pub exact_identifier : Exact identifier_at identifier
exact_identifier = record {
  read = λ text x taken rest e. ((word_read AnIdentifier text x taken rest e).0, splits_word AnIdentifier text x taken rest e);
  found = λ text x rest r. (x, word-identifier AnIdentifier text x rest r);
}

-- a number
exact_number : Exact number_at number
exact_number = record {
  read = λ text x taken rest e. (number_read text x taken rest e, splits_number text x taken rest e);
  found = λ text x rest r. number_found text x rest r;
}

-- where a name is missing no word begins
pub starts_name : Starts name_at reads.no_word
starts_name = starts_seen name_here (record { misses = word_missing; missed = missing_word })
  where
    name_here : Text → Text → Name ℕ
    name_here text n = record { place = length text; text = n }

-- where a label that is used is missing, no label begins
pub starts_target : Starts (target_at true) reads.no_label
starts_target = starts_so (λ _. used_at true) (starts_word 94 [])

module _ {T A : Type 0} (types : Texts T) (owns : Texts A) (formats : Id → Option Format) where
  abbrev l : Language ℕ T A
  l = language types owns formats

  -- a name
  pub exact_name : Exact name_at (reads.name l)
  exact_name = exact_placed exact_identifier name_of (λ n. n.place) (λ n. n.text) (λ p x. refl) (λ p x. refl) (λ n. refl)

  -- a block's label
  pub exact_label : Exact label_at (reads.label l)
  exact_label = exact_placed (exact_then (exact_word (codes "^")) exact_identifier) name_of (λ n. n.place) (λ n. n.text) (λ p x. refl) (λ p x. refl) (λ n. refl)

  -- a symbol's name
  pub exact_symbol : Exact symbol_at (λ n. reads.here l n.place (literal (codes "@") ▸ identifier n.text))
  exact_symbol = exact_placed (exact_then (exact_word (codes "@")) exact_identifier) name_of (λ n. n.place) (λ n. n.text) (λ p x. refl) (λ p x. refl) (λ n. refl)

  -- a name that is used
  pub exact_used : Exact (used_at true) (reads.name l)
  exact_used = exact_name

  -- a label that is used
  pub exact_target : Exact (target_at true) (reads.target l)
  exact_target = exact_then (exact_word (codes "^")) exact_used

  -- a mark
  pub exact_mark : Exact mark_at (reads.mark l)
  exact_mark = exact_placed (exact_then (exact_word (codes "!")) exact_number) (λ p i. record { place = p; index = i }) (λ m. m.place) (λ m. m.index) (λ p x. refl) (λ p x. refl) (λ n. refl)

  -- a mark, if there is one
  pub exact_mark_if : Exact mark_if_at (reads.mark_if l)
  exact_mark_if = exact_if (the 33) exact_mark (λ m text rest r. ap (begins (the 33)) r.1.1) (reads.mark_if l) (λ text rest. (λ r. r, λ r. r)) (λ m text rest. (λ r. r, λ r. r))
