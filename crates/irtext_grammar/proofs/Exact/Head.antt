-- The parser of a block's header returns what the grammar parses up to its `:`.
use Rattle.std.proofs.Common.{◌≡◌, ℕ, Option, List, refl, ap}
use Rattle.std.specs.Prelude.{◌↔◌, codes}
use Rattle.irtext_base.specs.Text.{Text}
use Rattle.irtext_base.specs.Reading.{Reading, ◌▹◌, literal, separated}
use Rattle.irtext_base.specs.Format.{Id, Format}
use Rattle.irtext_base.specs.Answers.{Outcome}
use Rattle.irtext_base.specs.Own.{Language, language, texts_of}
use Rattle.irtext_tokens.specs.Infix.{◌⇒◌}
use Rattle.irtext_tokens.specs.AttrTexts.{attr_at}
use Rattle.irtext_tokens.specs.Tokens.{word}
use Rattle.irtext_grammar.specs.Grammar.Reads as reads
use Rattle.irtext_grammar.specs.Grammar.Tree.{Name, Mark, Attribute, Head}
use Rattle.irtext_grammar.proofs.Joins.Answers.{Splits}
use Rattle.irtext_grammar.specs.Exact.{Exact, block_head}
use Rattle.irtext_grammar.specs.Heads.{argument_at, head_at}
use Rattle.irtext_grammar.proofs.Exact.Combined.{exact_as, exact_word, exact_then, exact_spaced, exact_after, exact_so, exact_seen}
use Rattle.irtext_grammar.proofs.Exact.Listed.{Starts, exact_list, loosened, tightened}
use Rattle.irtext_grammar.proofs.Exact.Names.{exact_label, exact_mark_if}
use Rattle.irtext_grammar.proofs.Exact.Attributes.{exact_dictionary_if}
use Rattle.irtext_grammar.proofs.Exact.Types.{exact_argument, starts_argument}

module _ {P T A : Type 0} (L : Language P T A) where
  -- A block is its header and its operations.
  pub block_in_parts : (h : Head P T A) (operations : List Reading) (text rest : Text) → reads.block_read L h operations text rest ↔ (block_head L h ▹ separated 59 reads.no_operation operations) text rest
  block_in_parts h operations text rest = (
    λ (m, a, (n, b, (o, c, (p, d, (q, e, (r, f, (s, g, z))))))). (s, (m, a, (n, b, (o, c, (p, d, (q, e, (r, f, g)))))), z),
    λ (s, (m, a, (n, b, (o, c, (p, d, (q, e, (r, f, g)))))), z). (m, a, (n, b, (o, c, (p, d, (q, e, (r, f, (s, g, z))))))),
  )

module _ {T A : Type 0} (types_at : Text → Outcome T) (types_written : T → Text) (reading : Text → Outcome A) (written : A → Text) (formats : Id → Option Format)
    (types_split : Splits types_at) (splits : Splits reading) where
  abbrev l : Language ℕ T A
  l = language (texts_of types_at types_written) (texts_of reading written) formats

  -- the header of these parts
  abbrev header : Name ℕ → List (Name ℕ × T) → Option (List (Name ℕ × Attribute A)) → Option (Mark ℕ) → Head ℕ T A
  header label arguments attributes mark = record { label = label; arguments = arguments; attributes = attributes; mark = mark }

  -- its end, after its mark
  abbrev closed : Name ℕ → List (Name ℕ × T) → Option (List (Name ℕ × Attribute A)) → Option (Mark ℕ) → Head ℕ T A → Reading
  closed label arguments attributes mark h text rest = (header label arguments attributes mark ≡ h) × literal (codes ":") text rest

  exact_closed : (label : Name ℕ) (arguments : List (Name ℕ × T)) (attributes : Option (List (Name ℕ × Attribute A))) (mark : Option (Mark ℕ))
      → Exact (word (codes ":") ⇒ λ _. header label arguments attributes mark) (closed label arguments attributes mark)
  exact_closed label arguments attributes mark =
      exact_seen (exact_word (codes ":")) (λ _. header label arguments attributes mark) (λ h. tt) (λ h. header label arguments attributes mark ≡ h) (λ u. refl) (λ u. refl) (λ h k. k)

  -- an argument
  an_argument : Exact (argument_at types_at (attr_at reading)) (reads.argument l)
  an_argument = exact_argument types_at types_written (texts_of reading written) formats types_split (attr_at reading)

  -- where it is missing no word begins
  no_argument : Starts (argument_at types_at (attr_at reading)) reads.no_word
  no_argument = starts_argument types_at types_written (texts_of reading written) formats types_split (attr_at reading)

  -- what follows the arguments
  abbrev after_arguments : Head ℕ T A → Reading
  after_arguments h = literal (codes ")") ▹ reads.dictionary_if l h.attributes ▹ reads.mark_if l h.mark ▹ literal (codes ":")

  -- a block's header
  pub exact_head : Exact (head_at types_at (attr_at reading)) (block_head l)
  exact_head = exact_as
      (exact_so (exact_label (texts_of types_at types_written) (texts_of reading written) formats) (λ label.
      exact_after (codes "(") (exact_so (exact_list 44 an_argument no_argument) (λ arguments.
      exact_then (exact_word (codes ")")) (exact_spaced (exact_so (exact_dictionary_if (texts_of types_at types_written) reading written formats splits types_at) (λ attributes.
      exact_spaced (exact_so (exact_mark_if (texts_of types_at types_written) (texts_of reading written) formats) (λ mark.
      exact_spaced (exact_closed label arguments attributes mark))
      (λ h. h.mark) (λ mark h text rest q. ap (λ h. h.mark) q.0)))
      (λ h. h.attributes) (λ attributes h text rest q. ap (λ h. h.attributes) q.2.0))))
      (λ h. h.arguments) (λ arguments h text rest q. ap (λ h. h.arguments) q.2.2.2.0)))
      (λ h. h.label) (λ label h text rest q. ap (λ h. h.label) q.2.2.2.2.2.0))
      (λ h text rest (m, a, (n, b, (o, c, (p, d, (q, e, (r, f, (k, g))))))). (m, a, (n, b, loosened 44 an_argument no_argument h.arguments (after_arguments h) n rest (o, c, (p, d, (q, e, (r, f, g)))))))
      (λ h text rest (m, a, (n, b, r)). let t = tightened 44 an_argument no_argument h.arguments (after_arguments h) n rest r in
      (m, a, (n, b, (t.0, t.1, (t.2.0, t.2.1, (t.2.2.0, t.2.2.1, (t.2.2.2.0, t.2.2.2.1, (refl, t.2.2.2.2))))))))
