-- The parsers of types and of a block's arguments return what the grammar parses.
use Rattle.std.proofs.Common.{◌≡◌, ℕ, Option, refl, ap}
use Rattle.std.specs.Prelude.{codes}
use Rattle.irtext_base.specs.Text.{Text}
use Rattle.irtext_base.specs.Faults.{Fault}
use Rattle.irtext_base.specs.Format.{Id, Format}
use Rattle.irtext_base.specs.Answers.{Outcome, Read, Missing, Bad}
use Rattle.irtext_base.specs.Locations.{AttrView}
use Rattle.irtext_base.specs.Own.{Texts, Language, language, texts_of, verdict, missing}
use Rattle.irtext_grammar.specs.Grammar.Reads as reads
use Rattle.irtext_grammar.proofs.Joins.Answers.{Splits}
use Rattle.irtext_grammar.proofs.RoundTrips.AttrBack.{read_there}
use Rattle.irtext_grammar.specs.Exact.{Exact}
use Rattle.irtext_grammar.specs.Heads.{argument_at}
use Rattle.irtext_grammar.proofs.Exact.Combined.{exact_as, exact_after, exact_so, exact_seen}
use Rattle.irtext_grammar.proofs.Exact.Listed.{Starts, starts_so}
use Rattle.irtext_grammar.proofs.Exact.Names.{exact_name, starts_name}

-- what is found missing of a text is missing there
missing_there : {X : Type 0} (o : Outcome X) → verdict o ≡ missing → (cause : Fault) × (o ≡ Missing cause)
missing_there (Read x taken rest) e = absurd (cc e)
missing_there (Missing cause) e = (cause, refl)
missing_there (Bad cause upto) e = absurd (cc e)

module _ {T A : Type 0} (types_at : Text → Outcome T) (types_written : T → Text) (owns : Texts A) (formats : Id → Option Format) (splits : Splits types_at) where
  abbrev l : Language ℕ T A
  l = language (texts_of types_at types_written) owns formats

  -- a type
  pub exact_type : Exact types_at (reads.type l)
  exact_type = record {
    read = λ text x taken rest e. (ap verdict e, splits text x taken rest e);
    found = λ text x rest r. read_there (types_at text) x rest r;
  }

  -- where a type is missing, no type begins
  pub starts_type : Starts types_at (reads.no_type l)
  starts_type = record { misses = λ text cause e. ap verdict e; missed = λ text n. missing_there (types_at text) n }

  -- an argument of a block
  pub exact_argument : (attr : Text → Outcome (AttrView A)) → Exact (argument_at types_at attr) (reads.argument l)
  exact_argument attr = exact_as
      (exact_so (exact_name (texts_of types_at types_written) owns formats)
      (λ n. exact_after (codes ":") (exact_seen exact_type (λ t. (n, t)) (λ a. a.1) (λ a. n ≡ a.0) (λ t. refl) (λ t. refl) (λ a k. ap (λ n. (n, a.1)) k)))
      (λ a. a.0) (λ n a text rest q. q.2.0))
      (λ x text rest (m, a, (n, b, (k, c))). (m, a, (n, b, c))) (λ x text rest (m, a, (n, b, c)). (m, a, (n, b, (refl, c))))

  -- where an argument is missing no word begins
  pub starts_argument : (attr : Text → Outcome (AttrView A)) → Starts (argument_at types_at attr) reads.no_word
  starts_argument attr = starts_so _ starts_name
