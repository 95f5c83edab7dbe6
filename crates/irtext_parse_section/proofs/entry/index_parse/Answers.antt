use Rattle.std.proofs.Common.{ℕ, refl, codes, length}
use Rattle.irtext_base.specs.Answers.{Outcome, mapped}
use Rattle.irtext_base.specs.Text.{Text}
use Rattle.irtext_tokens.specs.Demanded.{spaced_at}
use Rattle.irtext_tokens.proofs.Exits.{propagated}
use Rattle.irtext_tokens.proofs.Steps.{alone, first, refuses_seen, last_seen}
use Rattle.irtext_grammar.specs.Grammar.Tree.{Mark}
use Rattle.irtext_parse_pieces.proofs.EntrySteps.{first_refused}
use Rattle.irtext_parse_pieces.proofs.Meanings.{must_refuse}
use Rattle.irtext_parse_section.proofs.HeadSteps.{a_mark, mark_read, mark_unread}
use Rattle.irtext_parse_section.proofs.entry.index_parse.Goals as goal

-- what follows the index
abbrev after_index : Mark ℕ → Text → Outcome (Mark ℕ)
after_index m t = mapped (λ _. m) (spaced_at (codes "=") t)

pub returns-in_err-index-clause-read : goal.returns-in_err-index-clause-read
returns-in_err-index-clause-read g c =
    rw (propagated c.from_residual.result c.from_residual.ensures.1) (must_refuse alone (first_refused alone {sees = λ _. a_mark 0 0} after_index (mark_unread c.in_err-index.ensures)))

pub returns-in_err-equals_read-clause-read : goal.returns-in_err-equals_read-clause-read
returns-in_err-equals_read-clause-read g c =
    let m = a_mark (length c.args.stream.now.rest) c.in_ok-index.index in
    rw (propagated c.from_residual-in_err-equals_read.result c.from_residual-in_err-equals_read.ensures.1) (must_refuse alone (refuses_seen alone {sees = λ _. a_mark 0 0} (λ _. m) (first alone after_index (mark_read c.in_ok-index.ensures)) c.in_err-equals_read.ensures))

pub returns-clause-read : goal.returns-clause-read
returns-clause-read g c =
    let old = c.args.stream.now in
    let m = a_mark (length old.rest) c.in_ok-index.index in
    record {
      meant = λ _. m;
      means = record { indexed = refl; place = record { passed = old.passed; rest = old.rest; same = refl; positioned = c.position-at.ensures; counts = refl } };
      read = last_seen alone (λ _. m) (λ _. m) (record { index = c.in_ok-index.index; at = c.position-at.result }) refl (first alone after_index (mark_read c.in_ok-index.ensures)) c.in_ok-equals_read.ensures;
    }

pub returns-clause-at : goal.returns-clause-at
returns-clause-at g c = c.position-at.ensures
