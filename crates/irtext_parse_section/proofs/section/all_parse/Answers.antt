use Rattle.std.proofs.Common.{ℕ, List, [], length, subst, IfOk}
use Rattle.irtext_base.specs.Answers.{Outcome}
use Rattle.irtext_base.specs.Locations.{AttrView}
use Rattle.irtext_base.specs.Paths.{Written}
use Rattle.irtext_base.specs.Text.{Text}
use Rattle.irtext_tokens.specs.AttrTexts.{attr_at}
use Rattle.irtext_tokens.proofs.Exits.{propagated}
use Rattle.irtext_tokens.proofs.Steps.{alone, first, last, fine_there}
use Rattle.irtext_parse_state.specs.States.{marks_of}
use Rattle.irtext_grammar.specs.Grammar.Section.{Entry}
use Rattle.irtext_grammar.specs.Names.Acts.{Rule}
use Rattle.irtext_grammar.specs.Promises.Section.{indices_of}
use Rattle.irtext_parse_section.proofs.OnlyPaths.{only_none}
use Rattle.irtext_parse_pieces.proofs.EntrySteps.{first_refused}
use Rattle.irtext_parse_pieces.proofs.Meanings.{must_refuse, must_whole}
use Rattle.irtext_grammar.specs.Entries.{entries_after}
use Rattle.irtext_parse_section.specs.Entries.{AreEntriesOver}
use Rattle.irtext_parse_section.specs.Said.{rules_of}
use Rattle.irtext_parse_section.proofs.section.all_parse.Goals as goal

-- what follows the section's first word
abbrev after_word : {A : Type 0} → (Text → Outcome (AttrView A)) → List ℕ → (ℕ → Rule A) → Unit {0} → Text → Outcome (List (Entry ℕ A (Written A)))
after_word attr marks rules u t = entries_after attr marks rules (length t) [] t

pub returns-in_err-spaced_text_demanded-clause-read : goal.returns-in_err-spaced_text_demanded-clause-read
returns-in_err-spaced_text_demanded-clause-read g c =
    let marks = marks_of c.args.s.now.state in
    rw (propagated c.from_residual.result c.from_residual.ensures.1) (must_refuse alone (first_refused alone {sees = λ _. []} (after_word (attr_at g.A.IrText.reading) (indices_of marks) (rules_of marks)) c.in_err-spaced_text_demanded.ensures))

pub returns-in_err-spaced_text_demanded-clause-only : goal.returns-in_err-spaced_text_demanded-clause-only
returns-in_err-spaced_text_demanded-clause-only g c = only_none c.args.s.now.state

pub entries_parse-requires : goal.entries_parse-requires
entries_parse-requires g c =
    let marks = marks_of c.args.s.now.state in
    record { fine = fine_there alone (first alone (after_word (attr_at g.A.IrText.reading) (indices_of marks) (rules_of marks)) c.in_ok-spaced_text_demanded.ensures) }

pub returns-clause-read : goal.returns-clause-read
returns-clause-read g c =
    let marks = marks_of c.args.s.now.state in
    let h = c.entries_parse.ensures.read in
    record {
      meant = h.meant;
      means = subst (λ t. IfOk c.entries_parse.result (λ y. AreEntriesOver marks c.args.s.now.state.ctx.now.paths c.entries_parse.new.s.state.ctx.now.paths t y (h.meant y))) (must_whole alone c.in_ok-spaced_text_demanded.ensures) h.means;
      read = last alone (first alone (after_word (attr_at g.A.IrText.reading) (indices_of marks) (rules_of marks)) c.in_ok-spaced_text_demanded.ensures) h.read;
    }
