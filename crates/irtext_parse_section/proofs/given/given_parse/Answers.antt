use Rattle.std.proofs.Common.{ℕ, List, [], Option, None, refl, subst}
use Rattle.irtext_base.specs.Answers.{Outcome, mapped}
use Rattle.irtext_base.specs.Locations.{AttrView}
use Rattle.irtext_base.specs.Paths.{Written}
use Rattle.irtext_base.specs.Text.{Text}
use Rattle.irtext_tokens.specs.AttrTexts.{attr_at}
use Rattle.irtext_tokens.proofs.Exits.{propagated}
use Rattle.irtext_tokens.proofs.Steps.{alone, first, refuses_seen, last_seen}
use Rattle.irtext_grammar.specs.Grammar.Section.{Item}
use Rattle.irtext_grammar.specs.Grammar.Tree.{Name}
use Rattle.irtext_grammar.specs.Names.Acts.{Rule}
use Rattle.irtext_grammar.specs.Promises.Section.{given_over}
use Rattle.irtext_parse_pieces.proofs.EntrySteps.{first_refused}
use Rattle.irtext_parse_pieces.proofs.Meanings.{must_refuse, must_whole}
use Rattle.irtext_grammar.specs.Entries.{pairs_at}
use Rattle.irtext_parse_locations.specs.Rules.{rule_for}
use Rattle.irtext_parse_section.specs.Said.{ArePairs}
use Rattle.irtext_parse_section.proofs.given.given_parse.Goals as goal

-- what follows the location
abbrev after_location : {A : Type 0} → (Text → Outcome (AttrView A)) → Rule A → Option (Written A) → Text → Outcome (Option (Written A) × List (Name ℕ × Item ℕ A))
after_location attr rule l t = mapped (λ ps. (l, ps)) (pairs_at attr rule t)

pub returns-in_err-location-clause-read : goal.returns-in_err-location-clause-read
returns-in_err-location-clause-read g c =
    rw (propagated c.from_residual.result c.from_residual.ensures.1) (must_refuse alone (first_refused alone {sees = λ _. (None, [])} (after_location (attr_at g.A.IrText.reading) (rule_for c.args.of_block)) c.in_err-location.ensures.read.read))

pub returns-in_err-pairs-clause-read : goal.returns-in_err-pairs-clause-read
returns-in_err-pairs-clause-read g c =
    let l = given_over c.entry_location.new.ctx.paths c.in_ok-location.location in
    rw (propagated c.from_residual-in_err-pairs.result c.from_residual-in_err-pairs.ensures.1) (must_refuse alone (refuses_seen alone {sees = λ _. (None, [])} (λ ps. (l, ps)) (first alone (after_location (attr_at g.A.IrText.reading) (rule_for c.args.of_block)) c.in_ok-location.ensures.read.read) c.in_err-pairs.ensures.read))

pub returns-clause-read : goal.returns-clause-read
returns-clause-read g c =
    let l = given_over c.entry_location.new.ctx.paths c.in_ok-location.location in
    let h = c.in_ok-location.ensures.read in
    let i = c.in_ok-pairs.ensures in
    let pairs = c.in_ok-pairs.pairs in
    record {
      meant = λ _. (l, i.meant pairs);
      means = record { known = h.known; location = refl; pairs = subst (λ t. ArePairs t pairs (i.meant pairs)) (must_whole alone h.read) i.means };
      read = last_seen alone (λ _. (l, i.meant pairs)) (λ ps. (l, ps)) (c.in_ok-location.location, pairs) refl (first alone (after_location (attr_at g.A.IrText.reading) (rule_for c.args.of_block)) h.read) i.read;
    }
