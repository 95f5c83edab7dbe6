use Rattle.std.proofs.Common.{ℕ, List, [], refl, codes, subst}
use Rattle.irtext_base.specs.Answers.{Outcome, mapped, followed}
use Rattle.irtext_base.specs.Locations.{AttrView}
use Rattle.irtext_base.specs.Text.{Text}
use Rattle.irtext_tokens.specs.AttrTexts.{attr_at}
use Rattle.irtext_tokens.specs.ListOutcomes.{separated_at}
use Rattle.irtext_tokens.specs.Tokens.{space_at, text_at}
use Rattle.irtext_tokens.proofs.Exits.{propagated}
use Rattle.irtext_tokens.proofs.Steps.{alone, first, spaced, more, refuses, refuses_seen, last_seen}
use Rattle.irtext_grammar.specs.Grammar.Section.{Item}
use Rattle.irtext_grammar.specs.Grammar.Tree.{Name}
use Rattle.irtext_grammar.specs.Names.Acts.{Rule}
use Rattle.irtext_grammar.specs.Parsed.{Each}
use Rattle.irtext_parse_pieces.proofs.EntrySteps.{first_refused}
use Rattle.irtext_parse_pieces.proofs.Meanings.{must_refuse, passed_whole}
use Rattle.irtext_grammar.specs.Entries.{pairs_at}
use Rattle.irtext_parse_locations.specs.Rules.{rule_for}
use Rattle.irtext_parse_section.specs.Said.{IsPair}
use Rattle.irtext_parse_section.proofs.PairSteps.{kept_at}
use Rattle.irtext_parse_section.proofs.pairs.bracketed_parse.Goals as goal

-- what follows the pairs
abbrev after_pairs : {A : Type 0} → List (Name ℕ × Item ℕ A) → Text → Outcome (List (Name ℕ × Item ℕ A))
after_pairs ps t = mapped (λ _. ps) (text_at (codes "]") t)

-- what follows the opening bracket
abbrev after_bracket : {A : Type 0} → (Text → Outcome (AttrView A)) → Rule A → Unit {0} → Text → Outcome (List (Name ℕ × Item ℕ A))
after_bracket attr rule u t = followed (space_at t) (λ _ u. followed (separated_at 44 (kept_at attr rule) u) after_pairs)

pub returns-in_err-text_demanded : goal.returns-in_err-text_demanded
unfolding pairs_at
returns-in_err-text_demanded g c =
    rw (propagated c.from_residual.result c.from_residual.ensures.1) (must_refuse alone (first_refused alone {sees = λ _. []} (after_bracket (attr_at g.A.IrText.reading) (rule_for c.args.of_block)) c.in_err-text_demanded.ensures))

pub returns-in_err-pairs : goal.returns-in_err-pairs
unfolding pairs_at
returns-in_err-pairs g c =
    let attr = attr_at g.A.IrText.reading in
    let rule = rule_for c.args.of_block in
    let p1 = spaced alone (λ _ u. followed (separated_at 44 (kept_at attr rule) u) after_pairs) (first alone (after_bracket attr rule) c.in_ok-text_demanded.ensures) c.skip_white_space.ensures in
    rw (propagated c.from_residual-in_err-pairs.result c.from_residual-in_err-pairs.ensures.1) (must_refuse alone (refuses alone {sees = λ _. []} after_pairs p1 c.in_err-pairs.ensures.read))

pub returns-in_err-text_demanded-2 : goal.returns-in_err-text_demanded-2
unfolding pairs_at
returns-in_err-text_demanded-2 g c =
    let rule = rule_for c.args.of_block in
    let attr = attr_at g.A.IrText.reading in
    let h = c.in_ok-pairs.ensures in
    let ps = h.meant c.in_ok-pairs.pairs in
    let p1 = spaced alone (λ _ u. followed (separated_at 44 (kept_at attr rule) u) after_pairs) (first alone (after_bracket attr rule) c.in_ok-text_demanded.ensures) c.skip_white_space.ensures in
    let p2 = more alone after_pairs p1 h.read in
    rw (propagated c.from_residual-in_err-text_demanded-2.result c.from_residual-in_err-text_demanded-2.ensures.1) (must_refuse alone (refuses_seen alone {sees = λ _. []} (λ _. ps) p2 c.in_err-text_demanded-2.ensures))

pub returns : goal.returns
unfolding pairs_at
returns g c =
    let attr = attr_at g.A.IrText.reading in
    let rule = rule_for c.args.of_block in
    let h = c.in_ok-pairs.ensures in
    let ps = h.meant c.in_ok-pairs.pairs in
    let p1 = spaced alone (λ _ u. followed (separated_at 44 (kept_at attr rule) u) after_pairs) (first alone (after_bracket attr rule) c.in_ok-text_demanded.ensures) c.skip_white_space.ensures in
    let p2 = more alone after_pairs p1 h.read in
    record {
      meant = λ _. ps;
      means = subst (λ t. Each (IsPair t) c.in_ok-pairs.pairs.items ps) (passed_whole alone p1) h.means;
      read = last_seen alone (λ _. ps) (λ _. ps) c.in_ok-pairs.pairs refl p2 c.in_ok-text_demanded-2.ensures;
    }
