use Rattle.std.proofs.Common.{ℕ, refl, codes, subst}
use Rattle.irtext_base.specs.Answers.{Outcome, mapped, followed}
use Rattle.irtext_base.specs.Locations.{AttrView}
use Rattle.irtext_base.specs.Text.{Text}
use Rattle.irtext_tokens.specs.AttrTexts.{attr_at}
use Rattle.irtext_tokens.specs.Demanded.{spaced_at}
use Rattle.irtext_tokens.proofs.Exits.{propagated}
use Rattle.irtext_tokens.proofs.Steps.{alone, begins_with, begins_refused, begun_by, more, refuses, refuses_seen, last_seen}
use Rattle.irtext_grammar.specs.Grammar.Section.{Item, direct}
use Rattle.irtext_grammar.specs.Grammar.Tree.{Name, ident}
use Rattle.irtext_parse_pieces.proofs.Meanings.{may_refuse, may_unread, passed_whole}
use Rattle.irtext_grammar.specs.Entries.{item_at}
use Rattle.irtext_parse_section.specs.Said.{IsGiven}
use Rattle.irtext_parse_section.proofs.pairs.pair_parse.Goals as goal

-- what follows `=`
abbrev after_equals : {A : Type 0} → (Text → Outcome (AttrView A)) → Name ℕ → Unit {0} → Text → Outcome (Name ℕ × Item ℕ A)
after_equals attr key u t = mapped (λ i. (key, i)) (item_at attr t)

-- what follows the key
abbrev after_key : {A : Type 0} → (Text → Outcome (AttrView A)) → Name ℕ → Text → Outcome (Name ℕ × Item ℕ A)
after_key attr key t = followed (spaced_at (codes "=") t) (after_equals attr key)

pub returns-in_err-key : goal.returns-in_err-key
returns-in_err-key g c =
    let h = c.in_err-key.ensures in
    rw (propagated c.from_residual.result c.from_residual.ensures.1) (may_refuse alone (begins_refused alone (λ w. (h.meant w.0, direct (ident w.0.name))) (after_key (attr_at g.A.IrText.reading)) h.read))

pub returns-in_err-spaced_text_demanded : goal.returns-in_err-spaced_text_demanded
returns-in_err-spaced_text_demanded g c =
    let attr = attr_at g.A.IrText.reading in
    let h = c.in_ok-key.ensures in
    let n = h.meant c.in_ok-key.key in
    rw (propagated c.from_residual-in_err-spaced_text_demanded.result c.from_residual-in_err-spaced_text_demanded.ensures.1)
    (may_unread alone (after_key attr) h.read (refuses alone {sees = λ w. (n, direct (ident w.0.name))} (after_equals attr n) (begins_with alone (after_key attr) h.read) c.in_err-spaced_text_demanded.ensures))

pub returns-in_err-given : goal.returns-in_err-given
returns-in_err-given g c =
    let attr = attr_at g.A.IrText.reading in
    let h = c.in_ok-key.ensures in
    let n = h.meant c.in_ok-key.key in
    let q = more alone (after_equals attr n) (begins_with alone (after_key attr) h.read) c.in_ok-spaced_text_demanded.ensures in
    rw (propagated c.from_residual-in_err-given.result c.from_residual-in_err-given.ensures.1) (may_unread alone (after_key attr) h.read (refuses_seen alone {sees = λ w. (n, direct (ident w.0.name))} (λ i. (n, i)) q c.in_err-given.ensures.read))

pub returns : goal.returns
returns g c =
    let attr = attr_at g.A.IrText.reading in
    let h = c.in_ok-key.ensures in
    let key = c.in_ok-key.key in
    let i = c.in_ok-given.ensures in
    let given = c.in_ok-given.given in
    let q = more alone (after_equals attr (h.meant key)) (begins_with alone (after_key attr) h.read) c.in_ok-spaced_text_demanded.ensures in
    record {
      meant = λ _. (h.meant key, i.meant given);
      means = (h.means, subst (λ t. IsGiven t given (i.meant given)) (passed_whole alone q) i.means);
      read = begun_by alone (after_key attr) h.read (last_seen alone (λ _. (h.meant key, i.meant given)) (λ i. (h.meant key, i)) (key, given) refl q i.read);
    }
