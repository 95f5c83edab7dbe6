use Rattle.std.proofs.Common.{◌≡◌, ◌∙◌, ◌++◌, ◌⊎◌, subst, true, false, refl, sym, ap, string_bytes}
use Rattle.irtext_base.specs.Text.{begins, front, after}
use Rattle.irtext_base.specs.Answers.{RunsOutHere, FailsAfter}
use Rattle.irtext_base.specs.Faults.{OwnText}
use Rattle.irtext_base.proofs.Compose.{refuses_before, seen_after}
use Rattle.irtext_tokens.proofs.Words.{encodes-front, taken_since}
use Rattle.irtext_parts.proofs.SpelledRead.{front_spelled, spelled_read, spelled_refused}
use Rattle.irtext_parts.proofs.spelled.SpelledPart.read.Goals as goal

pub returns-then-not-accepts : goal.returns-then-not-accepts
returns-then-not-accepts g c =
    let old = c.args.stream.now in
    let text = old.rest in
    let rules = g.K.Spelling.rules in
    let law = g.met.K.Spelling.law in
    let found = front rules.later text in
    let f : old.failed ≡ false = sym c.has_failed.ensures ∙ c.if-has_failed.false in
    let b : begins rules.first text ≡ true = sym c.begins_here.ensures ∙ c.if-not-begins_here.false in
    let mid = c.skip_spelled.new.stream in
    let k = c.skip_spelled.ensures in
    let w = taken_since (λ s. s) (λ s v. v) (λ s v. refl) (λ s v w. refl) old mid c.position-place.result c.text_since-found.result.now found (after rules.later text) k c.position-place.ensures c.text_since-found.ensures ∙ encodes-front rules.later law.small text in
    let t : rules.test found ≡ false = ap rules.test (sym w) ∙ (sym c.accepts.ensures ∙ c.if-not-accepts.true) in
    let same = sym (ap (λ v. v.passed) (seen_after (λ s. s) (λ s v. v) (λ s v. refl) (λ s v w. refl) old mid found (after rules.later text) k)) in
    let end = c.misspelled.new.stream in
    let fault = c.misspelled.result in
    let cause = subst (λ z. RunsOutHere (λ s. s) (λ s v. v) mid fault end ⊎ FailsAfter (λ s. s) (λ s v. v) (OwnText (rules.refusal ++ z)) old.passed mid fault end) (encodes-front rules.later law.small text) (c.misspelled.ensures old.passed found same c.position-place.ensures) in
    let q = refuses_before (λ s. s) (λ s v. v) (λ s v. refl) (λ s v w. refl) (OwnText (rules.refusal ++ found)) old mid end found (after rules.later text) fault f k cause in
    record { answers = rw (spelled_refused g.K.Spelling law text old.failed f b t) q }

pub kept-requires : goal.kept-requires
kept-requires g c =
    let old = c.args.stream.now in
    let text = old.rest in
    let rules = g.K.Spelling.rules in
    let law = g.met.K.Spelling.law in
    let found = front rules.later text in
    let b : begins rules.first text ≡ true = sym c.begins_here.ensures ∙ c.if-not-begins_here.false in
    let mid = c.skip_spelled.new.stream in
    let k = c.skip_spelled.ensures in
    let w = taken_since (λ s. s) (λ s v. v) (λ s v. refl) (λ s v w. refl) old mid c.position-place.result c.text_since-found.result.now found (after rules.later text) k c.position-place.ensures c.text_since-found.ensures ∙ encodes-front rules.later law.small text in
    let t : rules.test found ≡ true = ap rules.test (sym w) ∙ (sym c.accepts.ensures ∙ c.if-not-accepts.false) in
    let v = taken_since (λ s. s) (λ s v. v) (λ s v. refl) (λ s v w. refl) old mid c.position-place.result c.text_since.result.now found (after rules.later text) k c.position-place.ensures c.text_since.ensures ∙ encodes-front rules.later law.small text in
    let s : string_bytes c.in-Ok.text ≡ found = c.in-Ok.ensures.ok ∙ v in
    rw s (front_spelled rules law text b t)

pub returns-in-Ok : goal.returns-in-Ok
returns-in-Ok g c =
    let old = c.args.stream.now in
    let text = old.rest in
    let rules = g.K.Spelling.rules in
    let law = g.met.K.Spelling.law in
    let found = front rules.later text in
    let f : old.failed ≡ false = sym c.has_failed.ensures ∙ c.if-has_failed.false in
    let b : begins rules.first text ≡ true = sym c.begins_here.ensures ∙ c.if-not-begins_here.false in
    let mid = c.skip_spelled.new.stream in
    let k = c.skip_spelled.ensures in
    let v = taken_since (λ s. s) (λ s v. v) (λ s v. refl) (λ s v w. refl) old mid c.position-place.result c.text_since.result.now found (after rules.later text) k c.position-place.ensures c.text_since.ensures ∙ encodes-front rules.later law.small text in
    record { answers = spelled_read g.K.Spelling c.kept.result old mid f b (c.kept.ensures ∙ (c.in-Ok.ensures.ok ∙ v)) k }
