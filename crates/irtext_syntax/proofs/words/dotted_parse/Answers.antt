use Rattle.std.proofs.Common.{◌≡◌, ◌∙◌, ◌++◌, ◌⊎◌, subst, false, refl, sym, ap}
use Rattle.irtext_base.specs.Text.{front, after}
use Rattle.irtext_base.specs.Answers.{RunsOutHere, FailsAfter}
use Rattle.irtext_base.specs.Faults.{demand_of, OwnText}
use Rattle.irtext_base.proofs.Compose.{refuses_before, seen_after}
use Rattle.irtext_tokens.proofs.Words.{encodes-front}
use Rattle.irtext_syntax.specs.Words.{in_dotted}
use Rattle.irtext_syntax.proofs.DottedRead.{in_dotted_ascii, dotted_read, dotted_refused}
use Rattle.irtext_syntax.proofs.words.dotted_parse.Goals as goal

pub returns-in-Some : goal.returns-in-Some
returns-in-Some g c =
    dotted_read g.W.Table.word c.args.refusal.now (demand_of c.args.expected) c.in-Some.word c.args.stream.now c.take_dotted.new.stream (sym c.has_failed.ensures ∙ c.if-has_failed.false) (sym c.begins.ensures ∙ c.if-not-begins.false)
    (sym c.take_dotted.ensures.word ∙ c.in-Some.is) c.take_dotted.ensures.taken

pub returns : goal.returns
returns g c =
    let old = c.args.stream.now in
    let text = old.rest in
    let refusal = c.args.refusal.now in
    let f : old.failed ≡ false = sym c.has_failed.ensures ∙ c.if-has_failed.false in
    let mid = c.take_dotted.new.stream in
    let taken = c.take_dotted.ensures.taken in
    let same = sym (ap (λ v. v.passed) (seen_after (λ s. s) (λ s v. v) (λ s v. refl) (λ s v w. refl) old mid (front in_dotted text) (after in_dotted text) taken)) in
    let end = c.unregistered.new.stream in
    let fault = c.unregistered.result in
    let cause = subst (λ z. RunsOutHere (λ s. s) (λ s v. v) mid fault end ⊎ FailsAfter (λ s. s) (λ s v. v) (OwnText (refusal ++ z)) old.passed mid fault end) (encodes-front in_dotted in_dotted_ascii text) (c.unregistered.ensures old.passed (front in_dotted text) same c.position-place.ensures) in
    rw (dotted_refused g.W.Table.word refusal (demand_of c.args.expected) text old.failed f (sym c.begins.ensures ∙ c.if-not-begins.false) (sym c.take_dotted.ensures.word ∙ c.in-None.is))
    (refuses_before (λ s. s) (λ s v. v) (λ s v. refl) (λ s v w. refl) (OwnText (refusal ++ front in_dotted text)) old mid end (front in_dotted text) (after in_dotted text) fault f taken cause)

pub unregistered-requires : goal.unregistered-requires
unregistered-requires g c =
    let old = c.args.stream.now in
    let same = sym (ap (λ v. v.passed) (seen_after (λ s. s) (λ s v. v) (λ s v. refl) (λ s v w. refl) old c.take_dotted.new.stream (front in_dotted old.rest) (after in_dotted old.rest) c.take_dotted.ensures.taken)) in
    (old.passed, front in_dotted old.rest, same, c.position-place.ensures)
