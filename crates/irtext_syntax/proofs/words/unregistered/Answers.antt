use Rattle.std.proofs.Common.{rules, ◌≡◌, ◌++◌, ◌∙◌, sym, ap, append_assoc, string_bytes, inr}
use Rattle.irtext_base.specs.Faults.{OwnText, fault_of}
use Rattle.irtext_syntax.proofs.words.unregistered.Goals as goal

pub returns-in-Ok : goal.returns-in-Ok
returns-in-Ok g c = λ passed taken same positioned.
    let old = c.args.stream.now in
    let refusal = c.args.refusal.now in
    let r = c.refuse_at.ensures in
    let whole = sym (append_assoc passed taken old.rest) ∙ ap (λ z. z ++ old.rest) same in
    let text : string_bytes c.in-Ok.text ≡ refusal ++ c.text_since-word.result.now = search rules in
    inr (record {
      because = ap fault_of r.cause ∙ ap OwnText (text ∙ ap (λ z. refusal ++ z) (c.text_since-word.ensures passed taken same positioned));
      committed = r.committed;
      place = r.at passed (taken ++ old.rest) whole positioned;
      left = r.left;
    })
