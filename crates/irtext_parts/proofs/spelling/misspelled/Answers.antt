use Rattle.std.proofs.Common.{rules, ◌≡◌, ◌++◌, ◌∙◌, sym, ap, ap₂, append_assoc, string_bytes, inr}
use Rattle.irtext_base.specs.Faults.{OwnText, fault_of}
use Rattle.irtext_parts.proofs.spelling.misspelled.Goals as goal

pub returns-in-Ok : goal.returns-in-Ok
returns-in-Ok g c = λ passed taken same positioned.
    let old = c.args.stream.now in
    let r = c.refuse_at.ensures in
    let whole = sym (append_assoc passed taken old.rest) ∙ ap (λ z. z ++ old.rest) same in
    let text : string_bytes c.in-Ok.text ≡ c.refusal-refusal.result.now ++ c.text_since-found.result.now = search rules in
    inr (record {
      because = ap fault_of r.cause ∙ ap OwnText (text ∙ ap₂ (λ y z. y ++ z) c.refusal-refusal.ensures (c.text_since-found.ensures passed taken same positioned));
      committed = r.committed;
      place = r.at passed (taken ++ old.rest) whole positioned;
      left = r.left;
    })
