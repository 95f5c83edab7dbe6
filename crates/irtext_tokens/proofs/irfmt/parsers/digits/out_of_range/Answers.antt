use Rattle.std.proofs.Common.{◌++◌, ◌∙◌, sym, ap, append_assoc, inr}
use Rattle.irtext_base.specs.Faults.{NumberRange, fault_of}
use Rattle.irtext_tokens.proofs.irfmt.parsers.digits.out_of_range.Goals as goal

pub returns-in-Ok : goal.returns-in-Ok
returns-in-Ok g c = λ passed taken same positioned.
    let old = g.S.CharStream.view c.args.stream.now in
    let r = c.refuse_at.ensures in
    let whole = sym (append_assoc passed taken old.rest) ∙ ap (λ z. z ++ old.rest) same in
    inr (record {
      because = ap fault_of r.cause ∙ ap NumberRange (c.in-Ok.ensures.ok ∙ c.text_since.ensures passed taken same positioned);
      committed = r.committed;
      place = r.at passed (taken ++ old.rest) whole positioned;
      left = r.left;
    })
