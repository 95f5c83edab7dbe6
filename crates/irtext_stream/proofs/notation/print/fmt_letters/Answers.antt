use Rattle.std.proofs.Common.{[], ◌++◌, length, flat_map, refl, sym, ap, ◌∙◌, rules, append_assoc, append-nil}
use Rattle.std.proofs.Output.{has_written_append, has_written_of_eq, writes_in_calls_nil}
use Rattle.std.proofs.lemmas.Str.{cons_from_encodes, encodes-append, encodes-chars}
use Rattle.std.specs.Str.{chars, encode_utf8_all}
use Rattle.irtext_stream.specs.NotationPieces.{spelled}
use Rattle.irtext_stream.proofs.NotationPrinted.{encodes-nil}
use Rattle.irtext_stream.proofs.notation.print.fmt_letters.Goals as goal

pub loop-c-init : goal.loop-c-init
loop-c-init g c =
    let text = c.args.text.now in
    let r = sym (ap (λ i. i.rest.now) c.into_iter-c-iterator.ensures.into_iter_gives ∙ c.chars-c-items.ensures.rest) in
    (tt, tt, λ plain. ([], chars text, encodes-chars text c.utf8.text ∙ r, record { wrote = writes_in_calls_nil _ _; plain = plain }, refl))

pub loop-c-preserved : goal.loop-c-preserved
loop-c-preserved g c = (
  tt,
  tt,
  λ plain.
      let now = c.loop-c.invariant.2 plain in
      let ch = c.in-Some.c in
      let d = cons_from_encodes now.1 c.next.new.self.rest.now ch (now.2 ∙ c.in-Some.ensures.steps.0) in
      let eq = append_assoc now.0 (encode_utf8_all (spelled ch)) (encode_utf8_all (flat_map spelled d.0)) ∙ (ap (λ z. now.0 ++ z) (sym (encodes-append (spelled ch) (flat_map spelled d.0))) ∙ (ap (λ z. now.0 ++ encode_utf8_all (flat_map spelled z)) (sym d.1) ∙ now.4)) in
      (now.0 ++ encode_utf8_all (spelled ch), d.0, d.2, has_written_append _ _ _ _ _ _ now.3 (search rules), eq),
)

pub returns : goal.returns
returns g c = λ plain ok.
    let now = c.loop-c.invariant.2 plain in
    let n = encodes-nil now.1 (ap length now.2 ∙ c.in-None.ensures.steps.0.0) in
    has_written_of_eq _ _ _ _ _ (sym (append-nil now.0) ∙ (ap (λ z. now.0 ++ encode_utf8_all (flat_map spelled z)) (sym n) ∙ now.4)) now.3
