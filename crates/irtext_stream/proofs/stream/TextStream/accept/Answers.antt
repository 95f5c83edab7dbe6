use Rattle.std.proofs.Common.{◌∙◌, ◌+◌, ap, sym, refl, string_bytes, length, drop}
use Rattle.std.specs.Str.{chars}
use Rattle.irtext_stream.specs.Stream.{StreamView, after_taken}
use Rattle.irtext_stream.specs.Index.{ComesAt}
use Rattle.irtext_stream.proofs.stream.TextStream.accept.Goals as goal

pub invariant_of-self : goal.invariant_of-self
invariant_of-self c =
    let i = c.self.inside in
    let b : ComesAt (string_bytes i.text) i.offset c.args.text.now = rw c.as_str.ensures.value at c.if-not-comes_at.ensures in
    (b.within, b.passed_utf8, b.rest_utf8, c.self.invariant.3)

pub returns-then-not-comes_at : goal.returns-then-not-comes_at
returns-then-not-comes_at c =
    let i = c.self.inside in
    (λ rest e. c.if-not-comes_at.ensures rest (ap (λ z. chars (drop i.offset z)) c.as_str.ensures.value ∙ (ap (λ s. s.rest) c.self.view_is ∙ e)), refl)

pub returns : goal.returns
returns c =
    let i = c.self.inside in
    let bs = string_bytes i.text in
    let b : ComesAt bs i.offset c.args.text.now = rw c.as_str.ensures.value at c.if-not-comes_at.ensures in
    let rest = chars (drop (i.offset + length c.args.text.now) bs) in
    (rest, sym (ap (λ s. s.rest) c.self.view_is) ∙ b.rest, ap (λ p. let r : StreamView = record { passed = p; rest = rest; failed = i.failed } in r) b.passed ∙ ap (λ s. after_taken s (chars c.args.text.now) rest) c.self.view_is)
