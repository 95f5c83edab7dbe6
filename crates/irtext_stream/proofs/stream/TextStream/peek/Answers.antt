use Rattle.std.proofs.Common.{◌≡◌, ◌<◌, length, get_or, arith, ap, ◌∙◌, string_bytes}
use Rattle.irtext_stream.proofs.Bytes.{next_by_byte, next_at_end}
use Rattle.irtext_stream.proofs.stream.TextStream.peek.Goals as goal

pub returns-in-Some : goal.returns-in-Some
returns-in-Some c =
    let i = c.self.inside in
    let h = c.in-Some.ensures.lookup in
    let bs = string_bytes i.text in
    let b : c.in-Some.b.now ≡ get_or bs i.offset 0 = h.3.1 0 ∙ ap (λ z. get_or z i.offset 0) c.as_bytes.ensures.value in
    let l : i.offset < length bs = omega (arith, h.3.0, ap length c.as_bytes.ensures.value) in
    rw (b, ← c.self.view_is) (next_by_byte bs i.offset c.self.invariant.2 l (omega (arith, b, c.if-b-lt128.true)))

pub returns-in-None : goal.returns-in-None
returns-in-None c =
    let i = c.self.inside in
    let bs = string_bytes i.text in
    rw (← c.self.view_is) (next_at_end bs i.offset (omega (arith, c.in-None.ensures.lookup.3, ap length c.as_bytes.ensures.value)))
