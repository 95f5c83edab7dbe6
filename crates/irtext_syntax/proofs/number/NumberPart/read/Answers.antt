use Rattle.std.proofs.Common.{◌∙◌, ap, sym}
use Rattle.irtext_tokens.specs.Integers.{int_at}
use Rattle.irtext_syntax.specs.NumberOf.{number_if, number_found}
use Rattle.irtext_syntax.proofs.Narrowed.{gives_narrowed}
use Rattle.irtext_syntax.proofs.number.NumberPart.read.Goals as goal

pub returns-in-Ok : goal.returns-in-Ok
returns-in-Ok g c =
    let n = g.N.FromStrRadix in
    let made = ap (number_if n) (g.met.N.Integer-1.back c.in-Ok.value ∙ sym c.new.ensures) ∙ number_found n c.new.result in
    record { answers = gives_narrowed (λ z. number_if n (g.N.Integer-1.of z)) c.args.stream.now.failed (int_at n.below c.args.stream.now.rest) c.args.stream.now c.int_parse.new.stream (n.number c.in-Ok.value) c.new.result made c.in-Ok.ensures.answers }
