use Rattle.std.proofs.Common.{◌∙◌, ap, sym, refl}
use Rattle.irtext_tokens.specs.Integers.{hex_int_at}
use Rattle.irtext_syntax.specs.NumberOf.{number_if, number_found}
use Rattle.irtext_syntax.proofs.Narrowed.{gives_narrowed}
use Rattle.irtext_syntax.proofs.Seen.{gives_seen}
use Rattle.irtext_parts.specs.HexTexts.{hex_number_at}
use Rattle.irtext_parts.specs.HexOf.{hex_of}
use Rattle.irtext_parts.proofs.hex.HexPart.read.Goals as goal

pub returns-in-Ok : goal.returns-in-Ok
returns-in-Ok g c =
    let n = g.N.FromStrRadix in
    let old = c.args.stream.now in
    let mid = c.hex_int_parse.new.stream in
    let found = c.new.result.number in
    let made = ap (number_if n) (g.met.N.Integer-1.back c.in-Ok.value ∙ sym c.new.ensures) ∙ number_found n found in
    record { answers = gives_seen (hex_of n) old.failed (hex_number_at n g.N.Integer-1.of old.rest) old mid found c.new.result refl (gives_narrowed (λ z. number_if n (g.N.Integer-1.of z)) old.failed (hex_int_at n.below old.rest) old mid (n.number c.in-Ok.value) found made c.in-Ok.ensures.answers) }
