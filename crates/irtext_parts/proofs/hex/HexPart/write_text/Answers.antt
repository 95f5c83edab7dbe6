use Rattle.std.proofs.Common.{◌≡◌, ◌∙◌, ◌++◌, ap, subst, string_bytes}
use Rattle.std.specs.Prelude.{OnOk}
use Rattle.irtext_syntax.specs.Numbers.{natural}
use Rattle.irtext_parts.specs.HexTexts.{hex_text}
use Rattle.irtext_parts.specs.HexLaws.{encodes-hex}
use Rattle.irtext_parts.proofs.hex.HexPart.write_text.Goals as goal

pub returns-clause-text : goal.returns-clause-text
returns-clause-text g c =
    let n = g.N.FromStrRadix in
    let bits = ap (λ z. hex_text (natural z)) (c.bits.ensures ∙ ap n.number c.get.ensures) in
    rw (encodes-hex n g.N.Integer-1.of g.met.N.FromStrRadix.narrow g.met.N.Integer-1.back g.met.N.Bits.unsigned c.args.self.now)
    (subst (λ z. OnOk c.write_hex.result (string_bytes c.write_hex.new.f ≡ string_bytes c.args.f.now ++ z)) bits c.write_hex.ensures.text)
