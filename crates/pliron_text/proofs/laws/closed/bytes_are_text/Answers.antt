use Rattle.std.proofs.Common.{arith, ap, sym, length}
use Rattle.std.proofs.lemmas.Str.{chars_from_encodes, length-le-encodes}
use Rattle.irtext_base.specs.Own.{texts_of, unplaced}
use Rattle.irtext_grammar.specs.Spelling.Section.{text}
use Rattle.pliron_text.proofs.laws.closed.bytes_are_text.Goals as goal

pub returns : goal.returns
returns g c C isolated x width n limit bytes kept fits utf8 few e =
    let types = texts_of g.T.IrText.reading g.T.IrText.written in
    let owns = texts_of g.A.IrText.reading g.A.IrText.written in
    let t = text (unplaced types owns C.format_of) C x n width limit in
    let is = chars_from_encodes t bytes utf8 (sym e) in
    let same = ap (λ z. length z) is in
    let size = ap (λ z. length z) e in
    let low = length-le-encodes t in
    record { kept = kept; fits = fits; is = sym is; few = omega (arith, few, same, size, low) }
