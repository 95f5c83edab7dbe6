use Rattle.std.proofs.Common.{◌∙◌, ap, sym, string_bytes, take, length}
use Rattle.std.proofs.lemmas.Str.{encodes-chars}
use Rattle.std.proofs.lemmas.List.{length-take-le}
use Rattle.irtext_stream.proofs.stream.TextStream.position.Goals as goal

pub returns : goal.returns
returns c =
    let i = c.self.inside in
    let v = c.self.invariant in
    rw (← c.self.view_is) (sym (length-take-le i.offset (string_bytes i.text) v.0) ∙ ap length (sym (encodes-chars (take i.offset (string_bytes i.text)) v.1)))
