use Rattle.std.proofs.Common.{◌∙◌, ap, sym, string_bytes, refl, ◌++◌}
use Rattle.irtext_stream.proofs.Bytes.{parts_at}
use Rattle.irtext_stream.proofs.stream.TextStream.reset.Goals as goal

pub invariant_of-self : goal.invariant_of-self
invariant_of-self c =
    let i = c.self.inside in
    let v = c.self.invariant in
    let p = c.requires in
    let at = parts_at (string_bytes i.text) i.offset c.args.place.offset p.passed p.rest v.1 v.2 (p.same ∙ sym (ap (λ s. s.passed ++ s.rest) c.self.view_is)) p.positioned in
    (at.within, at.passed_utf8, at.rest_utf8, v.3)

pub returns : goal.returns
returns c = λ passed rest same positioned.
    let i = c.self.inside in
    let v = c.self.invariant in
    let at = parts_at (string_bytes i.text) i.offset c.args.place.offset passed rest v.1 v.2 (same ∙ sym (ap (λ s. s.passed ++ s.rest) c.self.view_is)) positioned in
    rw (at.passed_is, at.rest_is, ← c.self.view_is) refl
