use Rattle.std.proofs.Common.{◌∙◌, ap, sym, string_bytes}
use Rattle.irtext_stream.proofs.Bytes.{Between, between}
use Rattle.irtext_stream.proofs.stream.TextStream.text_since.Goals as goal

found : (c : goal.After-as_str) → Between (string_bytes c.self.inside.text) c.self.inside.offset c.args.place.offset c.requires.1
found c =
    let i = c.self.inside in
    let v = c.self.invariant in
    between (string_bytes i.text) i.offset c.args.place.offset c.requires.0 c.requires.1 v.0 v.1 v.2 (c.requires.2 ∙ sym (ap (λ s. s.passed) c.self.view_is)) c.requires.3

pub range-requires-clause-start_le_end : goal.range-requires-clause-start_le_end
range-requires-clause-start_le_end c = (found c).before

pub range-requires-clause-start_boundary : goal.range-requires-clause-start_boundary
range-requires-clause-start_boundary c = λ h. rw c.as_str.ensures.value (found c).from

pub range-requires-clause-end_boundary : goal.range-requires-clause-end_boundary
range-requires-clause-end_boundary c = rw c.as_str.ensures.value (found c).to

pub returns : goal.returns
returns c = λ passed taken same positioned.
    let i = c.self.inside in
    let v = c.self.invariant in
    let b = between (string_bytes i.text) i.offset c.args.place.offset passed taken v.0 v.1 v.2 (same ∙ sym (ap (λ s. s.passed) c.self.view_is)) positioned in
    let h = c.range.ensures.value in
    rw (h, c.as_str.ensures.value) b.slice
