use Rattle.std.proofs.Common.{◌≡◌, Some, drop, ap, ◌∙◌, sym, string_bytes}
use Rattle.std.specs.Str.{chars}
use Rattle.std.proofs.lemmas.Str.{length-encode}
use Rattle.irtext_stream.specs.Stream.{first_of}
use Rattle.irtext_stream.proofs.Bytes.{one_more}
use Rattle.irtext_stream.proofs.stream.TextStream.take_wide.Goals as goal

pub invariant_of-self : goal.invariant_of-self
invariant_of-self c =
    let i = c.self.inside in
    let v = c.self.invariant in
    let bs = string_bytes i.text in
    let h : Some c.in_ok-c.c ≡ first_of (chars (drop i.offset bs)) = c.in_ok-c.ensures ∙ sym (ap (λ v. first_of v.rest) c.self.view_is) in
    let m = one_more bs i.offset c.len_utf8.result c.in_ok-c.c v.0 v.1 v.2 h (c.len_utf8.ensures.value ∙ sym (length-encode c.in_ok-c.c)) in
    (m.within, m.passed_utf8, m.rest_utf8, v.3)

pub returns-clause-after : goal.returns-clause-after
returns-clause-after c =
    let i = c.self.inside in
    let v = c.self.invariant in
    let bs = string_bytes i.text in
    let h : Some c.in_ok-c.c ≡ first_of (chars (drop i.offset bs)) = c.in_ok-c.ensures ∙ sym (ap (λ v. first_of v.rest) c.self.view_is) in
    let m = one_more bs i.offset c.len_utf8.result c.in_ok-c.c v.0 v.1 v.2 h (c.len_utf8.ensures.value ∙ sym (length-encode c.in_ok-c.c)) in
    rw (← c.self.view_is) (m.advances i.failed)
