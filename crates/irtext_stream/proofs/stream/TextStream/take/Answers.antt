use Rattle.std.proofs.Common.{◌≡◌, ◌<◌, Some, take, drop, length, get_or, arith, ap, sym, ◌∙◌, string_bytes, ℕ, List}
use Rattle.std.specs.Str.{chars, IsUtf8}
use Rattle.std.proofs.lemmas.Str.{encode_ascii}
use Rattle.irtext_stream.specs.Stream.{first_of}
use Rattle.irtext_stream.proofs.Bytes.{OneMore, one_more, next_by_byte}
use Rattle.irtext_stream.proofs.stream.TextStream.take.Goals as goal

-- the place after a byte that is a character
one_byte : (bs cs : List ℕ) (o b : ℕ) → cs ≡ bs → IsUtf8 (take o bs) → IsUtf8 (drop o bs) → o < length cs → b ≡ get_or cs o 0 → b < 128 → (Some b ≡ first_of (chars (drop o bs))) × OneMore bs o 1 b
one_byte bs cs o b same f u l e h =
    let is : b ≡ get_or bs o 0 = e ∙ ap (λ z. get_or z o 0) same in
    let within : o < length bs = omega (arith, l, ap length same) in
    let next : Some b ≡ first_of (chars (drop o bs)) = ap Some is ∙ next_by_byte bs o u within (omega (arith, is, h)) in
    (next, one_more bs o 1 b (omega arith) f u next (sym (ap length (encode_ascii b h))))

-- the byte at the offset is the next character
next : (c : goal.After-self-1) → (Some c.in-Some.b.now ≡ first_of (chars (drop c.self.inside.offset (string_bytes c.self.inside.text)))) × OneMore (string_bytes c.self.inside.text) c.self.inside.offset 1 c.in-Some.b.now
next c =
    let i = c.self.inside in
    let v = c.self.invariant in
    let h = c.in-Some.ensures.lookup in
    one_byte (string_bytes i.text) c.as_bytes.result.now i.offset c.in-Some.b.now c.as_bytes.ensures.value v.1 v.2 h.3.0 (h.3.1 0) c.if-b-lt128.true

pub invariant_of-self : goal.invariant_of-self
invariant_of-self c = let m = (next c).1 in (m.within, m.passed_utf8, m.rest_utf8, c.self.invariant.3)

pub returns-in-Some-clause-value : goal.returns-in-Some-clause-value
returns-in-Some-clause-value c = (next c).0 ∙ ap (λ v. first_of v.rest) c.self.view_is

pub returns-in-Some-clause-after : goal.returns-in-Some-clause-after
returns-in-Some-clause-after c = rw (← c.self.view_is) ((next c).1.advances c.self.inside.failed)
