use Rattle.std.proofs.Common.{◌≡◌, ◌++◌, [], false, length, refl, ap, arith, string_bytes, rules}
use Rattle.std.proofs.lemmas.Str.{IsUtf8-string_bytes}
use Rattle.std.specs.Prelude.{codes}
use Rattle.std.specs.Char.{encode_utf8}
use Rattle.std.specs.Str.{chars}
use Rattle.irtext_stream.specs.NotationPieces.{letters_after}
use Rattle.irtext_stream.specs.NotationFaults.{whole}
use Rattle.irtext_stream.proofs.NotationSteps.{spelled_more, spelled_twice, spelled_done, spelled_unmet, past_shorter, handed}
use Rattle.irtext_stream.proofs.notation.pieces.letters.Goals as goal
use Rattle.irtext_stream.proofs.notation.pieces.letters.Goals.{else-c-eq96-via-then-c-eq96+else-not-past, else-c-eq96-via-else-c-eq96}

pub loop-c-init : goal.loop-c-init
loop-c-init c = record { found = _; bytes_are = c.new-text.ensures.bytes; left = refl; same = refl }

pub returns-then-not-past : goal.returns-then-not-past
returns-then-not-past c =
    spelled_done c.loop-c.invariant c.in-Some.c c.letter.new.stream c.past.new.stream (IsUtf8-string_bytes c.loop-c.text) c.in-Some.ensures c.if-c-eq96.true c.if-not-past.ensures.0 c.if-not-past.ensures.1

pub loop-c-smaller : goal.loop-c-smaller
loop-c-smaller c =
    elim c.else-c-eq96.branch [
      | else-c-eq96-via-then-c-eq96+else-not-past w ↦ (
          let p = past_shorter (codes "`") c.letter.new.stream.rest w.past.new.stream.rest w.if-not-past.ensures.0 in
          omega (arith, p, ap length c.in-Some.ensures.0, ap (λ v. length v.rest) w.stream-is))
      | else-c-eq96-via-else-c-eq96 w ↦ omega (arith, ap length c.in-Some.ensures.0, ap (λ v. length v.rest) w.stream-is)
    ]

pub loop-c-preserved : goal.loop-c-preserved
loop-c-preserved c =
    let grown : string_bytes c.push.new.text ≡ string_bytes c.loop-c.text ++ encode_utf8 c.in-Some.c = search rules in
    elim c.else-c-eq96.branch [
      | else-c-eq96-via-then-c-eq96+else-not-past w ↦ rw w.stream-is (spelled_twice c.loop-c.invariant _ c.in-Some.c c.letter.new.stream w.past.new.stream c.in-Some.ensures w.if-c-eq96.true w.if-not-past.ensures.0 w.if-not-past.ensures.1 grown)
      | else-c-eq96-via-else-c-eq96 w ↦ rw w.stream-is (spelled_more c.loop-c.invariant _ c.in-Some.c c.letter.new.stream c.in-Some.ensures w.if-c-eq96.false grown)
    ]

pub returns-in_err-push : goal.returns-in_err-push
returns-in_err-push c =
    let old = c.args.stream.now in
    handed (λ s. chars (string_bytes s)) (whole old) (letters_after [] false old.rest) c.else-c-eq96.stream c.from_residual.result _ c.from_residual.ensures.1 tt

pub returns : goal.returns
returns c = spelled_unmet c.loop-c.invariant c.letter.new.stream c.lack.result c.in_default.ensures c.lack.ensures
