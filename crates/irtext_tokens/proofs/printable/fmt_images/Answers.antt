use Rattle.std.proofs.Common.{◌≡◌, ◌∙◌, ◌+◌, ◌<◌, ◌++◌, true, false, length, get_or, refl, sym, ap, subst, string_bytes, arith}
use Rattle.std.proofs.lemmas.Str.{IsCharBoundary-after_ascii, IsCharBoundary-start}
use Rattle.irtext_base.proofs.OnlyAppended.{appends_nothing, appends_next, appends_still, if_failed}
use Rattle.irtext_base.specs.Appending.{OnlyAppends}
use Rattle.irtext_base.specs.Quoted.{image_of}
use Rattle.irtext_tokens.specs.QuotedBytes.{is_escaped}
use Rattle.irtext_tokens.proofs.QuotedText.{Run, run-same, run-plain, run-escaped, run-last, escaped-ascii}
use Rattle.irtext_tokens.proofs.printable.fmt_images.Goals as goal
use Rattle.irtext_tokens.proofs.printable.fmt_images.Goals.{then-is_escaped+in_ok-push_str+in_ok-fmt_escape, else-is_escaped}

pub loop-at-init : goal.loop-at-init
loop-at-init c = (omega arith, IsCharBoundary-start c.args.text.now c.utf8.text, refl, appends_nothing refl)

pub loop-at-preserved : goal.loop-at-preserved
loop-at-preserved c =
    let bs = c.args.text.now in
    let at = c.loop-at.at in
    let begun = c.loop-at.begun in
    let old = string_bytes c.args.f.now in
    let kept = c.loop-at.invariant in
    let inside : at < length bs = omega (arith, c.loop-at-test.true, c.loop-at.auto.at-end, c.as_bytes-bytes.ensures.len) in
    let next : Run bs (at + 1) c.if-is_escaped.begun (string_bytes c.if-is_escaped.f) old = elim c.if-is_escaped.branch [
      | then-is_escaped+in_ok-push_str+in_ok-fmt_escape w ↦
          let escaped : is_escaped (get_or bs at 0) ≡ true = sym (c.is_escaped.ensures ∙ ap (λ z. is_escaped (get_or z at 0)) c.as_bytes-bytes.ensures.value) ∙ w.if-is_escaped.true in
          run-same bs (at + 1) (at + 1) c.if-is_escaped.begun (string_bytes w.fmt_escape.new.f) (string_bytes c.if-is_escaped.f) old w.begun-is (ap string_bytes w.f-is) (record {
            within = omega arith;
            boundary = IsCharBoundary-after_ascii bs at c.utf8.text inside (escaped-ascii (get_or bs at 0) escaped);
            so_far = run-escaped bs begun at old (string_bytes c.loop-at.f) (string_bytes w.push_str.new.text) (string_bytes w.fmt_escape.new.f) inside kept.2
                (w.in_ok-push_str.ensures.bytes ∙ ap (λ z. string_bytes c.loop-at.f ++ z) w.range.ensures.value)
                (w.in_ok-fmt_escape.ensures.text ∙ ap (λ z. string_bytes w.push_str.new.text ++ image_of (get_or z at 0)) c.as_bytes-bytes.ensures.value);
          })
      | else-is_escaped w ↦
          let plain : is_escaped (get_or bs at 0) ≡ false = sym (c.is_escaped.ensures ∙ ap (λ z. is_escaped (get_or z at 0)) c.as_bytes-bytes.ensures.value) ∙ w.if-is_escaped.false in
          run-same bs (at + 1) begun c.if-is_escaped.begun (string_bytes c.loop-at.f) (string_bytes c.if-is_escaped.f) old w.begun-is (ap string_bytes w.f-is) (record {
            within = omega (arith, kept.0);
            boundary = kept.1;
            so_far = run-plain bs begun at old (string_bytes c.loop-at.f) kept.0 inside plain kept.2;
          })
    ] in
    let more : OnlyAppends c.args.f.now c.if-is_escaped.f = elim c.if-is_escaped.branch [
      | then-is_escaped+in_ok-push_str+in_ok-fmt_escape w ↦
          subst (λ f. OnlyAppends c.args.f.now f) (sym w.f-is) (appends_next (appends_next {new = w.push_str.new.text} kept.3 _ w.in_ok-push_str.ensures.bytes) _ w.in_ok-fmt_escape.ensures.text)
      | else-is_escaped w ↦ subst (λ f. OnlyAppends c.args.f.now f) (sym w.f-is) kept.3
    ] in
    (next.within, next.boundary, next.so_far, more)

pub returns-in_err-push_str-clause-appended : goal.returns-in_err-push_str-clause-appended
returns-in_err-push_str-clause-appended c = if_failed _ (appends_still c.loop-at.invariant.3 c.in_err-push_str.ensures.bytes)

pub returns-in_err-push_str-2-clause-appended : goal.returns-in_err-push_str-2-clause-appended
returns-in_err-push_str-2-clause-appended c = if_failed _ (appends_still c.loop-at.invariant.3 c.in_err-push_str-2.ensures.bytes)

pub returns-clause-text : goal.returns-clause-text
returns-clause-text c =
    let end : c.loop-at.at ≡ length c.args.text.now = omega (arith, c.loop-at-test.false, c.loop-at.auto.at-end, c.as_bytes-bytes.ensures.len) in
    run-last c.args.text.now c.loop-at.begun c.loop-at.at (string_bytes c.args.f.now) (string_bytes c.loop-at.f) (string_bytes c.push_str-2.new.text) end
    c.loop-at.invariant.2 (c.in_ok-push_str-2.ensures.bytes ∙ ap (λ z. string_bytes c.loop-at.f ++ z) c.range_from.ensures.value)
