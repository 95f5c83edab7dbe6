use Rattle.std.proofs.Common.{◌∙◌, sym, ap, codes}
use Rattle.std.specs.Char.{is_ascii_hexdigit}
use Rattle.irtext_base.specs.Text.{front}
use Rattle.irtext_base.proofs.Compose.{seen_after, fine_before, takes_same_stream}
use Rattle.irtext_tokens.specs.QuotedTexts.{character_of}
use Rattle.irtext_tokens.proofs.SetBack.{set_within}
use Rattle.irtext_tokens.proofs.Steps.{lens}
use Rattle.irtext_tokens.proofs.QuotedSteps.{opened, digits_counted, unopened, uncounted, unclosed, unnamed, braces_closed}
use Rattle.irtext_tokens.proofs.irfmt.parsers.quoted.unicode_parse.Goals as goal

pub returns-then-not-next_is : goal.returns-then-not-next_is
returns-then-not-next_is g c = λ before k p.
    let m = g.met.S.CharStream in
    unopened g.S.CharStream.view g.S.CharStream.at m.view_at m.at_view m.at_at before c.args.stream.now c.commit_unexpected.new.stream c.commit_unexpected.result k (sym c.next_is.ensures ∙ c.if-not-next_is.true) c.commit_unexpected.ensures

pub returns-then-not-begins : goal.returns-then-not-begins
returns-then-not-begins g c = λ before k p.
    let m = g.met.S.CharStream in
    let o = opened g.S.CharStream.view g.S.CharStream.at m.view_at m.at_view m.at_at before c.args.stream.now c.take.new.self k (sym c.next_is.ensures ∙ c.if-not-next_is.false) c.take.ensures.after in
    uncounted g.S.CharStream.view g.S.CharStream.at m.view_at m.at_view m.at_at before c.take.new.self c.commit_unexpected-then-not-begins.new.stream c.commit_unexpected-then-not-begins.result o (sym c.begins.ensures ∙ c.if-not-begins.true) c.commit_unexpected-then-not-begins.ensures

pub returns-then-not-next_is-2 : goal.returns-then-not-next_is-2
returns-then-not-next_is-2 g c = λ before k p.
    let m = g.met.S.CharStream in
    let h = digits_counted g.S.CharStream.view g.S.CharStream.at m.view_at m.at_view m.at_at before c.args.stream.now c.take.new.self c.take_digits-number.new.stream k (sym c.next_is.ensures ∙ c.if-not-next_is.false) c.take.ensures.after (sym c.begins.ensures ∙ c.if-not-begins.false) c.take_digits-number.ensures.takes in
    unclosed g.S.CharStream.view g.S.CharStream.at m.view_at m.at_view m.at_at before c.take_digits-number.new.stream c.commit_unexpected-then-not-next_is-2.new.stream (front is_ascii_hexdigit (g.S.CharStream.view c.take.new.self).rest) c.commit_unexpected-then-not-next_is-2.result h (sym c.next_is-2.ensures ∙ c.if-not-next_is-2.true) c.commit_unexpected-then-not-next_is-2.ensures

pub returns-in_default : goal.returns-in_default
returns-in_default g c = λ before k p.
    let m = g.met.S.CharStream in
    let h = digits_counted g.S.CharStream.view g.S.CharStream.at m.view_at m.at_view m.at_at before c.args.stream.now c.take.new.self c.take_digits-number.new.stream k (sym c.next_is.ensures ∙ c.if-not-next_is.false) c.take.ensures.after (sym c.begins.ensures ∙ c.if-not-begins.false) c.take_digits-number.ensures.takes in
    let e = sym (ap character_of c.take_digits-number.ensures.value) ∙ (sym c.character.ensures ∙ c.in_default.is) in
    let s = sym (ap (λ v. v.passed) (seen_after g.S.CharStream.view g.S.CharStream.at m.view_at m.at_at c.take.new.self c.take_digits-number.new.stream _ _ c.take_digits-number.ensures.takes)) in
    let w = set_within (lens g.S.CharStream.view g.S.CharStream.at m.view_at m.at_view m.at_at) before c.take_digits-number.new.stream (takes_same_stream g.S.CharStream.view g.S.CharStream.at m.view_at m.at_at _ _ _ _ h.takes) in
    unnamed g.S.CharStream.view g.S.CharStream.at m.view_at m.at_view m.at_at before c.take.new.self c.take_digits-number.new.stream c.no_character.new.stream c.no_character.result h (sym c.next_is-2.ensures ∙ c.if-not-next_is-2.false) e
    (fine_before g.S.CharStream.view g.S.CharStream.at m.view_at m.at_at before c.args.stream.now (codes "\\u") _ k c.requires) (c.no_character.ensures _ _ w p _ (front is_ascii_hexdigit (g.S.CharStream.view c.take.new.self).rest) s c.position-digits.ensures)

pub returns : goal.returns
returns g c = λ before k p.
    let m = g.met.S.CharStream in
    let h = digits_counted g.S.CharStream.view g.S.CharStream.at m.view_at m.at_view m.at_at before c.args.stream.now c.take.new.self c.take_digits-number.new.stream k (sym c.next_is.ensures ∙ c.if-not-next_is.false) c.take.ensures.after (sym c.begins.ensures ∙ c.if-not-begins.false) c.take_digits-number.ensures.takes in
    braces_closed g.S.CharStream.view g.S.CharStream.at m.view_at m.at_view m.at_at before c.take_digits-number.new.stream c.take-2.new.self (front is_ascii_hexdigit (g.S.CharStream.view c.take.new.self).rest) c.in-Some.c h (sym c.next_is-2.ensures ∙ c.if-not-next_is-2.false) (c.in-Some.ensures ∙ ap character_of c.take_digits-number.ensures.value) c.take-2.ensures.after

pub no_character-requires : goal.no_character-requires
no_character-requires g c =
    let m = g.met.S.CharStream in
    let opens = g.S.CharStream.view c.take.new.self in
    let s = sym (ap (λ v. v.passed) (seen_after g.S.CharStream.view g.S.CharStream.at m.view_at m.at_at c.take.new.self c.take_digits-number.new.stream _ _ c.take_digits-number.ensures.takes)) in
    (opens.passed, front is_ascii_hexdigit opens.rest, s, c.position-digits.ensures)
