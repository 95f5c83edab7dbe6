use Rattle.std.proofs.Common.{◌∙◌, ap, subst}
use Rattle.irtext_base.specs.Answers.{Takes}
use Rattle.irtext_base.specs.Text.{front, after}
use Rattle.irtext_tokens.specs.Digits.{base, is_digit_in, value_in}
use Rattle.irtext_tokens.proofs.Words.{digits_since, list_all-front}
use Rattle.irtext_tokens.proofs.irfmt.parsers.digits.take_digits.Goals as goal

pub value_of-requires : goal.value_of-requires
value_of-requires g c =
    let m = g.met.S.CharStream in
    let r = c.args.radix in
    let d = digits_since g.S.CharStream.view g.S.CharStream.at m.view_at m.at_at r c.class.result c.args.stream.now c.skip_class.new.stream c.position-place.result c.as_bytes.result.now c.text_since.result.now c.class.ensures c.skip_class.ensures c.position-place.ensures c.text_since.ensures c.as_bytes.ensures.value in
    rw d (list_all-front (is_digit_in r) (g.S.CharStream.view c.args.stream.now).rest)

pub returns-clause-value : goal.returns-clause-value
returns-clause-value g c =
    let m = g.met.S.CharStream in
    let r = c.args.radix in
    let d = digits_since g.S.CharStream.view g.S.CharStream.at m.view_at m.at_at r c.class.result c.args.stream.now c.skip_class.new.stream c.position-place.result c.as_bytes.result.now c.text_since.result.now c.class.ensures c.skip_class.ensures c.position-place.ensures c.text_since.ensures c.as_bytes.ensures.value in
    c.value_of.ensures ∙ ap (value_in (base r)) d

pub returns-clause-takes : goal.returns-clause-takes
returns-clause-takes g c =
    let view = g.S.CharStream.view in
    let rest = (view c.args.stream.now).rest in
    subst (λ t. Takes view g.S.CharStream.at (front t rest) (after t rest) c.args.stream.now c.skip_class.new.stream) c.class.ensures c.skip_class.ensures
