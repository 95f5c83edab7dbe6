use Rattle.std.proofs.Common.{◌∙◌, ap, sym}
use Rattle.std.specs.Char.{is_ascii_digit}
use Rattle.std.specs.Option.{option_map}
use Rattle.irtext_base.specs.Text.{front}
use Rattle.irtext_tokens.specs.Integers.{signed_integer, sign_at, int_at}
use Rattle.irtext_tokens.proofs.Exits.{propagated}
use Rattle.irtext_tokens.proofs.Numerals.{signed, signed_made, sign_at-encodes, lead_refused, number_since, number_read, number_refused, number_spares}
use Rattle.irtext_tokens.proofs.Sparing.{lead_spares}
use Rattle.irtext_tokens.proofs.Steps.{Lens, lens}
use Rattle.irtext_tokens.proofs.Words.{encodes-front_digits}
use Rattle.irtext_tokens.proofs.irfmt.parsers.integer.int_parse.Given as given
use Rattle.irtext_tokens.proofs.irfmt.parsers.integer.int_parse.Goals as goal

-- the stream's view, and the rules that it keeps
abbrev stream : (g : given.Over) → Lens g.row.S.Denot
stream g = let m = g.met.S.CharStream in lens g.S.CharStream.view g.S.CharStream.at m.view_at m.at_view m.at_at

pub out_of_range-requires : goal.out_of_range-requires
out_of_range-requires g c =
    let n = signed (stream g) c.in_ok-sign.sign c.args.stream.now c.sign_parse.new.stream c.take_digits-magnitude.new.stream c.in_ok-sign.ensures.answers c.take_digits-magnitude.ensures.takes in
    number_since (stream g) n c.position-place.ensures

pub returns-in-Some-clause-answers : goal.returns-in-Some-clause-answers
unfolding int_at
returns-in-Some-clause-answers g c =
    let n = signed (stream g) c.in_ok-sign.sign c.args.stream.now c.sign_parse.new.stream c.take_digits-magnitude.new.stream c.in_ok-sign.ensures.answers c.take_digits-magnitude.ensures.takes in
    number_read (stream g) n (signed_integer g.N.FromStrRadix.below) _ (signed_made _ g.met.N.FromStrRadix.narrow c.in_ok-sign.sign (front is_ascii_digit ((stream g).view c.sign_parse.new.stream).rest) c.eq.result c.take_digits-magnitude.result _ (sym (ap (option_map g.N.FromStrRadix.number) c.in-Some.is) ∙ c.number_of.ensures) c.eq.ensures c.take_digits-magnitude.ensures.value)

pub returns-in-None-clause-answers : goal.returns-in-None-clause-answers
unfolding int_at
returns-in-None-clause-answers g c =
    let n = signed (stream g) c.in_ok-sign.sign c.args.stream.now c.sign_parse.new.stream c.take_digits-magnitude.new.stream c.in_ok-sign.ensures.answers c.take_digits-magnitude.ensures.takes in
    let made = signed_made g.N.FromStrRadix.below g.met.N.FromStrRadix.narrow c.in_ok-sign.sign (front is_ascii_digit ((stream g).view c.sign_parse.new.stream).rest) c.eq.result c.take_digits-magnitude.result _ (sym (ap (option_map g.N.FromStrRadix.number) c.in-None.is) ∙ c.number_of.ensures) c.eq.ensures c.take_digits-magnitude.ensures.value in
    number_refused (stream g) n (signed_integer g.N.FromStrRadix.below) c.out_of_range.new.stream c.out_of_range.result made (sign_at-encodes ((stream g).view c.args.stream.now).rest _) encodes-front_digits c.position-place.ensures c.out_of_range.ensures

pub returns-in-None-clause-spares : goal.returns-in-None-clause-spares
unfolding int_at
returns-in-None-clause-spares g c =
    let n = signed (stream g) c.in_ok-sign.sign c.args.stream.now c.sign_parse.new.stream c.take_digits-magnitude.new.stream c.in_ok-sign.ensures.answers c.take_digits-magnitude.ensures.takes in
    number_spares (stream g) n (Unit {0}) (signed_integer g.N.FromStrRadix.below) c.out_of_range.result (signed_made _ g.met.N.FromStrRadix.narrow c.in_ok-sign.sign (front is_ascii_digit ((stream g).view c.sign_parse.new.stream).rest) c.eq.result c.take_digits-magnitude.result _ (sym (ap (option_map g.N.FromStrRadix.number) c.in-None.is) ∙ c.number_of.ensures) c.eq.ensures c.take_digits-magnitude.ensures.value)

pub returns-in_err-sign-clause-answers : goal.returns-in_err-sign-clause-answers
unfolding int_at
returns-in_err-sign-clause-answers g c =
    rw (propagated c.from_residual.result c.from_residual.ensures.1) (lead_refused (stream g) is_ascii_digit (signed_integer g.N.FromStrRadix.below) _ c.args.stream.now c.sign_parse.new.stream c.in_err-sign.field-0.0 c.in_err-sign.ensures.answers)

pub returns-in_err-sign-clause-spares : goal.returns-in_err-sign-clause-spares
unfolding int_at
returns-in_err-sign-clause-spares g c =
    let o = sign_at ((stream g).view c.args.stream.now).rest in
    rw (propagated c.from_residual.result c.from_residual.ensures.1) (lead_spares (Unit {0}) (Unit {0}) is_ascii_digit (signed_integer g.N.FromStrRadix.below) ((stream g).view c.args.stream.now).failed o c.in_err-sign.field-0.0 _ c.in_err-sign.ensures.spares)
