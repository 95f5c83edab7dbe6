use Rattle.std.proofs.Common.{◌∙◌, inl, string_bytes}
use Rattle.std.specs.Char.{is_ascii_digit}
use Rattle.irtext_tokens.specs.Integers.{signed_text, number_text_at}
use Rattle.irtext_tokens.proofs.Exits.{propagated}
use Rattle.irtext_tokens.proofs.Numerals.{signed, lead_refused, number_since, text_read, number_runs_out}
use Rattle.irtext_tokens.proofs.Steps.{Lens, lens}
use Rattle.irtext_tokens.proofs.irfmt.parsers.integer.number_as_string_parse.Given as given
use Rattle.irtext_tokens.proofs.irfmt.parsers.integer.number_as_string_parse.Goals as goal

-- the stream's view, and the rules that it keeps
abbrev stream : (g : given.Over) → Lens g.row.S.Denot
stream g = let m = g.met.S.CharStream in lens g.S.CharStream.view g.S.CharStream.at m.view_at m.at_view m.at_at

pub returns-in_err-sign_parse : goal.returns-in_err-sign_parse
unfolding number_text_at
returns-in_err-sign_parse g c =
    rw (propagated c.from_residual.result c.from_residual.ensures.1) (lead_refused (stream g) is_ascii_digit signed_text _ c.args.stream.now c.sign_parse.new.stream c.in_err-sign_parse.field-0.0 c.in_err-sign_parse.ensures.answers)

pub text_since-requires : goal.text_since-requires
text_since-requires g c =
    let n = signed (stream g) c.in_ok-sign_parse.field-0 c.args.stream.now c.sign_parse.new.stream c.skip_class.new.stream c.in_ok-sign_parse.ensures.answers c.skip_class.ensures in
    number_since (stream g) n c.position-place.ensures

pub returns-in-Ok : goal.returns-in-Ok
unfolding number_text_at
returns-in-Ok g c =
    let n = signed (stream g) c.in_ok-sign_parse.field-0 c.args.stream.now c.sign_parse.new.stream c.skip_class.new.stream c.in_ok-sign_parse.ensures.answers c.skip_class.ensures in
    text_read (stream g) n (string_bytes c.in-Ok.text) c.position-place.ensures (λ passed taken e p. c.in-Ok.ensures.ok ∙ c.text_since.ensures passed taken e p)

pub returns-in-Err : goal.returns-in-Err
unfolding number_text_at
returns-in-Err g c =
    let n = signed (stream g) c.in_ok-sign_parse.field-0 c.args.stream.now c.sign_parse.new.stream c.skip_class.new.stream c.in_ok-sign_parse.ensures.answers c.skip_class.ensures in
    inl (number_runs_out (stream g) n c.out_of_memory.new.stream c.out_of_memory.result c.out_of_memory.ensures)
