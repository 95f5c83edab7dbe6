use Rattle.std.proofs.Common.{codes, string_bytes}
use Rattle.irtext_tokens.specs.Tokens.{text_at}
use Rattle.irtext_tokens.specs.QuotedTexts.{quoted_at}
use Rattle.irtext_tokens.proofs.Exits.{propagated}
use Rattle.irtext_tokens.proofs.QuotedSteps.{unquoted, quoted_by}
use Rattle.irtext_tokens.proofs.irfmt.parsers.quoted.quoted_string_parse.Goals as goal

pub returns-in_err-text_parse : goal.returns-in_err-text_parse
unfolding quoted_at
returns-in_err-text_parse g c =
    let m = g.met.S.CharStream in
    rw (propagated c.from_residual.result c.from_residual.ensures.1) (unquoted g.S.CharStream.view g.S.CharStream.at m.view_at m.at_view m.at_at _ (text_at (codes "\"") (g.S.CharStream.view c.args.stream.now).rest) c.args.stream.now c.text_parse.new.stream c.in_err-text_parse.field-0.0 c.in_err-text_parse.ensures.answers)

pub returns : goal.returns
unfolding quoted_at
returns g c =
    let m = g.met.S.CharStream in
    quoted_by g.S.CharStream.view g.S.CharStream.at m.view_at m.at_view m.at_at (λ s. string_bytes s) _ (text_at (codes "\"") (g.S.CharStream.view c.args.stream.now).rest) c.args.stream.now c.text_parse.new.stream c.units_parse.new.stream c.in_ok-text_parse.field-0 c.units_parse.result c.in_ok-text_parse.ensures.answers c.units_parse.ensures
