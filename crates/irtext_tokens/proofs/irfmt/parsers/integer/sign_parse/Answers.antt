use Rattle.std.proofs.Common.{sym, ◌∙◌}
use Rattle.irtext_tokens.specs.Integers.{sign_at}
use Rattle.irtext_tokens.proofs.Sparing.{failed_spares, sign_spares}
use Rattle.irtext_tokens.proofs.Signs.{sign_gives, sign_alone, sign_missing}
use Rattle.irtext_tokens.proofs.Steps.{Lens, lens}
use Rattle.irtext_tokens.proofs.irfmt.parsers.integer.sign_parse.Given as given
use Rattle.irtext_tokens.proofs.irfmt.parsers.integer.sign_parse.Goals as goal

-- the stream's view, and the rules that it keeps
abbrev stream : (g : given.Over) → Lens g.row.S.Denot
stream g = let m = g.met.S.CharStream in lens g.S.CharStream.view g.S.CharStream.at m.view_at m.at_view m.at_at

pub returns-then-has_failed-clause-spares : goal.returns-then-has_failed-clause-spares
returns-then-has_failed-clause-spares g c =
    let v = g.S.CharStream.view c.args.stream.now in
    failed_spares (Unit {0}) v.failed (sign_at v.rest) c.refuse.result (sym c.has_failed.ensures ∙ c.if-has_failed.true)

pub returns-then-is_some-clause-spares : goal.returns-then-is_some-clause-spares
returns-then-is_some-clause-spares g c =
    let m = g.met.S.CharStream in
    sign_spares g.S.CharStream.view g.S.CharStream.at m.view_at m.at_at (Unit {0}) c.args.stream.now c.take_sign-sign.new.stream c.commit.result c.take_sign-sign.ensures.takes (sym c.begins.ensures ∙ c.if-begins.false)

pub returns-clause-spares : goal.returns-clause-spares
returns-clause-spares g c =
    let m = g.met.S.CharStream in
    sign_spares g.S.CharStream.view g.S.CharStream.at m.view_at m.at_at (Unit {0}) c.args.stream.now c.take_sign-sign.new.stream c.unexpected-fault.result c.take_sign-sign.ensures.takes (sym c.begins.ensures ∙ c.if-begins.false)

pub returns-then-begins-clause-answers : goal.returns-then-begins-clause-answers
returns-then-begins-clause-answers g c =
    sign_gives (stream g) c.args.stream.now c.take_sign-sign.new.stream c.take_sign-sign.result (sym c.has_failed.ensures ∙ c.if-has_failed.false) c.take_sign-sign.ensures.sign c.take_sign-sign.ensures.takes (sym c.begins.ensures ∙ c.if-begins.true)

pub returns-then-is_some-clause-answers : goal.returns-then-is_some-clause-answers
returns-then-is_some-clause-answers g c =
    sign_alone (stream g) c.args.stream.now c.take_sign-sign.new.stream c.take_sign-sign.result (sym c.has_failed.ensures ∙ c.if-has_failed.false) c.take_sign-sign.ensures.sign c.take_sign-sign.ensures.takes c.unexpected-fault.result (sym c.begins.ensures ∙ c.if-begins.false) c.unexpected-fault.ensures c.commit.result c.commit.new.stream (sym c.is_some.ensures ∙ c.if-is_some.true) c.commit.ensures

pub returns-clause-answers : goal.returns-clause-answers
returns-clause-answers g c =
    sign_missing (stream g) c.args.stream.now c.take_sign-sign.new.stream c.take_sign-sign.result (sym c.has_failed.ensures ∙ c.if-has_failed.false) c.take_sign-sign.ensures.sign c.take_sign-sign.ensures.takes c.unexpected-fault.result (sym c.begins.ensures ∙ c.if-begins.false) c.unexpected-fault.ensures (sym c.is_some.ensures ∙ c.if-is_some.false)
