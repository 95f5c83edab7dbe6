use Rattle.std.proofs.Common.{sym, ◌∙◌}
use Rattle.std.proofs.lemmas.Str.{chars_from_encodes}
use Rattle.irtext_base.specs.Faults.{characters}
use Rattle.irtext_tokens.proofs.Characters.{encodes-characters}
use Rattle.irtext_tokens.proofs.Spelling.{whole_gives}
use Rattle.irtext_tokens.specs.Tokens.{text_at}
use Rattle.irtext_tokens.proofs.Sparing.{failed_spares}
use Rattle.irtext_tokens.proofs.irfmt.parsers.fixed_text.text_parse.Goals as goal

pub returns-then-has_failed-clause-spares : goal.returns-then-has_failed-clause-spares
returns-then-has_failed-clause-spares g c =
    let v = g.S.CharStream.view c.args.stream.now in
    failed_spares (Unit {0}) v.failed (text_at (characters c.args.text.now) v.rest) c.refuse.result (sym c.has_failed.ensures ∙ c.if-has_failed.true)

pub returns-then-accept-clause-answers : goal.returns-then-accept-clause-answers
returns-then-accept-clause-answers g c =
    let m = g.met.S.CharStream in
    let bytes = c.args.text.now in
    let h = rw (← chars_from_encodes (characters bytes) bytes c.utf8.text (encodes-characters bytes c.utf8.text)) at c.if-accept.ensures in
    rw (sym c.has_failed.ensures ∙ c.if-has_failed.false) (whole_gives g.S.CharStream.view g.S.CharStream.at m.view_at m.at_view m.at_at (characters bytes) h.0 c.args.stream.now c.accept.new.self h.1 h.2)

pub returns-clause-answers : goal.returns-clause-answers
returns-clause-answers g c = rw (sym c.has_failed.ensures ∙ c.if-has_failed.false) (rw c.if-accept.ensures.1 at c.spelled_parse.ensures.answers)

pub returns-clause-spares : goal.returns-clause-spares
returns-clause-spares g c = rw (sym c.has_failed.ensures ∙ c.if-has_failed.false) (rw c.if-accept.ensures.1 at c.spelled_parse.ensures.spares)
