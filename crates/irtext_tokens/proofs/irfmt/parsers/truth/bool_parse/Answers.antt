use Rattle.std.proofs.Common.{sym, ◌∙◌, codes, true, false, refl}
use Rattle.irtext_base.proofs.Compose.{gives_mapped, refuses_mapped}
use Rattle.irtext_tokens.specs.Integers.{bool_at}
use Rattle.irtext_tokens.specs.Tokens.{text_at}
use Rattle.irtext_tokens.proofs.Exits.{propagated}
use Rattle.irtext_tokens.proofs.Sparing.{failed_spares, true_spares, false_spares, neither_spares}
use Rattle.irtext_tokens.proofs.irfmt.parsers.truth.bool_parse.Goals as goal

pub returns-in_err-text_parse-clause-spares : goal.returns-in_err-text_parse-clause-spares
returns-in_err-text_parse-clause-spares g c =
    let v = g.S.CharStream.view c.args.stream.now in
    rw (propagated c.from_residual.result c.from_residual.ensures.1) (true_spares (Unit {0}) (Unit {0}) v.failed v.rest c.in_err-text_parse.field-0.0 _ (sym c.has_failed.ensures ∙ c.if-has_failed.false) (sym c.next_is.ensures ∙ c.if-next_is.true) c.in_err-text_parse.ensures.spares)

pub returns-in_err-text_parse-2-clause-spares : goal.returns-in_err-text_parse-2-clause-spares
returns-in_err-text_parse-2-clause-spares g c =
    let v = g.S.CharStream.view c.args.stream.now in
    rw (propagated c.from_residual-in_err-text_parse-2.result c.from_residual-in_err-text_parse-2.ensures.1) (false_spares (Unit {0}) (Unit {0}) v.failed v.rest c.in_err-text_parse-2.field-0.0 _ (sym c.has_failed.ensures ∙ c.if-has_failed.false) (sym c.next_is.ensures ∙ c.if-next_is.false) (sym c.next_is-2.ensures ∙ c.if-next_is-2.true) c.in_err-text_parse-2.ensures.spares)

pub returns-clause-spares : goal.returns-clause-spares
returns-clause-spares g c =
    let v = g.S.CharStream.view c.args.stream.now in
    neither_spares (Unit {0}) v.failed v.rest c.unexpected.result (sym c.next_is.ensures ∙ c.if-next_is.false) (sym c.next_is-2.ensures ∙ c.if-next_is-2.false)

pub returns-then-has_failed-clause-spares : goal.returns-then-has_failed-clause-spares
returns-then-has_failed-clause-spares g c =
    let v = g.S.CharStream.view c.args.stream.now in
    failed_spares (Unit {0}) v.failed (bool_at v.rest) c.refuse.result (sym c.has_failed.ensures ∙ c.if-has_failed.true)

pub returns-in_err-text_parse-clause-answers : goal.returns-in_err-text_parse-clause-answers
unfolding bool_at
returns-in_err-text_parse-clause-answers g c =
    let m = g.met.S.CharStream in
    let v = g.S.CharStream.view c.args.stream.now in
    rw (propagated c.from_residual.result c.from_residual.ensures.1, sym c.next_is.ensures ∙ c.if-next_is.true) (refuses_mapped g.S.CharStream.view g.S.CharStream.at m.view_at m.at_at (λ _. true) v.failed (text_at (codes "true") v.rest) c.args.stream.now c.text_parse.new.stream c.in_err-text_parse.field-0.0 c.in_err-text_parse.ensures.answers)

pub returns-in_err-text_parse-2-clause-answers : goal.returns-in_err-text_parse-2-clause-answers
unfolding bool_at
returns-in_err-text_parse-2-clause-answers g c =
    let m = g.met.S.CharStream in
    let v = g.S.CharStream.view c.args.stream.now in
    rw (propagated c.from_residual-in_err-text_parse-2.result c.from_residual-in_err-text_parse-2.ensures.1, sym c.next_is.ensures ∙ c.if-next_is.false, sym c.next_is-2.ensures ∙ c.if-next_is-2.true) (refuses_mapped g.S.CharStream.view g.S.CharStream.at m.view_at m.at_at (λ _. false) v.failed (text_at (codes "false") v.rest) c.args.stream.now c.text_parse-then-next_is-2.new.stream c.in_err-text_parse-2.field-0.0 c.in_err-text_parse-2.ensures.answers)

pub returns-then-next_is-clause-answers : goal.returns-then-next_is-clause-answers
unfolding bool_at
returns-then-next_is-clause-answers g c =
    let m = g.met.S.CharStream in
    let v = g.S.CharStream.view c.args.stream.now in
    rw (sym c.next_is.ensures ∙ c.if-next_is.true) (gives_mapped g.S.CharStream.view g.S.CharStream.at m.view_at m.at_at (λ _. true) v.failed (text_at (codes "true") v.rest) c.args.stream.now c.text_parse.new.stream tt true refl c.in_ok-text_parse.ensures.answers)

pub returns-then-next_is-2-clause-answers : goal.returns-then-next_is-2-clause-answers
unfolding bool_at
returns-then-next_is-2-clause-answers g c =
    let m = g.met.S.CharStream in
    let v = g.S.CharStream.view c.args.stream.now in
    rw (sym c.next_is.ensures ∙ c.if-next_is.false, sym c.next_is-2.ensures ∙ c.if-next_is-2.true) (gives_mapped g.S.CharStream.view g.S.CharStream.at m.view_at m.at_at (λ _. false) v.failed (text_at (codes "false") v.rest) c.args.stream.now c.text_parse-then-next_is-2.new.stream tt false refl c.in_ok-text_parse-2.ensures.answers)
