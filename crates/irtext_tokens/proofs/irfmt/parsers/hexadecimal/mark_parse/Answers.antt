use Rattle.std.proofs.Common.{sym, ◌∙◌, Err, [], codes, refl, ◌≡◌, inr}
use Rattle.irtext_base.specs.Answers.{Read}
use Rattle.irtext_tokens.specs.Integers.{before_hexadecimal}
use Rattle.irtext_tokens.specs.MustRead.{MustRead}
use Rattle.irtext_tokens.specs.Tokens.{text_at}
use Rattle.irtext_tokens.proofs.Exits.{propagated}
use Rattle.irtext_tokens.proofs.Sparing.{followed_spares, mark_spares}
use Rattle.irtext_tokens.proofs.Steps.{Lens, lens, may_read, begins_with, begun_by, turned, ends, last, fine_there}
use Rattle.irtext_tokens.proofs.irfmt.parsers.hexadecimal.mark_parse.Given as given
use Rattle.irtext_tokens.proofs.irfmt.parsers.hexadecimal.mark_parse.Goals as goal

-- the stream's view, and the rules that it keeps
abbrev stream : (g : given.Over) → Lens g.row.S.Denot
stream g = let m = g.met.S.CharStream in lens g.S.CharStream.view g.S.CharStream.at m.view_at m.at_view m.at_at

pub returns-in_err-text_parse-clause-spares : goal.returns-in_err-text_parse-clause-spares
returns-in_err-text_parse-clause-spares g c =
    let view = g.S.CharStream.view in
    let old = c.args.stream.now in
    rw (propagated c.from_residual.result c.from_residual.ensures.1) (followed_spares (Unit {0}) (Unit {0}) (view old).failed (text_at (codes "0x") (view old).rest) (λ v text. before_hexadecimal text) c.in_err-text_parse.field-0.0 _ c.in_err-text_parse.ensures.spares)

pub returns-clause-spares : goal.returns-clause-spares
returns-clause-spares g c =
    let m = g.met.S.CharStream in
    let view = g.S.CharStream.view in
    let old = c.args.stream.now in
    mark_spares view g.S.CharStream.at m.view_at m.at_at (Unit {0}) (view old).failed (text_at (codes "0x") (view old).rest) old c.text_parse.new.stream c.in_ok-text_parse.field-0 c.commit_unexpected.result c.in_ok-text_parse.ensures.answers (sym c.begins.ensures ∙ c.if-begins.false)

pub returns-then-begins-clause-answers : goal.returns-then-begins-clause-answers
returns-then-begins-clause-answers g c =
    let d = may_read (stream g) {A = g.row.A.Denot} (λ u. u) (text_at (codes "0x")) _ _ _ c.in_ok-text_parse.ensures.answers in
    let p = begins_with (stream g) (λ _ t. before_hexadecimal t) d in
    let b : before_hexadecimal ((stream g).view c.text_parse.new.stream).rest ≡ Read tt [] ((stream g).view c.text_parse.new.stream).rest = rw (sym c.begins.ensures ∙ c.if-begins.true) refl in
    (begun_by (stream g) (λ _ t. before_hexadecimal t) d (ends (stream g) {A = g.row.A.Denot} (λ u. u) tt (turned (stream g) (λ t. Read tt [] t) b p))).answers

pub returns-clause-answers : goal.returns-clause-answers
returns-clause-answers g c =
    let d = may_read (stream g) {A = g.row.A.Denot} (λ u. u) (text_at (codes "0x")) _ _ _ c.in_ok-text_parse.ensures.answers in
    let p = begins_with (stream g) (λ _ t. before_hexadecimal t) d in
    let m : MustRead (stream g).view (stream g).at (λ (u : Unit {0}). u) before_hexadecimal c.text_parse.new.stream (Err c.commit_unexpected.result) c.commit_unexpected.new.stream =
    record { answers = rw (fine_there (stream g) p, sym c.begins.ensures ∙ c.if-begins.false) (inr c.commit_unexpected.ensures) } in
    (begun_by (stream g) (λ _ t. before_hexadecimal t) d (last (stream g) p m)).answers
