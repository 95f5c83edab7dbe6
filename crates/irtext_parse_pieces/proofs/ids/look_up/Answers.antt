use Rattle.std.proofs.Common.{◌≡◌, sym, ◌∙◌, ap, subst}
use Rattle.std.specs.Prelude.{IfSome}
use Rattle.irtext_base.specs.Text.{front, after, in_word}
use Rattle.irtext_base.specs.declared.base.identifier.OpId.{OpId}
use Rattle.irtext_base.proofs.Compose.{seen_after, takes_same_stream}
use Rattle.irtext_context.specs.Named.{id_of_texts}
use Rattle.irtext_tokens.proofs.Words.{encodes-front_word, taken_since}
use Rattle.irtext_parse_pieces.proofs.Leads.{dotted, unmoved_same_stream, dotted_same_stream, word_same_stream, found_there}
use Rattle.irtext_parse_pieces.proofs.Lenses.{lens_of}
use Rattle.irtext_parse_pieces.proofs.ids.look_up.Goals as goal

pub returns-then-not-skip_identifier-clause-read : goal.returns-then-not-skip_identifier-clause-read
returns-then-not-skip_identifier-clause-read g c = tt

pub returns-then-not-skip_identifier-clause-known : goal.returns-then-not-skip_identifier-clause-known
returns-then-not-skip_identifier-clause-known g c = tt

pub returns-then-not-skip_identifier-clause-same_stream : goal.returns-then-not-skip_identifier-clause-same_stream
returns-then-not-skip_identifier-clause-same_stream g c = unmoved_same_stream (lens_of g.world g.met.S.CharStream) c.if-not-skip_identifier.ensures

pub text_since-requires : goal.text_since-requires
text_since-requires g c =
    let l = lens_of g.world g.met.S.CharStream in
    let old = c.args.stream.now in
    let text = (l.view old).rest in
    ((l.view old).passed, front in_word text, sym (ap (λ v. v.passed) (seen_after l.view l.at l.view_at l.at_at old c.skip_identifier.new.stream (front in_word text) (after in_word text) c.if-not-skip_identifier.ensures.1)), c.position-place.ensures)

pub returns-in_err-dialect-clause-read : goal.returns-in_err-dialect-clause-read
returns-in_err-dialect-clause-read g c = rw c.from_residual.ensures tt

pub returns-in_err-dialect-clause-known : goal.returns-in_err-dialect-clause-known
returns-in_err-dialect-clause-known g c = rw c.from_residual.ensures tt

pub returns-in_err-dialect-clause-same_stream : goal.returns-in_err-dialect-clause-same_stream
returns-in_err-dialect-clause-same_stream g c =
    let l = lens_of g.world g.met.S.CharStream in
    let old = c.args.stream.now in
    takes_same_stream l.view l.at l.view_at l.at_at old c.skip_identifier.new.stream _ _ c.if-not-skip_identifier.ensures.1

pub returns-then-not-next_is-clause-read : goal.returns-then-not-next_is-clause-read
returns-then-not-next_is-clause-read g c = tt

pub returns-then-not-next_is-clause-known : goal.returns-then-not-next_is-clause-known
returns-then-not-next_is-clause-known g c = tt

pub returns-then-not-next_is-clause-same_stream : goal.returns-then-not-next_is-clause-same_stream
returns-then-not-next_is-clause-same_stream g c =
    let l = lens_of g.world g.met.S.CharStream in
    let old = c.args.stream.now in
    takes_same_stream l.view l.at l.view_at l.at_at old c.skip_identifier.new.stream _ _ c.if-not-skip_identifier.ensures.1

pub returns-then-not-skip_identifier-2-clause-read : goal.returns-then-not-skip_identifier-2-clause-read
returns-then-not-skip_identifier-2-clause-read g c = tt

pub returns-then-not-skip_identifier-2-clause-known : goal.returns-then-not-skip_identifier-2-clause-known
returns-then-not-skip_identifier-2-clause-known g c = tt

pub returns-then-not-skip_identifier-2-clause-same_stream : goal.returns-then-not-skip_identifier-2-clause-same_stream
returns-then-not-skip_identifier-2-clause-same_stream g c =
    let word = c.if-not-skip_identifier.ensures in
    let d = dotted (lens_of g.world g.met.S.CharStream) c.args.stream.now c.skip_identifier.new.stream c.take.new.self word.0 word.1 (sym c.next_is.ensures ∙ c.if-not-next_is.false) c.take.ensures.after in
    dotted_same_stream (lens_of g.world g.met.S.CharStream) d c.if-not-skip_identifier-2.ensures

pub text_since-requires-2 : goal.text_since-requires-2
text_since-requires-2 g c =
    let l = lens_of g.world g.met.S.CharStream in
    let mid = c.take.new.self in
    let text = (l.view mid).rest in
    ((l.view mid).passed, front in_word text, sym (ap (λ v. v.passed) (seen_after l.view l.at l.view_at l.at_at mid c.skip_identifier-2.new.stream (front in_word text) (after in_word text) c.if-not-skip_identifier-2.ensures.1)), c.position-place-2.ensures)

pub returns-clause-read : goal.returns-clause-read
returns-clause-read g c =
    let l = lens_of g.world g.met.S.CharStream in
    let old = c.args.stream.now in
    let mid = c.take.new.self in
    let text = (l.view old).rest in
    let name = (l.view mid).rest in
    let word = c.if-not-skip_identifier.ensures in
    let more = c.if-not-skip_identifier-2.ensures in
    let d = dotted l old c.skip_identifier.new.stream mid word.0 word.1 (sym c.next_is.ensures ∙ c.if-not-next_is.false) c.take.ensures.after in
    let w = taken_since l.view l.at l.view_at l.at_at old c.skip_identifier.new.stream c.position-place.result c.text_since.result.now (front in_word text) (after in_word text) word.1 c.position-place.ensures c.text_since.ensures ∙ encodes-front_word text in
    let v = taken_since l.view l.at l.view_at l.at_at mid c.skip_identifier-2.new.stream c.position-place-2.result c.text_since-2.result.now (front in_word name) (after in_word name) more.1 c.position-place-2.ensures c.text_since-2.ensures ∙ encodes-front_word name in
    let p = c.as_str.ensures ∙ c.in_ok-dialect.ensures.name ∙ w in
    let e : id_of_texts c.as_str.result.now c.text_since-2.result.now ≡ id_of_texts (front in_word text) (front in_word name) = λ i. id_of_texts (p i) (v i) in
    found_there l old mid c.skip_identifier-2.new.stream c.op_named.result d more.0 more.1 (subst (λ (i : OpId). IfSome c.op_named.result (λ op. op.0.now ≡ i)) e c.op_named.ensures.id)

pub returns-clause-same_stream : goal.returns-clause-same_stream
returns-clause-same_stream g c =
    let word = c.if-not-skip_identifier.ensures in
    let d = dotted (lens_of g.world g.met.S.CharStream) c.args.stream.now c.skip_identifier.new.stream c.take.new.self word.0 word.1 (sym c.next_is.ensures ∙ c.if-not-next_is.false) c.take.ensures.after in
    word_same_stream (lens_of g.world g.met.S.CharStream) d c.if-not-skip_identifier-2.ensures.1
