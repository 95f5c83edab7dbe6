use Rattle.std.proofs.Common.{◌≡◌, sym, ◌∙◌, true, false, inl}
use Rattle.irtext_base.proofs.Compose.{runs_out_after}
use Rattle.irtext_base.specs.Text.{begins, front, after, begins_word, in_word}
use Rattle.irtext_tokens.specs.Tokens.{word_at}
use Rattle.irtext_tokens.proofs.Words.{encodes-front_word, is_identifier-front, taken_since}
use Rattle.irtext_tokens.proofs.irfmt.parsers.identifier.word_parse.Goals as goal

pub from_word-requires : goal.from_word-requires
from_word-requires g c =
    let m = g.met.S.CharStream in
    let text = (g.S.CharStream.view c.args.stream.now).rest in
    let b : begins begins_word text ≡ true = sym c.begins.ensures ∙ c.if-not-begins.false in
    let w = taken_since g.S.CharStream.view g.S.CharStream.at m.view_at m.at_at c.args.stream.now c.skip_class.new.stream c.position-place.result c.text_since.result.now (front in_word text) (after in_word text) c.skip_class.ensures c.position-place.ensures c.text_since.ensures in
    rw (w, encodes-front_word text) (is_identifier-front text b)

pub returns-in-Ok : goal.returns-in-Ok
unfolding word_at
returns-in-Ok g c =
    let m = g.met.S.CharStream in
    let text = (g.S.CharStream.view c.args.stream.now).rest in
    let b : begins begins_word text ≡ true = sym c.begins.ensures ∙ c.if-not-begins.false in
    let f : (g.S.CharStream.view c.args.stream.now).failed ≡ false = sym c.has_failed.ensures ∙ c.if-has_failed.false in
    let w = taken_since g.S.CharStream.view g.S.CharStream.at m.view_at m.at_at c.args.stream.now c.skip_class.new.stream c.position-place.result c.text_since.result.now (front in_word text) (after in_word text) c.skip_class.ensures c.position-place.ensures c.text_since.ensures in
    rw (f, b) (c.in-Ok.ensures ∙ (w ∙ encodes-front_word text), c.skip_class.ensures)

pub returns : goal.returns
returns g c =
    let m = g.met.S.CharStream in
    inl (runs_out_after g.S.CharStream.view g.S.CharStream.at m.view_at m.at_at c.args.stream.now c.skip_class.new.stream c.out_of_memory.new.stream _ _ c.out_of_memory.result (sym c.has_failed.ensures ∙ c.if-has_failed.false) c.skip_class.ensures c.out_of_memory.ensures)
