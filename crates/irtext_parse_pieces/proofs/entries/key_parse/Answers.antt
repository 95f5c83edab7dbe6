use Rattle.std.proofs.Common.{sym, ◌∙◌, ap}
use Rattle.irtext_base.specs.Text.{front, after, in_word}
use Rattle.irtext_base.proofs.Compose.{seen_after}
use Rattle.irtext_tokens.proofs.Words.{is_identifier-front}
use Rattle.irtext_parse_pieces.proofs.EntrySteps.{key_there}
use Rattle.irtext_parse_pieces.proofs.Meanings.{may_fail}
use Rattle.irtext_parse_pieces.proofs.NameSteps.{nobody, no_name, name_ran_out}
use Rattle.irtext_parse_pieces.proofs.WordSteps.{word_after, word_since, whole_taken, whole_key}
use Rattle.irtext_parse_pieces.proofs.Lenses.{lens_of}
use Rattle.irtext_parse_pieces.proofs.entries.key_parse.Goals as goal

pub returns-then-has_failed : goal.returns-then-has_failed
returns-then-has_failed g c = may_fail (lens_of g.world g.met.S.CharStream) nobody (sym c.has_failed.ensures ∙ c.if-has_failed.true) c.refuse.ensures

pub returns-then-not-begins : goal.returns-then-not-begins
returns-then-not-begins g c = no_name (lens_of g.world g.met.S.CharStream) (sym c.has_failed.ensures ∙ c.if-has_failed.false) (sym c.begins.ensures ∙ c.if-not-begins.true) c.unexpected.ensures

pub returns-in-Some : goal.returns-in-Some
returns-in-Some g c =
    let l = lens_of g.world g.met.S.CharStream in
    let w = c.in-Some.ensures in
    key_there l (record { name = c.in-Some.name; at = c.position-at.result }) (sym c.has_failed.ensures ∙ c.if-has_failed.false) (sym c.begins.ensures ∙ c.if-not-begins.false) (whole_taken l w) c.position-at.ensures (whole_key l w)

pub text_since-requires : goal.text_since-requires
text_since-requires g c =
    let l = lens_of g.world g.met.S.CharStream in
    let old = c.args.stream.now in
    let text = (l.view old).rest in
    let t = word_after l c.key_again.ensures c.skip_class.ensures in
    ((l.view old).passed, front in_word text, sym (ap (λ v. v.passed) (seen_after l.view l.at l.view_at l.at_at old c.skip_class.new.stream (front in_word text) (after in_word text) t)), c.position-at.ensures)

pub key-requires : goal.key-requires
key-requires g c =
    let l = lens_of g.world g.met.S.CharStream in
    let t = word_after l c.key_again.ensures c.skip_class.ensures in
    rw (word_since l c.position-at.result c.text_since.result.now t c.position-at.ensures c.text_since.ensures) (is_identifier-front (l.view c.args.stream.now).rest (sym c.begins.ensures ∙ c.if-not-begins.false))

pub returns-in-Ok : goal.returns-in-Ok
returns-in-Ok g c =
    let l = lens_of g.world g.met.S.CharStream in
    let t = word_after l c.key_again.ensures c.skip_class.ensures in
    let w = word_since l c.position-at.result c.text_since.result.now t c.position-at.ensures c.text_since.ensures in
    key_there l (record { name = c.in-Ok.name; at = c.position-at.result }) (sym c.has_failed.ensures ∙ c.if-has_failed.false) (sym c.begins.ensures ∙ c.if-not-begins.false) t c.position-at.ensures (c.in-Ok.ensures ∙ w)

pub returns-in-Err : goal.returns-in-Err
returns-in-Err g c =
    let l = lens_of g.world g.met.S.CharStream in
    name_ran_out l (sym c.has_failed.ensures ∙ c.if-has_failed.false) (word_after l c.key_again.ensures c.skip_class.ensures) c.out_of_memory.ensures
