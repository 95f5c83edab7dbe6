use Rattle.std.proofs.Common.{◌≡◌, ◌∙◌, sym, true}
use Rattle.irtext_base.specs.Text.{begins, begins_word, in_word}
use Rattle.irtext_stream.proofs.NotationSteps.{passed_front, since_is}
use Rattle.irtext_base.proofs.NotationDirectives.{front_word, front_identifier, key_there}
use Rattle.irtext_base.proofs.format.notation.read.variable.Goals as goal

pub from_word-requires : goal.from_word-requires
from_word-requires c =
    let old = c.args.stream.now in
    let s = since_is in_word old c.skip.new.self c.position-place.result c.text_since.result.now c.skip.ensures c.position-place.ensures c.text_since.ensures in
    let b : begins begins_word old.rest ≡ true = sym c.next_is_key.ensures ∙ c.if-not-next_is_key.false in
    rw (s ∙ front_word old.rest) (front_identifier old.rest b)

pub returns : goal.returns
returns c =
    let old = c.args.stream.now in
    let mid = c.skip.new.self in
    let s = since_is in_word old mid c.position-place.result c.text_since.result.now c.skip.ensures c.position-place.ensures c.text_since.ensures in
    let b : begins begins_word old.rest ≡ true = sym c.next_is_key.ensures ∙ c.if-not-next_is_key.false in
    let p = passed_front in_word old mid c.skip.ensures in
    (key_there old mid c.in_ok-key.key b p.0 (c.in_ok-key.ensures ∙ (s ∙ front_word old.rest)), p.1)
