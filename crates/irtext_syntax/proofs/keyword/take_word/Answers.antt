use Rattle.std.proofs.Common.{◌∙◌, refl, sym, ap}
use Rattle.std.specs.Str.{bytes_eq}
use Rattle.irtext_base.specs.Text.{front, after, in_word}
use Rattle.irtext_tokens.proofs.Words.{encodes-front_word, taken_since}
use Rattle.irtext_syntax.proofs.Restored.{earlier, restored}
use Rattle.irtext_syntax.proofs.keyword.take_word.Goals as goal

pub reset-requires : goal.reset-requires
reset-requires c = let old = c.args.stream.now in earlier c.position-place.result (front in_word old.rest) (after in_word old.rest) old c.skip_class.new.stream c.skip_class.ensures c.position-place.ensures

pub returns-then-eq : goal.returns-then-eq
returns-then-eq c =
    let old = c.args.stream.now in
    let w = taken_since (λ s. s) (λ s v. v) (λ s v. refl) (λ s v w. refl) old c.skip_class.new.stream c.position-place.result c.text_since.result.now (front in_word old.rest) (after in_word old.rest) c.skip_class.ensures c.position-place.ensures c.text_since.ensures in
    (ap (λ t. bytes_eq t c.args.word.now) (sym (w ∙ encodes-front_word old.rest)) ∙ (sym c.eq.ensures ∙ c.if-eq.true), c.skip_class.ensures)

pub returns : goal.returns
returns c =
    let old = c.args.stream.now in
    let w = taken_since (λ s. s) (λ s v. v) (λ s v. refl) (λ s v w. refl) old c.skip_class.new.stream c.position-place.result c.text_since.result.now (front in_word old.rest) (after in_word old.rest) c.skip_class.ensures c.position-place.ensures c.text_since.ensures in
    (ap (λ t. bytes_eq t c.args.word.now) (sym (w ∙ encodes-front_word old.rest)) ∙ (sym c.eq.ensures ∙ c.if-eq.false), restored c.position-place.result (front in_word old.rest) (after in_word old.rest) old c.skip_class.new.stream c.skip_class.ensures c.position-place.ensures c.reset.new.self c.reset.ensures)
