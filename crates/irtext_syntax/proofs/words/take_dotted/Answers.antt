use Rattle.std.proofs.Common.{◌∙◌, refl, ap}
use Rattle.irtext_base.specs.Text.{front, after}
use Rattle.irtext_tokens.proofs.Words.{encodes-front, taken_since}
use Rattle.irtext_syntax.specs.Words.{in_dotted}
use Rattle.irtext_syntax.proofs.DottedRead.{in_dotted_ascii}
use Rattle.irtext_syntax.proofs.words.take_dotted.Goals as goal

pub returns-clause-word : goal.returns-clause-word
returns-clause-word g c =
    let old = c.args.stream.now in
    let text = old.rest in
    let w = taken_since (λ s. s) (λ s v. v) (λ s v. refl) (λ s v w. refl) old c.skip_class.new.stream c.position-place.result c.text_since.result.now (front in_dotted text) (after in_dotted text) c.skip_class.ensures c.position-place.ensures c.text_since.ensures in
    c.of.ensures ∙ ap g.W.Table.word (w ∙ encodes-front in_dotted in_dotted_ascii text)
