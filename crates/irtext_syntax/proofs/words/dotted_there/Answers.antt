use Rattle.std.proofs.Common.{◌∙◌, sym}
use Rattle.irtext_base.specs.Text.{front, after}
use Rattle.irtext_syntax.specs.Words.{in_dotted}
use Rattle.irtext_syntax.proofs.DottedRead.{dotted_read}
use Rattle.irtext_syntax.proofs.Restored.{earlier, restored}
use Rattle.irtext_syntax.proofs.words.dotted_there.Goals as goal

pub reset-requires : goal.reset-requires
reset-requires g c = let old = c.args.stream.now in earlier c.position-place.result (front in_dotted old.rest) (after in_dotted old.rest) old c.take_dotted.new.stream c.take_dotted.ensures.taken c.position-place.ensures

pub returns : goal.returns
returns g c = let old = c.args.stream.now in restored c.position-place.result (front in_dotted old.rest) (after in_dotted old.rest) old c.take_dotted.new.stream c.take_dotted.ensures.taken c.position-place.ensures c.reset.new.self c.reset.ensures

pub returns-in-Some : goal.returns-in-Some
returns-in-Some g c = λ refusal demand.
    dotted_read g.W.Table.word refusal demand c.in-Some.word c.args.stream.now c.take_dotted.new.stream (sym c.has_failed.ensures ∙ c.if-has_failed.false) (sym c.begins.ensures ∙ c.if-not-begins.false)
    (sym c.take_dotted.ensures.word ∙ c.in-Some.is) c.take_dotted.ensures.taken
