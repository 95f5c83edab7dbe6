use Rattle.std.proofs.Common.{◌∙◌, sym}
use Rattle.irtext_syntax.proofs.WordRead.{flag_gives}
use Rattle.irtext_syntax.proofs.keyword.flag_parse.Goals as goal

pub returns : goal.returns
returns g c =
    record { answers = flag_gives g.W.Word.word.characters c.word.result.now c.args.stream.now c.take_word.new.stream c.take_word.result (sym c.has_failed.ensures ∙ c.if-has_failed.false) c.word.ensures c.take_word.ensures }
