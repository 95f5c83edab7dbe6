use Rattle.std.proofs.Common.{◌∙◌, sym}
use Rattle.irtext_base.specs.Faults.{demand_of}
use Rattle.irtext_syntax.proofs.WordRead.{word_there, word_missing, word_runs_out}
use Rattle.irtext_syntax.proofs.keyword.word_parse.Goals as goal

pub returns-then-take_word : goal.returns-then-take_word
returns-then-take_word g c =
    record { answers = word_there g.W.Word.word.characters c.word.result.now c.args.stream.now c.take_word.new.stream (sym c.has_failed.ensures ∙ c.if-has_failed.false) c.word.ensures c.if-take_word.ensures.0 c.if-take_word.ensures.1 }

pub returns-in-Ok : goal.returns-in-Ok
returns-in-Ok g c =
    record {
      answers = word_missing g.W.Word.word.characters c.word.result.now c.args.stream.now c.take_word.new.stream (sym c.has_failed.ensures ∙ c.if-has_failed.false) c.word.ensures c.if-take_word.ensures.0 c.if-take_word.ensures.1
          c.unexpected.result (demand_of c.in-Ok.expected) c.word-2.result.now c.word-2.ensures c.in-Ok.ensures c.unexpected.ensures;
    }

pub returns-in-Err : goal.returns-in-Err
returns-in-Err g c =
    record {
      answers = word_runs_out g.W.Word.word.characters c.word.result.now c.args.stream.now c.take_word.new.stream (sym c.has_failed.ensures ∙ c.if-has_failed.false) c.word.ensures c.if-take_word.ensures.0 c.if-take_word.ensures.1
          c.out_of_memory.result c.out_of_memory.new.stream c.out_of_memory.ensures;
    }
