-- The answer is that of `format_input`, and what is said is that of `report_answer`.
use Rattle.std.proofs.Common.{string_bytes, subst}
use Rattle.std.specs.Prelude.{codes, IfErr}
use Rattle.irtext_tool.specs.Told.{Tells, Writes}
use Rattle.irtext_tool.proofs.Telling.{taken}
use Rattle.irtext_tool.proofs.run.format_standard.Goals as goal

pub returns : goal.returns
returns g c =
    let answer = c.format_input-answer.result in
    let said = c.report_answer-said in
    let before = g.E.Write.contents c.args.errors.now in
    let after = g.E.Write.contents said.new.errors in
    record {
      answer = answer;
      bytes = string_bytes c.format_input-answer.new.text;
      is_status = c.status_of_answer.ensures;
      read = rw c.new-text.ensures.bytes at c.format_input-answer.ensures.read;
      gives = c.format_input-answer.ensures.gives;
      fails = c.format_input-answer.ensures.fails;
      unwritten = c.format_input-answer.ensures.unwritten;
      told = λ took. subst (λ text. IfErr answer (λ failure. Writes before after (Tells c.args.form (codes "<stdin>") text failure))) c.as_str.ensures.value
          (taken said.result (IfErr answer (λ failure. Writes before after (Tells c.args.form (codes "<stdin>") c.as_str.result.now failure))) c.is_ok.result c.is_ok.ensures.value took said.ensures.told);
      silent = said.ensures.silent;
    }
