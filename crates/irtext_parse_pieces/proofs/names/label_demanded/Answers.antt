use Rattle.std.proofs.Common.{codes, Ok, Err}
use Rattle.irtext_parse_pieces.proofs.Meanings.{insisted_mean, names_none}
use Rattle.irtext_parse_pieces.proofs.NameSteps.{after_mark, mark_refused, marked_refused}
use Rattle.irtext_parse_pieces.proofs.Lenses.{lens_of}
use Rattle.irtext_parse_pieces.proofs.names.label_demanded.Goals as goal

pub returns-in-Err : goal.returns-in-Err
returns-in-Err g c = record {
  read = mark_refused (lens_of g.world g.met.S.CharStream) (codes "^") c.in-Err.ensures;
  names = names_none c.args.names.now;
}

pub returns-in-Err-committed : goal.returns-in-Err-committed
returns-in-Err-committed g c =
    let m = insisted_mean (lens_of g.world g.met.S.CharStream) c.name_parse-answer.result (Err _) c.name_parse-answer.ensures.read c.in-Err-committed.ensures in
    record {
      read = marked_refused (lens_of g.world g.met.S.CharStream) (codes "^") c.in_default.ensures m;
      names = c.name_parse-answer.ensures.names;
    }

pub returns-in-Ok : goal.returns-in-Ok
returns-in-Ok g c =
    let l = lens_of g.world g.met.S.CharStream in
    let m = insisted_mean l c.name_parse-answer.result (Ok c.in-Ok.label) c.name_parse-answer.ensures.read c.in-Ok.ensures in
    record {
      read = after_mark l (codes "^") c.name_parse-answer.new.names.names c.position-at.result c.in_default.ensures m c.position-at.ensures;
      names = c.name_parse-answer.ensures.names;
    }
