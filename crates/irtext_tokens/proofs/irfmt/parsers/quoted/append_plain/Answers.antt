use Rattle.irtext_base.proofs.Compose.{runs_out_after}
use Rattle.irtext_tokens.proofs.irfmt.parsers.quoted.append_plain.Goals as goal

pub returns-in-Err-clause-stream : goal.returns-in-Err-clause-stream
returns-in-Err-clause-stream g c =
    let m = g.met.S.CharStream in
    runs_out_after g.S.CharStream.view g.S.CharStream.at m.view_at m.at_at c.args.stream.now c.skip_class.new.stream c.out_of_memory.new.stream _ _ c.out_of_memory.result c.requires c.skip_class.ensures c.out_of_memory.ensures
