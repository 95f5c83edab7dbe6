use Rattle.std.proofs.Common.{inl}
use Rattle.irtext_base.specs.Faults.{characters}
use Rattle.irtext_tokens.proofs.Characters.{encodes-characters}
use Rattle.irtext_tokens.proofs.Spelling.{spelling_refused, spelling_ran_out, differs_spares}
use Rattle.irtext_tokens.proofs.irfmt.parsers.fixed_text.spelled_parse.Goals as goal

pub returns-in_default-clause-answers : goal.returns-in_default-clause-answers
returns-in_default-clause-answers g c =
    c.in_default.ensures (characters c.args.text.now) (encodes-characters c.args.text.now c.utf8.text)

pub returns-in-Ok-clause-answers : goal.returns-in-Ok-clause-answers
returns-in-Ok-clause-answers g c =
    let m = g.met.S.CharStream in
    let h = c.in-Some.ensures (characters c.args.text.now) (encodes-characters c.args.text.now c.utf8.text) in
    spelling_refused g.S.CharStream.view g.S.CharStream.at m.view_at m.at_view m.at_at (characters c.args.text.now) c.args.stream.now c.spell.new.stream c.missing.new.stream c.in-Some.begun c.missing.result h (rw c.in-Ok.ensures at c.missing.ensures)

pub returns-in-Err-clause-answers : goal.returns-in-Err-clause-answers
returns-in-Err-clause-answers g c =
    let m = g.met.S.CharStream in
    let h = c.in-Some.ensures (characters c.args.text.now) (encodes-characters c.args.text.now c.utf8.text) in
    inl (spelling_ran_out g.S.CharStream.view g.S.CharStream.at m.view_at m.at_view m.at_at (characters c.args.text.now) c.args.stream.now c.spell.new.stream c.out_of_memory.new.stream c.in-Some.begun c.out_of_memory.result c.requires h c.out_of_memory.ensures)

pub returns-in-Ok-clause-spares : goal.returns-in-Ok-clause-spares
returns-in-Ok-clause-spares g c =
    let m = g.met.S.CharStream in
    let h = c.in-Some.ensures (characters c.args.text.now) (encodes-characters c.args.text.now c.utf8.text) in
    differs_spares g.S.CharStream.view g.S.CharStream.at m.view_at m.at_view m.at_at (Unit {0}) (characters c.args.text.now) c.args.stream.now c.spell.new.stream c.in-Some.begun c.missing.result h

pub returns-in-Err-clause-spares : goal.returns-in-Err-clause-spares
returns-in-Err-clause-spares g c =
    let m = g.met.S.CharStream in
    let h = c.in-Some.ensures (characters c.args.text.now) (encodes-characters c.args.text.now c.utf8.text) in
    differs_spares g.S.CharStream.view g.S.CharStream.at m.view_at m.at_view m.at_at (Unit {0}) (characters c.args.text.now) c.args.stream.now c.spell.new.stream c.in-Some.begun c.out_of_memory.result h
