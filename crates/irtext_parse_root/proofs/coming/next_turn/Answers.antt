use Rattle.std.proofs.Common.{◌≡◌, None, arith, slice_get}
use Rattle.std.proofs.lemmas.Option.{slice_get_past}
use Rattle.irtext_base.specs.Faults.{id_of}
use Rattle.irtext_grammar.specs.Reached.{steps_in}
use Rattle.irtext_parse_root.proofs.coming.next_turn.Goals as goal

pub returns-then-begun-clause-next : goal.returns-then-begun-clause-next
returns-then-begun-clause-next g c =
    let steps = steps_in c.args.ctx.now.dialects (id_of c.args.begun.now.id) in
    let none : slice_get steps c.args.begun.now.step ≡ None = slice_get_past steps c.args.begun.now.step (omega (arith, c.requires.counted, c.if-begun.true)) in
    rw none (rw c.ended.ensures tt)
