use Rattle.irtext_formatter.proofs.Stepping.{next_root}
use Rattle.irtext_formatter.proofs.roots.Roots.next_root.Goals as goal

pub returns-clause-parses : goal.returns-clause-parses
returns-clause-parses g c = λ ready.
    let spaced = c.is_left in
    let now = spaced.ensures.ready ready in
    next_root g.T.IrText g.A.IrText c.args.self.now spaced.new.self c.parse_root.new.self spaced.ensures.place spaced.ensures.state c.parse_root.result (c.parse_root.ensures.reads now) (c.parse_root.ensures.refuses now) (c.parse_root.ensures.ready now) (c.parse_root.ensures.back now)
    c.parse_root.ensures.objects
