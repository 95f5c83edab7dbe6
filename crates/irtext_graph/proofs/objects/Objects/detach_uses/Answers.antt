use Rattle.irtext_graph.proofs.Dropped.{all_out, others_in, alike_there}
use Rattle.irtext_graph.proofs.objects.Objects.detach_uses.Goals as goal

pub detach_side-requires-2-clause-lives : goal.detach_side-requires-2-clause-lives
detach_side-requires-2-clause-lives g c = alike_there c.args.self.now c.detach_side.new.self c.detach_side.ensures.seen c.args.p c.requires.lives

pub returns-clause-gone : goal.returns-clause-gone
returns-clause-gone g c =
    let one = c.detach_side.ensures in
    let two = c.detach_side-2.ensures in
    all_out c.args.self.now c.detach_side.new.self c.detach_side-2.new.self c.args.p one.gone two.gone one.kept two.kept

pub returns-clause-kept : goal.returns-clause-kept
returns-clause-kept g c =
    let one = c.detach_side.ensures in
    let two = c.detach_side-2.ensures in
    others_in c.args.self.now c.detach_side.new.self c.detach_side-2.new.self c.args.p one.gone two.gone one.kept two.kept
