use Rattle.std.proofs.Common.{refl}
use Rattle.irtext_graph.proofs.Kept.{places_on, places_self}
use Rattle.irtext_graph.proofs.Dropped.{drop_linked, drop_used, alike_places, alike_there}
use Rattle.irtext_graph.proofs.objects.Objects.drop_uses.Goals as goal

pub clear_uses-requires : goal.clear_uses-requires
clear_uses-requires g c = alike_there c.args.self.now c.detach_uses.new.self c.detach_uses.ensures.seen c.args.p c.requires.alive

pub returns-clause-linked : goal.returns-clause-linked
returns-clause-linked g c =
    let out = c.detach_uses.ensures in
    let k = c.clear_uses.ensures in
    drop_linked c.args.self.now c.detach_uses.new.self (record c.detach_uses.new.self { operations = c.clear_uses.new.self }) c.args.p out.linked out.seen out.gone out.kept k.operands k.successors k.others k.results refl

pub returns-clause-used : goal.returns-clause-used
returns-clause-used g c =
    let out = c.detach_uses.ensures in
    let k = c.clear_uses.ensures in
    drop_used c.args.self.now c.detach_uses.new.self (record c.detach_uses.new.self { operations = c.clear_uses.new.self }) c.args.p out.linked out.seen out.gone out.kept k.operands k.successors k.others k.results refl c.requires.used

pub returns-clause-places : goal.returns-clause-places
returns-clause-places g c =
    let z = c.detach_uses.new.self in
    let same = places_self z in
    places_on (alike_places c.args.self.now z c.detach_uses.ensures.seen)
    (record { operation_places = c.clear_uses.ensures.places; block_places = same.block_places; region_places = same.region_places })
