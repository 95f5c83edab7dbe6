use Rattle.std.proofs.Common.{ap, length, arith}
use Rattle.irtext_graph.proofs.Inserting.{then_inserts, still_can}
use Rattle.irtext_graph.proofs.Kept.{places_on, data_on, forest_then}
use Rattle.irtext_graph.proofs.objects.Objects.insert_at.Goals as goal

pub place_at-requires-clause-forest : goal.place_at-requires-clause-forest
place_at-requires-clause-forest g c = forest_then c.requires.forest c.make_room.ensures.same

pub place_at-requires-clause-lives : goal.place_at-requires-clause-lives
place_at-requires-clause-lives g c = rw ((c.make_room.ensures.same.at c.args.c).same_what) c.requires.lives

pub place_at-requires-clause-can : goal.place_at-requires-clause-can
place_at-requires-clause-can g c = still_can c.args.self.now c.make_room.new.self c.args.k c.args.c c.make_room.ensures.same c.requires.can

pub place_at-requires-clause-within : goal.place_at-requires-clause-within
place_at-requires-clause-within g c = let e = ap length (c.make_room.ensures.same.at c.args.k).same_kids in let l = c.requires.within in omega (arith, e, l)

pub returns-clause-ok : goal.returns-clause-ok
returns-clause-ok g c = then_inserts c.make_room.ensures.same c.place_at.ensures.inserts

pub returns-clause-places : goal.returns-clause-places
returns-clause-places g c = places_on c.make_room.ensures.same.places c.place_at.ensures.places

pub returns-clause-data : goal.returns-clause-data
returns-clause-data g c = data_on c.make_room.ensures.same.all_data c.place_at.ensures.«data»

pub returns-in_err-make_room-clause-forest : goal.returns-in_err-make_room-clause-forest
returns-in_err-make_room-clause-forest g c = forest_then c.requires.forest c.make_room.ensures.same
