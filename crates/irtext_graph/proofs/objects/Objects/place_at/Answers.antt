use Rattle.irtext_graph.proofs.Inserting.{inserted_forest, inserts_then}
use Rattle.irtext_graph.proofs.Kept.{places_on, data_on, forest_then, room_lives}
use Rattle.irtext_graph.proofs.objects.Objects.place_at.Goals as goal

pub renumber-requires-clause-forest : goal.renumber-requires-clause-forest
renumber-requires-clause-forest g c = inserted_forest c.args.self.now c.insert_child.new.self c.args.k c.args.c c.args.i c.requires.forest c.requires.can c.requires.within c.insert_child.ensures.inserts

pub renumber-requires-clause-lives : goal.renumber-requires-clause-lives
renumber-requires-clause-lives g c = rw (c.insert_child.ensures.inserts.whats c.args.k) (room_lives c.args.self.now c.args.k c.requires.room)

pub returns-clause-forest : goal.returns-clause-forest
returns-clause-forest g c =
    forest_then (inserted_forest c.args.self.now c.insert_child.new.self c.args.k c.args.c c.args.i c.requires.forest c.requires.can c.requires.within c.insert_child.ensures.inserts) c.renumber.ensures.same

pub returns-clause-inserts : goal.returns-clause-inserts
returns-clause-inserts g c = inserts_then c.insert_child.ensures.inserts c.renumber.ensures.same

pub returns-clause-places : goal.returns-clause-places
returns-clause-places g c = places_on c.insert_child.ensures.places c.renumber.ensures.same.places

pub returns-clause-data : goal.returns-clause-data
returns-clause-data g c = data_on c.insert_child.ensures.«data» c.renumber.ensures.same.all_data
