use Rattle.std.proofs.Common.{◌≡◌, ◌∙◌, ap, length, arith}
use Rattle.irtext_graph.specs.declared.object.Object.{Object}
use Rattle.irtext_graph.specs.Edits.{without}
use Rattle.irtext_graph.specs.Objects.{kids}
use Rattle.irtext_graph.proofs.Kept.{places_on, data_on, forest_then, room_for}
use Rattle.irtext_graph.proofs.Moving.{unlinked_kids, moved_can, moved_within, moves_in}
use Rattle.irtext_graph.proofs.objects.Objects.move_to.Goals as goal

pub unlink-requires-clause-lives : goal.unlink-requires-clause-lives
unlink-requires-clause-lives g c = rw ((c.make_room.ensures.same.at c.args.c).same_what) c.requires.lives

pub unlink-requires-clause-forest : goal.unlink-requires-clause-forest
unlink-requires-clause-forest g c = forest_then c.requires.forest c.make_room.ensures.same

pub place_at-requires-clause-room : goal.place_at-requires-clause-room
place_at-requires-clause-room g c = room_for c.make_room.new.self c.unlink.new.self c.args.k c.unlink.ensures.room c.in_ok-make_room.ensures.room

pub place_at-requires-clause-lives : goal.place_at-requires-clause-lives
place_at-requires-clause-lives g c = rw (c.unlink.ensures.«data» c.args.c ∙ (c.make_room.ensures.same.at c.args.c).same_what) c.requires.lives

pub place_at-requires-clause-can : goal.place_at-requires-clause-can
place_at-requires-clause-can g c =
    let x = c.make_room.new.self in
    let s = c.unlink.ensures in
    let f = forest_then c.requires.forest c.make_room.ensures.same in
    moved_can c.args.self.now x c.unlink.new.self c.args.k c.args.c c.args.i c.requires.forest c.make_room.ensures.same s.free s.ups (unlinked_kids x c.unlink.new.self c.args.c f s.kids s.left) s.«data» f c.requires.apart

pub place_at-requires-clause-within : goal.place_at-requires-clause-within
place_at-requires-clause-within g c =
    let x = c.make_room.new.self in
    let s = c.unlink.ensures in
    let f = forest_then c.requires.forest c.make_room.ensures.same in
    moved_within c.args.self.now x c.unlink.new.self c.args.k c.args.c c.args.i c.requires.forest c.make_room.ensures.same s.free s.ups (unlinked_kids x c.unlink.new.self c.args.c f s.kids s.left) s.«data» c.requires.within

pub returns-clause-ok : goal.returns-clause-ok
returns-clause-ok g c =
    let x = c.make_room.new.self in
    let s = c.unlink.ensures in
    let f = forest_then c.requires.forest c.make_room.ensures.same in
    moves_in c.args.self.now x c.unlink.new.self c.args.k c.args.c c.args.i c.requires.forest c.make_room.ensures.same s.free s.ups (unlinked_kids x c.unlink.new.self c.args.c f s.kids s.left) s.«data» c.place_at.new.self c.place_at.ensures.inserts

pub returns-clause-places : goal.returns-clause-places
returns-clause-places g c = places_on c.make_room.ensures.same.places (places_on c.unlink.ensures.places c.place_at.ensures.places)

pub returns-clause-data : goal.returns-clause-data
returns-clause-data g c = data_on c.make_room.ensures.same.all_data (data_on c.unlink.ensures.all_data c.place_at.ensures.«data»)

pub returns-in_err-make_room-clause-forest : goal.returns-in_err-make_room-clause-forest
returns-in_err-make_room-clause-forest g c = forest_then c.requires.forest c.make_room.ensures.same
