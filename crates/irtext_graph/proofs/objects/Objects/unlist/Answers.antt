use Rattle.std.proofs.Common.{◌≡◌, ◌∙◌, ap, slice_get}
use Rattle.std.specs.List.{remove}
use Rattle.std.proofs.lemmas.Option.{slice_get_within}
use Rattle.irtext_graph.specs.Objects.{kids, eq_object}
use Rattle.irtext_graph.proofs.Same.{object_tells}
use Rattle.irtext_graph.proofs.Erased.{up_lives}
use Rattle.irtext_graph.proofs.Places.{parent_lives}
use Rattle.irtext_graph.proofs.Moves.{unlinked, get-remove-low, get-remove-high}
use Rattle.irtext_graph.proofs.Kept.{places_on, data_on, room_on}
use Rattle.irtext_graph.proofs.objects.Objects.unlist.Goals as goal

pub returns-clause-forest : goal.returns-clause-forest
returns-clause-forest g c =
    let x = c.args.self.now in
    let k = c.args.k in
    let i = c.args.i in
    let e : kids c.clear_parent.new.self k ≡ remove (kids x k) i = c.clear_parent.ensures.kids k ∙ c.remove_child.ensures.here in
    let low = slice_get_within (kids x k) i c.args.c c.requires.at in
    unlinked eq_object object_tells {i = i} c.requires.forest (record {
      at = c.requires.at;
      low = λ j l. ap (λ xs. slice_get xs j) e ∙ get-remove-low (kids x k) i j l low;
      high = λ j h. ap (λ xs. slice_get xs j) e ∙ get-remove-high (kids x k) i j h low;
      others = λ q ne. c.clear_parent.ensures.kids q ∙ c.remove_child.ensures.others q ne;
      up_here = c.clear_parent.ensures.here;
      ups = λ q ne. c.clear_parent.ensures.others q ne ∙ c.remove_child.ensures.ups q;
    })

pub returns-clause-places : goal.returns-clause-places
returns-clause-places g c = places_on c.remove_child.ensures.places c.clear_parent.ensures.places

pub returns-clause-all_data : goal.returns-clause-all_data
returns-clause-all_data g c = data_on c.remove_child.ensures.all_data c.clear_parent.ensures.all_data

pub remove_child-requires-clause-live : goal.remove_child-requires-clause-live
remove_child-requires-clause-live g c = parent_lives c.args.self.now c.args.c c.args.k c.requires.forest c.requires.alive

pub remove_child-requires-clause-within : goal.remove_child-requires-clause-within
remove_child-requires-clause-within g c = slice_get_within (kids c.args.self.now c.args.k) c.args.i c.args.c c.requires.at

pub clear_parent-requires : goal.clear_parent-requires
clear_parent-requires g c = rw (c.remove_child.ensures.data c.args.c) (up_lives c.args.self.now c.args.c c.args.k c.requires.alive)

pub returns-clause-room : goal.returns-clause-room
returns-clause-room g c = room_on c.remove_child.ensures.room c.clear_parent.ensures.room
