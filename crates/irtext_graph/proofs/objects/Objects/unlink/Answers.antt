use Rattle.std.proofs.Common.{◌≡◌, ◌∙◌, sym, ap, Some, slice_get, arith}
use Rattle.std.specs.List.{remove}
use Rattle.irtext_graph.specs.Objects.{up, kids}
use Rattle.irtext_graph.proofs.Nests.{some_eq}
use Rattle.irtext_graph.proofs.Kept.{places_on, data_on, room_on, room_self, forest_then}
use Rattle.irtext_graph.proofs.Places.{parent_lives}
use Rattle.irtext_graph.proofs.objects.Objects.unlink.Goals as goal

pub renumber-requires-clause-lives : goal.renumber-requires-clause-lives
renumber-requires-clause-lives g c =
    let x = c.args.self.now in
    let e : up x c.args.c ≡ Some c.in-Some.k = sym c.parent_of.ensures ∙ c.in-Some.is in
    rw (c.unlist.ensures.data c.in-Some.k) (parent_lives x c.args.c c.in-Some.k c.requires.forest e)

pub returns-in-Some-clause-forest : goal.returns-in-Some-clause-forest
returns-in-Some-clause-forest g c = forest_then c.unlist.ensures.forest c.renumber.ensures.same

pub returns-in-Some-clause-free : goal.returns-in-Some-clause-free
returns-in-Some-clause-free g c = (c.renumber.ensures.same.at c.args.c).same_up ∙ c.unlist.ensures.free

pub returns-in-Some-clause-ups : goal.returns-in-Some-clause-ups
returns-in-Some-clause-ups g c = λ q ne. (c.renumber.ensures.same.at q).same_up ∙ c.unlist.ensures.ups q ne

pub returns-in-Some-clause-kids : goal.returns-in-Some-clause-kids
returns-in-Some-clause-kids g c = λ q ne.
    let e : up c.args.self.now c.args.c ≡ Some c.in-Some.k = sym c.parent_of.ensures ∙ c.in-Some.is in
    (c.renumber.ensures.same.at q).same_kids ∙ c.unlist.ensures.kids q (λ s. ne (e ∙ ap Some (sym s)))

pub returns-in-Some-clause-left : goal.returns-in-Some-clause-left
returns-in-Some-clause-left g c = λ k i e f.
    let x = c.args.self.now in
    let kk : k ≡ c.in-Some.k = some_eq (sym e ∙ sym c.parent_of.ensures ∙ c.in-Some.is) in
    let at : slice_get (kids x k) c.index_in-i.result ≡ Some c.args.c = ap (λ q. slice_get (kids x q) c.index_in-i.result) kk ∙ c.index_in-i.ensures in
    let ii = c.requires.forest.once k i c.index_in-i.result c.args.c f at in
    (c.renumber.ensures.same.at k).same_kids ∙ ap (kids c.unlist.new.self) kk ∙ c.unlist.ensures.here ∙ ap (λ q. remove (kids x q) c.index_in-i.result) (sym kk) ∙ ap (remove (kids x k)) (sym ii)

pub returns-in-Some-clause-data : goal.returns-in-Some-clause-data
returns-in-Some-clause-data g c = λ q. (c.renumber.ensures.same.at q).same_what ∙ c.unlist.ensures.data q

pub returns-in-Some-clause-links : goal.returns-in-Some-clause-links
returns-in-Some-clause-links g c = let a = c.renumber.ensures.same.as_many in let b = c.unlist.ensures.less in omega (arith, a, b)

pub returns-in-Some-clause-less : goal.returns-in-Some-clause-less
returns-in-Some-clause-less g c = λ _. let a = c.renumber.ensures.same.as_many in let b = c.unlist.ensures.less in omega (arith, a, b)

pub returns-in-Some-clause-places : goal.returns-in-Some-clause-places
returns-in-Some-clause-places g c = places_on c.unlist.ensures.places c.renumber.ensures.same.places

pub returns-in-Some-clause-all_data : goal.returns-in-Some-clause-all_data
returns-in-Some-clause-all_data g c = data_on c.unlist.ensures.all_data c.renumber.ensures.same.all_data

pub returns-in-Some-clause-room : goal.returns-in-Some-clause-room
returns-in-Some-clause-room g c = room_on c.unlist.ensures.room c.renumber.ensures.room

pub returns-in_default-clause-room : goal.returns-in_default-clause-room
returns-in_default-clause-room g c = room_self c.args.self.now
