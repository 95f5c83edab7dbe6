use Rattle.std.proofs.Common.{◌∙◌}
use Rattle.irtext_graph.specs.Objects.{up}
use Rattle.irtext_graph.specs.Nested.{Within}
use Rattle.irtext_graph.proofs.Inside.{within_self}
use Rattle.irtext_graph.proofs.Unlinked.{inside_still, inside_was, parent_apart, kept_on}
use Rattle.irtext_graph.proofs.Kept.{datum_on, datum_at, sheds_on, sheds_none}
use Rattle.irtext_graph.proofs.objects.Objects.erase.Goals as goal

pub returns-clause-gone : goal.returns-clause-gone
returns-clause-gone g c = λ q w.
    let u = c.unlink.ensures in
    c.erase_all.ensures.gone q (inside_still c.args.self.now c.unlink.new.self c.erase_all.new.self c.args.o c.requires.forest u.free u.ups q w)

pub returns-clause-kept : goal.returns-clause-kept
returns-clause-kept g c =
    let u = c.unlink.ensures in
    kept_on c.args.self.now c.unlink.new.self c.erase_all.new.self c.args.o c.requires.forest u.free u.ups u.kids u.data c.erase_all.ensures.kept

pub returns-clause-left : goal.returns-clause-left
returns-clause-left g c = λ k i e f.
    let u = c.unlink.ensures in
    let apart = parent_apart c.args.self.now c.unlink.new.self c.erase_all.new.self c.args.o c.requires.forest u.free u.ups k e in
    (c.erase_all.ensures.kept k apart).same_kids ∙ u.left k i e f

pub returns-clause-parent : goal.returns-clause-parent
returns-clause-parent g c = λ k e.
    let u = c.unlink.ensures in
    let apart = parent_apart c.args.self.now c.unlink.new.self c.erase_all.new.self c.args.o c.requires.forest u.free u.ups k e in
    (c.erase_all.ensures.kept k apart).same_up ∙ u.ups k (λ s. apart (rw s (within_self (up c.unlink.new.self) c.args.o)))

pub returns-clause-whats : goal.returns-clause-whats
returns-clause-whats g c = λ q out.
    let u = c.unlink.ensures in
    let apart : Within (up c.unlink.new.self) c.args.o q → ⊥ = λ w. out (inside_was c.args.self.now c.unlink.new.self c.erase_all.new.self c.args.o c.requires.forest u.free u.ups q w) in
    (c.erase_all.ensures.kept q apart).same_what ∙ u.data q

pub returns-clause-data : goal.returns-clause-data
returns-clause-data g c = λ q out.
    let u = c.unlink.ensures in
    let apart : Within (up c.unlink.new.self) c.args.o q → ⊥ = λ w. out (inside_was c.args.self.now c.unlink.new.self c.erase_all.new.self c.args.o c.requires.forest u.free u.ups q w) in
    datum_on (datum_at u.all_data q) (c.erase_all.ensures.kept_data q apart)

pub returns-clause-sheds : goal.returns-clause-sheds
returns-clause-sheds g c = sheds_on (sheds_none c.unlink.ensures.places) c.erase_all.ensures.sheds
