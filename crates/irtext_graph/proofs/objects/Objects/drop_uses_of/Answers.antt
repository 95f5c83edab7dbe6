use Rattle.std.proofs.Common.{◌≡◌, ◌∙◌, sym, subst, option_map}
use Rattle.irtext_graph.specs.Arena.{get}
use Rattle.irtext_graph.specs.Objects.{what, Lives}
use Rattle.irtext_graph.specs.Erasing.{without_uses}
use Rattle.irtext_graph.proofs.Kept.{datum_back}
use Rattle.irtext_graph.proofs.Dropping.{dropped_up, dropped_kids, dropped_others, dropped_here}
use Rattle.irtext_graph.proofs.objects.Objects.drop_uses_of.Goals as goal

pub drop_uses-requires-clause-alive : goal.drop_uses-requires-clause-alive
drop_uses-requires-clause-alive g c =
    datum_back _ (get c.args.self.now.operations c.in-TheOperation.p) (subst (Lives c.args.self.now) c.in-TheOperation.is c.requires.lives)

pub returns-in-TheOperation-clause-here : goal.returns-in-TheOperation-clause-here
returns-in-TheOperation-clause-here g c =
    let e = c.drop_uses.ensures in
    subst (λ q. what c.drop_uses.new.self q ≡ option_map without_uses (what c.args.self.now q)) (sym c.in-TheOperation.is)
    (dropped_here c.args.self.now c.drop_uses.new.self c.in-TheOperation.p e.edits e.blocks e.regions)

pub returns-in-TheOperation-clause-others : goal.returns-in-TheOperation-clause-others
returns-in-TheOperation-clause-others g c = λ r ne.
    let e = c.drop_uses.ensures in
    dropped_others c.args.self.now c.drop_uses.new.self c.in-TheOperation.p e.edits e.blocks e.regions r (λ s. ne (s ∙ sym c.in-TheOperation.is))

pub returns-in-TheOperation-clause-ups : goal.returns-in-TheOperation-clause-ups
returns-in-TheOperation-clause-ups g c = let e = c.drop_uses.ensures in dropped_up c.args.self.now c.drop_uses.new.self c.in-TheOperation.p e.edits e.blocks e.regions

pub returns-in-TheOperation-clause-kids : goal.returns-in-TheOperation-clause-kids
returns-in-TheOperation-clause-kids g c = let e = c.drop_uses.ensures in dropped_kids c.args.self.now c.drop_uses.new.self c.in-TheOperation.p e.edits e.blocks e.regions
