use Rattle.std.proofs.Common.{◌≡◌, ◌∙◌, ℕ, ap, subst, Some, slice_get}
use Rattle.std.specs.Option.{option_map}
use Rattle.std.proofs.lemmas.Option.{slice_get-map}
use Rattle.irtext_graph.specs.declared.arena.Ptr.{Ptr}
use Rattle.irtext_graph.specs.declared.object.Region.{Region}
use Rattle.irtext_graph.specs.declared.object.Object.TheVariants.{TheBlock, TheRegion}
use Rattle.irtext_graph.specs.Graph.{parent}
use Rattle.irtext_graph.specs.Parts.{blocks}
use Rattle.irtext_walks.specs.Siblings.{item_before}
use Rattle.irtext_walks.proofs.Ends.{before_mapped}
use Rattle.irtext_walks.proofs.operations.PtrBasicBlockBlockSiblings.previous_block.Goals as goal

pub returns-clause-previous : goal.returns-clause-previous
returns-clause-previous g c =
    let this = c.args.self in
    let result = c.block_of.result in
    subst (λ v. (k : Ptr Region) (i : ℕ) → parent v (TheBlock this) ≡ Some (TheRegion k) → slice_get (blocks v k) i ≡ Some this
    → result ≡ item_before (blocks v k) i) c.graph.ensures
    (λ k i e f.
    let xs = blocks c.graph.result.now k in
    c.block_of.ensures.here (item_before xs i) (c.previous_sibling.ensures.previous (TheRegion k) i e
    (slice_get-map TheBlock xs i ∙ ap (option_map TheBlock) f) ∙ before_mapped TheBlock xs i))
