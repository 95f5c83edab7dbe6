use Rattle.std.proofs.Common.{◌≡◌, ◌+◌, ◌∙◌, ℕ, ap, subst, Some, slice_get}
use Rattle.std.specs.Option.{option_map}
use Rattle.std.proofs.lemmas.Option.{slice_get-map}
use Rattle.irtext_graph.specs.declared.arena.Ptr.{Ptr}
use Rattle.irtext_graph.specs.declared.object.Region.{Region}
use Rattle.irtext_graph.specs.declared.object.Object.TheVariants.{TheBlock, TheRegion}
use Rattle.irtext_graph.specs.Graph.{parent}
use Rattle.irtext_graph.specs.Parts.{blocks}
use Rattle.irtext_walks.proofs.operations.PtrBasicBlockBlockSiblings.next_block.Goals as goal

pub returns-clause-next : goal.returns-clause-next
returns-clause-next g c =
    let this = c.args.self in
    let result = c.block_of.result in
    subst (λ v. (k : Ptr Region) (i : ℕ) → parent v (TheBlock this) ≡ Some (TheRegion k) → slice_get (blocks v k) i ≡ Some this
    → result ≡ slice_get (blocks v k) (i + 1)) c.graph.ensures
    (λ k i e f.
    let xs = blocks c.graph.result.now k in
    c.block_of.ensures.here (slice_get xs (i + 1)) (c.next_sibling.ensures.next (TheRegion k) i e (slice_get-map TheBlock xs i ∙ ap (option_map TheBlock) f)
    ∙ slice_get-map TheBlock xs (i + 1)))
