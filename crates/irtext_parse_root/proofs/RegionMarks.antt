-- The items that carry the marks of a region are those at the same places of its forest of pointers.
use Rattle.std.proofs.Common.{◌≡◌, ◌∙◌, ℕ, List, [], ◌∷◌, ◌++◌, refl, sym}
use Rattle.irtext_base.specs.declared.location.Location.{Location}
use Rattle.irtext_context.specs.Context.{ContextView}
use Rattle.irtext_context.specs.declared.base.item.Item.{Item}
use Rattle.irtext_context.specs.declared.base.item.Item.TheVariants as item
use Rattle.irtext_grammar.specs.Grammar.Forest as forest
use Rattle.irtext_grammar.specs.Grammar.Forest.{no_regions, no_blocks, no_operations}
use Rattle.irtext_grammar.specs.Tracks.{Made}
use Rattle.irtext_names.specs.Carriers.{noted_as, marks_on_regions, marks_on_blocks, marks_on_operations}
use Rattle.irtext_names.specs.Held.{PtrRegions, PtrBlocks, PtrOperations}
use Rattle.irtext_names.specs.Placed.{TreeRegions, TreeBlocks, TreeOperations, RegionsAre, BlocksAre, OperationsAre}
use Rattle.irtext_parse_root.specs.Carried.{marks_in_regions, marks_in_blocks, marks_in_operations, object_of, AreCarried, Falls}
use Rattle.irtext_parse_root.proofs.Carrying.{carried_both, carried_one, one_object}
use Rattle.irtext_parse_root.proofs.Marks.{one_item}

module _ {T A : Type 0} (L : ℕ → Location A → Type 0) (c : ContextView T A) (items : Made) where
  -- the items there carry the marks
  mutual
    regions_carried : (ps : PtrRegions) (rs : TreeRegions T A) → RegionsAre L c items ps rs → AreCarried items (marks_in_regions rs) (marks_on_regions rs ps)
    regions_carried no_regions no_regions h = tt
    regions_carried no_regions (forest.region brace bs rs) h = absurd h
    regions_carried (forest.region r qs ps) no_regions h = absurd h
    regions_carried (forest.region r qs ps) (forest.region brace bs rs) (at, k, h) =
        carried_both items (marks_in_blocks bs) (marks_in_regions rs) (marks_on_blocks bs qs) (marks_on_regions rs ps) (blocks_carried qs bs k) (regions_carried ps rs h)

    blocks_carried : (ps : PtrBlocks) (bs : TreeBlocks T A) → BlocksAre L c items ps bs → AreCarried items (marks_in_blocks bs) (marks_on_blocks bs ps)
    blocks_carried no_blocks no_blocks h = tt
    blocks_carried no_blocks (forest.block head os bs) h = absurd h
    blocks_carried (forest.block b qs ps) no_blocks h = absurd h
    blocks_carried (forest.block b qs ps) (forest.block head os bs) (at, k, h) =
        carried_both items (noted_as head.mark head.label.place) (marks_in_operations os ++ marks_in_blocks bs) (noted_as head.mark (item.Block b)) (marks_on_operations os qs ++ marks_on_blocks bs ps)
        (carried_one items head.mark head.label.place (item.Block b) at.item)
        (carried_both items (marks_in_operations os) (marks_in_blocks bs) (marks_on_operations os qs) (marks_on_blocks bs ps) (operations_carried qs os k) (blocks_carried ps bs h))

    operations_carried : (ps : PtrOperations) (os : TreeOperations T A) → OperationsAre L c items ps os → AreCarried items (marks_in_operations os) (marks_on_operations os ps)
    operations_carried no_operations no_operations h = tt
    operations_carried no_operations (forest.operation o rs os) h = absurd h
    operations_carried (forest.operation p qs ps) no_operations h = absurd h
    operations_carried (forest.operation p qs ps) (forest.operation o rs os) (at, k, h) =
        carried_both items (marks_in_regions rs ++ noted_as o.mark o.place) (marks_in_operations os) (marks_on_regions rs qs ++ noted_as o.mark (item.Operation p)) (marks_on_operations os ps)
        (carried_both items (marks_in_regions rs) (noted_as o.mark o.place) (marks_on_regions rs qs) (noted_as o.mark (item.Operation p)) (regions_carried qs rs k) (carried_one items o.mark o.place (item.Operation p) at.item))
        (operations_carried ps os h)

  module _ (above below : ℕ) (falls : Falls above items below) where
    -- no other items carry them
    one_way : (ms : List (ℕ × ℕ)) (xs ys : List (ℕ × Item)) → AreCarried items ms xs → AreCarried items ms ys → xs ≡ ys
    one_way [] [] [] h k = refl
    one_way [] [] (y ∷ ys) h k = absurd k
    one_way [] (x ∷ xs) ys h k = absurd h
    one_way (m ∷ ms) [] ys h k = absurd h
    one_way (m ∷ ms) (x ∷ xs) [] h k = absurd k
    one_way (m ∷ ms) (x ∷ xs) (y ∷ ys) (e, i, h) (f, j, k) =
        let same = one_item x.1 y.1 (one_object above items below m.1 (object_of x.1) (object_of y.1) falls i j) in
        let rest = one_way ms xs ys h k in
        λ z. ((e ∙ sym f) z, same z) ∷ rest z

    -- so what was recorded is what is there
    pub carried_there : (ps : PtrRegions) (rs : TreeRegions T A) → RegionsAre L c items ps rs → (ns : List (ℕ × Item)) → AreCarried items (marks_in_regions rs) ns → ns ≡ marks_on_regions rs ps
    carried_there ps rs is ns h = one_way (marks_in_regions rs) ns (marks_on_regions rs ps) h (regions_carried ps rs is)
