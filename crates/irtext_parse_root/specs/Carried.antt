-- Between functions: the marks of what was parsed, in the order of the text, each with the place of the operation or block that carries
-- it; and which items carry them.
use Rattle.std.specs.Prelude.{◌≡◌, ◌≤◌, ◌<◌, ℕ, List, [], ◌∷◌, ◌++◌, Option, Some, None, ⊤}
use Rattle.irtext_context.specs.declared.base.item.Item.{Item}
use Rattle.irtext_context.specs.declared.base.item.Item.TheVariants as item
use Rattle.irtext_graph.specs.declared.object.Object.{Object}
use Rattle.irtext_graph.specs.declared.object.Object.TheVariants.{TheOperation, TheBlock}
use Rattle.irtext_graph.specs.Chained.{Among}
use Rattle.irtext_grammar.specs.Grammar.Forest.{Regions, no_regions, region, Blocks, no_blocks, block, Operations, no_operations, operation}
use Rattle.irtext_grammar.specs.Grammar.Tree.{Op, Head, Brace, Tree}
use Rattle.irtext_grammar.specs.Building.{Unfinished, operation_so_far, region_so_far, but_its_mark, Building, whole_blocks}
use Rattle.irtext_grammar.specs.Tracks.{Made}
use Rattle.irtext_names.specs.Carriers.{noted_as}

-- ---- the marks of what was parsed
module _ {T A : Type 0} where
  abbrev mutual
    -- the marks in regions: the index of each, and the place of what carries it
    pub marks_in_regions : Regions (Op ℕ T A) (Head ℕ T A) (Brace ℕ) → List (ℕ × ℕ)
    marks_in_regions no_regions = []
    marks_in_regions (region brace bs rs) = marks_in_blocks bs ++ marks_in_regions rs

    -- the marks in blocks; the mark of a block comes first
    pub marks_in_blocks : Blocks (Op ℕ T A) (Head ℕ T A) (Brace ℕ) → List (ℕ × ℕ)
    marks_in_blocks no_blocks = []
    marks_in_blocks (block h os bs) = noted_as h.mark h.label.place ++ (marks_in_operations os ++ marks_in_blocks bs)

    -- the marks in operations; the mark of an operation comes after those in its regions
    pub marks_in_operations : Operations (Op ℕ T A) (Head ℕ T A) (Brace ℕ) → List (ℕ × ℕ)
    marks_in_operations no_operations = []
    marks_in_operations (operation o rs os) = (marks_in_regions rs ++ noted_as o.mark o.place) ++ marks_in_operations os

  -- the marks in a tree
  abbrev pub marks_in : Tree ℕ T A → List (ℕ × ℕ)
  marks_in t = marks_in_regions t.regions ++ noted_as t.own.mark t.own.place

  -- the marks in one unfinished operation or region
  abbrev pub marks_under : Unfinished T A → List (ℕ × ℕ)
  marks_under (operation_so_far place id rs) = marks_in_regions rs
  marks_under (region_so_far bs last) = marks_in_blocks (whole_blocks bs last)
  marks_under (but_its_mark o rs) = marks_in_regions rs

  -- the marks in everything that is unfinished, with the innermost first in the list
  abbrev pub marks_open : List (Unfinished T A) → List (ℕ × ℕ)
  marks_open [] = []
  marks_open (u ∷ us) = marks_open us ++ marks_under u

  -- the marks in the tree, if there is one
  abbrev pub marks_whole : Option (Tree ℕ T A) → List (ℕ × ℕ)
  marks_whole None = []
  marks_whole (Some t) = marks_in t

  -- the marks in what was parsed so far
  abbrev pub marks_so_far : Building T A → List (ℕ × ℕ)
  marks_so_far b = marks_whole b.tree ++ marks_open b.unfinished

-- ---- the items that carry them
-- the object that an item is
abbrev pub object_of : Item → Object
object_of (item.Operation p) = TheOperation p
object_of (item.Block b) = TheBlock b

-- these items carry these marks: each has the index of its mark, and was created for the mark's place
abbrev pub AreCarried : Made → List (ℕ × ℕ) → List (ℕ × Item) → Type 0
AreCarried items [] [] = ⊤
AreCarried items (m ∷ ms) (n ∷ ns) = (n.0 ≡ m.0) × Among (m.1, object_of n.1) items × AreCarried items ms ns
AreCarried items _ _ = ⊥

-- The places of these items decrease, from the item that was created first to the last. A place is the number of characters from it to
-- the end: the first place is at most the first bound, and the last is more than the second.
abbrev pub Falls : ℕ → Made → ℕ → Type 0
Falls above [] below = below ≤ above
Falls above (made ∷ items) below = (below < made.0) × Falls above items made.0
