-- For callers: whether a tree has a mark; and the grammar of a root, which has a section exactly if its tree has a mark.
use Rattle.std.specs.Prelude.{Bool, true, false, ◌||◌, List, [], ◌∷◌, is_some, ⊤}
use Rattle.irtext_grammar.specs.Grammar.Forest.{Regions, no_regions, region, Blocks, no_blocks, block, Operations, no_operations, operation, AllRegions}
use Rattle.irtext_base.specs.Text.{Text}
use Rattle.irtext_base.specs.Reading.{Reading, ◌▸◌, nothing}
use Rattle.irtext_grammar.specs.Grammar.Tree.{Op, Head, Brace, Tree, shown, elided}
use Rattle.irtext_base.specs.Own.{Language, Verdict}
use Rattle.irtext_grammar.specs.Grammar.Reads.{reads}
use Rattle.irtext_grammar.specs.Grammar.Section.{Entry, section}

module _ {P T A : Type 0} where
  abbrev mutual
    -- some operation or block in the regions has a mark
    pub regions_marked : Regions (Op P T A) (Head P T A) (Brace P) → Bool
    regions_marked no_regions = false
    regions_marked (region r bs rs) = blocks_marked bs || regions_marked rs

    -- some block, or something nested in the blocks, has a mark
    pub blocks_marked : Blocks (Op P T A) (Head P T A) (Brace P) → Bool
    blocks_marked no_blocks = false
    blocks_marked (block h os bs) = is_some h.mark || operations_marked os || blocks_marked bs

    -- some operation, or something nested in the operations, has a mark
    pub operations_marked : Operations (Op P T A) (Head P T A) (Brace P) → Bool
    operations_marked no_operations = false
    operations_marked (operation o rs os) = is_some o.mark || regions_marked rs || operations_marked os

  -- some operation or block of the tree has a mark
  abbrev pub marked : Tree P T A → Bool
  marked t = is_some t.own.mark || regions_marked t.regions

-- the section if the flag is true; otherwise no text and no entry
abbrev pub section_if : {P T A X : Type 0} → Language P T A → (Text → Verdict X) → Bool → List (Entry P A X) → Reading
section_if L location_at true es = section L location_at es
section_if L location_at false [] = nothing
section_if L location_at false (e ∷ es) = λ text rest. ⊥

-- the text of a root: its tree, and then its section exactly if the tree has a mark
abbrev pub reads_root : {P T A X : Type 0} → Language P T A → (Text → Verdict X) → Tree P T A → List (Entry P A X) → Reading
reads_root L location_at t es = reads L t ▸ section_if L location_at (marked t) es

-- the region is shown, not elided
abbrev pub IsShown : {P : Type 0} → Brace P → Type 0
IsShown (shown p) = ⊤
IsShown elided = ⊥

-- each region of the tree is shown
abbrev pub AllShown : {P T A : Type 0} → Tree P T A → Type 0
AllShown t = AllRegions (λ o. ⊤) (λ h. ⊤) IsShown t.regions
