-- For callers: what is printed for a directive that prints no region.
use Rattle.std.specs.Prelude.{[], ◌++◌, Option, Some, None, ⊤}
use Rattle.irtext_base.specs.Text.{Text}
use Rattle.irtext_base.specs.Own.{Language}
use Rattle.irtext_grammar.specs.Grammar.Tree as tree
use Rattle.irtext_grammar.specs.Grammar.Tree.{Part}
use Rattle.irtext_grammar.specs.Spelling.Spell.{space, piece}

-- what a part prints, with the space before it; nothing if it is a region, or if there is none
abbrev pub part_text : {T A : Type 0} → Language ⊤ T A → Option (Part ⊤ T A) → Text
part_text L None = []
part_text L (Some (tree.piece p)) = space L p ++ piece L p
part_text L (Some (tree.region i)) = []
part_text L (Some tree.regions) = []
