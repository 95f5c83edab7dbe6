-- What the parser has created so far, by the items that it was created for. An item is here a place in the text with the operation or
-- block that was created for it.
use Rattle.std.specs.Prelude.{◌≡◌, ℕ, List}
use Rattle.irtext_graph.specs.declared.arena.Ptr.{Ptr}
use Rattle.irtext_graph.specs.declared.object.BasicBlock.{BasicBlock}
use Rattle.irtext_graph.specs.declared.object.Object.{Object}
use Rattle.irtext_graph.specs.declared.object.Object.TheVariants.{TheOperation, TheBlock}
use Rattle.irtext_graph.specs.declared.object.Value.{Value}
use Rattle.irtext_graph.specs.declared.object.Value.TheVariants.{Result, Argument}
use Rattle.irtext_graph.specs.declared.object.Site.{Site}
use Rattle.irtext_graph.specs.declared.object.Site.TheVariants.{AtOperand, AtSuccessor}
use Rattle.irtext_graph.specs.Chained.{Among}
use Rattle.irtext_grammar.specs.Names.Script.{Path, Place, result, argument, block_at, User, operand, successor}
use Rattle.irtext_names.specs.Linked.{Known}

module _ (path : ℕ → Path) (items : List (ℕ × Object)) where
  -- the place is that of a value of an item: a result of its operation or an argument of its block, at the item's path
  abbrev pub IsValueOf : Place → Value → Type 0
  IsValueOf q (Result p i) = (n : ℕ) × (q ≡ result (path n) i) × Among (n, TheOperation p) items
  IsValueOf q (Argument b i) = (n : ℕ) × (q ≡ argument (path n) i) × Among (n, TheBlock b) items

  -- the place is that of an item's block
  abbrev pub IsBlockOf : Place → Ptr BasicBlock → Type 0
  IsBlockOf q b = (n : ℕ) × (q ≡ block_at (path n)) × Among (n, TheBlock b) items

  -- the user is an operand or a successor of an item's operation
  abbrev pub IsSiteOf : User → Site → Type 0
  IsSiteOf u (AtOperand p i) = (n : ℕ) × (u ≡ operand (path n) i) × Among (n, TheOperation p) items
  IsSiteOf u (AtSuccessor p i) = (n : ℕ) × (u ≡ successor (path n) i) × Among (n, TheOperation p) items

  -- everything that was created so far belongs to these items
  pub record AreOf (known : Known) : Type 0 where
    pub values_of : (q : Place) (v : Value) → Among (q, v) known.values → IsValueOf q v
    pub blocks_of : (q : Place) (b : Ptr BasicBlock) → Among (q, b) known.blocks → IsBlockOf q b
    pub sites_of : (u : User) (s : Site) → Among (u, s) known.sites → IsSiteOf u s
