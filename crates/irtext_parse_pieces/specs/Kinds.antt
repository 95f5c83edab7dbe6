-- Between functions: the names of values and of blocks, as operations use them.
use Rattle.std.specs.Prelude.{ℕ, Bool, List}
use Rattle.irtext_base.specs.Format as format
use Rattle.irtext_base.specs.Format.{Directive}
use Rattle.irtext_base.specs.Text.{begins_word}
use Rattle.irtext_base.specs.Reading.{the}
use Rattle.irtext_tokens.specs.Infix.{Reader}
use Rattle.irtext_grammar.specs.Grammar.Tree as tree
use Rattle.irtext_grammar.specs.Grammar.Tree.{Name, Piece}
use Rattle.irtext_grammar.specs.Heads.{used_at, target_at}
use Rattle.irtext_grammar.specs.declared.parsed.NameKind.{NameKind}
use Rattle.irtext_grammar.specs.declared.parsed.NameKind.TheVariants as kind

-- the characters with which a name of this kind begins
abbrev pub beginning : NameKind → ℕ → Bool
beginning kind.Value = begins_word
beginning kind.Block = the 94

-- a name of this kind that is used, inside of a region or outside of every region
abbrev pub named_at : NameKind → Bool → Reader (Name ℕ)
named_at kind.Value = used_at
named_at kind.Block = target_at

-- the directive of all names of this kind that no other directive names
abbrev pub names_directive : NameKind → Directive
names_directive kind.Value = format.operands
names_directive kind.Block = format.successors

module _ {T A : Type 0} where
  -- the piece of a tree that is the name of this kind at this place
  abbrev pub name_tree : NameKind → ℕ → Name ℕ → Piece ℕ T A
  name_tree kind.Value = tree.operand
  name_tree kind.Block = tree.successor

  -- the piece of a tree that is several names of this kind
  abbrev pub names_tree : NameKind → List (Name ℕ) → Piece ℕ T A
  names_tree kind.Value = tree.operands
  names_tree kind.Block = tree.successors
