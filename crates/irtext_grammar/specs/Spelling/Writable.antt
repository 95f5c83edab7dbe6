-- For callers: trees whose text is parsed back: names are identifiers, each operation has a body of its format, and no region is elided
-- unless the language parses that.
use Rattle.std.specs.Prelude.{◌≡◌, ℕ, Bool, true, false, List, [], map, Option, Some, None, ◌++◌, ⊤, codes, ◌==◌, ◌⊎◌}
use Rattle.irtext_grammar.specs.Grammar.Forest.{Regions, no_regions, region, Blocks, no_blocks, block, Operations, no_operations, operation}
use Rattle.irtext_base.specs.Format as format
use Rattle.irtext_grammar.specs.Grammar.Tree as tree
use Rattle.irtext_grammar.specs.Grammar.Tree.{Name, Mark, Body, Op, Head, Brace, shown, elided, Tree, directive}
use Rattle.irtext_base.specs.Own.{Language, Ends}
use Rattle.irtext_base.specs.Text.{Text, begins, after_space}
use Rattle.irtext_base.specs.Format.{Format, has, kind, c7, c8}
use Rattle.irtext_grammar.specs.Spelling.Spellable.{Each, IsIdentifier, IsName, IsSpellableEntry, AreSpellable, IsSpellableMark, Enough}

-- the text is empty, or its first character is of one of these kinds
abbrev pub OneOf : List ℕ → Text → Type 0
OneOf kinds t = (t ≡ []) ⊎ (begins (λ c. has ◌==◌ (kind c) kinds) t ≡ true)

-- What printed IR has after an operation: its own mark, or `;`, or white space and then `}` or `^`, or nothing.
pub record AfterOperation {P : Type 0} (mark : Option (Mark P)) (f : Text) : Type 0 where
  pub ends : Ends f
  pub one : mark ≡ None → OneOf (codes ";}^") (after_space f)

-- whether there is a region
abbrev pub has_region : {O B R : Type 0} → Regions O B R → Bool
has_region no_regions = false
has_region (region brace bs rs) = true

module _ {P T A : Type 0} (L : Language P T A) where
  -- the body has the parts of this format, each part is spellable, and there is a part for each region
  abbrev pub IsSpellableBody : Format → Body P T A → Regions (Op P T A) (Head P T A) (Brace P) → Type 0
  IsSpellableBody (format.custom directives) (tree.custom parts) rs = (c8 directives ≡ true) × (map directive parts ≡ map Some directives) × AreSpellable parts × Enough parts rs
  IsSpellableBody format.canonical (tree.canonical names labels entries operand_types result_types) rs = Each IsName names × Each IsName labels × Each IsSpellableEntry entries
  IsSpellableBody _ _ rs = ⊥

  -- the operation's names and id are identifiers, its mark's index is below 2 ^ 64, and its body is spellable in its format
  pub record IsSpellableOp (op : Op P T A) (regions : Regions (Op P T A) (Head P T A) (Brace P)) : Type 0 where
    pub names : Each IsName op.names
    pub dialect : IsIdentifier op.id.dialect
    pub name : IsIdentifier op.id.name
    pub mark : IsSpellableMark op.mark
    pub its_format : Format
    pub is_format : L.format_of op.id ≡ Some its_format
    pub body : IsSpellableBody its_format op.body regions

  -- an argument's name is an identifier
  abbrev pub IsSpellableArgument : Name P × T → Type 0
  IsSpellableArgument a = IsName a.0

  -- the names in a dictionary are identifiers, if there is one
  abbrev pub AreSpellableEntries : Option (List (Name P × tree.Attribute A)) → Type 0
  AreSpellableEntries None = ⊤
  AreSpellableEntries (Some es) = Each IsSpellableEntry es

  -- the names in the own data of a block are identifiers
  pub record IsSpellableHead (h : Head P T A) : Type 0 where
    pub label : IsName h.label
    pub arguments : Each IsSpellableArgument h.arguments
    pub attributes : AreSpellableEntries h.attributes
    pub mark : IsSpellableMark h.mark

  -- the region is shown; or it is elided and has no block, and the language parses `{..}` in its place
  abbrev pub IsRead : Brace P → Blocks (Op P T A) (Head P T A) (Brace P) → Type 0
  IsRead (shown p) bs = ⊤
  IsRead elided no_blocks = (f : Text) → L.left_out (codes "{..}" ++ f) f
  IsRead elided (block h os bs) = ⊥

  abbrev mutual
    -- everything in the regions can be printed and parsed back
    pub WritableRegions : Regions (Op P T A) (Head P T A) (Brace P) → Type 0
    WritableRegions no_regions = ⊤
    WritableRegions (region brace bs rs) = IsRead brace bs × WritableBlocks bs × WritableRegions rs

    -- everything in the blocks can be printed and parsed back
    pub WritableBlocks : Blocks (Op P T A) (Head P T A) (Brace P) → Type 0
    WritableBlocks no_blocks = ⊤
    WritableBlocks (block h os bs) = IsSpellableHead h × WritableOperations os × WritableBlocks bs

    -- all operations, with everything nested in them, can be printed and parsed back
    pub WritableOperations : Operations (Op P T A) (Head P T A) (Brace P) → Type 0
    WritableOperations no_operations = ⊤
    WritableOperations (operation o rs os) = IsSpellableOp o rs × WritableRegions rs × WritableOperations os

  -- the tree can be printed and parsed back
  abbrev pub Writable : Tree P T A → Type 0
  Writable t = IsSpellableOp t.own t.regions × WritableRegions t.regions

  -- the root has a region, and if its format is custom, no operand, successor or result type follows a region there
  pub record Deep (t : Tree P T A) : Type 0 where
    pub has_one : has_region t.regions ≡ true
    pub regions_last : (directives : List format.Directive) → L.format_of t.own.id ≡ Some (format.custom directives) → c7 directives ≡ true

  -- What printed IR has after a root: what follows any operation, or, if the root has a region, the section's first word.
  pub record AfterRoot (t : Tree P T A) (f : Text) : Type 0 where
    pub ends : Ends f
    pub one : t.own.mark ≡ None → OneOf (codes ";}^") (after_space f) ⊎ Deep t × OneOf (codes "_") (after_space f)
