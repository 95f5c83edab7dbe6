-- Between functions: what happens to names as a text is parsed. The parser knows no paths, so an item, which is here an operation or a
-- block, is named by any function from its place in the text to paths. Each act is the one that the grammar's script of the tree has
-- there.
use Rattle.std.specs.Prelude.{◌≡◌, ℕ, suc, false, List, [], ◌∷◌, ◌++◌, length, map, Option, Some, None, ⊤}
use Rattle.irtext_base.specs.Format as format
use Rattle.irtext_base.specs.Format.{Format, Id, operand_places, successor_places}
use Rattle.irtext_grammar.specs.Grammar.Forest.{Regions, no_regions, region, Blocks, no_blocks, block, Operations, no_operations, operation, AllRegions}
use Rattle.irtext_grammar.specs.Grammar.Tree as tree
use Rattle.irtext_grammar.specs.Grammar.Tree.{Name, Piece, Part, Body, Op, Head, Brace, Tree, IsOf, views}
use Rattle.irtext_grammar.specs.Spelling.Spellable.{Each}
use Rattle.irtext_grammar.specs.Names.Script.{Path}
use Rattle.irtext_grammar.specs.Names.TextScopes.{Act}
use Rattle.irtext_grammar.specs.Names.Acts.{piece_acts, closing_acts, mark_acts, header_acts}
use Rattle.irtext_grammar.specs.Names.History.{Outcome, act, enter, leave, next, run}
use Rattle.irtext_grammar.specs.Reached.{Actions}

-- the outcome of the acts, one after another
abbrev pub acted : List Act → Outcome → Outcome
acted acts o = run o (map act acts)

-- how many operands of a format have a directive of their own
abbrev pub single_operands : Option Format → ℕ
single_operands (Some (format.custom ds)) = length (operand_places ds)
single_operands _ = 0

-- how many successors of a format have a directive of their own
abbrev pub single_successors : Option Format → ℕ
single_successors (Some (format.custom ds)) = length (successor_places ds)
single_successors _ = 0

module _ {P T A : Type 0} where
  -- the canonical body with these lists of types; its other parts are among those given
  abbrev pub canonical_of : List (List T) → List (Part P T A) → Body P T A
  canonical_of (xs ∷ ys ∷ more) ps = tree.canonical (views (λ p. elim p [ tree.operands ns ↦ ns | _ ↦ [] ]) ps)
      (views (λ p. elim p [ tree.successors ns ↦ ns | _ ↦ [] ]) ps) (views (λ p. elim p [ tree.dictionary es ↦ es | _ ↦ [] ]) ps) xs ys
  canonical_of _ ps = tree.custom ps

  -- the body with these parts, by its operation's format
  abbrev pub body_of : Option Format → List (Part P T A) → Body P T A
  body_of (Some format.canonical) ps = canonical_of (views (λ p. elim p [ tree.types ts ↦ ts ∷ [] | _ ↦ [] ]) ps) ps
  body_of _ ps = tree.custom ps

  -- an operation before its mark is parsed
  abbrev pub unmarked : P → List (Name P) → Id → Body P T A → Op P T A
  unmarked place names id body = record { place = place; names = names; id = id; body = body; mark = None }

module _ {T A : Type 0} (formats : Id → Option Format) (path : ℕ → Path) where
  -- the acts of a piece of the operation with this place and this id
  abbrev pub acts_of_piece : ℕ → Id → Piece ℕ T A → List Act
  acts_of_piece place id = piece_acts (path place) (single_operands (formats id)) (single_successors (formats id))

  -- the acts at an operation's end, before its mark
  abbrev pub acts_at_end : ℕ → List (Name ℕ) → Id → List (Part ℕ T A) → List Act
  acts_at_end place names id parts = closing_acts (path place) (unmarked place names id (body_of (formats id) parts))

  -- the actions on names, with the item at each place named by its path
  abbrev pub naming : Actions T A Outcome
  naming = record {
    uses = λ place id parts. acted (views (acts_of_piece place id) parts);
    late = λ place id piece. acted (acts_of_piece place id piece);
    enters = λ iso o. next o (enter iso);
    leaves = λ iso place o. next o (leave iso place);
    closes = λ place names id parts. acted (acts_at_end place names id parts);
    marks = λ mark. acted (mark_acts mark);
    heads = λ head. acted (header_acts (path head.label.place) head);
    any_key = false;
  }

module _ {T A : Type 0} (formats : Id → Option Format) where
  -- the operation's body is one that its format parses
  abbrev pub HasFormat : Op ℕ T A → Type 0
  HasFormat o = (f : Format) × (formats o.id ≡ Some f) × IsOf f o.body

  -- the same of each operation of the tree
  abbrev pub HaveFormats : Tree ℕ T A → Type 0
  HaveFormats t = HasFormat t.own × AllRegions HasFormat (λ h. ⊤) (λ b. ⊤) t.regions

module _ {T A : Type 0} where
  abbrev mutual
    -- the place of each item in regions with its path, in the order of the text; j is the index of the first region
    pub paths_in_regions : Path → ℕ → Regions (Op ℕ T A) (Head ℕ T A) (Brace ℕ) → List (ℕ × Path)
    paths_in_regions p j no_regions = []
    paths_in_regions p j (region brace bs rs) = paths_in_blocks (j ∷ p) 0 bs ++ paths_in_regions p (suc j) rs

    -- of blocks and what is nested in them; k is the index of the first
    pub paths_in_blocks : Path → ℕ → Blocks (Op ℕ T A) (Head ℕ T A) (Brace ℕ) → List (ℕ × Path)
    paths_in_blocks p k no_blocks = []
    paths_in_blocks p k (block h os bs) = (h.label.place, k ∷ p) ∷ (paths_in_operations (k ∷ p) 0 os ++ paths_in_blocks p (suc k) bs)

    -- of operations and what is nested in them; i is the index of the first
    pub paths_in_operations : Path → ℕ → Operations (Op ℕ T A) (Head ℕ T A) (Brace ℕ) → List (ℕ × Path)
    paths_in_operations p i no_operations = []
    paths_in_operations p i (operation o rs os) = (o.place, i ∷ p) ∷ (paths_in_regions (i ∷ p) 0 rs ++ paths_in_operations p (suc i) os)

  -- the place of each operation and block of a tree with its path, in the order of the text
  abbrev pub paths_in : Tree ℕ T A → List (ℕ × Path)
  paths_in t = (t.own.place, []) ∷ paths_in_regions [] 0 t.regions

  -- the function maps the place of each item of the tree to its path
  abbrev pub Names : (ℕ → Path) → Tree ℕ T A → Type 0
  Names path t = Each (λ item. path item.0 ≡ item.1) (paths_in t)
