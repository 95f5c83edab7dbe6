-- For callers: what is open while an operation is printed, and the text that is still to be printed of it. What is open is a stack:
-- outer things come first in the list, and last in the text.
use Rattle.std.specs.Prelude.{◌≡◌, ℕ, ◌+◌, Bool, true, false, cond, List, [], ◌∷◌, ◌++◌, map, Option, Some, None, codes, ⊤}
use Rattle.irtext_base.specs.Text.{Text}
use Rattle.irtext_base.specs.Own.{Language}
use Rattle.irtext_grammar.specs.Grammar.Forest.{Regions, no_regions, region, Blocks, Operations}
use Rattle.irtext_grammar.specs.Grammar.Tree as tree
use Rattle.irtext_grammar.specs.Grammar.Tree.{Part, Head, Body, Op}
use Rattle.irtext_grammar.specs.Graphs.Graph.{GraphOp, GraphBlock, Printing, Limit, op_outlined, own_marks, mark_at, marks_in_regions, marks_in_blocks, marks_in_operations, tree_regions, tree_blocks, tree_operations}
use Rattle.irtext_grammar.specs.Spelling.Spell.{newline, joined, joined_from, comma, parts, mark_if, label, argument, dictionary, dictionary_if, results, id, region_texts, block_texts, operation_texts}

-- What is open, at an indentation. For an operation: the operation itself if its mark is still to be printed, whether all regions that
-- are left come next, and the parts and the regions that are left. For a region: the blocks that are left. For a block: the operations
-- that are left. The last two also say whether none was printed so far.
pub data Open (T A : Type 0) : Type 0 where
  an_operation : ℕ → Limit → Option (GraphOp T A) → Bool → List (Part ⊤ T A) → Regions (GraphOp T A) (GraphBlock T A) ⊤ → Open T A
  a_region : ℕ → Limit → Bool → Blocks (GraphOp T A) (GraphBlock T A) ⊤ → Open T A
  a_block : ℕ → Limit → Bool → Operations (GraphOp T A) (GraphBlock T A) ⊤ → Open T A

-- texts with another one between; it also comes before the first unless `first`
abbrev pub joined_on : Bool → Text → List Text → Text
joined_on first between ts = cond first (joined between ts) (joined_from between ts)

-- what comes before a region's blocks at an indentation, where `width` is one step of indentation
abbrev pub opening : ℕ → ℕ → Text
opening width i = newline i ++ (codes "{" ++ newline (i + width))

-- what comes after them
abbrev pub closing : ℕ → Text
closing i = newline i ++ codes "}"

-- what comes between blocks at an indentation
abbrev pub between_blocks : ℕ → Text
between_blocks i = 10 ∷ newline i

-- what comes between operations at an indentation
abbrev pub between_operations : ℕ → Text
between_operations i = codes ";" ++ newline i

-- what comes before the next item of a list: nothing before the first
abbrev pub unless_first : Bool → Text → Text
unless_first first between = cond first [] between

-- Each region that is left has a part that prints it.
abbrev pub covers : {T A : Type 0} → List (Part ⊤ T A) → Regions (GraphOp T A) (GraphBlock T A) ⊤ → Bool
covers [] no_regions = true
covers [] (region r bs rs) = false
covers (tree.piece p ∷ ps) rs = covers ps rs
covers (tree.region i ∷ ps) no_regions = true
covers (tree.region i ∷ ps) (region r bs rs) = covers ps rs
covers (tree.regions ∷ ps) rs = true

module _ {P T A : Type 0} (L : Language P T A) where
  -- a block's label, its arguments and its dictionary
  abbrev pub block_head : Head P T A → Text
  block_head h = label L h.label ++ (codes "(" ++ (joined comma (map (argument L) h.arguments) ++ (codes ")" ++ dictionary_if L h.attributes)))

  -- what comes before a block's operations, at their indentation
  abbrev pub block_front : ℕ → Head P T A → Text
  block_front i h = block_head h ++ (mark_if L h.mark ++ (codes ":" ++ newline i))

  -- what comes before an operation's parts, or, in the canonical form, before its regions
  abbrev pub body_front : Body P T A → Text
  body_front (tree.custom ps) = []
  body_front (tree.canonical names labels entries operand_types result_types) = codes " (" ++ (joined comma (map (λ n. n.text) names)
      ++ (codes ") [" ++ (joined comma (map (label L) labels) ++ (codes "] " ++ (dictionary L entries ++ (codes ": <("
      ++ (joined comma (map L.types.written operand_types) ++ (codes ") -> (" ++ (joined comma (map L.types.written result_types) ++ codes ")>")))))))))

  -- the operation's results and id, and that
  abbrev pub operation_front : Op P T A → Text
  operation_front o = results L o.names ++ (id L o.id ++ body_front o.body)

-- what is open of an operation of which nothing is printed but what comes before its parts
abbrev pub opened : {T A : Type 0} → ℕ → Limit → Option (GraphOp T A) → Body ⊤ T A → Regions (GraphOp T A) (GraphBlock T A) ⊤ → Open T A
opened i l own (tree.custom ps) rs = an_operation i l own false ps rs
opened i l own (tree.canonical names labels entries operand_types result_types) rs = an_operation i l own true [] rs

module _ {T A : Type 0} (C : Printing T A) where
  -- 1 if an operation's mark is still to be printed, otherwise 0
  abbrev pub mark_count : Option (GraphOp T A) → ℕ
  mark_count None = 0
  mark_count (Some o) = own_marks C o.location (op_outlined C o)

  -- how many marks are still to be printed of something open
  abbrev pub marks : Open T A → ℕ
  marks (an_operation i l own repeats ps rs) = marks_in_regions C l rs + mark_count own
  marks (a_region i l first bs) = marks_in_blocks C l bs
  marks (a_block i l first os) = marks_in_operations C l os

  -- how many marks are still to be printed of all that is open
  abbrev pub open_marks : List (Open T A) → ℕ
  open_marks [] = 0
  open_marks (f ∷ frames) = open_marks frames + marks f

  -- what is still to be printed of what is open, with n marks before it
  module _ (L : Language ⊤ T A) (width : ℕ) where
    -- an operation's mark, if it is still to be printed
    abbrev pub mark_text : ℕ → Option (GraphOp T A) → Text
    mark_text n None = []
    mark_text n (Some o) = mark_if L (mark_at C n o.location (op_outlined C o))

    -- the text that is left of something open, with n marks before it
    abbrev pub rest : Open T A → ℕ → Text
    rest (an_operation i l own false ps rs) n = parts L ps (region_texts L width i (tree_regions C l n rs)) ++ mark_text (n + marks_in_regions C l rs) own
    rest (an_operation i l own true ps rs) n = joined [] (region_texts L width i (tree_regions C l n rs)) ++ (parts L ps [] ++ mark_text (n + marks_in_regions C l rs) own)
    rest (a_region i l first bs) n = joined_on first (between_blocks (i + width)) (block_texts L width (i + width) (tree_blocks C l n bs)) ++ closing i
    rest (a_block i l first os) n = joined_on first (between_operations (i + width)) (operation_texts L width (i + width) (tree_operations C l n os))

    -- the text that is left of all that is open, with n marks before it: the innermost comes first
    abbrev pub open_rest : List (Open T A) → ℕ → Text
    open_rest [] n = []
    open_rest (f ∷ frames) n = open_rest frames n ++ rest f (n + open_marks frames)

    -- In one step, with n marks before it, something open is replaced: this text is printed, with so many marks.
    pub record Turns (f : Open T A) (n : ℕ) (text : Text) (k : ℕ) (frames : List (Open T A)) : Type 0 where
      pub written : rest f n ≡ text ++ open_rest frames (n + k)
      pub counted : marks f ≡ k + open_marks frames
