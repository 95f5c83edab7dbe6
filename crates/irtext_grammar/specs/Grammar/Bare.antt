-- For callers: a tree without the places that its nodes keep.
use Rattle.std.specs.Prelude.{map, Option, ⊤, option_map}
use Rattle.irtext_grammar.specs.Grammar.Forest.{Regions, no_regions, region, Blocks, no_blocks, block, Operations, no_operations, operation}
use Rattle.irtext_grammar.specs.Grammar.Tree as tree
use Rattle.irtext_grammar.specs.Grammar.Tree.{Name, Mark, Attribute, Piece, Part, Op, Head, Brace, shown, elided, Tree}

-- a name without its place
abbrev pub bare_name : {P : Type 0} → Name P → Name ⊤
bare_name n = record { place = tt; text = n.text }

-- a mark without its place
abbrev pub bare_mark : {P : Type 0} → Mark P → Mark ⊤
bare_mark m = record { place = tt; index = m.index }

-- an entry of a dictionary without its key's place
abbrev pub bare_entry : {P A : Type 0} → Name P × Attribute A → Name ⊤ × Attribute A
bare_entry e = (bare_name e.0, e.1)

-- a piece without places
abbrev pub bare_piece : {P T A : Type 0} → Piece P T A → Piece ⊤ T A
bare_piece (tree.word s) = tree.word s
bare_piece (tree.operand i n) = tree.operand i (bare_name n)
bare_piece (tree.operands ns) = tree.operands (map bare_name ns)
bare_piece (tree.successor i n) = tree.successor i (bare_name n)
bare_piece (tree.successors ns) = tree.successors (map bare_name ns)
bare_piece (tree.attribute k a) = tree.attribute k a
bare_piece (tree.dictionary es) = tree.dictionary (map bare_entry es)
bare_piece (tree.result_type i x) = tree.result_type i x
bare_piece (tree.header n) = tree.header (bare_name n)
bare_piece (tree.types xs) = tree.types xs

-- an argument without its name's place
abbrev pub bare_argument : {P T : Type 0} → Name P × T → Name ⊤ × T
bare_argument a = (bare_name a.0, a.1)

-- a mark without its place, if there is one
abbrev pub bare_mark_if : {P : Type 0} → Option (Mark P) → Option (Mark ⊤)
bare_mark_if = option_map bare_mark

-- a region's braces without their place
abbrev pub bare_brace : {P : Type 0} → Brace P → Brace ⊤
bare_brace (shown p) = shown tt
bare_brace elided = elided

module _ {P T A : Type 0} where
  -- a part without places
  abbrev pub bare_part : Part P T A → Part ⊤ T A
  bare_part (tree.piece p) = tree.piece (bare_piece p)
  bare_part (tree.region i) = tree.region i
  bare_part tree.regions = tree.regions

  -- a body without places
  abbrev pub bare_body : tree.Body P T A → tree.Body ⊤ T A
  bare_body (tree.custom ps) = tree.custom (map bare_part ps)
  bare_body (tree.canonical ns ls es xs ys) = tree.canonical (map bare_name ns) (map bare_name ls) (map bare_entry es) xs ys

  -- the own data of an operation, without places
  abbrev pub bare_op : Op P T A → Op ⊤ T A
  bare_op o = record { place = tt; names = map bare_name o.names; id = o.id; body = bare_body o.body; mark = bare_mark_if o.mark }

  -- the own data of a block, without places
  abbrev pub bare_head : Head P T A → Head ⊤ T A
  bare_head h = record { label = bare_name h.label; arguments = map bare_argument h.arguments; attributes = option_map (map bare_entry) h.attributes; mark = bare_mark_if h.mark }

  abbrev mutual
    -- the regions, without places
    pub bare_regions : Regions (Op P T A) (Head P T A) (Brace P) → Regions (Op ⊤ T A) (Head ⊤ T A) (Brace ⊤)
    bare_regions no_regions = no_regions
    bare_regions (region r bs rs) = region (bare_brace r) (bare_blocks bs) (bare_regions rs)

    -- the blocks, without places
    pub bare_blocks : Blocks (Op P T A) (Head P T A) (Brace P) → Blocks (Op ⊤ T A) (Head ⊤ T A) (Brace ⊤)
    bare_blocks no_blocks = no_blocks
    bare_blocks (block h os bs) = block (bare_head h) (bare_operations os) (bare_blocks bs)

    -- the operations, without places
    pub bare_operations : Operations (Op P T A) (Head P T A) (Brace P) → Operations (Op ⊤ T A) (Head ⊤ T A) (Brace ⊤)
    bare_operations no_operations = no_operations
    bare_operations (operation o rs os) = operation (bare_op o) (bare_regions rs) (bare_operations os)

  -- the tree without its places
  abbrev pub bare : Tree P T A → Tree ⊤ T A
  bare t = record { own = bare_op t.own; regions = bare_regions t.regions }
