-- Between functions: the structure that was parsed so far: what is open, the innermost first, and the tree, once it is complete. Each
-- action changes only the innermost.
use Rattle.std.specs.Prelude.{ℕ, false, List, [], ◌∷◌, Option, Some, None}
use Rattle.irtext_base.specs.Format.{Format, Id}
use Rattle.irtext_grammar.specs.Grammar.Forest.{Regions, no_regions, region, Blocks, no_blocks, block, Operations, no_operations, operation}
use Rattle.irtext_grammar.specs.Grammar.Tree.{Mark, Op, Head, Brace, shown, Tree}
use Rattle.irtext_grammar.specs.Naming.{body_of, unmarked}
use Rattle.irtext_grammar.specs.Reached.{Actions}

module _ {O B R : Type 0} where
  -- regions, followed by others
  abbrev pub append_regions : Regions O B R → Regions O B R → Regions O B R
  append_regions no_regions more = more
  append_regions (region r bs rs) more = region r bs (append_regions rs more)

  -- blocks, followed by others
  abbrev pub append_blocks : Blocks O B R → Blocks O B R → Blocks O B R
  append_blocks no_blocks more = more
  append_blocks (block b os bs) more = block b os (append_blocks bs more)

  -- operations, followed by others
  abbrev pub append_operations : Operations O B R → Operations O B R → Operations O B R
  append_operations no_operations more = more
  append_operations (operation o rs os) more = operation o rs (append_operations os more)

-- What is open: an operation, with its place, its id and its regions so far; a region, with its complete blocks, and with the head and
-- the operations so far of its last block, if that is open; an operation that is complete except for its mark, with its regions.
pub data Unfinished (T A : Type 0) : Type 0 where
  operation_so_far : ℕ → Id → Regions (Op ℕ T A) (Head ℕ T A) (Brace ℕ) → Unfinished T A
  region_so_far : Blocks (Op ℕ T A) (Head ℕ T A) (Brace ℕ) → Option (Head ℕ T A × Operations (Op ℕ T A) (Head ℕ T A) (Brace ℕ)) → Unfinished T A
  but_its_mark : Op ℕ T A → Regions (Op ℕ T A) (Head ℕ T A) (Brace ℕ) → Unfinished T A

-- what was parsed so far: what is open, the innermost first, and the tree, once its root is complete
pub record Building (T A : Type 0) : Type 0 where
  pub unfinished : List (Unfinished T A)
  pub tree : Option (Tree ℕ T A)

module _ {T A : Type 0} where
  -- an operation with this mark
  abbrev pub with_mark : Option (Mark ℕ) → Op ℕ T A → Op ℕ T A
  with_mark mark o = record o { mark = mark }

  -- the blocks of a region, once the open one has ended
  abbrev pub whole_blocks : Blocks (Op ℕ T A) (Head ℕ T A) (Brace ℕ) → Option (Head ℕ T A × Operations (Op ℕ T A) (Head ℕ T A) (Brace ℕ)) → Blocks (Op ℕ T A) (Head ℕ T A) (Brace ℕ)
  whole_blocks bs None = bs
  whole_blocks bs (Some last) = append_blocks bs (block last.0 last.1 no_blocks)

  -- a block begins in the open region, and the block before it ends
  abbrev pub block_begun : Head ℕ T A → List (Unfinished T A) → List (Unfinished T A)
  block_begun h (region_so_far bs last ∷ outer) = region_so_far (whole_blocks bs last) (Some (h, no_operations)) ∷ outer
  block_begun h others = others

  -- a region with these blocks becomes the last one of the open operation
  abbrev pub region_added : ℕ → Blocks (Op ℕ T A) (Head ℕ T A) (Brace ℕ) → List (Unfinished T A) → List (Unfinished T A)
  region_added place bs (operation_so_far at id rs ∷ outer) = operation_so_far at id (append_regions rs (region (shown place) bs no_regions)) ∷ outer
  region_added place bs others = others

  -- the open region ends, with the block that is open in it
  abbrev pub region_ended : ℕ → List (Unfinished T A) → List (Unfinished T A)
  region_ended place (region_so_far bs last ∷ outer) = region_added place (whole_blocks bs last) outer
  region_ended place others = others

  -- the open operation is complete except for its mark
  abbrev pub operation_closed : Op ℕ T A → List (Unfinished T A) → List (Unfinished T A)
  operation_closed o (operation_so_far at id rs ∷ outer) = but_its_mark o rs ∷ outer
  operation_closed o others = others

  -- an operation becomes the last one of the open block, or the tree if nothing is open
  abbrev pub operation_added : Op ℕ T A → Regions (Op ℕ T A) (Head ℕ T A) (Brace ℕ) → List (Unfinished T A) → Option (Tree ℕ T A) → Building T A
  operation_added o rs [] tree = record { unfinished = []; tree = Some (record { own = o; regions = rs }) }
  operation_added o rs (region_so_far bs (Some last) ∷ outer) tree =
      record { unfinished = region_so_far bs (Some (last.0, append_operations last.1 (operation o rs no_operations))) ∷ outer; tree = tree }
  operation_added o rs others tree = record { unfinished = others; tree = tree }

  -- the operation that lacked only its mark is complete
  abbrev pub operation_marked : Option (Mark ℕ) → List (Unfinished T A) → Option (Tree ℕ T A) → Building T A
  operation_marked mark (but_its_mark o rs ∷ outer) tree = operation_added (with_mark mark o) rs outer tree
  operation_marked mark others tree = record { unfinished = others; tree = tree }

  -- nothing was parsed
  abbrev pub nothing_open : Building T A
  nothing_open = record { unfinished = []; tree = None }

  -- a tree was parsed, and nothing is open
  abbrev pub finished : Tree ℕ T A → Building T A
  finished t = record { unfinished = []; tree = Some t }

  -- the actions that build the structure, with these formats of operations
  abbrev pub building : (Id → Option Format) → Actions T A (Building T A)
  building formats = record {
    uses = λ place id parts b. record b { unfinished = operation_so_far place id no_regions ∷ b.unfinished };
    late = λ place id piece b. b;
    enters = λ iso b. record b { unfinished = region_so_far no_blocks None ∷ b.unfinished };
    leaves = λ iso place b. record b { unfinished = region_ended place b.unfinished };
    closes = λ place names id parts b. record b { unfinished = operation_closed (unmarked place names id (body_of (formats id) parts)) b.unfinished };
    marks = λ mark b. operation_marked mark b.unfinished b.tree;
    heads = λ head b. record b { unfinished = block_begun head b.unfinished };
    any_key = false;
  }
