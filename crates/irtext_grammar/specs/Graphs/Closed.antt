-- For callers: the script of a graph, with numbers as names; closed roots; and when an operation fits its format.
use Rattle.std.specs.Prelude.{◌≡◌, ℕ, suc, Bool, true, false, cond, not, ◌&&◌, ◌||◌, ◌==◌, nat_lt, List, [], ◌∷◌, length, drop, slice_get, Option, Some, None, is_some, ⊤, ◌<◌, ◌^◌}
use Rattle.std.specs.List.{list_all}
use Rattle.irtext_base.specs.Text.{Text}
use Rattle.irtext_base.specs.Format as format
use Rattle.irtext_base.specs.Format.{Format, Directive, same_text, has, count, keys, operand_places, successor_places, type_places, region_places, is_operands, is_successors, is_regions, is_dictionary, is_header, sym_name_key, first_fault, Id}
use Rattle.irtext_grammar.specs.Grammar.Forest.{Regions, no_regions, region, Blocks, no_blocks, block, Operations, no_operations, operation, regions_list}
use Rattle.irtext_grammar.specs.Grammar.Tree.{Attribute, ident}
use Rattle.irtext_grammar.specs.Graphs.Graph.{Graph, GraphOp, GraphBlock, Printing, lookup, outlined, written_keys}
use Rattle.irtext_grammar.specs.Spelling.PrintedNames.{value_name, block_name}
use Rattle.irtext_grammar.specs.Names.Script.{Path, result, argument, block_at, operand, successor, Word, Act, use_value, use_label, define_value, define_label, Script, done, does, within, does_all}
use Rattle.irtext_grammar.specs.Names.Scopes.{no_scope, failures}
use Rattle.irtext_grammar.specs.Names.Acts.{all_of}

-- a value by its number, or a block by place and generation
pub data Thing : Type 0 where
  a_value : ℕ → Thing
  a_block : ℕ × ℕ → Thing

-- the two are the same value, or the same block
abbrev pub same_thing : Thing → Thing → Bool
same_thing (a_value v) (a_value w) = v == w
same_thing (a_block b) (a_block c) = (b.0 == c.0) && (b.1 == c.1)
same_thing _ _ = false

-- the name under which it is printed
abbrev pub printed : {T A : Type 0} → Printing T A → Thing → Text
printed C (a_value v) = value_name (C.given v) v
printed C (a_block b) = block_name (C.label b) b

-- a name without a place in a text
abbrev pub spot : Thing → Word Thing ⊤
spot x = record { name = x; at = tt }

-- uses of the values as operands, from index k on
abbrev pub uses_of_values : Path → ℕ → List ℕ → List (Act Thing ⊤)
uses_of_values p k [] = []
uses_of_values p k (v ∷ vs) = use_value (spot (a_value v)) (operand p k) ∷ uses_of_values p (suc k) vs

-- uses of the blocks as successors, from index k on
abbrev pub uses_of_blocks : Path → ℕ → List (ℕ × ℕ) → List (Act Thing ⊤)
uses_of_blocks p k [] = []
uses_of_blocks p k (b ∷ bs) = use_label (spot (a_block b)) (successor p k) ∷ uses_of_blocks p (suc k) bs

-- definitions of the values as results, from index k on
abbrev pub defined_results : {T : Type 0} → Path → ℕ → List (ℕ × T) → List (Act Thing ⊤)
defined_results p k [] = []
defined_results p k (r ∷ rs) = define_value (spot (a_value r.0)) (result p k) ∷ defined_results p (suc k) rs

-- definitions of the values as arguments of a block, from index k on
abbrev pub defined_arguments : {T : Type 0} → Path → ℕ → List (ℕ × T) → List (Act Thing ⊤)
defined_arguments p k [] = []
defined_arguments p k (r ∷ rs) = define_value (spot (a_value r.0)) (argument p k) ∷ defined_arguments p (suc k) rs

-- the use of the value as operand i, if there is one
abbrev pub use_if : Path → ℕ → Option ℕ → List (Act Thing ⊤)
use_if p i None = []
use_if p i (Some v) = use_value (spot (a_value v)) (operand p i) ∷ []

-- the use of the block as successor i, if there is one
abbrev pub use_block_if : Path → ℕ → Option (ℕ × ℕ) → List (Act Thing ⊤)
use_block_if p i None = []
use_block_if p i (Some b) = use_label (spot (a_block b)) (successor p i) ∷ []

module _ {T A : Type 0} where
  -- the uses of the operation's operands and successors that a directive prints
  abbrev pub mentions : List Directive → Path → GraphOp T A → Directive → List (Act Thing ⊤)
  mentions ds p o (format.operand i) = use_if p i (slice_get o.operands i)
  mentions ds p o format.operands = uses_of_values p (length (operand_places ds)) (drop (length (operand_places ds)) o.operands)
  mentions ds p o (format.successor i) = use_block_if p i (slice_get o.successors i)
  mentions ds p o format.successors = uses_of_blocks p (length (successor_places ds)) (drop (length (successor_places ds)) o.successors)
  mentions ds p o _ = []

  -- what an operation does by the directives of its format, in their order, each region with its script, and then the rest
  abbrev pub directives_script : List Directive → Path → GraphOp T A → List Directive → List (Script Thing ⊤ → Script Thing ⊤) → Script Thing ⊤ → Script Thing ⊤
  directives_script ds p o [] rs then = then
  directives_script ds p o (format.region i ∷ rest) [] then = directives_script ds p o rest [] then
  directives_script ds p o (format.region i ∷ rest) (r ∷ rs) then = r (directives_script ds p o rest rs then)
  directives_script ds p o (format.regions ∷ rest) rs then = all_of rs (directives_script ds p o rest [] then)
  directives_script ds p o (d ∷ rest) rs then = does_all (mentions ds p o d) (directives_script ds p o rest rs then)

  -- what an operation does before its results are defined, and then the rest; without directives: operands, successors, regions
  abbrev pub body_script : Option Format → Path → GraphOp T A → List (Script Thing ⊤ → Script Thing ⊤) → Script Thing ⊤ → Script Thing ⊤
  body_script (Some (format.custom ds)) p o rs then = directives_script ds p o ds rs then
  body_script _ p o rs then = does_all (uses_of_values p 0 o.operands) (does_all (uses_of_blocks p 0 o.successors) (all_of rs then))

  module _ (C : Printing T A) (isolated : Id → Bool) where
    -- what an operation does, and then the rest
    abbrev pub op_script : Path → GraphOp T A → List (Script Thing ⊤ → Script Thing ⊤) → Script Thing ⊤ → Script Thing ⊤
    op_script p o rs then = body_script (C.format_of o.id) p o rs (does_all (defined_results p 0 o.results) then)

    abbrev mutual
      -- what each region does; j is the index of the first
      pub graph_regions : Path → ℕ → Bool → Regions (GraphOp T A) (GraphBlock T A) ⊤ → List (Script Thing ⊤ → Script Thing ⊤)
      graph_regions p j iso no_regions = []
      graph_regions p j iso (region r bs rs) = within iso tt (graph_blocks (j ∷ p) 0 bs) ∷ graph_regions p (suc j) iso rs

      -- what the blocks of a region do; k is the index of the first
      pub graph_blocks : Path → ℕ → Blocks (GraphOp T A) (GraphBlock T A) ⊤ → Script Thing ⊤
      graph_blocks p k no_blocks = done
      graph_blocks p k (block h os bs) =
          does_all (defined_arguments (k ∷ p) 0 h.arguments) (does (define_label (spot (a_block h.place)) (block_at (k ∷ p))) (graph_operations (k ∷ p) 0 os (graph_blocks p (suc k) bs)))

      -- what the operations of a block do, and then the rest; i is the index of the first
      pub graph_operations : Path → ℕ → Operations (GraphOp T A) (GraphBlock T A) ⊤ → Script Thing ⊤ → Script Thing ⊤
      graph_operations p i no_operations then = then
      graph_operations p i (operation o rs os) then = op_script (i ∷ p) o (graph_regions (i ∷ p) 0 (isolated o.id) rs) (graph_operations p (suc i) os then)

    -- the script of a root: its uses and definitions in the order in which they are printed
    abbrev pub graph_script : Graph T A → Script Thing ⊤
    graph_script g = op_script [] g.own (graph_regions [] 0 (isolated g.own.id) g.regions) done

    -- a closed root: by number, each operand is a value that its isolated scope defines, each successor is a block of its own region, and
    -- no number is defined twice in a scope; the root is isolated or has no region, and it has no result, operand or successor
    abbrev pub Closed : Graph T A → Type 0
    Closed g = failures same_thing no_scope (graph_script g) ≡ []

    -- the count fits the directives: it is the number of single places, or at least that if there is a list
    abbrev pub count_fits : ℕ → ℕ → ℕ → Bool
    count_fits places lists n = cond (lists == 0) (n == places) (not (nat_lt n places))

    -- there is an attribute, and it is an identifier
    abbrev pub is_ident : Option (Attribute A) → Bool
    is_ident a = elim a [ Some b ↦ elim b [ ident n ↦ true | _ ↦ false ] | None ↦ false ]

    -- the operation has what its directives print, and nothing of it is left out
    pub record FitsCustom (ds : List Directive) (o : GraphOp T A) (n : ℕ) : Type 0 where
      pub operands : count_fits (length (operand_places ds)) (count is_operands ds) (length o.operands) ≡ true
      pub successors : count_fits (length (successor_places ds)) (count is_successors ds) (length o.successors) ≡ true
      pub results : (length o.results == length (type_places ds)) ≡ true
      pub regions : count_fits (length (region_places ds)) (count is_regions ds) n ≡ true
      pub keys_there : list_all (λ k. is_some (lookup k o.attributes)) (keys ds) ≡ true
      pub symbol : ((count is_header ds == 0) || is_ident (lookup sym_name_key o.attributes)) ≡ true
      pub others_outlined : (not (count is_dictionary ds == 0) || list_all (λ e. has same_text e.0 (written_keys C ds) || outlined C e.1) o.attributes) ≡ true

    -- the operation is registered, and fits its format, which is accepted
    abbrev pub FitsFormat : Option Format → GraphOp T A → ℕ → Type 0
    FitsFormat None o n = ⊥
    FitsFormat (Some format.canonical) o n = ⊤
    FitsFormat (Some (format.custom ds)) o n = (first_fault (format.custom ds) ≡ 0) × FitsCustom ds o n

    -- the operation fits its format, with as many regions as these
    abbrev pub FitsOp : GraphOp T A → Regions (GraphOp T A) (GraphBlock T A) ⊤ → Type 0
    FitsOp o rs = FitsFormat (C.format_of o.id) o (length (regions_list rs))

    abbrev mutual
      -- all operations in the regions fit
      pub FitRegions : Regions (GraphOp T A) (GraphBlock T A) ⊤ → Type 0
      FitRegions no_regions = ⊤
      FitRegions (region r bs rs) = FitBlocks bs × FitRegions rs

      -- all operations in the blocks fit
      pub FitBlocks : Blocks (GraphOp T A) (GraphBlock T A) ⊤ → Type 0
      FitBlocks no_blocks = ⊤
      FitBlocks (block h os bs) = FitOperations os × FitBlocks bs

      -- the operations fit, and so do all operations nested in them
      pub FitOperations : Operations (GraphOp T A) (GraphBlock T A) ⊤ → Type 0
      FitOperations no_operations = ⊤
      FitOperations (operation o rs os) = FitsOp o rs × FitRegions rs × FitOperations os

    -- the root fits its format, and so does each operation nested in it
    abbrev pub Fit : Graph T A → Type 0
    Fit g = FitsOp g.own g.regions × FitRegions g.regions

-- the number, or the place and the generation, are below 2 ^ 64
abbrev pub Small : Thing → Type 0
Small (a_value v) = v < 2 ^ 64
Small (a_block b) = (b.0 < 2 ^ 64) × (b.1 < 2 ^ 64)
