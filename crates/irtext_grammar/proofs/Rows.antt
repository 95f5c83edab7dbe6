-- Worked rows: a context by hand in which an operation with one region of one block has another operation in it. It contains the whole
-- tree, and the parsed part of it at points of the parse.
use Rattle.std.proofs.Common.{◌≡◌, ℕ, false, List, [], ◌∷◌, Option, Some, None, codes, refl, inl, inr}
use Rattle.irtext_base.specs.Format.{Id}
use Rattle.irtext_base.specs.Format as format
use Rattle.irtext_base.specs.Stream.{cut}
use Rattle.irtext_base.specs.declared.base.attributes.AttrObj.TheVariants.{Own}
use Rattle.irtext_base.specs.declared.location.Location.{Location, SrcPos}
use Rattle.irtext_base.specs.declared.location.Source.TheVariants.{InMemory}
use Rattle.irtext_context.specs.Context.{ContextView}
use Rattle.irtext_graph.specs.Store.{Cell}
use Rattle.irtext_graph.specs.declared.arena.Ptr.{Ptr}
use Rattle.irtext_graph.specs.declared.object.Operation.{Operation}
use Rattle.irtext_graph.specs.declared.object.BasicBlock.{BasicBlock}
use Rattle.irtext_graph.specs.declared.object.Region.{Region}
use Rattle.irtext_graph.specs.declared.object.Object.{Object}
use Rattle.irtext_graph.specs.declared.object.Object.TheVariants.{TheOperation, TheBlock, TheRegion}
use Rattle.irtext_grammar.specs.Contexts.Formats.{op_id}
use Rattle.irtext_grammar.specs.Grammar.Forest.{no_regions, region, no_blocks, block, no_operations, operation}
use Rattle.irtext_grammar.specs.Grammar.Tree as tree
use Rattle.irtext_grammar.specs.Grammar.Tree.{Op, Head, shown, Tree}
use Rattle.irtext_grammar.specs.Reached.{do_tree}
use Rattle.irtext_grammar.specs.Building.{operation_so_far, region_so_far, but_its_mark, building, nothing_open, finished}
use Rattle.irtext_grammar.specs.Unchanged.{OpenAt, operation_under, ended_under, region_under, AreOpenAt, TreeHolds}

-- ---- the tree: `a t.h { ^b(): t.n 7 5 }`, with places by hand
abbrev outer_id : Id
outer_id = record { dialect = codes "t"; name = codes "h" }

abbrev inner_id : Id
inner_id = record { dialect = codes "t"; name = codes "n" }

-- the attributes are numbers, and so are the types
abbrev inner_op : Op ℕ ℕ ℕ
inner_op = record { place = 9; names = []; id = inner_id; body = tree.custom (tree.piece (tree.attribute (codes "k") (Some (tree.own 7))) ∷ tree.piece (tree.result_type 0 5) ∷ []); mark = None }

abbrev outer_op : Op ℕ ℕ ℕ
outer_op = record { place = 25; names = []; id = outer_id; body = tree.custom (tree.region 0 ∷ []); mark = None }

abbrev head : Head ℕ ℕ ℕ
head = record { label = record { place = 15; text = codes "b" }; arguments = []; attributes = None; mark = None }

abbrev whole_tree : Tree ℕ ℕ ℕ
whole_tree = record { own = outer_op; regions = region (shown 18) (block head (operation inner_op no_regions no_operations) no_blocks) no_regions }

-- ---- what is built of it
abbrev formats : Id → Option format.Format
formats id = Some (format.custom [])

builds_it : do_tree (λ id. false) (building formats) whole_tree nothing_open ≡ finished whole_tree
builds_it = refl

-- ---- the context that holds it
abbrev outer_ptr : Ptr Operation
outer_ptr = record { index = 0; generation = 1; of = record {} }

abbrev inner_ptr : Ptr Operation
inner_ptr = record { index = 1; generation = 1; of = record {} }

abbrev region_ptr : Ptr Region
region_ptr = record { index = 0; generation = 1; of = record {} }

abbrev block_ptr : Ptr BasicBlock
block_ptr = record { index = 0; generation = 1; of = record {} }

-- a cell of an arena, by hand: the object in it was made after this many
abbrev pub cell : {X : Type 0} → ℕ → X → Cell X
cell born x = record { generation = 1; object = Some (record { born = born; content = x }) }

-- the location of a place, by hand: its column is the place
abbrev pub loc_at : ℕ → Location ℕ
loc_at place = SrcPos InMemory (record { line = cut 1; column = cut place })

abbrev IsLoc : Object → ℕ → Location ℕ → Type 0
IsLoc o place loc = loc ≡ loc_at place

-- a context in which the inner operation is in the block or not
abbrev context : List (Ptr Operation) → ContextView ℕ ℕ
context inside = record {
  graph = record {
    made = 4;
    values = 1;
    first_place = 1;
    operations = record {
      cells =
          cell 0 (record {
            parent = None;
            children = region_ptr ∷ [];
            content = record { data_of = Some (record { id = op_id outer_id; attributes = []; loc = loc_at 25 }); operands = []; successors = []; results = [] };
          })
          ∷ cell 3 (record {
            parent = Some block_ptr;
            children = [];
            content = record { data_of = Some (record { id = op_id inner_id; attributes = (codes "k", Own 7) ∷ []; loc = loc_at 9 }); operands = []; successors = []; results = record { of_type = Some 5; number = 0 } ∷ [] };
          })
          ∷ [];
      free = None;
    };
    blocks = record {
      cells = cell 2 (record { parent = Some region_ptr; children = inside; content = record { data_of = record { label = Some (codes "b"); attributes = []; loc = loc_at 15 }; arguments = [] } }) ∷ [];
      free = None;
    };
    regions = record { cells = cell 1 (record { parent = Some outer_ptr; children = block_ptr ∷ []; content = record {} }) ∷ []; free = None };
  };
  paths = [];
  dialects = [];
}

-- all objects, and those that are whole while the block is open
abbrev all_objects : List Object
all_objects = TheOperation outer_ptr ∷ TheRegion region_ptr ∷ TheBlock block_ptr ∷ TheOperation inner_ptr ∷ []

-- after the whole tree was parsed, it is under the pointer of its root
whole_row : TreeHolds IsLoc (context (inner_ptr ∷ [])) all_objects (Some outer_ptr) (Some whole_tree)
whole_row = (
  inl refl,
  (
    _,
    refl,
    record { id = refl; types = refl; entries = refl; location = refl },
    record { operands_are = refl; successors_are = refl },
    (
      inr (inl refl),
      (_, refl, (inr (inr (inl refl)), (_, refl, record { label = refl; types = refl; entries = refl; location = refl }, (inr (inr (inr (inl refl))), (_, refl, record { id = refl; types = refl; entries = refl; location = refl }, record { operands_are = refl; successors_are = refl }, tt), tt)), tt)),
      tt,
    ),
  ),
  tt,
)

-- where the inner operation is complete but for its mark, all around it is open
abbrev at_mark : List (OpenAt ℕ ℕ)
at_mark = ended_under inner_ptr ∷ region_under region_ptr (Some block_ptr) ∷ operation_under outer_ptr (record { place = 25; id = outer_id; operands = 0; successors = 0; types = []; entries = [] }) ∷ []

mark_row : AreOpenAt IsLoc (context (inner_ptr ∷ [])) [] at_mark
    (but_its_mark inner_op no_regions ∷ region_so_far no_blocks (Some (head, no_operations)) ∷ operation_so_far 25 outer_id no_regions ∷ []) None
mark_row = (
  (refl, record { view = _; is = refl; has = record { id = refl; types = refl; entries = refl; location = refl }; uses = record { operands_are = refl; successors_are = refl }; done = []; regions = refl; hold = tt }),
  (
    (
      record { view = _; is = refl; done = []; blocks = refl; hold = tt },
      record { view = _; is = refl; has = record { label = refl; types = refl; entries = refl; location = refl }; done = []; operations = refl; hold = tt },
    ),
    ((refl, refl, record { view = _; is = refl; has = record { id = refl; types = refl; entries = refl; location = refl }; uses = record { operands_are = refl; successors_are = refl }; done = []; regions = refl; hold = tt }), tt),
  ),
)

-- after the block's header was parsed, the block is empty
head_row : AreOpenAt IsLoc (context []) [] (region_under region_ptr (Some block_ptr) ∷ [])
    (region_so_far no_blocks (Some (head, no_operations)) ∷ []) None
head_row = (
  (
    record { view = _; is = refl; done = []; blocks = refl; hold = tt },
    record { view = _; is = refl; has = record { label = refl; types = refl; entries = refl; location = refl }; done = []; operations = refl; hold = tt },
  ),
  tt,
)
