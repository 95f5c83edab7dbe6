-- Worked rows: a context by hand in which an operation with one region of one block has two operations in it; the second uses the result of
-- the first, and its own block as a successor. The view of the outermost pointer shows at which path each of these is.
use Rattle.std.proofs.Common.{◌≡◌, ℕ, List, [], ◌∷◌, Some, None, codes, refl}
use Rattle.irtext_base.specs.Format.{Id}
use Rattle.irtext_base.specs.Paths.{Written}
use Rattle.irtext_base.specs.declared.base.attributes.AttrObj.TheVariants.{Own}
use Rattle.irtext_context.specs.Context.{ContextView}
use Rattle.irtext_graph.specs.declared.arena.Ptr.{Ptr}
use Rattle.irtext_graph.specs.declared.object.Value.TheVariants.{Result}
use Rattle.irtext_grammar.specs.Contexts.Formats.{op_id}
use Rattle.irtext_grammar.specs.Contexts.Held.{location_over}
use Rattle.irtext_grammar.specs.Grammar.Forest.{no_regions, region, no_blocks, block, no_operations, operation}
use Rattle.irtext_grammar.specs.Grammar.Tree as tree
use Rattle.irtext_grammar.specs.Graphs.Build.{Built}
use Rattle.irtext_grammar.specs.Names.Script.{result, block_at}
use Rattle.irtext_grammar.proofs.Rows.{cell, loc_at}
use Rattle.irtext_names.specs.Held.{held_root}

abbrev id_of : List ℕ → Id
id_of name = record { dialect = codes "t"; name = name }

abbrev pointer : {K : Type 0} → ℕ → Ptr K
pointer i = record { index = i; generation = 1; of = record {} }

-- the outermost operation is at index 0, the one with a result at 1, the one that uses it at 2
abbrev context : ContextView ℕ ℕ
context = record {
  graph = record {
    made = 5;
    values = 1;
    first_place = 1;
    operations = record {
      cells =
          cell 0 (record { parent = None; children = pointer 0 ∷ []; content = record { data_of = Some (record { id = op_id (id_of (codes "h")); attributes = []; loc = loc_at 25 }); operands = []; successors = []; results = [] } })
          ∷ cell 3 (record {
            parent = Some (pointer 0);
            children = [];
            content = record { data_of = Some (record { id = op_id (id_of (codes "n")); attributes = (codes "k", Own 7) ∷ []; loc = loc_at 9 }); operands = []; successors = []; results = record { of_type = Some 5; number = 0 } ∷ [] };
          })
          ∷ cell 4 (record {
            parent = Some (pointer 0);
            children = [];
            content = record { data_of = Some (record { id = op_id (id_of (codes "u")); attributes = []; loc = loc_at 5 }); operands = Result (pointer 1) 0 ∷ []; successors = pointer 0 ∷ []; results = [] };
          })
          ∷ [];
      free = None;
    };
    blocks = record {
      cells = cell 2 (record { parent = Some (pointer 0); children = pointer 1 ∷ pointer 2 ∷ []; content = record { data_of = record { label = Some (codes "b"); attributes = []; loc = loc_at 15 }; arguments = [] } }) ∷ [];
      free = None;
    };
    regions = record { cells = cell 1 (record { parent = Some (pointer 0); children = pointer 0 ∷ []; content = record {} }) ∷ []; free = None };
  };
  paths = [];
  dialects = [];
}

-- the location of this place, as it is written
abbrev written_at : ℕ → Written ℕ
written_at place = location_over [] (loc_at place)

abbrev built : Built ℕ ℕ (Written ℕ)
built = record {
  own = record { id = id_of (codes "h"); result_types = []; operands = []; successors = []; attributes = []; location = written_at 25 };
  regions = region tt
      (block (record { label = codes "b"; argument_types = []; attributes = []; location = written_at 15 })
      (operation (record { id = id_of (codes "n"); result_types = 5 ∷ []; operands = []; successors = []; attributes = (codes "k", tree.own 7) ∷ []; location = written_at 9 }) no_regions
      (operation (record { id = id_of (codes "u"); result_types = []; operands = Some (result (0 ∷ 0 ∷ 0 ∷ []) 0) ∷ []; successors = Some (block_at (0 ∷ 0 ∷ [])) ∷ []; attributes = []; location = written_at 5 }) no_regions
      no_operations)) no_blocks)
      no_regions;
}

-- the second operation's operand is the first result of the first, and its successor is the block around it
held_row : held_root context (pointer 0) ≡ Some built
held_row = refl

-- under the second alone, neither has a place
alone_row : held_root context (pointer 2) ≡ Some (record {
  own = record { id = id_of (codes "u"); result_types = []; operands = None ∷ []; successors = None ∷ []; attributes = []; location = written_at 5 };
  regions = no_regions;
})
alone_row = refl
