-- Worked roots, as the arenas hold them.
use Rattle.std.specs.Prelude.{ℕ, [], ◌∷◌, ◌++◌, codes, Option, Some, None}
use Rattle.irtext_base.specs.Text.{Text}
use Rattle.irtext_grammar.specs.Grammar.Forest.{no_regions, region, no_blocks, block, no_operations, operation}
use Rattle.irtext_grammar.specs.Graphs.Graph.{Graph, GraphOp, GraphBlock}
use Rattle.irtext_grammar.specs.Grammar.Tree.{ident, own}
use Rattle.irtext_tests_names.specs.Demo.{builtin, test}

-- a location on line 1 of a text in memory
abbrev pub on_line_one : Text → Option Text
on_line_one column = Some (codes "<in-memory>: line: 1, column: " ++ column)

-- builtin.module @m
abbrev pub module_m : Option Text → GraphOp Text Text
module_m location = record { id = builtin (codes "module"); results = []; operands = []; successors = []; attributes = (codes "builtin_sym_name", ident (codes "m")) ∷ []; location = location }

-- test.br to the block at this place
abbrev pub branch : ℕ → Text → GraphOp Text Text
branch place column = record { id = test (codes "br"); results = []; operands = []; successors = (place, 1) ∷ []; attributes = []; location = on_line_one column }

-- a block with a location and no arguments
abbrev pub block_on : ℕ → Text → GraphBlock Text Text
block_on place column = record { place = (place, 1); arguments = []; attributes = []; location = on_line_one column }

-- a block without a location
abbrev pub first_block : GraphBlock Text Text
first_block = record { place = (1, 1); arguments = []; attributes = []; location = None }

-- builtin.module @m { ^a(): test.br ^b ^b(): test.br ^a }, as it was parsed from a text in memory
abbrev pub two_branches : Graph Text Text
two_branches = record {
  own = module_m (on_line_one (codes "1"));
  regions = region tt
      (block (block_on 1 (codes "21")) (operation (branch 3 (codes "27")) no_regions no_operations)
      (block (block_on 3 (codes "38")) (operation (branch 1 (codes "44")) no_regions no_operations) no_blocks)) no_regions;
}

-- test.nop with a debug note
abbrev pub noted : GraphOp Text Text
noted = record { id = test (codes "nop"); results = []; operands = []; successors = []; attributes = (codes "dbg", own (codes "test.dbg \"s\"")) ∷ []; location = None }

-- builtin.module @m of two operations with one debug note
abbrev pub one_note_twice : Graph Text Text
one_note_twice = record { own = module_m None; regions = region tt (block first_block (operation noted no_regions (operation noted no_regions no_operations)) no_blocks) no_regions }

-- test.global with two attributes and a pointer, the second value of the context
abbrev pub global_pointer : Graph Text Text
global_pointer = record {
  own = record {
    id = test (codes "global");
    results = (1, codes "test.ptr ") ∷ [];
    operands = [];
    successors = [];
    attributes = (codes "builtin_sym_name", ident (codes "global_0")) ∷ (codes "test_global_op_const_val", own (codes "builtin.integer <0: si64>")) ∷ [];
    location = None;
  };
  regions = no_regions;
}

-- test.use of value 1
abbrev pub uses_one : GraphOp Text Text
uses_one = record { id = test (codes "use"); results = []; operands = 1 ∷ []; successors = []; attributes = []; location = None }

-- test.make of value 1
abbrev pub makes_one : GraphOp Text Text
makes_one = record { id = test (codes "make"); results = (1, codes "t") ∷ []; operands = []; successors = []; attributes = []; location = Some (codes "?") }

-- builtin.module @m { ^block1v1(): test.use v1; v1 = test.make: t }
abbrev pub use_before_definition : Graph Text Text
use_before_definition = record { own = module_m None; regions = region tt (block first_block (operation uses_one no_regions (operation makes_one no_regions no_operations)) no_blocks) no_regions }
