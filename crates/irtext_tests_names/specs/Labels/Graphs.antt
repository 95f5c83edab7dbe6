-- Worked roots with labelled blocks, as the arenas hold them.
use Rattle.std.specs.Prelude.{List, [], ◌∷◌, codes, Some, None}
use Rattle.irtext_base.specs.Text.{Text}
use Rattle.irtext_grammar.specs.Grammar.Forest.{no_regions, region, no_blocks, block, no_operations, operation}
use Rattle.irtext_grammar.specs.Graphs.Graph.{Graph, GraphOp, GraphBlock, Printing}
use Rattle.irtext_grammar.specs.Grammar.Tree.{Attribute, given_names, ident, own}
use Rattle.irtext_tests_names.specs.Demo.{a_or_b, builtin, test}
use Rattle.irtext_tests_names.specs.Graphs.{block_on, first_block, module_m, on_line_one}
use Rattle.irtext_tests_names.specs.Labels.Demo.{naming, one, nobody}

-- the given names of one value
abbrev pub named : Text → List (Text × Attribute Text)
named name = (codes "builtin_given_names", given_names (Some name ∷ [])) ∷ []

-- ---- the module of a function with a labelled block
-- builtin.module @bar
abbrev pub module_bar : GraphOp Text Text
module_bar = record (module_m None) { attributes = (codes "builtin_sym_name", ident (codes "bar")) ∷ [] }

-- c0 = test.constant builtin.integer <0: si64>: builtin.integer si64
abbrev pub constant : GraphOp Text Text
constant = record {
  id = test (codes "constant");
  results = (0, codes "builtin.integer si64") ∷ [];
  operands = [];
  successors = [];
  attributes = (codes "test_value", own (codes "builtin.integer <0: si64>")) ∷ named (codes "c0");
  location = None;
}

-- test.return of value 0
abbrev pub returns : GraphOp Text Text
returns = record { id = test (codes "return"); results = []; operands = 0 ∷ []; successors = []; attributes = []; location = None }

-- builtin.func @foo: builtin.function <()->(builtin.integer si64)>
abbrev pub func : GraphOp Text Text
func = record {
  id = builtin (codes "func");
  results = [];
  operands = [];
  successors = [];
  attributes = (codes "builtin_sym_name", ident (codes "foo")) ∷ (codes "builtin_func_type", own (codes "builtin.function <()->(builtin.integer si64)>")) ∷ [];
  location = None;
}

-- the function's block
abbrev pub entry_block : GraphBlock Text Text
entry_block = record { place = (2, 1); arguments = []; attributes = []; location = None }

-- builtin.module @bar of a function that returns a constant
abbrev pub function_with_entry : Graph Text Text
function_with_entry = record {
  own = module_bar;
  regions = region tt
      (block first_block
      (operation func (region tt (block entry_block (operation constant no_regions (operation returns no_regions no_operations)) no_blocks) no_regions) no_operations) no_blocks) no_regions;
}

-- block 2 is `entry`, value 0 is `c0`
abbrev pub entry_and_c0 : Printing Text Text
entry_and_c0 = naming (one 0 (codes "c0")) (one 2 (codes "entry"))

-- ---- two blocks, `a` and `b`
-- block 1 is `a`, every other one `b`
abbrev pub a_and_b : Printing Text Text
a_and_b = naming nobody a_or_b

-- ---- a block `b` with an argument `x`
-- test.use of value 0
abbrev pub uses_x : GraphOp Text Text
uses_x = record { id = test (codes "use"); results = []; operands = 0 ∷ []; successors = []; attributes = []; location = on_line_one (codes "50") }

-- the block with its argument
abbrev pub taking_x : GraphBlock Text Text
taking_x = record { place = (1, 1); arguments = (0, codes "builtin.integer si64") ∷ []; attributes = named (codes "x"); location = on_line_one (codes "21") }

-- builtin.module @m { ^b(x: builtin.integer si64): test.use x }
abbrev pub block_with_x : Graph Text Text
block_with_x = record { own = module_m (on_line_one (codes "1")); regions = region tt (block taking_x (operation uses_x no_regions no_operations) no_blocks) no_regions }

-- value 0 is `x`, block 1 is `b`
abbrev pub b_and_x : Printing Text Text
b_and_x = naming (one 0 (codes "x")) (one 1 (codes "b"))

-- ---- a block `z` with an operation
-- test.nop
abbrev pub nop : GraphOp Text Text
nop = record { id = test (codes "nop"); results = []; operands = []; successors = []; attributes = []; location = on_line_one (codes "30") }

-- builtin.module @m { ^z(): test.nop }
abbrev pub block_z : Graph Text Text
block_z = record { own = module_m (on_line_one (codes "1")); regions = region tt (block (block_on 1 (codes "21")) (operation nop no_regions no_operations) no_blocks) no_regions }

-- block 1 is `z`
abbrev pub z_alone : Printing Text Text
z_alone = naming nobody (one 1 (codes "z"))
