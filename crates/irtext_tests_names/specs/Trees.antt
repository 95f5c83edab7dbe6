-- Worked trees of texts on one line. The place of a name, a mark or a brace is its column there.
use Rattle.std.specs.Prelude.{ℕ, List, [], ◌∷◌, codes, Option, Some, None, ⊤}
use Rattle.irtext_base.specs.Text.{Text}
use Rattle.irtext_base.specs.Format as format
use Rattle.irtext_base.specs.Format.{Id}
use Rattle.irtext_base.specs.Reading.{never}
use Rattle.irtext_base.specs.Own.{Language, Texts, missing}
use Rattle.irtext_grammar.specs.Grammar.Forest.{Blocks, no_regions, region, no_blocks, block, Operations, no_operations, operation}
use Rattle.irtext_grammar.specs.Names.Script.{Cause, Failure}
use Rattle.irtext_grammar.specs.Names.Acts.{failures_of}
use Rattle.irtext_grammar.specs.Grammar.Tree as tree
use Rattle.irtext_grammar.specs.Grammar.Tree.{Name, Mark, own, Part, Op, Head, Brace, shown, Tree}
use Rattle.irtext_tests_names.specs.Demo.{builtin, test, isolated}

-- ---- a tree of no types and no attributes
-- no value is of this kind, and no text is
abbrev pub none : Texts ⊥
none = record { outcome = λ text. missing; written = λ nobody. absurd nobody }

-- every id is that of a module
abbrev pub modules : Id → Option format.Format
modules id = Some (format.custom (format.header ∷ format.region 0 ∷ []))

-- the language of modules only, in which any place will do
abbrev pub only_modules : Language ℕ ⊥ ⊥
only_modules = record { at = λ place text. ⊤; types = none; owns = none; format_of = modules; left_out = never }

-- builtin.module @bar { ^block1v1(): }
abbrev pub empty_block : Tree ℕ ⊥ ⊥
empty_block = record {
  own = record {
    place = 0;
    names = [];
    id = builtin (codes "module");
    body = tree.custom (tree.piece (tree.header (record { place = 0; text = codes "bar" })) ∷ tree.region 0 ∷ []);
    mark = None;
  };
  regions = region (shown 0) (block (record { label = record { place = 0; text = codes "block1v1" }; arguments = []; attributes = None; mark = None }) no_operations no_blocks) no_regions;
}

-- ---- trees whose types and attributes are texts
-- an operation's own
abbrev pub TextOp : Type 0
TextOp = Op ℕ Text Text

-- operations
abbrev pub TextOps : Type 0
TextOps = Operations TextOp (Head ℕ Text Text) (Brace ℕ)

-- blocks
abbrev pub TextBlocks : Type 0
TextBlocks = Blocks TextOp (Head ℕ Text Text) (Brace ℕ)

-- an operation with everything nested in it
abbrev pub TextTree : Type 0
TextTree = Tree ℕ Text Text

-- a name at a column
abbrev pub at : ℕ → Text → Name ℕ
at column text = record { place = column; text = text }

-- a mark at a column
abbrev pub marked : ℕ → ℕ → Mark ℕ
marked column index = record { place = column; index = index }

-- an operation of the dialect `test`
abbrev pub testing : ℕ → Text → List (Name ℕ) → List (Part ℕ Text Text) → TextOp
testing column name names parts = record { place = column; names = names; id = test name; body = tree.custom parts; mark = None }

-- test.use
abbrev pub use_of : ℕ → Name ℕ → TextOp
use_of column name = testing column (codes "use") [] (tree.piece (tree.operand 0 name) ∷ [])

-- test.br
abbrev pub branch_to : ℕ → Name ℕ → TextOp
branch_to column label = testing column (codes "br") [] (tree.piece (tree.successor 0 label) ∷ [])

-- test.make: t, with these names
abbrev pub make : ℕ → List (Name ℕ) → TextOp
make column names = testing column (codes "make") names (tree.piece (tree.word (codes ":")) ∷ tree.piece (tree.result_type 0 (codes "t")) ∷ [])

-- test.nop
abbrev pub nop : ℕ → TextOp
nop column = testing column (codes "nop") [] []

-- an operation without regions, and then
abbrev pub alone : TextOp → TextOps → TextOps
alone o then = operation o no_regions then

-- test.scope with its brace, and then
abbrev pub scope : ℕ → ℕ → TextBlocks → TextOps → TextOps
scope column brace blocks then = operation (testing column (codes "scope") [] (tree.region 0 ∷ [])) (region (shown brace) blocks no_regions) then

-- a block without arguments
abbrev pub labelled : Name ℕ → TextOps → TextBlocks → TextBlocks
labelled label operations then = block (record { label = label; arguments = []; attributes = None; mark = None }) operations then

-- builtin.module @m with its brace at column 19
abbrev pub module_of : TextBlocks → TextTree
module_of blocks = record {
  own = record { place = 1; names = []; id = builtin (codes "module"); body = tree.custom (tree.piece (tree.header (at 16 (codes "m"))) ∷ tree.region 0 ∷ []); mark = None };
  regions = region (shown 19) blocks no_regions;
}

-- an operation in no block
abbrev pub root_of : TextOp → TextTree
root_of o = record { own = o; regions = no_regions }

-- the errors in a tree without a section
abbrev pub wrong : TextTree → List (Failure Text ℕ)
wrong t = failures_of {X = Text} isolated t []

-- a failure at a column
abbrev pub failure : Cause Text → ℕ → Failure Text ℕ
failure cause column = record { cause = cause; at = Some column }

-- builtin.module @m { ^a(): test.use y; test.use x }
abbrev pub two_unknown : TextTree
two_unknown = module_of (labelled (at 21 (codes "a")) (alone (use_of 27 (at 36 (codes "y"))) (alone (use_of 39 (at 48 (codes "x"))) no_operations)) no_blocks)

-- builtin.module @m { ^a(): test.br ^b; test.use x }
abbrev pub unknown_label_and_value : TextTree
unknown_label_and_value = module_of (labelled (at 21 (codes "a")) (alone (branch_to 27 (at 36 (codes "b"))) (alone (use_of 39 (at 48 (codes "x"))) no_operations)) no_blocks)

-- builtin.module @m { ^a(): ^a(): }
abbrev pub label_twice : TextTree
label_twice = module_of (labelled (at 21 (codes "a")) no_operations (labelled (at 27 (codes "a")) no_operations no_blocks))

-- builtin.module @m { ^a(x: builtin.integer si64, x: builtin.integer si64): }
abbrev pub argument_twice : TextTree
argument_twice = module_of (block (record { label = at 21 (codes "a"); arguments = (at 24 (codes "x"), codes "t") ∷ (at 49 (codes "x"), codes "t") ∷ []; attributes = None; mark = None }) no_operations no_blocks)

-- builtin.module @m { ^a(): x, y = test.make: builtin.integer si64 }
abbrev pub too_many_names : TextTree
too_many_names = module_of (labelled (at 21 (codes "a")) (alone (make 27 (at 27 (codes "x") ∷ at 30 (codes "y") ∷ [])) no_operations) no_blocks)

-- builtin.module @m { ^a(): test.make: builtin.integer si64 }
abbrev pub too_few_names : TextTree
too_few_names = module_of (labelled (at 21 (codes "a")) (alone (make 27 []) no_operations) no_blocks)

-- builtin.module @m { ^b(): test.use x; x = test.make: builtin.integer si64 }
abbrev pub used_early : TextTree
used_early = module_of (labelled (at 21 (codes "b")) (alone (use_of 27 (at 36 (codes "x"))) (alone (make 39 (at 39 (codes "x") ∷ [])) no_operations)) no_blocks)

-- builtin.module @m { ^a(): test.use x; test.scope { ^c(): x = test.make: builtin.integer si64 } }
abbrev pub defined_inside : TextTree
defined_inside = module_of (labelled (at 21 (codes "a"))
    (alone (use_of 27 (at 36 (codes "x"))) (scope 39 50 (labelled (at 52 (codes "c")) (alone (make 58 (at 58 (codes "x") ∷ [])) no_operations) no_blocks) no_operations)) no_blocks)

-- builtin.module @m { ^a(): test.scope { ^c(): x = test.make: builtin.integer si64 }; test.scope { ^d(): x = test.make: builtin.integer si64 } }
abbrev pub defined_in_both : TextTree
defined_in_both = module_of (labelled (at 21 (codes "a"))
    (scope 27 38 (labelled (at 40 (codes "c")) (alone (make 46 (at 46 (codes "x") ∷ [])) no_operations) no_blocks)
    (scope 85 96 (labelled (at 98 (codes "d")) (alone (make 104 (at 104 (codes "x") ∷ [])) no_operations) no_blocks) no_operations)) no_blocks)

-- builtin.module @m { ^a(): test.scope { ^c(): test.br ^a } }
abbrev pub branch_outward : TextTree
branch_outward = module_of (labelled (at 21 (codes "a")) (scope 27 38 (labelled (at 40 (codes "c")) (alone (branch_to 46 (at 55 (codes "a"))) no_operations) no_blocks) no_operations) no_blocks)

-- x = test.make: builtin.integer si64
abbrev pub root_with_result : TextTree
root_with_result = root_of (make 1 (at 1 (codes "x") ∷ []))

-- = test.nop
abbrev pub root_without_results : TextTree
root_without_results = root_of (nop 1)

-- test.scope {}
abbrev pub root_not_isolated : TextTree
root_not_isolated = record { own = testing 1 (codes "scope") [] (tree.region 0 ∷ []); regions = region (shown 12) no_blocks no_regions }

-- builtin.module @m { ^a() !0: test.nop !0 }
abbrev pub one_index_twice : TextTree
one_index_twice = module_of
    (block (record { label = at 21 (codes "a"); arguments = []; attributes = None; mark = Some (marked 26 0) }) (alone (record (nop 30) { mark = Some (marked 39 0) }) no_operations) no_blocks)

-- test.br ^a, in which a place is the number of characters from it to the end
abbrev pub branch_of_root : TextTree
branch_of_root = root_of (branch_to 10 (at 1 (codes "a")))
