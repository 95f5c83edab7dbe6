-- Worked trees of texts on one line, and their sections. The place of a name, a mark or a brace is its column there.
use Rattle.std.specs.Prelude.{ℕ, List, [], ◌∷◌, codes, Option, Some, None, ⊤}
use Rattle.irtext_base.specs.Text.{Text}
use Rattle.irtext_grammar.specs.Graphs.Build.{BuiltOp, BuiltBlock, build}
use Rattle.irtext_grammar.specs.Grammar.Forest.{Regions, no_regions, region, no_blocks, block, no_operations, operation}
use Rattle.irtext_grammar.specs.Grammar.Section.{Item}
use Rattle.irtext_grammar.specs.Names.Script.{Failure, ReservedKey}
use Rattle.irtext_grammar.specs.Grammar.Tree.{Attribute, Name, Mark}
use Rattle.irtext_tests_names.specs.Demo.{test}
use Rattle.irtext_tests_names.specs.Labels.Demo.{isolated}
use Rattle.irtext_tests_names.specs.Sections.{TextEntry}
use Rattle.irtext_tests_names.specs.Trees.{TextOp, TextOps, TextTree, alone, at, branch_to, failure, labelled, marked, module_of, nop}

-- a label in an entry
abbrev pub label_is : ℕ → Item ℕ Text → Name ℕ × Item ℕ Text
label_is column item = (at column (codes "builtin_block_label"), item)

-- test.nop, with this mark
abbrev pub nop_marked : Option (Mark ℕ) → TextOp
nop_marked mark = record (nop 30) { mark = mark }

-- builtin.module @m { ^a() [..] !0: .. }
abbrev pub block_a : Option (List (Name ℕ × Attribute Text)) → Option (Mark ℕ) → TextOps → TextTree
block_a entries mark operations = module_of (block (record { label = at 21 (codes "a"); arguments = []; attributes = entries; mark = mark }) operations no_blocks)

-- builtin.module @m { ^a() !0: test.nop }
abbrev pub marked_block : TextTree
marked_block = block_a None (Some (marked 26 0)) (alone (nop_marked None) no_operations)

-- builtin.module @m { ^a(): test.nop !0 }
abbrev pub marked_nop : TextTree
marked_nop = block_a None None (alone (nop_marked (Some (marked 39 0))) no_operations)

-- an error for a label at this column
abbrev pub label_refused : ℕ → List (Failure Text ℕ)
label_refused column = failure (ReservedKey (codes "builtin_block_label")) column ∷ []

-- what is built from these, where each first location is this text
abbrev pub built : TextTree → List TextEntry → Regions (BuiltOp Text Text Text) (BuiltBlock Text Text Text) ⊤
built t es = (build isolated (λ (place : ℕ). codes "first") es t).regions

-- a block with this label and these attributes, and test.nop with these
abbrev pub built_block : Text → List (Text × Attribute Text) → List (Text × Attribute Text) → Regions (BuiltOp Text Text Text) (BuiltBlock Text Text Text) ⊤
built_block label entries of_nop = region tt
    (block (record { label = label; argument_types = []; attributes = entries; location = codes "first" })
    (operation (record { id = test (codes "nop"); result_types = []; operands = []; successors = []; attributes = of_nop; location = codes "first" }) no_regions no_operations) no_blocks) no_regions

-- builtin.module @m { ^a(): test.br ^b ^b(): test.br ^a }
abbrev pub branches_as_read : TextTree
branches_as_read = module_of
    (labelled (at 21 (codes "a")) (alone (branch_to 27 (at 36 (codes "b"))) no_operations)
    (labelled (at 38 (codes "b")) (alone (branch_to 44 (at 53 (codes "a"))) no_operations) no_blocks))
