-- Worked roots with their sections. A place is a number that decreases along the text.
use Rattle.std.specs.Prelude.{ℕ, List, [], ◌∷◌, codes, Some, None, ⊤}
use Rattle.irtext_base.specs.Text.{Text}
use Rattle.irtext_grammar.specs.Names.Acts.{failures_of}
use Rattle.irtext_grammar.specs.Graphs.Build.{BuiltOp, BuiltBlock}
use Rattle.irtext_grammar.specs.Grammar.Forest.{Regions, no_regions, region, no_blocks, block, no_operations, operation}
use Rattle.irtext_grammar.specs.Grammar.Section.{Item, direct, reference, Entry, of_item, of_once}
use Rattle.irtext_grammar.specs.Names.Script.{Failure, result}
use Rattle.irtext_grammar.specs.Grammar.Tree as tree
use Rattle.irtext_grammar.specs.Grammar.Tree.{Name, given_names, own, shown}
use Rattle.irtext_tests_names.specs.Demo.{builtin, test, isolated}
use Rattle.irtext_tests_names.specs.Trees.{TextTree, at, marked}

-- an entry of a section
abbrev pub TextEntry : Type 0
TextEntry = Entry ℕ Text Text

-- an entry for an item, without a location
abbrev pub for_item : ℕ → ℕ → List (Name ℕ × Item ℕ Text) → TextEntry
for_item place index items = of_item (marked place index) None items

-- dbg = !9
abbrev pub note_nine : Name ℕ × Item ℕ Text
note_nine = (at 50 (codes "dbg"), reference (marked 48 9))

-- builtin_given_names = test.dbg "s"
abbrev pub wrong_names : ℕ → Name ℕ × Item ℕ Text
wrong_names place = (at place (codes "builtin_given_names"), direct (own (codes "s")))

-- builtin.module @m {} !3
abbrev pub module_three : TextTree
module_three = record {
  own = record { place = 90; names = []; id = builtin (codes "module"); body = tree.custom (tree.piece (tree.header (at 80 (codes "m"))) ∷ tree.region 0 ∷ []); mark = Some (marked 70 3) };
  regions = region (shown 75) no_blocks no_regions;
}

-- the errors in entries after builtin.module @m {} !3
abbrev pub wrong_after : List TextEntry → List (Failure Text ℕ)
wrong_after entries = failures_of isolated module_three entries

-- a module with a dictionary after its region: { ^a(x: t, x: t): } [builtin_given_names: test.dbg "s"]
abbrev pub dictionary_after : TextTree
dictionary_after = record module_three {
  own = record { place = 90; names = []; id = builtin (codes "module"); body = tree.custom (tree.region 0 ∷ tree.piece (tree.dictionary ((at 60 (codes "builtin_given_names"), own (codes "s")) ∷ [])) ∷ []); mark = None };
  regions = region (shown 75) (block (record { label = at 74 (codes "a"); arguments = (at 73 (codes "x"), codes "t") ∷ (at 72 (codes "x"), codes "t") ∷ []; attributes = None; mark = None }) no_operations no_blocks) no_regions;
}

-- builtin.module @m { ^b(): test.use x; x = test.make: t !4 }
abbrev pub early_and_marked : TextTree
early_and_marked = record module_three {
  regions = region (shown 75) (block (record { label = at 74 (codes "b"); arguments = []; attributes = None; mark = None })
      (operation (record { place = 60; names = []; id = test (codes "use"); body = tree.custom (tree.piece (tree.operand 0 (at 58 (codes "x"))) ∷ []); mark = None }) no_regions
      (operation (record { place = 50; names = at 50 (codes "x") ∷ []; id = test (codes "make"); body = tree.custom (tree.piece (tree.result_type 0 (codes "t")) ∷ []); mark = Some (marked 40 4) }) no_regions no_operations)) no_blocks) no_regions;
}

-- !4 = @[?], [dbg = !9] and !9 = test.dbg "s"
abbrev pub note_and_location : List TextEntry
note_and_location = of_item (marked 30 4) (Some (codes "?")) ((at 28 (codes "dbg"), reference (marked 26 9)) ∷ []) ∷ of_once (marked 20 9) (own (codes "s")) ∷ []

-- the operand is the result after it, the parsed name is a given name, and the entry's location replaces the first one
abbrev pub early_built : Regions (BuiltOp Text Text Text) (BuiltBlock Text Text Text) ⊤
early_built = region tt (block (record { label = codes "b"; argument_types = []; attributes = []; location = codes "first" })
    (operation (record { id = test (codes "use"); result_types = []; operands = Some (result (1 ∷ 0 ∷ 0 ∷ []) 0) ∷ []; successors = []; attributes = []; location = codes "first" }) no_regions
    (operation (record {
      id = test (codes "make");
      result_types = codes "t" ∷ [];
      operands = [];
      successors = [];
      attributes = (codes "builtin_given_names", given_names (Some (codes "x") ∷ [])) ∷ (codes "dbg", own (codes "s")) ∷ [];
      location = codes "?";
    }) no_regions no_operations)) no_blocks) no_regions
