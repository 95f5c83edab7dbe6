use Rattle.std.proofs.Common.{◌≡◌, Some, ◌∷◌, []}
use Rattle.irtext_tree.specs.Rows.{open_places}
use Rattle.irtext_tests_trees.specs.Types.{llvm_growth}
use Rattle.irtext_tests_trees.specs.declared.types.LlvmPlace.TheVariants as place
use Rattle.irtext_tests_trees.proofs.build.func.Given as goal

-- `, ` or `>` waits
abbrev pub invariant-loop-ty : goal.invariant-loop-ty
invariant-loop-ty l = open_places llvm_growth l.row.heads ≡ Some (place.More ∷ [])
