use Rattle.std.proofs.Common.{◌≡◌, ◌≤◌, ◌++◌, List, length, vec_len}
use Rattle.irtext_scopes.specs.declared.scopes.Binding.{Binding}
use Rattle.irtext_scopes.specs.Scopes.{first_pending}
use Rattle.irtext_scopes.specs.Bindings.{Chained, entries_of}
use Rattle.irtext_scopes.proofs.scopes.cut.Given as goal

abbrev pub invariant-loop-bindings : goal.invariant-loop-bindings
invariant-loop-bindings g l = record {
  chained : Chained l.heads.items l.bindings.items;
  low : l.mark ≤ length l.bindings.items;
  gone : (rest : List (Binding g.row.V.Denot)) × (l.initial.bindings.items ≡ l.bindings.items ++ rest) × (l.first ≡ first_pending (entries_of rest));
}

abbrev pub decreases-loop-bindings : goal.decreases-loop-bindings
decreases-loop-bindings g l = vec_len l.bindings
