use Rattle.std.proofs.Common.{◌≡◌, ◌++◌, List, map, take}
use Rattle.irtext_names.specs.Kinds.{defined_as, use_of}
use Rattle.irtext_names.specs.Rows.{UsesRow}
use Rattle.irtext_names.specs.Uses.{KeepsScopes}
use Rattle.irtext_names.proofs.piece_uses.names_used.Given as goal

abbrev pub invariant-loop-index : goal.invariant-loop-index
invariant-loop-index g l = record {
  uses : (more : List g.row.K.Denot) × (l.referents.items ≡ l.fn.referents.items ++ more) × UsesRow (defined_as g.K.Referent.kind) (use_of g.K.Referent.kind) (take l.index (map (λ n. n.name) l.used)) l.fn.names l.names l.fn.graph l.graph more;
  steady : KeepsScopes l.fn.names l.names l.fn.graph l.graph;
}
