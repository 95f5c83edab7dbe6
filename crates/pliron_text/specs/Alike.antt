-- For callers: contexts that know the operations of a graph alike. In which order operations were registered does not matter.
use Rattle.std.specs.Prelude.{◌≡◌, List, ⊤}
use Rattle.irtext_base.specs.Format.{Id}
use Rattle.irtext_base.specs.Text.{Text}
use Rattle.irtext_context.specs.Dialects.{Table}
use Rattle.irtext_context.specs.DialectTable.{registered}
use Rattle.irtext_grammar.specs.Contexts.Formats.{op_id}
use Rattle.irtext_grammar.specs.Grammar.Forest.{AllRegions}
use Rattle.irtext_grammar.specs.Graphs.Graph.{Graph, GraphOp}

-- by these dialects and by those, the operation is not registered, or has the same format and isolation
abbrev pub IsKnownAlike : List (Text × Table) → List (Text × Table) → Id → Type 0
IsKnownAlike a b id = registered a (op_id id) ≡ registered b (op_id id)

-- both dialects know each operation of a graph alike
abbrev pub AreKnownAlike : {T A : Type 0} → List (Text × Table) → List (Text × Table) → Graph T A → Type 0
AreKnownAlike {T} {A} a b g = IsKnownAlike a b g.own.id × AllRegions (λ (o : GraphOp T A). IsKnownAlike a b o.id) (λ h. ⊤) (λ r. ⊤) g.regions
