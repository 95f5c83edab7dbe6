-- Between functions: the end of a region, and why its scopes cannot be closed without an error.
use Rattle.std.specs.Prelude.{◌≡◌, ℕ, Bool, Some, Option, slice_get}
use Rattle.irtext_base.specs.Text.{Text}
use Rattle.irtext_base.specs.Faults.{Unresolved}
use Rattle.irtext_base.specs.declared.parsable.fault.ParseFault.{ParseFault}
use Rattle.irtext_graph.specs.Graph.{GraphView}
use Rattle.irtext_grammar.specs.Names.History as history
use Rattle.irtext_grammar.specs.Names.History.{leave}
use Rattle.irtext_grammar.specs.Names.Script.{UnresolvedReference}
use Rattle.irtext_names.specs.Linked.{Takes, FailsBy}
use Rattle.irtext_parse_nested.specs.declared.frame.BegunRegion.{BegunRegion}
use Rattle.irtext_names.specs.Definitions.{IsFaultOf}
use Rattle.irtext_names.specs.Items.{Names}

-- names and graph follow the machine over the end of a region, wherever the region begins
abbrev pub TakesLeave : {O B T : Type 0} → Bool → Names → Names → GraphView (Option O) B T → Type 0
TakesLeave iso old new g = (a : ℕ) → Takes (leave iso a) (history.left iso) old new g

-- this name has no definition; the fault is for it, at the beginning of the region, and the machine fails in the same way
pub record IsUnresolved {O B T A : Type 0} (names : Names) (g : GraphView (Option O) B T) (text : Text) (region : BegunRegion) (fault : ParseFault A) : Type 0 where
  pub name : ℕ
  pub said : IsFaultOf names.names text Unresolved (record { name = name; at = region.at }) fault
  pub fails : (a : ℕ) → (t : Text) × (slice_get names.names name ≡ Some t) × FailsBy (leave region.isolated a) names g (record { cause = UnresolvedReference t; at = Some a })
