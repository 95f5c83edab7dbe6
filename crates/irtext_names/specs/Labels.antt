-- Between functions: a block that is created in a region, and its label.
use Rattle.std.specs.Prelude.{◌≡◌, Option, Some, slice_get}
use Rattle.irtext_base.specs.Text.{Text}
use Rattle.irtext_base.specs.Faults as causes
use Rattle.irtext_base.specs.declared.parsable.fault.ParseFault.{ParseFault}
use Rattle.irtext_graph.specs.Graph.{GraphView}
use Rattle.irtext_grammar.specs.Names.History.{act}
use Rattle.irtext_grammar.specs.Names.Script.{Place, define_label, MultipleDefinitions}
use Rattle.irtext_grammar.specs.Names.TextScopes.{Word}
use Rattle.irtext_names.specs.Linked.{FailsBy}
use Rattle.irtext_grammar.specs.declared.parsed.ReadName.{ReadName}
use Rattle.irtext_names.specs.Definitions.{IsFaultOf}
use Rattle.irtext_names.specs.Items.{Names}

-- the label is already defined: whenever names and graph agree with a state of the machine, its definition fails, and the fault is for
-- it, at the label
pub record RefusesLabel {O B T A : Type 0} (names : Names) (g : GraphView (Option O) B T) (text : Text) (label : ReadName) (fault : ParseFault A) : Type 0 where
  pub says : IsFaultOf names.names text causes.MultipleDefinitions label fault
  pub fails : (w : Word) (p : Place) → slice_get names.names label.name ≡ Some w.name → FailsBy (act (define_label w p)) names g (record { cause = MultipleDefinitions w.name; at = Some w.at })
