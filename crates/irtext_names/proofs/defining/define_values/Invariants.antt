use Rattle.std.proofs.Common.{◌≡◌, length, take, true}
use Rattle.irtext_scopes.specs.Scopes.{is_open}
use Rattle.irtext_names.specs.Tied.{SettlesTies}
use Rattle.irtext_names.specs.Definitions.{defined_value, numbers_of}
use Rattle.irtext_names.specs.Rows.{ValuesReady, DefinesRow}
use Rattle.irtext_names.specs.LosesPlaceholders.{LosesPlaceholders}
use Rattle.irtext_names.proofs.defining.define_values.Given as goal

abbrev pub invariant-loop-index : goal.invariant-loop-index
invariant-loop-index g l = record {
  defines : DefinesRow (defined_value l.row) (take l.index (numbers_of l.defined)) l.fn.names l.names l.fn.graph l.graph;
  ready : ValuesReady (defined_value l.row) (length l.defined) l.names.values l.graph;
  scope : is_open l.names.values ≡ true;
  loses : LosesPlaceholders l.fn.graph l.graph;
  values : length l.names.values ≡ length l.fn.names.values;
  rest : (l.names.names ≡ l.fn.names.names) × (l.names.labels ≡ l.fn.names.labels);
  ties : SettlesTies l.fn.names l.names l.fn.graph l.graph;
}
