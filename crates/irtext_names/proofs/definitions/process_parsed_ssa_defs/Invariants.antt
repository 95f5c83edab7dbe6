use Rattle.std.proofs.Common.{◌≡◌, length, map, take, true}
use Rattle.irtext_graph.specs.declared.object.Value.TheVariants.{Result}
use Rattle.irtext_scopes.specs.Scopes.{is_open}
use Rattle.irtext_names.specs.Tied.{SettlesTies}
use Rattle.irtext_names.specs.Rows.{ValuesReady, DefinesRow}
use Rattle.irtext_names.proofs.definitions.process_parsed_ssa_defs.Given as goal

abbrev pub invariant-loop-index : goal.invariant-loop-index
invariant-loop-index g l = record {
  defines : DefinesRow (Result l.op) (map g.N.Named.numbered (take l.index l.defined)) l.fn.names l.names l.fn.graph l.graph;
  ready : ValuesReady (Result l.op) (length l.defined) l.names.values l.graph;
  scope : is_open l.names.values ≡ true;
  rest : (l.names.names ≡ l.fn.names.names) × (l.names.labels ≡ l.fn.names.labels);
  ties : SettlesTies l.fn.names l.names l.fn.graph l.graph;
}
