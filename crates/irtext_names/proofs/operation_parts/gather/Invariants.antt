use Rattle.std.proofs.Common.{ℕ}
use Rattle.irtext_grammar.specs.Found.{with_words}
use Rattle.irtext_names.specs.declared.operation_parts.NotGathered.{NotGathered}
use Rattle.irtext_names.specs.Uses.{KeepsScopes}
use Rattle.irtext_names.specs.Gathering.{CanGather, Gathers, RefusesGathering}
use Rattle.irtext_names.proofs.operation_parts.gather.Given as goal

-- this many words follow the last piece
abbrev pub invariant-loop-found : goal.invariant-loop-found
invariant-loop-found g l = record {
  words : ℕ;
  steady : KeepsScopes l.fn.names l.names l.fn.graph l.graph;
  can : CanGather l.names l.gathered.operands.list.items l.gathered.successors.list.items (with_words l.found-iterator.rest.items words);
  gathers : (new : _) (h : _) (z : _) → Gathers (with_words l.found-iterator.rest.items words) l.names l.graph l.gathered new h z → Gathers l.fn.pieces l.fn.names l.fn.graph l.fn.gathered new h z;
  fails : (r : NotGathered) → RefusesGathering (with_words l.found-iterator.rest.items words) l.names l.graph r → RefusesGathering l.fn.pieces l.fn.names l.fn.graph r;
}
