use Rattle.std.proofs.Common.{◌≡◌, ◌++◌}
use Rattle.irtext_context.specs.Context.{known}
use Rattle.irtext_context.proofs.base.types.many_known_types.Given as goal

abbrev pub invariant-loop-of_type : goal.invariant-loop-of_type
invariant-loop-of_type g l = record {
  types : l.all.items ++ known l.of_type-iterator.rest.items ≡ known l.fn.types.items;
}
