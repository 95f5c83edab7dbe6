use Rattle.std.proofs.Common.{◌≡◌, ◌++◌, map}
use Rattle.irtext_names.proofs.dictionary.many_split.Given as goal

abbrev pub invariant-loop-argument : goal.invariant-loop-argument
invariant-loop-argument g l = record {
  names : l.names.items ++ map (λ a. a.0) l.argument-iterator.rest.items ≡ map (λ a. a.0) l.fn.arguments.items;
  types : l.types.items ++ map (λ a. a.1) l.argument-iterator.rest.items ≡ map (λ a. a.1) l.fn.arguments.items;
}
