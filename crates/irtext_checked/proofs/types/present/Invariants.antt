use Rattle.std.proofs.Common.{◌≡◌, map, take}
use Rattle.std.specs.Prelude.{filter_map}
use Rattle.irtext_checked.proofs.types.present.Given as goal

abbrev pub invariant-loop-of_type : goal.invariant-loop-of_type
invariant-loop-of_type g l = record {
  found : map (λ t. t.now) l.all.items ≡ filter_map (λ t. t.now) (take l.of_type-index l.types);
}
