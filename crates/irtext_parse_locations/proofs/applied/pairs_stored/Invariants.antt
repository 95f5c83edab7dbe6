use Rattle.std.proofs.Common.{◌≡◌}
use Rattle.irtext_grammar.specs.Contexts.Held.{entries_of}
use Rattle.irtext_grammar.specs.Graphs.Build.{put_all}
use Rattle.irtext_parse_locations.specs.Applied.{all_stored}
use Rattle.irtext_parse_locations.proofs.applied.pairs_stored.Given as goal

-- what is left is put in after what was put in
abbrev pub invariant-loop-pair : goal.invariant-loop-pair
invariant-loop-pair g l = put_all (entries_of l.attributes) (all_stored l.fn.once.entries l.pair-iterator.rest.items) ≡ put_all (entries_of l.fn.attributes) (all_stored l.fn.once.entries l.fn.pairs.items)
