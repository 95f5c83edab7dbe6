use Rattle.std.proofs.Common.{◌≡◌, None}
use Rattle.irtext_grammar.specs.Contexts.Held.{entries_of}
use Rattle.irtext_grammar.specs.Graphs.Build.{put_all}
use Rattle.irtext_parse_locations.specs.Applied.{all_stored, no_label, label_in}
use Rattle.irtext_parse_locations.proofs.applied.block_pairs_stored.Given as goal

-- what is left is put in after what was put in, and the label is the last one so far
abbrev pub invariant-loop-pair : goal.invariant-loop-pair
invariant-loop-pair g l =
    (put_all (entries_of l.attributes) (no_label (all_stored l.fn.once.entries l.pair-iterator.rest.items)) ≡ put_all (entries_of l.fn.attributes) (no_label (all_stored l.fn.once.entries l.fn.pairs.items)))
    × (label_in l.label (all_stored l.fn.once.entries l.pair-iterator.rest.items) ≡ label_in None (all_stored l.fn.once.entries l.fn.pairs.items))
