use Rattle.std.proofs.Common.{◌≡◌}
use Rattle.irtext_context.specs.Entries.{entries_left}
use Rattle.irtext_grammar.specs.Contexts.Held.{entries_of}
use Rattle.irtext_print_ops.specs.Inline.{has_inline}
use Rattle.irtext_print_ops.proofs.block_heads.has_inline.Given as goal

-- some attribute is written inline exactly if one of those that are left is
abbrev pub invariant-loop-key : goal.invariant-loop-key
invariant-loop-key g l = has_inline g.A.AttrText.outlined (entries_of (entries_left l._key-iterator)) ≡ has_inline g.A.AttrText.outlined (entries_of l.attributes)
