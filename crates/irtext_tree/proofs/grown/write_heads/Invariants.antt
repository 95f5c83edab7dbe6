use Rattle.std.proofs.Common.{◌≡◌, ◌++◌, drop, string_bytes}
use Rattle.std.specs.Str.{encode_utf8_all}
use Rattle.irtext_base.specs.Appending.{OnlyAppends}
use Rattle.irtext_tree.specs.Trees.{heads_text}
use Rattle.irtext_tree.proofs.grown.write_heads.Given as goal

abbrev pub invariant-loop-head : goal.invariant-loop-head
invariant-loop-head g l =
    (string_bytes l.f ++ encode_utf8_all (heads_text g.S.Grammar.written (drop l.head-index l.heads)) ≡ string_bytes l.fn.f ++ encode_utf8_all (heads_text g.S.Grammar.written l.heads))
    × OnlyAppends l.fn.f l.f
