use Rattle.std.proofs.Common.{◌≡◌, ◌++◌, drop, string_bytes}
use Rattle.std.specs.Str.{encode_utf8_all}
use Rattle.irtext_base.specs.Appending.{OnlyAppends}
use Rattle.irtext_syntax.specs.ListParts.{tail_text}
use Rattle.irtext_syntax.proofs.list.write_tail.Given as goal

abbrev pub invariant-loop-item : goal.invariant-loop-item
invariant-loop-item g l =
    (string_bytes l.f ++ encode_utf8_all (tail_text l.fn.separator g.P.Part.text.written (drop l.item-index l.items)) ≡ string_bytes l.fn.f ++ encode_utf8_all (tail_text l.fn.separator g.P.Part.text.written l.items))
    × OnlyAppends l.fn.f l.f
