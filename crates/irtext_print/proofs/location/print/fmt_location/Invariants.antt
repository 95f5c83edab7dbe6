use Rattle.std.proofs.Common.{◌≡◌, ◌++◌, string_bytes}
use Rattle.std.specs.Str.{encode_utf8_all}
use Rattle.irtext_base.specs.Appending.{OnlyAppends}
use Rattle.irtext_grammar.specs.Spelling.Locations.{location_text}
use Rattle.irtext_print.specs.Printers.LocationParts.{left_text, left_weight}
use Rattle.irtext_print.proofs.location.print.fmt_location.Given as goal

-- what was written, and then what is left, are the whole text, which was only appended to
abbrev pub invariant-loop-next : goal.invariant-loop-next
invariant-loop-next g l =
    (string_bytes l.f ++ encode_utf8_all (left_text g.A.IrText.written l.ctx.paths l.next l.waiting.items)
    ≡ string_bytes l.fn.f ++ encode_utf8_all (location_text g.A.IrText.written l.ctx.paths l.location))
    × OnlyAppends l.fn.f l.f

abbrev pub decreases-loop-next : goal.decreases-loop-next
decreases-loop-next g l = left_weight l.next l.waiting.items
