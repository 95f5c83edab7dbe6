use Rattle.std.proofs.Common.{◌≡◌, ◌-◌}
use denote.Text.{Utf8}
use denote.Shadow.{shadow}
use Rattle.std.specs.Str.{chars}
use Rattle.irtext_excerpt.specs.Excerpt.{place_in}
use Rattle.irtext_excerpt.proofs.lines.place_in.Given as goal

-- the place is the same in what is left, after the lines that are left
abbrev pub invariant-loop-line : goal.invariant-loop-line
invariant-loop-line l = shadow (Utf8 l.rest) × (place_in (chars l.rest) (l.lines - l._line) l.characters ≡ place_in (chars l.text) l.lines l.characters)
