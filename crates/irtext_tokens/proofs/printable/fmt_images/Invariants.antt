use Rattle.std.proofs.Common.{◌≡◌, ◌++◌, ◌≤◌, string_bytes, take}
use Rattle.std.specs.List.{slice_range}
use Rattle.std.specs.Str.{IsCharBoundary}
use Rattle.irtext_base.specs.Appending.{OnlyAppends}
use Rattle.irtext_base.specs.Quoted.{images}
use Rattle.irtext_tokens.proofs.printable.fmt_images.Given as goal

-- what was written and the run since then are the images so far; the text was only appended to
abbrev pub invariant-loop-at : goal.invariant-loop-at
invariant-loop-at l =
    (l.begun ≤ l.at) × IsCharBoundary l.text l.begun × (string_bytes l.f ++ slice_range l.text l.begun l.at ≡ string_bytes l.fn.f ++ images (take l.at l.text)) × OnlyAppends l.fn.f l.f
