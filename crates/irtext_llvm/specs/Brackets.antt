-- The laws of the brackets before holes.
use Rattle.std.proofs.Common.{codes, refl}
use Rattle.irtext_syntax.specs.FixedTexts.{BracketsLaw}

pub angle_comma_law : BracketsLaw (codes "<") (codes ",") (codes "<") (codes ",")
angle_comma_law = record { opens = λ rest. refl; shuts = λ rest. refl; closing = λ rest. refl; opening = refl; ascii_open = refl; ascii_close = refl }
