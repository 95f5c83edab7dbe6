-- The laws of the fixed texts and brackets that are ready to be used: each is computed.
use Rattle.std.proofs.Common.{◌≡◌, true, ◌∷◌, ◌++◌, refl, codes, inr}
use Rattle.irtext_base.specs.Text.{Text}
use Rattle.irtext_base.specs.Own.{Ends}
use Rattle.irtext_syntax.specs.FixedTexts.{BetweenLaw, BracketsLaw}
use Rattle.irtext_syntax.specs.PartLaws.{closes}

pub colon_law : BetweenLaw (codes ":") (codes ": ")
colon_law = record { back = λ rest. refl; ascii = refl }

pub comma_law : BetweenLaw (codes ",") (codes ", ")
comma_law = record { back = λ rest. refl; ascii = refl }

pub arrow_law : BetweenLaw (codes "->") (codes "->")
arrow_law = record { back = λ rest. refl; ascii = refl }

pub spaced_arrow_law : BetweenLaw (codes "->") (codes " -> ")
spaced_arrow_law = record { back = λ rest. refl; ascii = refl }

pub angle_law : BracketsLaw (codes "<") (codes ">") (codes "<") (codes ">")
angle_law = record { opens = λ rest. refl; shuts = λ rest. refl; closing = λ rest. refl; opening = refl; ascii_open = refl; ascii_close = refl }

pub round_law : BracketsLaw (codes "(") (codes ")") (codes "(") (codes ")")
round_law = record { opens = λ rest. refl; shuts = λ rest. refl; closing = λ rest. refl; opening = refl; ascii_open = refl; ascii_close = refl }

pub square_law : BracketsLaw (codes "[") (codes "]") (codes "[") (codes "]")
square_law = record { opens = λ rest. refl; shuts = λ rest. refl; closing = λ rest. refl; opening = refl; ascii_open = refl; ascii_close = refl }

pub curly_law : BracketsLaw (codes "{") (codes "}") (codes "{ ") (codes " }")
curly_law = record { opens = λ rest. refl; shuts = λ rest. refl; closing = λ rest. refl; opening = refl; ascii_open = refl; ascii_close = refl }

pub closing_colon : (rest : Text) → closes (codes ": " ++ rest) ≡ true
closing_colon rest = refl

pub closing_comma : (rest : Text) → closes (codes ", " ++ rest) ≡ true
closing_comma rest = refl

pub ends_spaced : (rest : Text) → Ends (32 ∷ rest)
ends_spaced rest = inr refl
