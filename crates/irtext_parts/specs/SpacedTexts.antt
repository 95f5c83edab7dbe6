-- The laws of fixed texts that are printed with spaces.
use Rattle.std.proofs.Common.{refl, ap, codes}
use Rattle.std.specs.Char.{is_whitespace}
use Rattle.irtext_base.specs.Own.{found}
use Rattle.irtext_base.proofs.Characters.{after_twice}
use Rattle.irtext_syntax.specs.FixedTexts.{BetweenLaw}

pub equals_law : BetweenLaw (codes "=") (codes " = ")
equals_law = record { back = λ rest. refl; ascii = refl }

pub times_law : BetweenLaw (codes "x") (codes " x ")
times_law = record { back = λ rest. refl; ascii = refl }

pub blank_law : BetweenLaw (codes "") (codes " ")
blank_law = record { back = λ rest. ap (found tt) (after_twice is_whitespace rest); ascii = refl }
