-- For theorems: a value that is parsed at the beginning of a text.
use Rattle.std.proofs.Common.{◌≡◌, ◌∙◌, [], false, refl, ap}
use Rattle.std.specs.Char.{is_whitespace}
use Rattle.irtext_base.specs.Text.{Text, begins}
use Rattle.irtext_base.specs.Answers.{Outcome, Read}
use Rattle.irtext_base.specs.Own.{verdict}
use Rattle.irtext_base.proofs.Characters.{after_all}
use Rattle.irtext_syntax.specs.PartLaws.{IsRead}

-- a value that is found at the beginning of a text without white space before it is parsed back
pub read_here : {X : Type 0} (reading : Text → Outcome X) (x : X) (text taken rest : Text) → begins is_whitespace text ≡ false → reading text ≡ Read x taken rest → IsRead reading x text rest
read_here reading x text taken rest s e = (rest, ap (λ t. verdict (reading t)) (after_all is_whitespace [] text refl s) ∙ ap verdict e, refl)
