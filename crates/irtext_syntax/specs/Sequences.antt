-- The texts of two parts with a fixed text between them, and of a part in brackets.
use Rattle.std.specs.Prelude.{Bool, true, ◌++◌, refl}
use Rattle.irtext_base.specs.Text.{Text}
use Rattle.irtext_tokens.specs.Demanded.{spaced_at}
use Rattle.irtext_tokens.specs.Infix.{Reader, ◌▷◌, ◌▶◌, ◌⇒◌}
use Rattle.irtext_syntax.specs.FixedTexts.{open_at, close_at}
use Rattle.irtext_syntax.specs.PartLaws.{EndsAnywhere}
use Rattle.irtext_syntax.specs.declared.sequence.Then.{Then}
use Rattle.irtext_syntax.specs.declared.sequence.Within.{Within}

-- every text can come next
abbrev pub anything : Text → Bool
anything text = true

pub anything_ends : EndsAnywhere anything
anything_ends = record { anywhere = λ rest e. refl }

-- these two parts, with a text between them
abbrev pub then_with : {P W Q : Type 0} → P → Q → Then P W Q
then_with x y = record { first = x; second = y; between = record {} }

-- the fixed text and the second part
abbrev pub second_at : {P W Q : Type 0} → Text → Reader Q → P → Reader (Then P W Q)
second_at text second x = spaced_at text ▷ second ⇒ then_with x

-- the first part, the fixed text and the second part
abbrev pub then_at : {P W Q : Type 0} → Reader P → Text → Reader Q → Reader (Then P W Q)
then_at first text second = first ▶ second_at text second

-- the text that is printed for two parts
abbrev pub then_text : {P Q : Type 0} → (P → Text) → Text → (Q → Text) → P → Q → Text
then_text first printed second x y = first x ++ (printed ++ second y)

-- the text that is printed for both
abbrev pub of_then : {P W Q : Type 0} → (P → Text) → Text → (Q → Text) → Then P W Q → Text
of_then first printed second x = then_text first printed second x.first x.second

-- this part in brackets
abbrev pub within_with : {B P : Type 0} → P → Within B P
within_with x = record { inside = x; brackets = record {} }

-- the closing bracket after the part
abbrev pub shut_at : {B P : Type 0} → Text → P → Reader (Within B P)
shut_at closer x = close_at closer ⇒ λ _. within_with x

-- the part inside, and the closing bracket
abbrev pub inside_at : {B P : Type 0} → Text → Reader P → Reader (Within B P)
inside_at closer inside = inside ▶ shut_at closer

-- a part in brackets
abbrev pub within_at : {B P : Type 0} → Text → Text → Reader P → Reader (Within B P)
within_at opener closer inside = open_at opener ▷ inside_at closer inside

-- the text that is printed for a part in brackets
abbrev pub within_text : {P : Type 0} → Text → (P → Text) → Text → P → Text
within_text opener inside closer x = opener ++ (inside x ++ closer)

-- the text that is printed for it
abbrev pub of_within : {B P : Type 0} → Text → (P → Text) → Text → Within B P → Text
of_within opener inside closer x = within_text opener inside closer x.inside
