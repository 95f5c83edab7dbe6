-- The words with which trees begin.
use Rattle.std.specs.Prelude.{◌≡◌, true, List, ◌++◌, codes}
use Rattle.irtext_base.specs.Families.{is_one_of}
use Rattle.irtext_base.specs.Reading.{keyword}
use Rattle.irtext_base.specs.Text.{Text, front, in_dotted}
use Rattle.irtext_tree.specs.GrammarLaws.{Follows}
use Rattle.irtext_tree.specs.Growths.{Growth}

-- the text of each head with which a tree can begin has one of these words at its beginning
abbrev pub HeadsLed : {S H : Type 0} → Growth S H → List Text → (H → Text) → Type 0
HeadsLed {H = H} growth words written = (h : H) (rest : Text) → growth.place h ≡ growth.start → Follows growth (growth.waits h) rest → is_one_of words (front in_dotted (written h ++ rest)) ≡ true

-- no head with which a tree can begin has a text that begins with `builtin.given_names` or `builtin.identifier`
pub record HeadsUnreserved {S H : Type 0} (growth : Growth S H) (written : H → Text) : Type 0 where
  pub given_names : (h : H) (rest left : Text) → growth.place h ≡ growth.start → keyword (codes "builtin.given_names") (written h ++ rest) left → ⊥
  pub identifier : (h : H) (rest left : Text) → growth.place h ≡ growth.start → keyword (codes "builtin.identifier") (written h ++ rest) left → ⊥
