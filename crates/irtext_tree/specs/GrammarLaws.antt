-- The law of a grammar: how the text of one head is parsed back.
use Rattle.std.specs.Prelude.{◌≡◌, ◌⊎◌, ◌<◌, ◌↔◌, Bool, true, false, IsTrue, ◌++◌, length}
use Rattle.std.specs.Str.{all_scalars}
use Rattle.irtext_base.specs.Answers.{Read}
use Rattle.irtext_base.specs.Own.{Ends, Sincere, missing, verdict}
use Rattle.irtext_base.specs.Text.{Text, begins, begins_word}
use Rattle.irtext_syntax.specs.PartLaws.{IsRead}
use Rattle.irtext_tokens.specs.Infix.{Reader}
use Rattle.irtext_tree.specs.Growths.{Growth, leads}
use Rattle.irtext_tree.specs.declared.waits.Waits.{Waits}
use Rattle.irtext_tree.specs.declared.waits.Waits.TheVariants as waits

-- the text that can come after a head: one that can come at the place that waits next, or, if none waits, one that can end a type or an
-- attribute
abbrev pub Follows : {S H : Type 0} → Growth S H → Waits S → Text → Type 0
Follows g waits.Nothing rest = Ends rest
Follows g (waits.One s) rest = leads g s rest ≡ true
Follows g (waits.Two s t) rest = leads g s rest ≡ true

-- the second place that waits, if there is one, is of those that a closing character begins
abbrev pub SecondIs : {S : Type 0} → (S → Bool) → Waits S → Type 0
SecondIs closing waits.Nothing = Unit {0}
SecondIs closing (waits.One s) = Unit {0}
SecondIs closing (waits.Two s t) = closing t ≡ true

-- this, if a place waits
abbrev pub IfMore : {S : Type 0} → Waits S → Type 0 → Type 0
IfMore waits.Nothing P = Unit {0}
IfMore (waits.One s) P = P
IfMore (waits.Two s t) P = P

-- the place is one of those that wait
abbrev pub WaitsFor : {S : Type 0} → S → Waits S → Type 0
WaitsFor s waits.Nothing = ⊥
WaitsFor s (waits.One t) = s ≡ t
WaitsFor s (waits.Two t u) = (s ≡ t) ⊎ (s ≡ u)

-- a tree begins at the place, or it waits after a head
pub data Occurs {S H : Type 0} (growth : Growth S H) (s : S) : Type 0 where
  begins_tree : s ≡ growth.start → Occurs growth s
  waits_after : (h : H) → WaitsFor s (growth.waits h) → Occurs growth s

-- each head that is parsed at the place is one of that place
abbrev pub Placed : {S H : Type 0} → Growth S H → S → Reader H → Type 0
Placed {S} {H} growth s reading = (text : Text) (h : H) (taken left : Text) → reading text ≡ Read h taken left → growth.same s (growth.place h) ≡ true

-- the law of a grammar: the text of each head is parsed back at its place, before each text that can come after it, and only white space is
-- left before that; a tree is missing where no letter and no `_` comes next; and what can come after a tree in another one begins with a
-- closing character or with white space
pub record GrammarLaw {S H : Type 0} (growth : Growth S H) (reading : S → Reader H) (written : H → Text) : Type 0 where
  -- the places at which each text begins with a closing character or white space
  pub closing : S → Bool
  pub not_start : closing growth.start ≡ false
  pub closes : (h : H) (rest : Text) → closing (growth.place h) ≡ true → Ends (written h ++ rest)
  pub second : (h : H) → SecondIs closing (growth.waits h)
  pub decides : (s t : S) → IsTrue (growth.same s t) ↔ (s ≡ t)
  pub back : (h : H) (rest : Text) → Follows growth (growth.waits h) rest → IsRead (reading (growth.place h)) h (written h ++ rest) rest
  pub scalars : (h : H) → all_scalars (written h) ≡ true
  pub sincere : (s : S) → Sincere (reading s)
  -- a head that is parsed at a place is one of that place
  pub placed : (s : S) → Occurs growth s → Placed growth s (reading s)
  -- each head that places wait after takes a character or more
  pub advances : (s : S) (text : Text) (h : H) (taken left : Text) → reading s text ≡ Read h taken left → IfMore (growth.waits h) (length left < length text)
  -- a tree begins with a letter or `_`
  pub starts : (h : H) (rest : Text) → growth.place h ≡ growth.start → begins begins_word (written h ++ rest) ≡ true
  pub misses : (text : Text) → begins begins_word text ≡ false → verdict (reading growth.start text) ≡ missing
