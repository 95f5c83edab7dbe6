-- The words of a family of types or of attributes.
use Prim.Native.Char.{Char}
use Prim.Native.String.{String, [] as none, ◌∷◌ as ◌∷ᶜ◌}
use Rattle.std.specs.Prelude.{◌≡◌, ℕ, zero, suc, ◌-◌, Bool, true, false, cond, ◌||◌, List, [], ◌∷◌, ◌++◌, map}
use Rattle.std.specs.Str.{bytes_eq}
use Rattle.irtext_base.specs.Text.{Text, front, in_dotted}
use Rattle.irtext_base.specs.Own.{Ends}

-- whether the word is one of these
abbrev pub is_one_of : List Text → Text → Bool
is_one_of [] word = false
is_one_of (w ∷ words) word = bytes_eq word w || is_one_of words word

-- the words that are also among the others
abbrev pub shared : List Text → List Text → List Text
shared [] others = []
shared (w ∷ words) others = cond (is_one_of others w) (w ∷ shared words others) (shared words others)

-- the printable characters of ASCII
abbrev printable : String
printable = " !\"#$%&'()*+,-./0123456789:;<=>?@ABCDEFGHIJKLMNOPQRSTUVWXYZ[\\]^_`abcdefghijklmnopqrstuvwxyz{|}~"

abbrev character_at : String → ℕ → Char
character_at none n = "?"
character_at (c ∷ᶜ s) zero = c
character_at (c ∷ᶜ s) (suc n) = character_at s n

-- a word as a text, which an error of the checker shows in letters; words are of ASCII
abbrev pub readable : Text → String
readable [] = none
readable (c ∷ word) = character_at printable (c - 32) ∷ᶜ readable word

-- two families have no word in common; if they have, the error shows the words
abbrev pub AreApart : List Text → List Text → Type 0
AreApart words others = map readable (shared words others) ≡ []

-- each printed text begins with one of the words, if what follows it can end it
pub record BeginsWithWord {X : Type 0} (words : List Text) (written : X → Text) : Type 0 where
  pub leads : (x : X) (rest : Text) → Ends rest → is_one_of words (front in_dotted (written x ++ rest)) ≡ true
