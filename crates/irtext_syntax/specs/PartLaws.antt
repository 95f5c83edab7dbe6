-- The law of a part: how its text is parsed back, whatever precedes and follows it.
use Rattle.std.specs.Prelude.{◌≡◌, ◌↔◌, ℕ, Bool, true, IsTrue, ◌&&◌, ◌==◌, ◌∷◌, ◌++◌, codes}
use Rattle.std.specs.Str.{all_scalars}
use Rattle.irtext_base.specs.Text.{Text, begins, after_space}
use Rattle.irtext_base.specs.Format.{has}
use Rattle.irtext_base.specs.Answers.{Outcome}
use Rattle.irtext_base.specs.Own.{found, missing, verdict, can_follow, Ends, Sincere}

-- a character that closes or separates parts
abbrev pub is_closer : ℕ → Bool
is_closer c = has ◌==◌ c (codes ",;:)]}>")

-- the text begins with such a character, or with white space and then such a character
abbrev pub closes : Text → Bool
closes text = begins can_follow text && begins is_closer (after_space text)

-- the value is parsed at the beginning of the text, after any white space, and only white space is left before `rest`
abbrev pub IsRead : {X : Type 0} → (Text → Outcome X) → X → Text → Text → Type 0
IsRead reading x text rest = (left : Text) × (verdict (reading (after_space text)) ≡ found x left) × (after_space left ≡ after_space rest)

-- the law of a part: a printed text is parsed back before every text that can come after it, as each does that begins with a closing
-- character; printed texts consist of Unicode scalar values; and what the parser says about a text is about that text
pub record PartLaw {X : Type 0} (reading : Text → Outcome X) (written : X → Text) (ends : Text → Bool) : Type 0 where
  pub back : (x : X) (rest : Text) → ends rest ≡ true → IsRead reading x (written x ++ rest) rest
  pub closed : (rest : Text) → closes rest ≡ true → ends rest ≡ true
  pub scalars : (x : X) → all_scalars (written x) ≡ true
  pub sincere : Sincere reading

-- the text of a part: what is parsed of a text, what is printed for a value, and whether a text can come right after that
pub record PartText (X : Type 0) : Type 0 where
  pub reading : Text → Outcome X
  pub written : X → Text
  pub ends : Text → Bool

-- the laws of a part: that of its text, and that equal values are one
pub record PartLaws {X : Type 0} (text : PartText X) (test : X → X → Bool) : Type 0 where
  pub law : PartLaw text.reading text.written text.ends
  pub decides : (x y : X) → IsTrue (test x y) ↔ (x ≡ y)

-- no value is found where a closing character comes
pub record MissesClosers {X : Type 0} (reading : Text → Outcome X) : Type 0 where
  pub misses : (c : ℕ) (rest : Text) → is_closer c ≡ true → verdict (reading (c ∷ rest)) ≡ missing

-- whatever can end a type's or an attribute's text can come next
pub record EndsAnywhere (ends : Text → Bool) : Type 0 where
  pub anywhere : (rest : Text) → Ends rest → ends rest ≡ true
