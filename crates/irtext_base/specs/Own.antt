-- What a caller's types and attributes mean by their texts, and the laws of parsing and printing them.
use Rattle.std.specs.Prelude.{◌≡◌, ℕ, true, false, ◌==◌, ◌⊎◌, ◌||◌, ◌++◌, Bool, Option, [], codes, length, ⊤}
use Rattle.std.specs.Char.{is_whitespace}
use Rattle.std.specs.Str.{all_scalars}
use Rattle.irtext_base.specs.Text.{Text, begins, after_space, begins_word}
use Rattle.irtext_base.specs.Reading.{Reading, never, keyword}
use Rattle.irtext_base.specs.Answers.{Outcome, Read, Missing, Bad}
use Rattle.irtext_base.specs.Faults.{Fault, Unexpected, NumberRange, BadEscape, BadUnicodeEscape, EmptyItem, BadSeparator, OwnText}
use Rattle.irtext_base.specs.Format.{Format, Id, has}

-- what the grammar uses of an outcome: a value and the rest of the text, that no such value begins here, or that the text is bad
pub data Verdict (X : Type 0) : Type 0 where
  found : X → Text → Verdict X
  missing : Verdict X
  bad : Verdict X

-- the outcome of a parser, as the grammar uses it
abbrev pub verdict : {X : Type 0} → Outcome X → Verdict X
verdict (Read x taken rest) = found x rest
verdict (Missing cause) = missing
verdict (Bad cause upto) = bad

-- what a type means by its texts: what is parsed of a text, and what is printed of a value
pub record Texts (X : Type 0) : Type 0 where
  pub outcome : Text → Verdict X
  pub written : X → Text

-- the texts of a type with these outcomes and these printed texts
abbrev pub texts_of : {X : Type 0} → (Text → Outcome X) → (X → Text) → Texts X
texts_of reading written = record { outcome = λ text. verdict (reading text); written = written }

-- where nodes are in the text, what types and attributes mean by their texts, the format of each registered operation, and what is parsed
-- where a region is left out
pub record Language (P T A : Type 0) : Type 1 where
  pub at : P → Text → Type 0
  pub types : Texts T
  pub owns : Texts A
  pub format_of : Id → Option Format
  pub left_out : Reading

-- a language in which a place is the number of characters from it to the end of the text, and no region can be left out
abbrev pub language : {T A : Type 0} → Texts T → Texts A → (Id → Option Format) → Language ℕ T A
language types owns formats = record { at = λ place text. place ≡ length text; types = types; owns = owns; format_of = formats; left_out = never }

-- the same language without places of nodes
abbrev pub unplaced : {T A : Type 0} → Texts T → Texts A → (Id → Option Format) → Language ⊤ T A
unplaced types owns formats = record { at = λ place text. ⊤; types = types; owns = owns; format_of = formats; left_out = never }

-- a character that can come right after the text of a type or an attribute
abbrev pub can_follow : ℕ → Bool
can_follow c = is_whitespace c || has ◌==◌ c (codes ",;:)]}>")

-- the text of a type or an attribute can end before this text: it is empty, or it begins with such a character
abbrev pub Ends : Text → Type 0
Ends text = (text ≡ []) ⊎ (begins can_follow text ≡ true)

-- the law of parsing and printing one kind of value: each printed text begins with a letter or `_`, no value is found in a text that does
-- not, a printed text that ends there is parsed back, and printed texts consist of Unicode scalar values
pub record Lawful (X : Type 0) (texts : Texts X) : Type 0 where
  pub starts : (x : X) (rest : Text) → begins begins_word (texts.written x ++ rest) ≡ true
  pub misses : (text : Text) → begins begins_word text ≡ false → texts.outcome text ≡ missing
  pub again : (x : X) (rest : Text) → Ends rest → (left : Text) × (texts.outcome (texts.written x ++ rest) ≡ found x left) × (after_space left ≡ after_space rest)
  pub scalars : (x : X) → all_scalars (texts.written x) ≡ true

-- a cause of an error with nothing consumed: something else is expected, a separator is white space, or a message of the caller
abbrev pub is_first_fault : Fault → Bool
is_first_fault (Unexpected c demand) = true
is_first_fault BadSeparator = true
is_first_fault (OwnText text) = true
is_first_fault _ = false

-- a cause of an error only after something was consumed: a number is out of range, an escape is bad, or an element of a list consumes
-- nothing
abbrev pub is_later_fault : Fault → Bool
is_later_fault (NumberRange text) = true
is_later_fault (BadEscape c) = true
is_later_fault (BadUnicodeEscape digits) = true
is_later_fault EmptyItem = true
is_later_fault _ = false

-- a cause that is about the text: neither out of memory, nor that the stream had failed, nor about the operations around the text
abbrev pub is_text_fault : Fault → Bool
is_text_fault cause = is_first_fault cause || is_later_fault cause

-- the text begins with these characters
abbrev pub IsFront : Text → Text → Type 0
IsFront front text = (left : Text) × (front ++ left ≡ text)

-- What a parser says about a text is about that text: a value consumes a prefix of it, an error that is not committed has a cause of an
-- error with nothing consumed, and a committed one has a cause about the text, at a position in it.
pub record Sincere {X : Type 0} (reading : Text → Outcome X) : Type 0 where
  pub reads : (text : Text) (x : X) (taken left : Text) → reading text ≡ Read x taken left → taken ++ left ≡ text
  pub passes : (text : Text) (cause : Fault) → reading text ≡ Missing cause → is_first_fault cause ≡ true
  pub commits : (text : Text) (cause : Fault) (upto : Text) → reading text ≡ Bad cause upto → (is_text_fault cause ≡ true) × IsFront upto text

-- no attribute's text begins with `builtin.given_names` or `builtin.identifier`, which are parsed before it
pub record Unreserved (A : Type 0) (texts : Texts A) : Type 0 where
  pub given_names : (a : A) (rest left : Text) → keyword (codes "builtin.given_names") (texts.written a ++ rest) left → ⊥
  pub identifier : (a : A) (rest left : Text) → keyword (codes "builtin.identifier") (texts.written a ++ rest) left → ⊥
