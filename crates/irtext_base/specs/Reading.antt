-- A reading relates a text to the rest that a parse leaves of it. Here are readings of words, numbers and lists, each determined by the
-- next character.
use Rattle.std.specs.Prelude.{◌≡◌, ℕ, ◌<◌, ◌^◌, Bool, true, false, ◌==◌, ◌⊎◌, List, [], ◌∷◌, ◌++◌, codes}
use Rattle.std.specs.Char.{is_ascii_digit}
use Rattle.std.specs.Str.Parse.{digits_value}
use Rattle.irtext_base.specs.Text.{Text, begins, front, after, after_space, begins_word, in_word, in_dotted}

-- a relation of a text to the rest that a parse leaves of it
abbrev pub Reading : Type 1
Reading = Text → Text → Type 0

-- one reading, then any white space, and then the other
infixr 20 ◌▹◌
abbrev pub ◌▹◌ : Reading → Reading → Reading
◌▹◌ first second text rest = (between : Text) × first text between × second (after_space between) rest

-- one reading, and right after it the other
infixr 20 ◌▸◌
abbrev pub ◌▸◌ : Reading → Reading → Reading
◌▸◌ first second text rest = (between : Text) × first text between × second between rest

-- nothing is consumed
abbrev pub nothing : Reading
nothing text rest = rest ≡ text

-- nothing is consumed, and no character that passes the test comes next
abbrev pub ends : (ℕ → Bool) → Reading
ends test text rest = (begins test text ≡ false) × (rest ≡ text)

-- no text is parsed
abbrev pub never : Reading
never text rest = ⊥

-- the reading after any white space
abbrev pub white : Reading → Reading
white reading text rest = reading (after_space text) rest

-- the test for one character
abbrev pub the : ℕ → ℕ → Bool
the c d = d == c

-- this word, whatever comes after it
abbrev pub literal : Text → Reading
literal word text rest = text ≡ word ++ rest

-- this dotted word, with no further character of a dotted word after it
abbrev pub keyword : Text → Reading
keyword word text rest = (text ≡ word ++ rest) × (begins in_dotted rest ≡ false)

-- the longest identifier that comes next, which is this name
abbrev pub identifier : Text → Reading
identifier name text rest = (begins begins_word text ≡ true) × (name ≡ front in_word text) × (rest ≡ after in_word text)

-- all decimal digits that come next, which are this number, below 2 ^ 64
abbrev pub digits : ℕ → Reading
digits n text rest = (begins is_ascii_digit text ≡ true) × (n ≡ digits_value 10 (front is_ascii_digit text)) × (n < 2 ^ 64) × (rest ≡ after is_ascii_digit text)

-- a number, with or without a `+` before it
abbrev pub number : ℕ → Reading
number n text rest = (begins (the 43) text ≡ false) × digits n text rest ⊎ (literal (codes "+") ▸ digits n) text rest

-- The elements after the first of a list, with a separator before each; after the last no separator comes.
abbrev pub more : ℕ → List Reading → Reading
more separator [] = ends (the separator)
more separator (item ∷ items) = literal (separator ∷ []) ▹ item ▹ more separator items

-- the elements with a separator between; of an empty list, `missing` says that no element begins
abbrev pub separated : ℕ → (Text → Type 0) → List Reading → Reading
separated separator missing [] text rest = missing text × (rest ≡ text)
separated separator missing (item ∷ items) text rest = (item ▹ more separator items) text rest

-- Elements with any white space after each; after the last, no character that passes the test comes.
abbrev pub repeated : (ℕ → Bool) → List Reading → Reading
repeated test [] = ends test
repeated test (item ∷ items) = item ▹ repeated test items
