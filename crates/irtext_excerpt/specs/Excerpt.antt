-- An excerpt of a text: the line of a position, and below it a caret under the position's character.
use Rattle.std.specs.Prelude.{◌≡◌, ℕ, zero, suc, ◌+◌, ◌-◌, Bool, false, unwrap_or, true, not, ◌&&◌, ◌||◌, ◌==◌, nat_lt, nat_le, cond, List, [], ◌∷◌, ◌++◌, length, take, drop, replicate, codes, ℤ, pos, negsuc}
use Rattle.std.specs.Fmt.{digits}
use Rattle.std.specs.Str.{chars, encode_utf8_all}
use Rattle.unicode_width.specs.Width.{char_width}
use Rattle.irtext_stream.specs.Text.{Text, is_newline, front, after}

-- a code between two others, which count too
abbrev pub is_between : ℕ → ℕ → ℕ → Bool
is_between low high c = nat_le low c && nat_le c high

-- the characters that are shown by their codes: control characters but the tab, the soft hyphen, spaces and joiners without width,
-- separators of lines and paragraphs, directions, invisible operators, and the mark of byte order
abbrev pub is_coded : ℕ → Bool
is_coded c = (not (c == 9) && nat_lt c 32) || is_between 0x7f 0x9f c || c == 0xad || is_between 0x200b 0x200f c
    || is_between 0x2028 0x202e c || is_between 0x2060 0x206f c || c == 0xfeff

-- the zeros before a code in hexadecimal that has fewer than four digits
abbrev pub zeros : ℕ → Text
zeros c = cond (nat_lt c 0x10) (codes "000") (cond (nat_lt c 0x100) (codes "00") (cond (nat_lt c 0x1000) (codes "0") []))

-- a character's code in upper-case hexadecimal, with at least four digits
abbrev pub code_of : ℕ → Text
code_of c = zeros c ++ digits 16 true c

-- the character that is shown for one that prints: a space for a tab
abbrev pub glyph : ℕ → ℕ
glyph c = cond (c == 9) 32 c

-- a character as it is shown: `U+` and its code, or a tab as a space, and any other as itself
abbrev pub shown_as : ℕ → Text
shown_as c = cond (is_coded c) (codes "U+" ++ code_of c) (glyph c ∷ [])

-- the characters of a text as they are shown
abbrev pub shown : Text → Text
shown [] = []
shown (c ∷ text) = shown_as c ++ shown text

-- the same of several lines, with newlines as they are
abbrev pub shown_lines : Text → Text
shown_lines [] = []
shown_lines (c ∷ text) = cond (is_newline c) (c ∷ []) (shown_as c) ++ shown_lines text

-- the columns of a terminal that a character takes: one, two for a wide one, none for a mark that is combined with the one before
abbrev pub columns_of : ℕ → ℕ
columns_of c = unwrap_or (char_width false c) 0

-- the columns that a text takes
abbrev pub columns : Text → ℕ
columns [] = 0
columns (c ∷ text) = columns_of c + columns text

-- a space for each column
abbrev pub blanks : Text → Text
blanks text = replicate (columns text) 32

-- the part of a line before a caret, and the part from it on
pub record Parts : Type 0 where
  pub before : Text
  pub rest : Text

-- a line without the carriage return at its end, if there is one
abbrev pub without_return : Text → Text
without_return [] = []
without_return (c ∷ []) = cond (c == 13) [] (c ∷ [])
without_return (c ∷ d ∷ line) = c ∷ without_return (d ∷ line)

-- any character but a newline
abbrev pub is_in_line : ℕ → Bool
is_in_line c = not (is_newline c)

-- the place after so many characters of a line, or at its end
abbrev pub after_characters : ℕ → Text → Parts
after_characters n line = record { before = take n line; rest = drop n line }

-- the place in what is after a newline; if none comes, the end of the text, which is its last line
abbrev pub after_newline : Text → Text → (Text → Parts) → Parts
after_newline text [] next = record { before = without_return text; rest = [] }
after_newline text (newline ∷ rest) next = next rest

-- the place after so many newlines and then so many characters
abbrev pub place_in : Text → ℕ → ℕ → Parts
place_in text zero characters = after_characters characters (without_return (front is_in_line text))
place_in text (suc lines) characters = after_newline text (after is_in_line text) (λ rest. place_in rest lines characters)

-- `..` where something was cut
abbrev pub dots : Bool → Text
dots is_cut = cond is_cut (codes "..") []

-- the longest beginning of a text that fits into so many columns as it is shown
abbrev pub beginning : ℕ → Text → Text
beginning room [] = []
beginning room (c ∷ text) = cond (nat_lt room (columns (shown_as c))) [] (c ∷ beginning (room - columns (shown_as c)) text)

-- the longest end of a text that fits into 60 columns as it is shown
abbrev pub ending : Text → Text
ending [] = []
ending (c ∷ text) = cond (nat_lt 60 (columns (shown (c ∷ text)))) (ending text) (c ∷ text)

-- what is shown of a line before the caret: at most 60 characters, and at most 60 columns
abbrev pub last_shown : Text → Text
last_shown before = ending (drop (length before - 60) before)

-- what is shown of it from the caret on
abbrev pub first_shown : Text → Text
first_shown rest = beginning 60 (take 60 rest)

-- that in characters as they are shown, after `..` if something was cut
abbrev pub left_of : Text → Text
left_of before = let last = last_shown before in dots (nat_lt (length last) (length before)) ++ shown last

-- the same from the caret on, with `..` after it
abbrev pub right_of : Text → Text
right_of rest = let first = first_shown rest in shown first ++ dots (nat_lt (length first) (length rest))

-- what is left of the caret and what is right of it in one line, and in the next the spaces up to the caret
abbrev pub pointed : Text → Text → Text
pointed left right = left ++ (right ++ (10 ∷ blanks left))

-- the excerpt at a place, but for its caret
abbrev pub lead_at : Parts → Text
lead_at parts = pointed (left_of parts.before) (right_of parts.rest)

-- how many lines or columns come before the one with this number
abbrev pub preceding : ℤ → ℕ
preceding (pos n) = n - 1
preceding (negsuc n) = 0

-- the excerpt of a text at a line and a column, but for its caret
abbrev pub lead_text : Text → ℤ → ℤ → Text
lead_text text line column = lead_at (place_in text (preceding line) (preceding column))

-- the same in bytes
abbrev pub lead_bytes : List ℕ → ℤ → ℤ → List ℕ
lead_bytes bytes line column = encode_utf8_all (lead_text (chars bytes) line column)

-- the whole excerpt in bytes
abbrev pub excerpt_bytes : List ℕ → ℤ → ℤ → List ℕ
excerpt_bytes bytes line column = lead_bytes bytes line column ++ codes "^"

-- two byte strings are these texts
pub record HasParts (first second : List ℕ) (xs ys : Text) : Type 0 where
  pub first_is : chars first ≡ xs
  pub second_is : chars second ≡ ys

-- they are the parts of the line at a place
abbrev pub InPlace : Text → ℕ → ℕ → List ℕ → List ℕ → Type 0
InPlace text lines characters first second =
    let place = place_in text lines characters in
    HasParts first second place.before place.rest
