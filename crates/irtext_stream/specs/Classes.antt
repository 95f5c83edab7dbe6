-- Classes of characters.
use Rattle.std.specs.Prelude.{ℕ, Bool, ◌||◌, ◌==◌}
use Rattle.std.specs.Char.{is_ascii_digit, is_ascii_hexdigit, is_whitespace}
use Rattle.irtext_stream.specs.Text.{front, after, begins_word, in_word, is_plain}
use Rattle.irtext_stream.specs.Stream.{StreamView, after_taken}
use Rattle.irtext_stream.specs.declared.class.Class.{Class}
use Rattle.irtext_stream.specs.declared.class.Class.TheVariants as class

-- whether a character is of a class
abbrev pub has : Class → ℕ → Bool
has class.WhiteSpace c = is_whitespace c
has class.Digit c = is_ascii_digit c
has class.HexadecimalDigit c = is_ascii_hexdigit c
has class.Beginning c = begins_word c
has class.Word c = in_word c
has class.Dotted c = in_word c || c == 46
has class.Plain c = is_plain c

-- the bit of a class in a table of bytes
abbrev pub bit_of : Class → ℕ
bit_of class.WhiteSpace = 1
bit_of class.Digit = 2
bit_of class.HexadecimalDigit = 4
bit_of class.Beginning = 8
bit_of class.Word = 16
bit_of class.Dotted = 32
bit_of class.Plain = 64

-- the stream after the longest run of characters of a class that comes next
abbrev pub after_front : Class → StreamView → StreamView
after_front class v = after_taken v (front (has class) v.rest) (after (has class) v.rest)

-- the stream after the white space that comes next
abbrev pub after_spaces : StreamView → StreamView
after_spaces v = after_front class.WhiteSpace v
