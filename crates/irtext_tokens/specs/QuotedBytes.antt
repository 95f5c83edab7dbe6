-- Quoted strings, in bytes.
use Rattle.std.specs.Prelude.{ℕ, Bool, ◌||◌, ◌==◌, ◌++◌, List, codes}
use Rattle.std.specs.Char.{is_ascii_control}
use Rattle.std.specs.Str.{chars, encode_utf8_all}
use Rattle.irtext_base.specs.Quoted.{hexadecimal, quoted}
use Rattle.irtext_base.specs.Text.{Text}

-- whether a character is escaped in a quoted string
abbrev pub is_escaped : ℕ → Bool
is_escaped c = is_ascii_control c || (c == 34 || c == 92)

-- the escape of a character by its code
abbrev pub by_code : ℕ → Text
by_code c = codes "\\u{" ++ (hexadecimal c ++ codes "}")

-- the bytes of a text as a quoted string
abbrev pub quoted_bytes : List ℕ → List ℕ
quoted_bytes bytes = encode_utf8_all (quoted (chars bytes))
