-- A message about a text as a line of JSON, in bytes.
use Rattle.std.specs.Prelude.{ℕ, ◌||◌, ◌==◌, cond, List, [], ◌∷◌, ◌++◌, codes, Option, Some, None}
use Rattle.std.specs.Borrow.{Bor}
use Rattle.std.specs.Char.{encode_utf8}
use Rattle.std.specs.Fmt.{signed_decimal}
use Rattle.std.specs.Str.{chars}
use Rattle.irtext_excerpt.specs.Excerpt.{is_coded, code_of}
use Rattle.irtext_excerpt.specs.declared.Excerpt.{Excerpt}
use Rattle.irtext_diagnostics.specs.Messages.{word_of, without_newline}
use Rattle.irtext_diagnostics.specs.declared.messages.Severity.{Severity}
use Rattle.irtext_diagnostics.specs.declared.messages.Diagnostic.{Diagnostic}

-- a character that does not print by its code, and any other as it is
abbrev pub json_plain : ℕ → List ℕ
json_plain c = cond (c == 9 || is_coded c) (codes "\\u" ++ code_of c) (encode_utf8 c)

-- a character of a text: a quotation mark and a backslash after a backslash, and a newline as `\n`
abbrev pub json_character : ℕ → List ℕ
json_character c = cond (c == 34) (codes "\\\"") (cond (c == 92) (codes "\\\\") (cond (c == 10) (codes "\\n") (json_plain c)))

-- the characters of a text
abbrev pub json_characters : List ℕ → List ℕ
json_characters [] = []
json_characters (c ∷ text) = json_character c ++ json_characters text

-- a text between quotation marks
abbrev pub json_text : List ℕ → List ℕ
json_text bytes = codes "\"" ++ (json_characters (chars bytes) ++ codes "\"")

-- the members for a line and a column
abbrev pub json_place : Option Excerpt → List ℕ
json_place None = []
json_place (Some place) = codes ",\"line\":" ++ (signed_decimal place.position.line ++ (codes ",\"column\":" ++ signed_decimal place.position.column))

-- the beginning of the object for a message: its file, its place and its severity
abbrev pub json_head : Severity → List ℕ → Option Excerpt → List ℕ
json_head severity path place =
    codes "{\"file\":" ++ (json_text path ++ (json_place place ++ (codes ",\"severity\":\"" ++ (word_of severity ++ codes "\""))))

-- the members for a cause and a message
abbrev pub json_said : List ℕ → List ℕ → List ℕ
json_said cause message = codes ",\"cause\":" ++ (json_text cause ++ (codes ",\"message\":" ++ json_text (without_newline message)))

-- the member for a name
abbrev pub json_name : Option (Bor (List ℕ)) → List ℕ
json_name None = []
json_name (Some name) = codes ",\"name\":" ++ json_text name.now

-- the object for a note
abbrev pub json_note : Diagnostic → List ℕ
json_note note = json_head note.severity note.path.now note.place ++ (codes ",\"message\":" ++ (json_text (without_newline note.message.now) ++ codes "}"))

-- the objects for notes, each after a comma
abbrev pub more_notes : List Diagnostic → List ℕ
more_notes [] = []
more_notes (note ∷ notes) = (44 ∷ json_note note) ++ more_notes notes

-- the objects for notes, with commas between them
abbrev pub json_notes : List Diagnostic → List ℕ
json_notes [] = []
json_notes (note ∷ notes) = json_note note ++ more_notes notes

-- the object for a message, and a newline
abbrev pub json_line : Severity → List ℕ → Option Excerpt → List ℕ → List ℕ → Option (Bor (List ℕ)) → List Diagnostic → List ℕ
json_line severity path place message cause name notes =
    json_head severity path place ++ (json_said cause message ++ (json_name name ++ (codes ",\"notes\":[" ++ (json_notes notes ++ codes "]}\n"))))
