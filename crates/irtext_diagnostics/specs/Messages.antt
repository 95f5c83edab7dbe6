-- A message about a text, in the bytes that a terminal shows.
use Rattle.std.specs.Prelude.{ℕ, List, [], ◌∷◌, ◌++◌, codes, cond, ◌==◌, Option, Some, None}
use Rattle.std.specs.Fmt.{signed_decimal}
use Rattle.std.specs.Str.{chars, encode_utf8_all}
use Rattle.irtext_excerpt.specs.Excerpt.{shown, shown_lines, lead_bytes}
use Rattle.irtext_excerpt.specs.declared.Excerpt.{Excerpt}
use Rattle.irtext_diagnostics.specs.declared.messages.Severity.{Severity}
use Rattle.irtext_diagnostics.specs.declared.messages.Severity.TheVariants.{Error, Warning, Note}
use Rattle.irtext_diagnostics.specs.declared.messages.Style.{Style}
use Rattle.irtext_diagnostics.specs.declared.messages.Style.TheVariants.{Plain, Coloured}

-- the word of a severity
abbrev pub word_of : Severity → List ℕ
word_of Error = codes "error"
word_of Warning = codes "warning"
word_of Note = codes "note"

-- the sequence of a terminal that begins its colour: bold red, magenta or cyan
abbrev pub colour_of : Severity → List ℕ
colour_of Error = 27 ∷ codes "[1;31m"
colour_of Warning = 27 ∷ codes "[1;35m"
colour_of Note = 27 ∷ codes "[1;36m"

-- a sequence of a terminal, if there are colours
abbrev pub begin_bytes : Style → List ℕ → List ℕ
begin_bytes Plain sequence = []
begin_bytes Coloured sequence = sequence

-- the sequence that ends a colour, if there are colours
abbrev pub end_bytes : Style → List ℕ
end_bytes style = begin_bytes style (27 ∷ codes "[0m")

-- a text in a colour, if there are colours
abbrev pub painted : Style → List ℕ → List ℕ → List ℕ
painted style sequence text = begin_bytes style sequence ++ (text ++ end_bytes style)

-- a text without the newline at its end, if it has one
abbrev pub without_newline : List ℕ → List ℕ
without_newline [] = []
without_newline (b ∷ []) = cond (b == 10) [] (b ∷ [])
without_newline (b ∷ c ∷ bytes) = b ∷ without_newline (c ∷ bytes)

-- the path of a text, and the line and the column in it, each with a colon after it
abbrev pub origin_bytes : List ℕ → Option Excerpt → List ℕ
origin_bytes path None = encode_utf8_all (shown (chars path)) ++ codes ":"
origin_bytes path (Some place) =
    encode_utf8_all (shown (chars path)) ++ (codes ":" ++ (signed_decimal place.position.line ++ (codes ":" ++ (signed_decimal place.position.column ++ codes ":"))))

-- where a message is about, and its severity: `PATH:LINE:COLUMN: error: `
abbrev pub heading_bytes : Style → Severity → List ℕ → Option Excerpt → List ℕ
heading_bytes style severity path place =
    painted style (27 ∷ codes "[1m") (origin_bytes path place) ++ (codes " " ++ (painted style (colour_of severity) (word_of severity ++ codes ":") ++ codes " "))

-- the lines of the message, with characters that do not print by their codes
abbrev pub said_bytes : List ℕ → List ℕ
said_bytes message = encode_utf8_all (shown_lines (chars (without_newline message)))

-- the line of the place, and a green caret below it
abbrev pub excerpt_lines : Style → Option Excerpt → List ℕ
excerpt_lines style None = []
excerpt_lines style (Some place) =
    lead_bytes place.text.now place.position.line place.position.column ++ (painted style (27 ∷ codes "[1;32m") (codes "^") ++ codes "\n")

-- a whole message
abbrev pub styled_bytes : Style → Severity → List ℕ → Option Excerpt → List ℕ → List ℕ
styled_bytes style severity path place message =
    heading_bytes style severity path place ++ (said_bytes message ++ (codes "\n" ++ excerpt_lines style place))
