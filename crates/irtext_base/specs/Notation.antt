-- The notation of formats: the text of a format, and the format that a text denotes.
use Rattle.std.specs.Prelude.{◌≡◌, ℕ, zero, suc, ◌^◌, Result, Ok, Err, Bool, true, false, cond, nat_lt, List, [], ◌∷◌, ◌++◌, length, codes, flat_map}
use Rattle.std.specs.Fmt.{decimal}
use Rattle.std.specs.List.{list_all, join_by}
use Rattle.irtext_base.specs.FormatViews.{directive_of, format_of}
use Rattle.irtext_base.specs.declared.format.Directive as code
use Rattle.std.specs.Str.{encode_utf8_all}
use Rattle.irtext_base.specs.Text.{Text, begins, front, after, after_space, begins_word, in_word, is_identifier}
use Rattle.irtext_base.specs.Format.{Format, canonical, custom, Directive, word, operand, operands, successor, successors, attribute, dictionary, result_type, region, regions, header, word_prints}
use Rattle.irtext_base.specs.declared.format.OpFormat.{OpFormat}
use Rattle.irtext_stream.specs.NotationFaults.{Faults}
use Rattle.irtext_stream.specs.declared.notation.fault.NotationFault.{NotationFault}
use Rattle.irtext_stream.specs.NotationPieces.{spelled, Meaning, means, unmet, mapped, followed, is_end, past, led, index_at, closed_at, letters_after}
use Rattle.irtext_stream.specs.declared.notation.fault.NotationPart.TheVariants as part

-- the notation of a directive
abbrev pub directive_text : Directive → Text
directive_text (word s) = codes "`" ++ (flat_map spelled s ++ codes "`")
directive_text (operand i) = codes "$" ++ decimal i
directive_text operands = codes "operands"
directive_text (successor i) = codes "^" ++ decimal i
directive_text successors = codes "successors"
directive_text (attribute k) = codes "$" ++ k
directive_text dictionary = codes "attr_dict"
directive_text (result_type i) = codes "type($" ++ (decimal i ++ codes ")")
directive_text (region i) = codes "{" ++ (decimal i ++ codes "}")
directive_text regions = codes "regions"
directive_text header = codes "@name"

-- the notation of a format: the word `canonical`, or that of its directives with a space between them
abbrev pub notation_text : Format → Text
notation_text canonical = codes "canonical"
notation_text (custom ds) = join_by directive_text (codes " ") ds

-- after a `$`: the key of an attribute, which is the longest identifier that comes next, or the index of an operand
abbrev pub variable_at : Text → Meaning Directive
variable_at text = cond (begins begins_word text) (means (attribute (front in_word text)) (after in_word text)) (mapped operand (index_at part.KeyOrIndex text))

-- a literal with these characters, of which there must be one
abbrev pub filled : Text → Text → Text → Meaning Directive
filled text [] rest = unmet part.Character text
filled text (c ∷ s) rest = means (word (c ∷ s)) rest

-- after a backquote: the characters of a literal, and a backquote
abbrev pub literal_at : Text → Meaning Directive
literal_at text = followed (letters_after [] false text) (filled text)

-- a directive that is always written in one way
abbrev pub fixed_at : Text → Meaning Directive
fixed_at text = led (past (codes "@name") text) (means header)
    (led (past (codes "operands") text) (means operands)
    (led (past (codes "successors") text) (means successors)
    (led (past (codes "regions") text) (means regions)
    (led (past (codes "attr_dict") text) (means dictionary)
    (unmet part.Directive text)))))

-- a directive
abbrev pub directive_at : Text → Meaning Directive
directive_at text = led (past (codes "`") text) literal_at
    (led (past (codes "$") text) variable_at
    (led (past (codes "^") text) (λ rest. mapped successor (index_at part.Index rest))
    (led (past (codes "{") text) (λ rest. mapped region (closed_at (codes "}") part.Brace rest))
    (led (past (codes "type($") text) (λ rest. mapped result_type (closed_at (codes ")") part.Parenthesis rest))
    (fixed_at text)))))

-- The directives up to the end of the text, after those found so far, with any white space after each. Each takes at least one character,
-- so no more of them come than the text has characters, which is the number.
abbrev pub directives_after : ℕ → List Directive → Text → Meaning Format
directives_after n found [] = means (custom found) []
directives_after zero found (c ∷ text) = unmet part.Directive (c ∷ text)
directives_after (suc n) found (c ∷ text) = followed (directive_at (c ∷ text)) (λ d rest. directives_after n (found ++ d ∷ []) (after_space rest))

-- the canonical form, if the text ends here
abbrev pub canonical_at : Text → Meaning Format
canonical_at text = cond (is_end text) (means canonical text) (unmet part.End text)

-- the format that a text without white space before it denotes: the canonical form for the word `canonical` alone, or directives
abbrev pub format_at : Text → Meaning Format
format_at text = led (past (codes "canonical") text) (λ rest. canonical_at (after_space rest)) (directives_after (length text) [] text)

-- the format that a text denotes, with no text after it; or where the text is wrong, and what is expected there
abbrev pub notation_at : Text → Meaning Format
notation_at text = format_at (after_space text)

-- the bytes of a space and the notation of a directive
abbrev pub spaced_bytes : code.Directive → List ℕ
spaced_bytes d = codes " " ++ encode_utf8_all (directive_text (directive_of d))

-- a directive has a notation: a literal is one or more printable ASCII characters, a key is an identifier, an index is below 2 ^ 64
abbrev pub has_text : Directive → Bool
has_text (attribute k) = is_identifier k
has_text (operand i) = nat_lt i (2 ^ 64)
has_text (successor i) = nat_lt i (2 ^ 64)
has_text (result_type i) = nat_lt i (2 ^ 64)
has_text (region i) = nat_lt i (2 ^ 64)
has_text d = word_prints d

-- a format has a notation: it is the canonical form, or each of its directives has one
abbrev pub has_notation : Format → Bool
has_notation canonical = true
has_notation (custom ds) = list_all has_text ds

-- the format is the one that the text denotes, or the error says what is expected and where
abbrev pub Denotes : Text → Result OpFormat NotationFault → Type 0
Denotes text (Ok format) = notation_at text ≡ means (format_of format) []
Denotes text (Err e) = Faults text (notation_at text) e
