-- For callers: what separates the items of a list, and the texts of plain values.
use Rattle.std.specs.Prelude.{ℕ, Bool, true, false, List, [], ◌∷◌, ◌++◌, codes}
use Rattle.std.specs.Char.{encode_utf8}
use Rattle.irtext_tokens.specs.declared.irfmt.separator.ListSeparator.{ListSeparator}
use Rattle.irtext_tokens.specs.declared.irfmt.separator.ListSeparator.TheVariants as separators
use Rattle.irtext_print.specs.Printers.Printing.{indent_of}
use Rattle.irtext_print.specs.Printers.Shown.{Shown}
use Rattle.irtext_grammar.specs.Spelling.Spell.{newline}

-- the text of a separator, in a printing state
abbrev pub separator_text : {U : Type 0} → ListSeparator → Shown U → List ℕ
separator_text separators.None s = []
separator_text separators.Newline s = newline (indent_of s)
separator_text (separators.CharNewline c) s = encode_utf8 c ++ newline (indent_of s)
separator_text (separators.Char c) s = encode_utf8 c
separator_text (separators.CharSpace c) s = encode_utf8 c ++ 32 ∷ []

-- the text of a Boolean
abbrev pub bool_text : Bool → List ℕ
bool_text true = codes "true"
bool_text false = codes "false"
