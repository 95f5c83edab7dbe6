-- A small dialect for worked rows, in which types and attributes are their texts.
use Rattle.std.specs.Prelude.{ℕ, Bool, true, false, cond, [], ◌∷◌, codes, Option, Some, None, ⊤}
use Rattle.irtext_base.specs.Text.{Text}
use Rattle.irtext_base.specs.Format as format
use Rattle.irtext_base.specs.Format.{Id, same_text}
use Rattle.irtext_base.specs.Own.{Language, language, unplaced, Texts, missing}
use Rattle.irtext_grammar.specs.Graphs.Graph.{Printing}

-- an id of the dialect `builtin`
abbrev pub builtin : Text → Id
builtin name = record { dialect = codes "builtin"; name = name }

-- an id of the dialect `test`
abbrev pub test : Text → Id
test name = record { dialect = codes "test"; name = name }

-- the formats of `module`, `br`, `use`, `make`, `scope`, `nop` and `global`, whatever their dialect
abbrev pub format_of : Id → Option format.Format
format_of id = cond (same_text id.name (codes "module")) (Some (format.custom (format.header ∷ format.region 0 ∷ [])))
    (cond (same_text id.name (codes "br")) (Some (format.custom (format.successor 0 ∷ [])))
    (cond (same_text id.name (codes "use")) (Some (format.custom (format.operand 0 ∷ [])))
    (cond (same_text id.name (codes "make")) (Some (format.custom (format.word (codes ":") ∷ format.result_type 0 ∷ [])))
    (cond (same_text id.name (codes "scope")) (Some (format.custom (format.region 0 ∷ [])))
    (cond (same_text id.name (codes "nop")) (Some (format.custom []))
    (cond (same_text id.name (codes "global")) (Some format.canonical) None))))))

-- modules are isolated
abbrev pub isolated : Id → Bool
isolated id = same_text id.name (codes "module")

-- a value is printed as its text; no row parses one
abbrev pub texts : Texts Text
texts = record { outcome = λ text. missing; written = λ text. text }

-- the language in which the rows are written, without places
abbrev pub demo : Language ⊤ Text Text
demo = unplaced texts texts format_of

-- the same language, in which a place is the number of characters from it to the end of the text
abbrev pub counted_demo : Language ℕ Text Text
counted_demo = language texts texts format_of

-- no value and no block has a name, and the caller's attributes are written once, in the section
abbrev pub plain_printing : Printing Text Text
plain_printing = record { given = λ value. None; label = λ block. None; type_of = λ value. None; own_outlined = λ attribute. true; own_once = λ attribute. true; same_own = same_text; format_of = format_of }

-- the same with attributes printed in place
abbrev pub inline_printing : Printing Text Text
inline_printing = record plain_printing { own_outlined = λ attribute. false }

-- the block at place 1 has the label `a`, every other one the label `b`
abbrev pub a_or_b : ℕ → Option Text
a_or_b place = cond (same_text (place ∷ []) (1 ∷ [])) (Some (codes "a")) (Some (codes "b"))

-- blocks with these labels
abbrev pub labelled_printing : Printing Text Text
labelled_printing = record plain_printing { label = λ block. a_or_b block.0 }
