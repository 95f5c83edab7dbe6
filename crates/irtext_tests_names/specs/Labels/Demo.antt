-- A small dialect for rows of labels, in which types and attributes are their texts.
use Rattle.std.specs.Prelude.{ℕ, Bool, true, false, cond, [], ◌∷◌, codes, Option, Some, None, ⊤}
use Rattle.irtext_base.specs.Text.{Text}
use Rattle.irtext_base.specs.Format as format
use Rattle.irtext_base.specs.Format.{Id, same_text}
use Rattle.irtext_base.specs.Own.{Language, unplaced}
use Rattle.irtext_grammar.specs.Graphs.Graph.{Printing}
use Rattle.irtext_tests_names.specs.Demo.{texts}

-- the formats of the operations of the rows, whatever their dialect
abbrev pub format_of : Id → Option format.Format
format_of id = cond (same_text id.name (codes "module")) (Some (format.custom (format.header ∷ format.region 0 ∷ [])))
    (cond (same_text id.name (codes "br")) (Some (format.custom (format.successor 0 ∷ [])))
    (cond (same_text id.name (codes "use")) (Some (format.custom (format.operand 0 ∷ [])))
    (cond (same_text id.name (codes "func")) (Some (format.custom (format.header ∷ format.word (codes ":") ∷ format.attribute (codes "builtin_func_type") ∷ format.region 0 ∷ [])))
    (cond (same_text id.name (codes "constant")) (Some (format.custom (format.attribute (codes "test_value") ∷ format.word (codes ":") ∷ format.result_type 0 ∷ [])))
    (cond (same_text id.name (codes "return")) (Some (format.custom (format.operands ∷ [])))
    (cond (same_text id.name (codes "nop")) (Some (format.custom [])) None))))))

-- modules and functions are isolated
abbrev pub isolated : Id → Bool
isolated id = cond (same_text id.name (codes "module")) true (same_text id.name (codes "func"))

-- the language in which the rows are written, without places
abbrev pub demo : Language ⊤ Text Text
demo = unplaced texts texts format_of

-- names of values by number and of blocks by place; the caller's attributes are printed in place
abbrev pub naming : (ℕ → Option Text) → (ℕ → Option Text) → Printing Text Text
naming given label = record {
  given = given;
  label = λ block. label block.0;
  type_of = λ value. None;
  own_outlined = λ attribute. false;
  own_once = λ attribute. false;
  same_own = same_text;
  format_of = format_of;
}

-- one number has this name
abbrev pub one : ℕ → Text → ℕ → Option Text
one n name m = cond (same_text (m ∷ []) (n ∷ [])) (Some name) None

-- nothing has a name
abbrev pub nobody : ℕ → Option Text
nobody n = None
