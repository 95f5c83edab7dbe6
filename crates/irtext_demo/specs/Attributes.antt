-- For callers: the texts of the demo attributes.
use Rattle.std.specs.Prelude.{ℤ, Bool, true, false, cond, Option, Some, None, List, [], ◌∷◌, ◌++◌, codes}
use Rattle.std.specs.Str.{bytes_eq}
use Rattle.irtext_base.specs.Text.{Text}
use Rattle.irtext_base.specs.Faults.{AnAttribute}
use Rattle.irtext_tokens.specs.Tokens.{space_at}
use Rattle.irtext_tokens.specs.Infix.{Reader, ◌▷◌, ◌⇒◌}
use Rattle.irtext_syntax.specs.IntegerKinds.{i64}
use Rattle.irtext_syntax.specs.Shapes.{Shape, angle, arrow, colon, list_of, number, quoted, round, then_of, within}
use Rattle.irtext_syntax.specs.Tables.{table_at}
use Rattle.irtext_syntax.specs.declared.number.Number.{Number}
use Rattle.irtext_syntax.specs.declared.ready.Angle.{Angle}
use Rattle.irtext_syntax.specs.declared.ready.Arrow.{Arrow}
use Rattle.irtext_syntax.specs.declared.ready.Colon.{Colon}
use Rattle.irtext_syntax.specs.declared.sequence.Then.{Then}
use Rattle.irtext_syntax.specs.declared.sequence.Within.{Within}
use Rattle.irtext_demo.specs.IntegerTypes.{integer_type}
use Rattle.irtext_demo.specs.Types.{demo_type}
use Rattle.irtext_demo.specs.declared.integer_type.IntegerType.{IntegerType}
use Rattle.irtext_demo.specs.declared.types.DemoType.{DemoType}
use Rattle.irtext_demo.specs.declared.attributes.AttrWord.{AttrWord}
use Rattle.irtext_demo.specs.declared.attributes.AttrWord.TheVariants as word
use Rattle.irtext_demo.specs.declared.attributes.DemoAttr.{DemoAttr}
use Rattle.irtext_demo.specs.declared.attributes.DemoAttr.TheVariants as attr

-- the words that attributes begin with
abbrev pub attr_words : List Text
attr_words = codes "builtin.integer" ∷ codes "builtin.string" ∷ codes "builtin.function" ∷ codes "test.dbg" ∷ []

-- the word of an attribute that a text is, if it is one
abbrev pub attr_word : Text → Option AttrWord
attr_word text = cond (bytes_eq text (codes "builtin.integer")) (Some word.Integer) (cond (bytes_eq text (codes "builtin.string")) (Some word.String)
    (cond (bytes_eq text (codes "builtin.function")) (Some word.Function) (cond (bytes_eq text (codes "test.dbg")) (Some word.Debug) None)))

-- what comes after `builtin.integer`: <N: W>
abbrev pub integer_shape : Shape (Within Angle (Then (Number ℤ i64.radix) Colon IntegerType))
integer_shape = within angle (then_of (number i64) colon integer_type)

-- a list of types in parentheses
abbrev pub types_shape : Shape (List DemoType)
types_shape = list_of round demo_type

-- what comes after `builtin.function`: <(T, ..)->(T, ..)>
abbrev pub function_shape : Shape (Within Angle (Then (List DemoType) Arrow (List DemoType)))
function_shape = within angle (then_of types_shape arrow types_shape)

-- the text that is printed for an attribute
abbrev pub attr_text : DemoAttr → Text
attr_text (attr.Integer x) = codes "builtin.integer " ++ integer_shape.written x
attr_text (attr.String x) = codes "builtin.string " ++ quoted.written x
attr_text (attr.Function x) = codes "builtin.function " ++ function_shape.written x
attr_text (attr.Debug x) = codes "test.dbg " ++ quoted.written x

-- the rest of an attribute, after its word
abbrev pub attr_after : AttrWord → Reader DemoAttr
attr_after word.Integer = (space_at ▷ integer_shape.reading) ⇒ attr.Integer
attr_after word.String = (space_at ▷ quoted.reading) ⇒ attr.String
attr_after word.Function = (space_at ▷ function_shape.reading) ⇒ attr.Function
attr_after word.Debug = (space_at ▷ quoted.reading) ⇒ attr.Debug

-- an attribute's word, and the rest of the attribute
abbrev pub attr_at : Reader DemoAttr
attr_at = table_at attr_word attr_after (codes "Unregistered attribute ") AnAttribute

-- only debug notes are outlined and print-once
abbrev pub is_debug : DemoAttr → Bool
is_debug (attr.Debug text) = true
is_debug _ = false
