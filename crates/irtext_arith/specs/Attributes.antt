-- For callers: the texts of the attributes of the dialect `arith`, over the types `T` of the context.
use Rattle.std.specs.Prelude.{ℤ, Bool, true, false, cond, Option, Some, None, List, [], ◌∷◌, ◌++◌, codes}
use Rattle.std.specs.Str.{bytes_eq}
use Rattle.irtext_base.specs.Text.{Text}
use Rattle.irtext_base.specs.Faults.{AnAttribute}
use Rattle.irtext_tokens.specs.Infix.{Reader, ◌▷◌, ◌⇒◌}
use Rattle.irtext_tokens.specs.Tokens.{space_at}
use Rattle.irtext_syntax.specs.Shapes.{Shape, angle, colon, comma, number, quoted, flag, ranged, own, then_of, within}
use Rattle.irtext_syntax.specs.Tables.{table_at}
use Rattle.irtext_arith.specs.Predicates.{predicate}
use Rattle.irtext_syntax.specs.IntegerKinds.{i64}
use Rattle.irtext_syntax.specs.ScalarTexts.{ScalarText}
use Rattle.irtext_syntax.specs.declared.number.Number.{Number}
use Rattle.irtext_syntax.specs.declared.own.Own.{Own}
use Rattle.irtext_syntax.specs.declared.range.Ranged.{Ranged}
use Rattle.irtext_syntax.specs.declared.ready.Angle.{Angle}
use Rattle.irtext_syntax.specs.declared.ready.Colon.{Colon}
use Rattle.irtext_syntax.specs.declared.ready.Comma.{Comma}
use Rattle.irtext_syntax.specs.declared.sequence.Then.{Then}
use Rattle.irtext_syntax.specs.declared.sequence.Within.{Within}
use Rattle.irtext_arith.specs.declared.predicate.Predicate.{Predicate}
use Rattle.irtext_arith.specs.declared.fixed.Bytes.{Bytes}
use Rattle.irtext_arith.specs.contracts.fixed.BytesRange.TheImpl as bytes
use Rattle.irtext_arith.specs.declared.attributes.AttrWord.{AttrWord}
use Rattle.irtext_arith.specs.declared.attributes.AttrWord.TheVariants as word
use Rattle.irtext_arith.specs.declared.attributes.ArithAttr.{ArithAttr}
use Rattle.irtext_arith.specs.declared.attributes.ArithAttr.TheVariants as attr

-- the words that attributes begin with
abbrev pub attr_words : List Text
attr_words = codes "arith.value" ∷ codes "arith.predicate" ∷ codes "arith.overflow" ∷ codes "arith.align" ∷ codes "arith.doc" ∷ []

-- the word of an attribute that a text is, if it is one
abbrev pub attr_word : Text → Option AttrWord
attr_word text = cond (bytes_eq text (codes "arith.value")) (Some word.Value) (cond (bytes_eq text (codes "arith.predicate")) (Some word.Compares) (cond (bytes_eq text (codes "arith.overflow")) (Some word.Overflow) (cond (bytes_eq text (codes "arith.align")) (Some word.Align) (cond (bytes_eq text (codes "arith.doc")) (Some word.Doc) None))))

module _ {T : Type 0} (type_at : Reader T) (type_text : T → Text) (type_eq : T → T → Bool) where
  -- what comes after `arith.value`: <N: T>
  abbrev pub value_shape : Shape (Within Angle (Then (Number ℤ i64.radix) Colon (Own T)))
  value_shape = within angle (then_of (number i64) colon (own type_at type_text type_eq))

  -- what comes after `arith.predicate`: eq|ne|lt|le
  abbrev pub compares_shape : Shape Predicate
  compares_shape = predicate

  -- what comes after `arith.overflow`: <nsw?, nuw?>
  abbrev pub overflow_shape : Shape (Within Angle (Then Bool Comma Bool))
  overflow_shape = within angle (then_of (flag (codes "nsw")) comma (flag (codes "nuw")))

  -- what comes after `arith.align`: N
  abbrev pub align_shape : Shape (Ranged Bytes bytes.ghosts)
  align_shape = ranged bytes.ghosts

  -- what comes after `arith.doc`: "S"
  abbrev pub doc_shape : Shape ScalarText
  doc_shape = quoted

  -- the text that is printed for an attribute
  abbrev pub attr_text : ArithAttr T → Text
  attr_text (attr.Value x) = codes "arith.value " ++ value_shape.written x
  attr_text (attr.Compares x) = codes "arith.predicate " ++ compares_shape.written x
  attr_text (attr.Overflow x) = codes "arith.overflow " ++ overflow_shape.written x
  attr_text (attr.Align x) = codes "arith.align " ++ align_shape.written x
  attr_text (attr.Doc x) = codes "arith.doc " ++ doc_shape.written x

  -- the rest of an attribute, after its word
  abbrev pub attr_after : AttrWord → Reader (ArithAttr T)
  attr_after word.Value = (space_at ▷ value_shape.reading) ⇒ attr.Value
  attr_after word.Compares = (space_at ▷ compares_shape.reading) ⇒ attr.Compares
  attr_after word.Overflow = (space_at ▷ overflow_shape.reading) ⇒ attr.Overflow
  attr_after word.Align = (space_at ▷ align_shape.reading) ⇒ attr.Align
  attr_after word.Doc = (space_at ▷ doc_shape.reading) ⇒ attr.Doc

  -- an attribute's word, and the rest of the attribute
  abbrev pub attr_at : Reader (ArithAttr T)
  attr_at = table_at attr_word attr_after (codes "Unregistered attribute ") AnAttribute

  -- whether two attributes are equal
  abbrev pub attr_eq : ArithAttr T → ArithAttr T → Bool
  attr_eq (attr.Value x) (attr.Value y) = value_shape.test x y
  attr_eq (attr.Compares x) (attr.Compares y) = compares_shape.test x y
  attr_eq (attr.Overflow x) (attr.Overflow y) = overflow_shape.test x y
  attr_eq (attr.Align x) (attr.Align y) = align_shape.test x y
  attr_eq (attr.Doc x) (attr.Doc y) = doc_shape.test x y
  attr_eq _ _ = false

-- the attributes that the section after the root holds
abbrev pub is_outlined : {T : Type 0} → ArithAttr T → Bool
is_outlined (attr.Doc x) = true
is_outlined _ = false

-- the attributes that the section prints once
abbrev pub is_print_once : {T : Type 0} → ArithAttr T → Bool
is_print_once (attr.Doc x) = true
is_print_once _ = false
