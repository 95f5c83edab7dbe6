-- For callers: the texts of the heads of the types of the dialect `llvm`.
use Rattle.std.specs.Prelude.{ℕ, Bool, true, false, cond, Option, Some, None, List, [], ◌∷◌, ◌++◌, codes}
use Rattle.std.specs.Str.{bytes_eq}
use Rattle.irtext_base.specs.Text.{Text}
use Rattle.irtext_base.specs.Faults.{AType}
use Rattle.irtext_tokens.specs.Infix.{Reader, nothing, ◌▷◌, ◌⇒◌}
use Rattle.irtext_tokens.specs.Tokens.{space_at}
use Rattle.irtext_syntax.specs.Shapes.{Shape, Around, angle, number, quoted, ranged, within}
use Rattle.irtext_syntax.specs.Tables.{table_at}
use Rattle.irtext_tree.specs.Growths.{Growth}
use Rattle.irtext_tree.specs.Marks.{mark_at, more_at, opened_at}
use Rattle.irtext_tree.specs.declared.waits.Waits.{Waits}
use Rattle.irtext_llvm.specs.FloatKinds.{float_kind}
use Rattle.irtext_syntax.specs.IntegerKinds.{u32, u64}
use Rattle.irtext_syntax.specs.ScalarTexts.{ScalarText}
use Rattle.irtext_syntax.specs.declared.number.Number.{Number}
use Rattle.irtext_syntax.specs.declared.range.Ranged.{Ranged}
use Rattle.irtext_syntax.specs.declared.ready.Angle.{Angle}
use Rattle.irtext_syntax.specs.declared.sequence.Within.{Within}
use Rattle.irtext_llvm.specs.declared.float_kind.FloatKind.{FloatKind}
use Rattle.irtext_llvm.specs.declared.fixed.Bits.{Bits}
use Rattle.irtext_tree.specs.declared.waits.Waits.TheVariants as waits
use Rattle.irtext_llvm.specs.contracts.fixed.BitsRange.TheImpl as bits
use Rattle.irtext_llvm.specs.declared.brackets.AngleComma.{AngleComma}
use Rattle.irtext_llvm.specs.declared.types.TypeWord.{TypeWord}
use Rattle.irtext_llvm.specs.declared.types.TypeWord.TheVariants as word
use Rattle.irtext_llvm.specs.declared.types.LlvmTypeHead.{LlvmTypeHead}
use Rattle.irtext_llvm.specs.declared.types.LlvmTypeHead.TheVariants as head
use Rattle.irtext_llvm.specs.declared.types.LlvmTypePlace.{LlvmTypePlace}
use Rattle.irtext_llvm.specs.declared.types.LlvmTypePlace.TheVariants as place

-- the words that types begin with
abbrev pub type_words : List Text
type_words = codes "llvm.void" ∷ codes "llvm.label" ∷ codes "llvm.token" ∷ codes "llvm.metadata" ∷ codes "llvm.opaque" ∷ codes "llvm.ptr" ∷ codes "llvm.ptr_in" ∷ codes "llvm.int" ∷ codes "llvm.fp" ∷ codes "llvm.named" ∷ codes "llvm.array" ∷ codes "llvm.vector" ∷ codes "llvm.scalable" ∷ codes "llvm.struct" ∷ codes "llvm.packed" ∷ codes "llvm.func" ∷ codes "llvm.varargs" ∷ []

-- the word that a text is, if it is one
abbrev pub type_word : Text → Option TypeWord
type_word text = cond (bytes_eq text (codes "llvm.void")) (Some word.Void) (cond (bytes_eq text (codes "llvm.label")) (Some word.Label) (cond (bytes_eq text (codes "llvm.token")) (Some word.Token) (cond (bytes_eq text (codes "llvm.metadata")) (Some word.Metadata) (cond (bytes_eq text (codes "llvm.opaque")) (Some word.Opaque) (cond (bytes_eq text (codes "llvm.ptr")) (Some word.Pointer) (cond (bytes_eq text (codes "llvm.ptr_in")) (Some word.PointerIn) (cond (bytes_eq text (codes "llvm.int")) (Some word.Int) (cond (bytes_eq text (codes "llvm.fp")) (Some word.Fp) (cond (bytes_eq text (codes "llvm.named")) (Some word.Named) (cond (bytes_eq text (codes "llvm.array")) (Some word.Array) (cond (bytes_eq text (codes "llvm.vector")) (Some word.Vector) (cond (bytes_eq text (codes "llvm.scalable")) (Some word.Scalable) (cond (bytes_eq text (codes "llvm.struct")) (Some word.Struct) (cond (bytes_eq text (codes "llvm.packed")) (Some word.Packed) (cond (bytes_eq text (codes "llvm.func")) (Some word.Func) (cond (bytes_eq text (codes "llvm.varargs")) (Some word.Varargs) None))))))))))))))))

-- `<` and `,` as brackets
abbrev pub angle_comma : Around
angle_comma = record { opener = codes "<"; closer = codes ","; opener_printed = codes "<"; closer_printed = codes "," }

-- what comes after `llvm.ptr_in`: <N>
abbrev pub pointer_in_shape : Shape (Within Angle (Number ℕ u32.radix))
pointer_in_shape = within angle (number u32)

-- what comes after `llvm.int`: N
abbrev pub int_shape : Shape (Ranged Bits bits.ghosts)
int_shape = ranged bits.ghosts

-- what comes after `llvm.fp`: half|bfloat|float|double|x86_fp80|fp128|ppc_fp128
abbrev pub fp_shape : Shape FloatKind
fp_shape = float_kind

-- what comes after `llvm.named`: "S"
abbrev pub named_shape : Shape ScalarText
named_shape = quoted

-- what comes after `llvm.array`: <N,
abbrev pub array_shape : Shape (Within AngleComma (Number ℕ u64.radix))
array_shape = within angle_comma (number u64)

-- what comes after `llvm.vector`: <N,
abbrev pub vector_shape : Shape (Within AngleComma (Number ℕ u64.radix))
vector_shape = within angle_comma (number u64)

-- what comes after `llvm.scalable`: <N,
abbrev pub scalable_shape : Shape (Within AngleComma (Number ℕ u64.radix))
scalable_shape = within angle_comma (number u64)

-- the text that is printed for a head
abbrev pub type_text : LlvmTypeHead → Text
type_text head.Void = codes "llvm.void"
type_text head.Label = codes "llvm.label"
type_text head.Token = codes "llvm.token"
type_text head.Metadata = codes "llvm.metadata"
type_text head.Opaque = codes "llvm.opaque"
type_text head.Pointer = codes "llvm.ptr"
type_text (head.PointerIn x) = codes "llvm.ptr_in " ++ pointer_in_shape.written x
type_text (head.Int x) = codes "llvm.int " ++ int_shape.written x
type_text (head.Fp x) = codes "llvm.fp " ++ fp_shape.written x
type_text (head.Named x) = codes "llvm.named " ++ named_shape.written x
type_text (head.Array x) = codes "llvm.array " ++ (array_shape.written x ++ codes " ")
type_text (head.Vector x) = codes "llvm.vector " ++ (vector_shape.written x ++ codes " ")
type_text (head.Scalable x) = codes "llvm.scalable " ++ (scalable_shape.written x ++ codes " ")
type_text head.Struct = codes "llvm.struct <"
type_text head.EmptyStruct = codes "llvm.struct <>"
type_text head.Packed = codes "llvm.packed <"
type_text head.EmptyPacked = codes "llvm.packed <>"
type_text head.Func = codes "llvm.func <"
type_text head.EmptyFunc = codes "llvm.func <>"
type_text head.Varargs = codes "llvm.varargs <"
type_text head.EmptyVarargs = codes "llvm.varargs <>"
type_text head.CloseAngle = codes ">"
type_text head.NextAngle = codes ", "
type_text head.EndAngle = codes ">"

-- the rest of a head, after its word
abbrev pub type_after : TypeWord → Reader LlvmTypeHead
type_after word.Void = nothing head.Void
type_after word.Label = nothing head.Label
type_after word.Token = nothing head.Token
type_after word.Metadata = nothing head.Metadata
type_after word.Opaque = nothing head.Opaque
type_after word.Pointer = nothing head.Pointer
type_after word.PointerIn = (space_at ▷ pointer_in_shape.reading) ⇒ head.PointerIn
type_after word.Int = (space_at ▷ int_shape.reading) ⇒ head.Int
type_after word.Fp = (space_at ▷ fp_shape.reading) ⇒ head.Fp
type_after word.Named = (space_at ▷ named_shape.reading) ⇒ head.Named
type_after word.Array = (space_at ▷ array_shape.reading) ⇒ head.Array
type_after word.Vector = (space_at ▷ vector_shape.reading) ⇒ head.Vector
type_after word.Scalable = (space_at ▷ scalable_shape.reading) ⇒ head.Scalable
type_after word.Struct = opened_at (codes "<") head.Struct 62 head.EmptyStruct
type_after word.Packed = opened_at (codes "<") head.Packed 62 head.EmptyPacked
type_after word.Func = opened_at (codes "<") head.Func 62 head.EmptyFunc
type_after word.Varargs = opened_at (codes "<") head.Varargs 62 head.EmptyVarargs

-- a head at a place
abbrev pub type_at : LlvmTypePlace → Reader LlvmTypeHead
type_at place.Type = table_at type_word type_after (codes "Unregistered type ") AType
type_at place.CloseAngle = mark_at (codes ">") head.CloseAngle
type_at place.MoreAngle = more_at 44 head.NextAngle (codes ">") head.EndAngle

-- whether two places are the same
abbrev pub same_place : LlvmTypePlace → LlvmTypePlace → Bool
same_place place.Type place.Type = true
same_place place.CloseAngle place.CloseAngle = true
same_place place.MoreAngle place.MoreAngle = true
same_place _ _ = false

-- the place of a head
abbrev pub place_of : LlvmTypeHead → LlvmTypePlace
place_of head.CloseAngle = place.CloseAngle
place_of head.NextAngle = place.MoreAngle
place_of head.EndAngle = place.MoreAngle
place_of _ = place.Type

-- what comes after a head
abbrev pub waits_of : LlvmTypeHead → Waits LlvmTypePlace
waits_of (head.Array x) = waits.Two place.Type place.CloseAngle
waits_of (head.Vector x) = waits.Two place.Type place.CloseAngle
waits_of (head.Scalable x) = waits.Two place.Type place.CloseAngle
waits_of head.Struct = waits.Two place.Type place.MoreAngle
waits_of head.Packed = waits.Two place.Type place.MoreAngle
waits_of head.Func = waits.Two place.Type place.MoreAngle
waits_of head.Varargs = waits.Two place.Type place.MoreAngle
waits_of head.NextAngle = waits.Two place.Type place.MoreAngle
waits_of _ = waits.Nothing

-- the places of the dialect, and what comes after each head
abbrev pub type_growth : Growth LlvmTypePlace LlvmTypeHead
type_growth = record { start = place.Type; same = same_place; place = place_of; waits = waits_of }
