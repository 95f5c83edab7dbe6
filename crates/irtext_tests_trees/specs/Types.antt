-- The texts of the heads of the types of the dialect `llvm`.
use Rattle.std.specs.Prelude.{ℕ, Bool, true, false, cond, Option, Some, None, List, [], ◌∷◌, ◌++◌, codes}
use Rattle.std.specs.Str.{bytes_eq}
use Rattle.irtext_base.specs.Text.{Text}
use Rattle.irtext_base.specs.Faults.{AType}
use Rattle.irtext_tokens.specs.Infix.{Reader, nothing, ◌▷◌, ◌⇒◌}
use Rattle.irtext_tokens.specs.Tokens.{space_at}
use Rattle.irtext_syntax.specs.IntegerKinds.{u32, u64}
use Rattle.irtext_syntax.specs.Shapes.{Shape, Around, number, within}
use Rattle.irtext_syntax.specs.Tables.{table_at}
use Rattle.irtext_syntax.specs.declared.number.Number.{Number}
use Rattle.irtext_syntax.specs.declared.sequence.Within.{Within}
use Rattle.irtext_tree.specs.Growths.{Growth}
use Rattle.irtext_tree.specs.Marks.{mark_at, more_at, opened_at}
use Rattle.irtext_tree.specs.declared.waits.Waits.{Waits}
use Rattle.irtext_tree.specs.declared.waits.Waits.TheVariants as waits
use Rattle.irtext_tests_trees.specs.declared.brackets.AngleComma.{AngleComma}
use Rattle.irtext_tests_trees.specs.declared.types.TypeWord.{TypeWord}
use Rattle.irtext_tests_trees.specs.declared.types.TypeWord.TheVariants as word
use Rattle.irtext_tests_trees.specs.declared.types.LlvmHead.{LlvmHead}
use Rattle.irtext_tests_trees.specs.declared.types.LlvmHead.TheVariants as head
use Rattle.irtext_tests_trees.specs.declared.types.LlvmPlace.{LlvmPlace}
use Rattle.irtext_tests_trees.specs.declared.types.LlvmPlace.TheVariants as place

-- the words that types begin with
abbrev pub type_words : List Text
type_words = codes "llvm.int" ∷ codes "llvm.ptr" ∷ codes "llvm.array" ∷ codes "llvm.func" ∷ codes "llvm.struct" ∷ []

-- the word that a text is, if it is one
abbrev pub type_word : Text → Option TypeWord
type_word text = cond (bytes_eq text (codes "llvm.int")) (Some word.Int) (cond (bytes_eq text (codes "llvm.ptr")) (Some word.Ptr) (cond (bytes_eq text (codes "llvm.array")) (Some word.Array) (cond (bytes_eq text (codes "llvm.func")) (Some word.Func) (cond (bytes_eq text (codes "llvm.struct")) (Some word.Struct) None))))

-- `<` and `,` as brackets
abbrev pub angle_comma : Around
angle_comma = record { opener = codes "<"; closer = codes ","; opener_printed = codes "<"; closer_printed = codes "," }

-- what comes after `llvm.int`: N
abbrev pub int_shape : Shape (Number ℕ u32.radix)
int_shape = number u32

-- what comes after `llvm.array`: <N,
abbrev pub array_shape : Shape (Within AngleComma (Number ℕ u64.radix))
array_shape = within angle_comma (number u64)

-- the text that is printed for a head
abbrev pub llvm_text : LlvmHead → Text
llvm_text (head.Int x) = codes "llvm.int " ++ int_shape.written x
llvm_text head.Ptr = codes "llvm.ptr"
llvm_text (head.Array x) = codes "llvm.array " ++ (array_shape.written x ++ codes " ")
llvm_text head.Func = codes "llvm.func <"
llvm_text head.Struct = codes "llvm.struct <"
llvm_text head.NoFields = codes "llvm.struct <>"
llvm_text head.Close = codes ">"
llvm_text head.More = codes ", "
llvm_text head.End = codes ">"

-- the rest of a head, after its word
abbrev pub type_after : TypeWord → Reader LlvmHead
type_after word.Int = (space_at ▷ int_shape.reading) ⇒ head.Int
type_after word.Ptr = nothing head.Ptr
type_after word.Array = (space_at ▷ array_shape.reading) ⇒ head.Array
type_after word.Func = space_at ▷ mark_at (codes "<") head.Func
type_after word.Struct = opened_at (codes "<") head.Struct 62 head.NoFields

-- a head at a place
abbrev pub llvm_at : LlvmPlace → Reader LlvmHead
llvm_at place.Type = table_at type_word type_after (codes "Unregistered type ") AType
llvm_at place.Close = mark_at (codes ">") head.Close
llvm_at place.More = more_at 44 head.More (codes ">") head.End

-- whether two places are the same
abbrev pub same_place : LlvmPlace → LlvmPlace → Bool
same_place place.Type place.Type = true
same_place place.Close place.Close = true
same_place place.More place.More = true
same_place _ _ = false

-- the place of a head
abbrev pub place_of : LlvmHead → LlvmPlace
place_of head.Close = place.Close
place_of head.More = place.More
place_of head.End = place.More
place_of _ = place.Type

-- what comes after a head
abbrev pub waits_of : LlvmHead → Waits LlvmPlace
waits_of (head.Array x) = waits.Two place.Type place.Close
waits_of head.Func = waits.Two place.Type place.More
waits_of head.Struct = waits.Two place.Type place.More
waits_of head.More = waits.Two place.Type place.More
waits_of _ = waits.Nothing

-- the places of the dialect, and what comes after each head
abbrev pub llvm_growth : Growth LlvmPlace LlvmHead
llvm_growth = record { start = place.Type; same = same_place; place = place_of; waits = waits_of }

-- whether the head is that of a function
abbrev pub is_func : LlvmHead → Bool
is_func head.Func = true
is_func _ = false
