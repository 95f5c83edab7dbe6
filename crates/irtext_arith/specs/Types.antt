-- For callers: the texts of the types of the dialect `arith`.
use Rattle.std.specs.Prelude.{ℕ, cond, Option, Some, None, List, [], ◌∷◌, ◌++◌, codes}
use Rattle.std.specs.Str.{bytes_eq}
use Rattle.irtext_base.specs.Text.{Text}
use Rattle.irtext_base.specs.Faults.{AType}
use Rattle.irtext_tokens.specs.Infix.{Reader, nothing, ◌▷◌, ◌⇒◌}
use Rattle.irtext_tokens.specs.Tokens.{space_at}
use Rattle.irtext_syntax.specs.Shapes.{Shape, number}
use Rattle.irtext_syntax.specs.Tables.{table_at}
use Rattle.irtext_syntax.specs.IntegerKinds.{u32}
use Rattle.irtext_syntax.specs.declared.number.Number.{Number}
use Rattle.irtext_arith.specs.declared.types.TypeWord.{TypeWord}
use Rattle.irtext_arith.specs.declared.types.TypeWord.TheVariants as word
use Rattle.irtext_arith.specs.declared.types.ArithType.{ArithType}
use Rattle.irtext_arith.specs.declared.types.ArithType.TheVariants as ty

-- the words that types begin with
abbrev pub type_words : List Text
type_words = codes "arith.int" ∷ codes "arith.index" ∷ []

-- the word of a type that a text is, if it is one
abbrev pub type_word : Text → Option TypeWord
type_word text = cond (bytes_eq text (codes "arith.int")) (Some word.Int) (cond (bytes_eq text (codes "arith.index")) (Some word.Index) None)

-- what comes after `arith.int`: N
abbrev pub int_shape : Shape (Number ℕ u32.radix)
int_shape = number u32

-- the text that is printed for a type
abbrev pub type_text : ArithType → Text
type_text (ty.Int x) = codes "arith.int " ++ int_shape.written x
type_text ty.Index = codes "arith.index"

-- the rest of a type, after its word
abbrev pub type_after : TypeWord → Reader ArithType
type_after word.Int = (space_at ▷ int_shape.reading) ⇒ ty.Int
type_after word.Index = nothing ty.Index

-- a type's word, and the rest of the type
abbrev pub type_at : Reader ArithType
type_at = table_at type_word type_after (codes "Unregistered type ") AType
