-- For callers: the texts of the demo types.
use Rattle.std.specs.Prelude.{cond, Option, Some, None, List, [], ◌∷◌, ◌++◌, codes}
use Rattle.std.specs.Str.{bytes_eq}
use Rattle.irtext_base.specs.Text.{Text}
use Rattle.irtext_base.specs.Faults.{AType}
use Rattle.irtext_tokens.specs.Tokens.{space_at}
use Rattle.irtext_tokens.specs.Infix.{Reader, nothing, ◌▷◌, ◌⇒◌}
use Rattle.irtext_syntax.specs.Owns.{ends_text}
use Rattle.irtext_syntax.specs.Shapes.{Shape}
use Rattle.irtext_syntax.specs.Tables.{table_at}
use Rattle.irtext_demo.specs.IntegerTypes.{integer_type_text, integer_type_at}
use Rattle.irtext_demo.specs.declared.types.TypeWord.{TypeWord}
use Rattle.irtext_demo.specs.declared.types.TypeWord.TheVariants as word
use Rattle.irtext_demo.specs.declared.types.DemoType.{DemoType}
use Rattle.irtext_demo.specs.declared.types.DemoType.TheVariants.{Integer, Pointer}
use Rattle.irtext_demo.specs.contracts.types.DemoTypePartialEq.TheImpl as test

-- the words that types begin with
abbrev pub type_words : List Text
type_words = codes "builtin.integer" ∷ codes "test.ptr" ∷ []

-- the word of a type that a text is, if it is one
abbrev pub type_word : Text → Option TypeWord
type_word text = cond (bytes_eq text (codes "builtin.integer")) (Some word.Integer) (cond (bytes_eq text (codes "test.ptr")) (Some word.Pointer) None)

-- the text that is printed for a type
abbrev pub type_text : DemoType → Text
type_text (Integer t) = codes "builtin.integer " ++ integer_type_text t
type_text Pointer = codes "test.ptr "

-- the rest of a type, after its word
abbrev pub type_after : TypeWord → Reader DemoType
type_after word.Integer = (space_at ▷ integer_type_at) ⇒ Integer
type_after word.Pointer = nothing Pointer

-- a type's word, and the rest of the type
abbrev pub type_at : Reader DemoType
type_at = table_at type_word type_after (codes "Unregistered type ") AType

-- as a part of other texts
abbrev pub demo_type : Shape DemoType
demo_type = record { reading = type_at; written = type_text; ends = ends_text; test = test.ghosts.eq }
