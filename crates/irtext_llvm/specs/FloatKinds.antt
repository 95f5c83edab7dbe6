-- For callers: the texts of the choice `FloatKind`, each a word.
use Rattle.std.specs.Prelude.{cond, Option, Some, None, List, [], ◌∷◌, codes}
use Rattle.std.specs.Str.{bytes_eq}
use Rattle.irtext_base.specs.Text.{Text}
use Rattle.irtext_base.specs.Faults.{AType}
use Rattle.irtext_tokens.specs.Infix.{Reader, nothing}
use Rattle.irtext_syntax.specs.Owns.{ends_text}
use Rattle.irtext_syntax.specs.Shapes.{Shape}
use Rattle.irtext_syntax.specs.Tables.{table_at}
use Rattle.irtext_llvm.specs.declared.float_kind.FloatKind.{FloatKind}
use Rattle.irtext_llvm.specs.declared.float_kind.FloatKind.TheVariants as word
use Rattle.irtext_llvm.specs.contracts.float_kind.FloatKindPartialEq.TheImpl as test

-- the words
abbrev pub float_kind_words : List Text
float_kind_words = codes "half" ∷ codes "bfloat" ∷ codes "float" ∷ codes "double" ∷ codes "x86_fp80" ∷ codes "fp128" ∷ codes "ppc_fp128" ∷ []

-- the value of which a text is the word, if there is one
abbrev pub float_kind_word : Text → Option FloatKind
float_kind_word text = cond (bytes_eq text (codes "half")) (Some word.Half) (cond (bytes_eq text (codes "bfloat")) (Some word.Bfloat) (cond (bytes_eq text (codes "float")) (Some word.Float) (cond (bytes_eq text (codes "double")) (Some word.Double) (cond (bytes_eq text (codes "x86_fp80")) (Some word.X86Fp80) (cond (bytes_eq text (codes "fp128")) (Some word.Fp128) (cond (bytes_eq text (codes "ppc_fp128")) (Some word.PpcFp128) None))))))

-- the text that is printed for a value
abbrev pub float_kind_text : FloatKind → Text
float_kind_text word.Half = codes "half"
float_kind_text word.Bfloat = codes "bfloat"
float_kind_text word.Float = codes "float"
float_kind_text word.Double = codes "double"
float_kind_text word.X86Fp80 = codes "x86_fp80"
float_kind_text word.Fp128 = codes "fp128"
float_kind_text word.PpcFp128 = codes "ppc_fp128"

-- the word of a value, with nothing after it; any other word is an error
abbrev pub float_kind_at : Reader FloatKind
float_kind_at = table_at float_kind_word nothing (codes "Unknown float kind ") AType

-- as a part of other texts
abbrev pub float_kind : Shape FloatKind
float_kind = record { reading = float_kind_at; written = float_kind_text; ends = ends_text; test = test.ghosts.eq }
