-- For callers: the texts of the choice `Freedom`, each a word.
use Rattle.std.specs.Prelude.{cond, Option, Some, None, List, [], ◌∷◌, codes}
use Rattle.std.specs.Str.{bytes_eq}
use Rattle.irtext_base.specs.Text.{Text}
use Rattle.irtext_base.specs.Faults.{AnAttribute}
use Rattle.irtext_tokens.specs.Infix.{Reader, nothing}
use Rattle.irtext_syntax.specs.Owns.{ends_text}
use Rattle.irtext_syntax.specs.Shapes.{Shape}
use Rattle.irtext_syntax.specs.Tables.{table_at}
use Rattle.irtext_llvm.specs.declared.freedom.Freedom.{Freedom}
use Rattle.irtext_llvm.specs.declared.freedom.Freedom.TheVariants as word
use Rattle.irtext_llvm.specs.contracts.freedom.FreedomPartialEq.TheImpl as test

-- the words
abbrev pub freedom_words : List Text
freedom_words = codes "nnan" ∷ codes "ninf" ∷ codes "nsz" ∷ codes "arcp" ∷ codes "contract" ∷ codes "afn" ∷ codes "reassoc" ∷ []

-- the value of which a text is the word, if there is one
abbrev pub freedom_word : Text → Option Freedom
freedom_word text = cond (bytes_eq text (codes "nnan")) (Some word.Nnan) (cond (bytes_eq text (codes "ninf")) (Some word.Ninf) (cond (bytes_eq text (codes "nsz")) (Some word.Nsz) (cond (bytes_eq text (codes "arcp")) (Some word.Arcp) (cond (bytes_eq text (codes "contract")) (Some word.Contract) (cond (bytes_eq text (codes "afn")) (Some word.Afn) (cond (bytes_eq text (codes "reassoc")) (Some word.Reassoc) None))))))

-- the text that is printed for a value
abbrev pub freedom_text : Freedom → Text
freedom_text word.Nnan = codes "nnan"
freedom_text word.Ninf = codes "ninf"
freedom_text word.Nsz = codes "nsz"
freedom_text word.Arcp = codes "arcp"
freedom_text word.Contract = codes "contract"
freedom_text word.Afn = codes "afn"
freedom_text word.Reassoc = codes "reassoc"

-- the word of a value, with nothing after it; any other word is an error
abbrev pub freedom_at : Reader Freedom
freedom_at = table_at freedom_word nothing (codes "Unknown freedom ") AnAttribute

-- as a part of other texts
abbrev pub freedom : Shape Freedom
freedom = record { reading = freedom_at; written = freedom_text; ends = ends_text; test = test.ghosts.eq }
