-- For callers: the texts of the choice `LinkageKind`, each a word.
use Rattle.std.specs.Prelude.{cond, Option, Some, None, List, [], ◌∷◌, codes}
use Rattle.std.specs.Str.{bytes_eq}
use Rattle.irtext_base.specs.Text.{Text}
use Rattle.irtext_base.specs.Faults.{AnAttribute}
use Rattle.irtext_tokens.specs.Infix.{Reader, nothing}
use Rattle.irtext_syntax.specs.Owns.{ends_text}
use Rattle.irtext_syntax.specs.Shapes.{Shape}
use Rattle.irtext_syntax.specs.Tables.{table_at}
use Rattle.irtext_llvm.specs.declared.linkage_kind.LinkageKind.{LinkageKind}
use Rattle.irtext_llvm.specs.declared.linkage_kind.LinkageKind.TheVariants as word
use Rattle.irtext_llvm.specs.contracts.linkage_kind.LinkageKindPartialEq.TheImpl as test

-- the words
abbrev pub linkage_kind_words : List Text
linkage_kind_words = codes "external" ∷ codes "private" ∷ codes "internal" ∷ codes "available_externally" ∷ codes "linkonce" ∷ codes "linkonce_odr" ∷ codes "weak" ∷ codes "weak_odr" ∷ codes "common" ∷ codes "appending" ∷ codes "extern_weak" ∷ []

-- the value of which a text is the word, if there is one
abbrev pub linkage_kind_word : Text → Option LinkageKind
linkage_kind_word text = cond (bytes_eq text (codes "external")) (Some word.External) (cond (bytes_eq text (codes "private")) (Some word.Private) (cond (bytes_eq text (codes "internal")) (Some word.Internal) (cond (bytes_eq text (codes "available_externally")) (Some word.AvailableExternally) (cond (bytes_eq text (codes "linkonce")) (Some word.Linkonce) (cond (bytes_eq text (codes "linkonce_odr")) (Some word.LinkonceOdr) (cond (bytes_eq text (codes "weak")) (Some word.Weak) (cond (bytes_eq text (codes "weak_odr")) (Some word.WeakOdr) (cond (bytes_eq text (codes "common")) (Some word.Common) (cond (bytes_eq text (codes "appending")) (Some word.Appending) (cond (bytes_eq text (codes "extern_weak")) (Some word.ExternWeak) None))))))))))

-- the text that is printed for a value
abbrev pub linkage_kind_text : LinkageKind → Text
linkage_kind_text word.External = codes "external"
linkage_kind_text word.Private = codes "private"
linkage_kind_text word.Internal = codes "internal"
linkage_kind_text word.AvailableExternally = codes "available_externally"
linkage_kind_text word.Linkonce = codes "linkonce"
linkage_kind_text word.LinkonceOdr = codes "linkonce_odr"
linkage_kind_text word.Weak = codes "weak"
linkage_kind_text word.WeakOdr = codes "weak_odr"
linkage_kind_text word.Common = codes "common"
linkage_kind_text word.Appending = codes "appending"
linkage_kind_text word.ExternWeak = codes "extern_weak"

-- the word of a value, with nothing after it; any other word is an error
abbrev pub linkage_kind_at : Reader LinkageKind
linkage_kind_at = table_at linkage_kind_word nothing (codes "Unknown linkage kind ") AnAttribute

-- as a part of other texts
abbrev pub linkage_kind : Shape LinkageKind
linkage_kind = record { reading = linkage_kind_at; written = linkage_kind_text; ends = ends_text; test = test.ghosts.eq }
