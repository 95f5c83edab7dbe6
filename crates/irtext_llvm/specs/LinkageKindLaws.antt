-- For callers: the choice `LinkageKind` obeys the law of a part. Its texts are those of a table of words, so a row for each gives the law.
use Rattle.std.proofs.Common.{◌≡◌, refl, codes}
use Rattle.std.specs.Prelude.{◌↔◌, IsTrue}
use Rattle.irtext_base.specs.Faults.{AnAttribute}
use Rattle.irtext_base.specs.Own.{texts_of, Lawful, Sincere}
use Rattle.irtext_tokens.specs.Infix.{nothing}
use Rattle.irtext_syntax.specs.OwnLaws.{own_last, text_law, text_misses}
use Rattle.irtext_syntax.specs.Owns.{ends_text}
use Rattle.irtext_syntax.specs.PartLaws.{PartLaw, MissesClosers, EndsAnywhere}
use Rattle.irtext_syntax.specs.ShapeLaws.{Proved}
use Rattle.irtext_syntax.specs.TableLaws.{word_row, word_sincere, table_lawful, table_sincere}
use Rattle.irtext_syntax.specs.Tables.{Row}
use Rattle.irtext_llvm.specs.LinkageKinds.{linkage_kind_words, linkage_kind_word, linkage_kind_text, linkage_kind_at, linkage_kind}
use Rattle.irtext_llvm.specs.declared.linkage_kind.LinkageKind.{LinkageKind}
use Rattle.irtext_llvm.specs.declared.linkage_kind.LinkageKind.TheVariants as word
use Rattle.irtext_llvm.specs.contracts.linkage_kind.LinkageKindPartialEq.TheImpl as test

-- how the text of each value is parsed back
rows : (x : LinkageKind) → Row linkage_kind_word nothing linkage_kind_words linkage_kind_text x
rows word.External = word_row (codes "external") word.External word.External refl refl refl (λ text. refl)
rows word.Private = word_row (codes "private") word.Private word.Private refl refl refl (λ text. refl)
rows word.Internal = word_row (codes "internal") word.Internal word.Internal refl refl refl (λ text. refl)
rows word.AvailableExternally = word_row (codes "available_externally") word.AvailableExternally word.AvailableExternally refl refl refl (λ text. refl)
rows word.Linkonce = word_row (codes "linkonce") word.Linkonce word.Linkonce refl refl refl (λ text. refl)
rows word.LinkonceOdr = word_row (codes "linkonce_odr") word.LinkonceOdr word.LinkonceOdr refl refl refl (λ text. refl)
rows word.Weak = word_row (codes "weak") word.Weak word.Weak refl refl refl (λ text. refl)
rows word.WeakOdr = word_row (codes "weak_odr") word.WeakOdr word.WeakOdr refl refl refl (λ text. refl)
rows word.Common = word_row (codes "common") word.Common word.Common refl refl refl (λ text. refl)
rows word.Appending = word_row (codes "appending") word.Appending word.Appending refl refl refl (λ text. refl)
rows word.ExternWeak = word_row (codes "extern_weak") word.ExternWeak word.ExternWeak refl refl refl (λ text. refl)

lawful : Lawful LinkageKind (texts_of linkage_kind_at linkage_kind_text)
lawful = table_lawful (codes "Unknown linkage kind ") AnAttribute rows

sincere : Sincere linkage_kind_at
sincere = table_sincere linkage_kind_word (codes "Unknown linkage kind ") AnAttribute word_sincere

-- as a part of other texts
pub linkage_kind_law : PartLaw linkage_kind_at linkage_kind_text ends_text
linkage_kind_law = text_law linkage_kind_at linkage_kind_text lawful sincere

pub linkage_kind_misses : MissesClosers linkage_kind_at
linkage_kind_misses = text_misses linkage_kind_at linkage_kind_text lawful

-- two values are equal exactly if they are the same
pub linkage_kind_decides : (x y : LinkageKind) → IsTrue (test.ghosts.eq x y) ↔ (x ≡ y)
linkage_kind_decides word.External word.External = (λ e. refl, λ e. refl)
linkage_kind_decides word.Private word.Private = (λ e. refl, λ e. refl)
linkage_kind_decides word.Internal word.Internal = (λ e. refl, λ e. refl)
linkage_kind_decides word.AvailableExternally word.AvailableExternally = (λ e. refl, λ e. refl)
linkage_kind_decides word.Linkonce word.Linkonce = (λ e. refl, λ e. refl)
linkage_kind_decides word.LinkonceOdr word.LinkonceOdr = (λ e. refl, λ e. refl)
linkage_kind_decides word.Weak word.Weak = (λ e. refl, λ e. refl)
linkage_kind_decides word.WeakOdr word.WeakOdr = (λ e. refl, λ e. refl)
linkage_kind_decides word.Common word.Common = (λ e. refl, λ e. refl)
linkage_kind_decides word.Appending word.Appending = (λ e. refl, λ e. refl)
linkage_kind_decides word.ExternWeak word.ExternWeak = (λ e. refl, λ e. refl)
linkage_kind_decides _ _ = (λ e. absurd (cc), λ e. absurd (cc))

pub linkage_kind_proved : Proved linkage_kind
linkage_kind_proved = record { law = linkage_kind_law; decides = linkage_kind_decides }

-- whatever can come after a type or an attribute can come after it
pub linkage_kind_last : EndsAnywhere linkage_kind.ends
linkage_kind_last = own_last
