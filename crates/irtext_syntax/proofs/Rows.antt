-- Examples of rows and words, for a family whose only word is `my.index`.
use Rattle.std.proofs.Common.{◌≡◌, true, cond, Option, Some, None, List, [], ◌∷◌, ◌++◌, refl, codes}
use Rattle.std.specs.Str.{bytes_eq}
use Rattle.irtext_base.specs.Text.{Text, front, in_dotted}
use Rattle.irtext_base.specs.Families.{is_one_of}
use Rattle.irtext_base.specs.Own.{Ends}
use Rattle.irtext_tokens.specs.BeginningWords.{word_leads}
use Rattle.irtext_tokens.specs.Infix.{Reader, nothing}
use Rattle.irtext_syntax.specs.NameTexts.{word_text, word_text_is}
use Rattle.irtext_syntax.specs.TableLaws.{word_row, spaced_word_row}
use Rattle.irtext_syntax.specs.Tables.{Row}

-- the only type, and its word
data Index : Type 0 where
  index : Index

abbrev words : List Text
words = codes "my.index" ∷ []

abbrev word_of : Text → Option Index
word_of text = cond (bytes_eq text (codes "my.index")) (Some index) None

abbrev following : Index → Reader Index
following index = nothing index

abbrev text_of : Index → Text
text_of index = codes "my.index"

rows : (x : Index) → Row word_of following words text_of x
rows index = word_row (codes "my.index") index index refl refl refl (λ text. refl)

-- the same with a space after the word
abbrev spaced_text : Index → Text
spaced_text index = codes "my.index "

spaced_rows : (x : Index) → Row word_of following words spaced_text x
spaced_rows index = spaced_word_row (codes "my.index") index index refl refl refl (λ text. refl)

leads : (rest : Text) → Ends rest → is_one_of words (front in_dotted (codes "my.index" ++ rest)) ≡ true
leads rest e = word_leads words (codes "my.index") rest refl refl e

-- an identifier has its characters
name_is : (word_text (codes "x")).characters ≡ codes "x"
name_is = word_text_is (codes "x") refl
