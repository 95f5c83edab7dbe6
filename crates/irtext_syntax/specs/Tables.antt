-- Families whose texts begin with dotted words.
use Rattle.std.proofs.Common.{◌≡◌, true, false, Bool, Option, Some, List, ◌++◌}
use Rattle.std.specs.Prelude.{◌&&◌, Result}
use Rattle.std.specs.List.{list_all}
use Rattle.std.specs.Str.{all_scalars}
use Rattle.irtext_base.specs.Text.{Text, begins, after_space, begins_word, in_dotted}
use Rattle.irtext_base.specs.Answers.{Outcome}
use Rattle.irtext_base.specs.Families.{is_one_of}
use Rattle.irtext_base.specs.Faults.{Demand}
use Rattle.irtext_base.specs.Own.{found, verdict, Ends}
use Rattle.irtext_base.specs.Stream.{StreamView}
use Rattle.irtext_base.specs.declared.parsable.fault.ParseFault.{ParseFault}
use Rattle.irtext_tokens.specs.Infix.{Reader, ◌▶◌}
use Rattle.irtext_tokens.specs.MustRead.{MayRead}
use Rattle.irtext_syntax.specs.Words.{dotted_at}

-- a word that the table has, and what comes after it; an unknown word is an error with a text that ends in the word
abbrev pub table_at : {W E : Type 0} → (Text → Option W) → (W → Reader E) → Text → Demand → Reader E
table_at choose following refusal demand = dotted_at choose refusal demand ▶ following

-- that was parsed, or its fault
abbrev pub ReadsTable : {W E A : Type 0} → (Text → Option W) → (W → Reader E) → Text → Demand → StreamView → Result E (ParseFault A) → StreamView → Type 0
ReadsTable choose following refusal demand old result new = MayRead (λ s. s) (λ s v. v) (λ x. x) (table_at choose following refusal demand) old result new

-- a dotted word, among these
abbrev pub is_word_of : List Text → Text → Bool
is_word_of words word = begins begins_word word && (list_all in_dotted word && is_one_of words word)

-- the value is parsed at the beginning of the text, and only white space is left before `rest`
abbrev pub IsRest : {X : Type 0} → (Text → Outcome X) → X → Text → Text → Type 0
IsRest reading x text rest = (left : Text) × (verdict (reading text) ≡ found x left) × (after_space left ≡ after_space rest)

-- how the text of a value is parsed by the table: it is one of the words, and after it what the table parses back
pub record Row {W E : Type 0} (choose : Text → Option W) (following : W → Reader E) (words : List Text) (written : E → Text) (x : E) : Type 0 where
  pub word : Text
  pub tail : Text
  pub kind : W
  pub is : written x ≡ word ++ tail
  pub listed : is_word_of words word ≡ true
  pub chosen : choose word ≡ Some kind
  pub stops : (rest : Text) → Ends rest → begins in_dotted (tail ++ rest) ≡ false
  pub back : (rest : Text) → Ends rest → IsRest (following kind) x (tail ++ rest) rest
  pub scalars : all_scalars tail ≡ true
