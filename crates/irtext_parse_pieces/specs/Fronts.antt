-- Between functions: what was parsed before an operation's first region.
use Rattle.std.specs.Prelude.{◌≡◌, ℕ, Bool, List, [], ◌∷◌, ◌++◌, length, Result}
use Rattle.irtext_base.specs.Text.{Text}
use Rattle.irtext_base.specs.Stream.{StreamView}
use Rattle.irtext_base.specs.Answers.{Outcome}
use Rattle.irtext_base.specs.Locations.{AttrView}
use Rattle.irtext_base.specs.declared.parsable.fault.ParseFault.{ParseFault}
use Rattle.irtext_stream.specs.Classes.{after_spaces}
use Rattle.irtext_stream.specs.Stream.{Comes}
use Rattle.irtext_tokens.specs.Infix.{Reader}
use Rattle.irtext_grammar.specs.declared.parsed.Setting.{Setting}
use Rattle.irtext_grammar.specs.Grammar.Tree.{Piece, Part}
use Rattle.irtext_grammar.specs.Heads.{Step, front_steps}
use Rattle.irtext_grammar.specs.Resume.{front_at}
use Rattle.irtext_grammar.specs.declared.parsed.ReadPiece.{ReadPiece}
use Rattle.irtext_grammar.specs.Found.{only_words}
use Rattle.irtext_grammar.specs.Parsed.{IsPiece, Each, IsPart}
use Rattle.irtext_parse_pieces.specs.Named.{whole, MustMean}

-- the parts found so far, and those that the steps before the first region parse
abbrev pub front_of : {T A : Type 0} → (Text → Outcome T) → (Text → Outcome (AttrView A)) → Setting → List Step → List (Part ℕ T A) → Reader (List (Part ℕ T A))
front_of types_at attr setting steps = front_at types_at attr setting (front_steps steps)

-- one more piece was appended to those found, and it represents this piece of the text
abbrev pub IsAppended : {T A : Type 0} → List Text → Text → List (ReadPiece T A) → List (ReadPiece T A) → Piece ℕ T A → Type 0
IsAppended {T = T} {A = A} names text found more p = (read : ReadPiece T A) × (more ≡ found ++ read ∷ []) × IsPiece names text read p

-- these texts follow, one after another with white space before each, and this is the view after them
abbrev pub ComeSpaced : List Text → StreamView → StreamView → Type 0
ComeSpaced [] v w = w ≡ v
ComeSpaced (t ∷ ts) v w = Comes t (after_spaces v) (λ u. ComeSpaced ts u w)

-- there is one piece for each step before the first region
abbrev pub HasFront : {T A : Type 0} → List Step → List (ReadPiece T A) → Type 0
HasFront steps found = length found ≡ length (front_steps steps)

module _ {S T A : Type 0} (view : S → StreamView) (at : S → StreamView → S) where
  -- the first of these texts, as many as these, were consumed, with white space before each, and appended to the pieces
  pub record Ran (all : List Text) (found more : List (ReadPiece T A)) (old new : S) : Type 0 where
    pub texts : List Text
    pub later : List Text
    pub first : texts ++ later ≡ all
    pub following : StreamView
    pub come : ComeSpaced texts (view old) following
    pub reached : new ≡ at old following
    pub appended : more ≡ found ++ only_words (length texts)

  -- the result is the list of pieces that the steps parse, or their fault
  abbrev pub MustFront : List Text → (Text → Outcome T) → (Text → Outcome (AttrView A)) → Setting → List Step → S → Result (List (ReadPiece T A)) (ParseFault A) → S → Type 0
  MustFront names types_at attr setting steps old result new = MustMean view at (Each (IsPart names (whole (view old)))) (front_of types_at attr setting steps []) old result new

  -- the piece that comes next was appended to those found, or the result is its fault
  abbrev pub MustFind : List Text → Reader (Piece ℕ T A) → List (ReadPiece T A) → List (ReadPiece T A) → S → Result (Unit {0}) (ParseFault A) → S → Type 0
  MustFind names outcome found more old result new = MustMean view at (λ _ p. IsAppended names (whole (view old)) found more p) outcome old result new
