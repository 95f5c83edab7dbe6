-- Between functions: what the parsed pieces represent.
use Rattle.std.specs.Prelude.{◌≡◌, ℕ, Bool, false, List, [], ◌∷◌, length, Result, MatchBool}
use Rattle.irtext_base.specs.Text.{Text}
use Rattle.irtext_base.specs.Stream.{StreamView}
use Rattle.irtext_base.specs.Answers.{Outcome}
use Rattle.irtext_base.specs.declared.parsable.fault.ParseFault.{ParseFault}
use Rattle.irtext_stream.specs.Stream.{Comes}
use Rattle.irtext_stream.specs.Text.{BeginsOtherwise}
use Rattle.irtext_tokens.specs.ListOutcomes.{items_after}
use Rattle.irtext_tokens.specs.Infix.{Reader}
use Rattle.irtext_grammar.specs.Grammar.Tree.{Piece}
use Rattle.irtext_grammar.specs.declared.parsed.ReadPiece.{ReadPiece}
use Rattle.irtext_grammar.specs.Parsed.{Each, IsPiece}
use Rattle.irtext_parse_pieces.specs.Named.{whole, MustMean}

module _ {S : Type 0} (view : S → StreamView) (at : S → StreamView → S) where
  -- the word was consumed if the whole of it comes next; otherwise the stream is unchanged
  abbrev pub Accepts : Text → S → Bool → S → Type 0
  Accepts w old result new = MatchBool result (Comes w (view old) (λ v. new ≡ at old v)) (BeginsOtherwise w (view old).rest × (new ≡ old))

module _ {S T A : Type 0} (view : S → StreamView) (at : S → StreamView → S) where
  -- the result is the list of types that comes next, or its fault
  abbrev pub MustTypes : (Text → Outcome (List T)) → S → Result (List T) (ParseFault A) → S → Type 0
  MustTypes outcome old result new = MustMean view at (Each ◌≡◌) outcome old result new

  -- given a first type, the result is the list of types that continues it, or its fault
  abbrev pub TypesAfter : (Text → Outcome T) → T → S → Result (List T) (ParseFault A) → S → Type 0
  TypesAfter item first old result new = (view old).failed ≡ false → MustTypes (λ t. items_after 44 item (length t) (first ∷ []) t) old result new

  -- the result is the piece that comes next, or its fault
  abbrev pub MustPiece : List Text → Reader (Piece ℕ T A) → S → Result (ReadPiece T A) (ParseFault A) → S → Type 0
  MustPiece names outcome old result new = MustMean view at (IsPiece names (whole (view old))) outcome old result new

  -- the same, whatever the names are
  abbrev pub AnyPiece : Reader (Piece ℕ T A) → S → Result (ReadPiece T A) (ParseFault A) → S → Type 0
  AnyPiece outcome old result new = (names : List Text) → MustPiece names outcome old result new
