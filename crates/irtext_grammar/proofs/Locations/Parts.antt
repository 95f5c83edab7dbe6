-- The texts of the parts of a location are parsed back: a source, a line and a column, and a quoted text.
use Rattle.std.proofs.Common.{◌≡◌, ℕ, false, Option, Some, None, List, ◌++◌, refl, ◌∙◌, ap, append_assoc}
use Rattle.std.proofs.lemmas.Str.{encodes-chars}
use Rattle.std.specs.Prelude.{ℤ, codes, FitsSigned, IfSome}
use Rattle.std.specs.Char.{is_ascii_digit}
use Rattle.std.specs.Fmt.{signed_decimal}
use Rattle.std.specs.Int.{w32}
use Rattle.std.specs.Str.{chars, encode_utf8_all, IsUtf8}
use Rattle.irtext_base.specs.Text.{Text, begins}
use Rattle.irtext_base.specs.Answers.{Outcome, Read, followed, mapped}
use Rattle.irtext_base.specs.Causes.{position_text}
use Rattle.irtext_base.specs.Quoted.{quoted}
use Rattle.irtext_stream.specs.declared.position.SourcePosition.{SourcePosition}
use Rattle.irtext_tokens.specs.Tokens.{text_at, integer_at}
use Rattle.irtext_tokens.proofs.QuotedBack.{quoted_back}
use Rattle.irtext_grammar.specs.Readers.Positions.{spaced_at, labelled_at, position_at}
use Rattle.irtext_grammar.specs.Readers.Locations.{bytes_at, source_at}
use Rattle.irtext_grammar.specs.Spelling.Locations.{source_text}
use Rattle.irtext_grammar.specs.Promises.PrintedBack.{Fits32}
use Rattle.irtext_grammar.specs.Promises.LocationsBack.{GivesBack}
use Rattle.irtext_grammar.proofs.Locations.GivesBack.{gives_followed, gives_mapped, gives_at, gives_text, gives_spaced, tight}
use Rattle.irtext_grammar.proofs.Locations.Integers.{integer-here, no_space}

-- ---- a place
-- an integer
gives_integer : (z : ℤ) (rest : Text) → FitsSigned w32 z → begins is_ascii_digit rest ≡ false → GivesBack (integer_at (signed_decimal z ++ rest)) z (signed_decimal z ++ rest) rest
gives_integer z rest fits stop = record { taken = signed_decimal z; is = integer-here z rest fits stop; whole = refl }

-- a word, a colon and an integer
gives_labelled : (word : Text) (z : ℤ) (rest : Text) → FitsSigned w32 z → begins is_ascii_digit rest ≡ false
    → GivesBack (labelled_at word (word ++ (codes ": " ++ (signed_decimal z ++ rest)))) z (word ++ (codes ": " ++ (signed_decimal z ++ rest))) rest
gives_labelled word z rest fits stop =
    let t = signed_decimal z ++ rest in
    gives_followed (text_at word (word ++ (codes ": " ++ t))) (λ _ t. followed (spaced_at (codes ":") t) (λ _ u. integer_at u)) tt z (word ++ (codes ": " ++ t)) (codes ": " ++ t) rest (gives_text word (codes ": " ++ t))
    (gives_followed (spaced_at (codes ":") (codes ": " ++ t)) (λ _ u. integer_at u) tt z (codes ": " ++ t) t rest
    (gives_spaced (codes ":") (codes ": " ++ t) (codes " " ++ t) t refl (tight t (no_space z rest fits))) (gives_integer z rest fits stop))

-- a line and a column
pub gives_position : (at : SourcePosition) (rest : Text) → Fits32 at → begins is_ascii_digit rest ≡ false → GivesBack (position_at (position_text at ++ rest)) at (position_text at ++ rest) rest
gives_position at rest fits stop =
    let u = codes "column: " ++ (signed_decimal at.column ++ rest) in
    let t = codes "line: " ++ (signed_decimal at.line ++ (codes ", " ++ u)) in
    let see : ℤ → SourcePosition = λ column. record { line = at.line; column = column } in
    let next : ℤ → Text → Outcome SourcePosition = λ line t. followed (spaced_at (codes ",") t) (λ _ u. mapped (λ column. record { line = line; column = column }) (labelled_at (codes "column") u)) in
    let parts : position_text at ++ rest ≡ t = ap (λ t. codes "line: " ++ t) (append_assoc (signed_decimal at.line) (codes ", column: " ++ signed_decimal at.column) rest) in
    gives_at position_at at (position_text at ++ rest) t rest parts
    (gives_followed (labelled_at (codes "line") t) next at.line at t (codes ", " ++ u) rest (gives_labelled (codes "line") at.line (codes ", " ++ u) fits.line refl)
    (gives_followed (spaced_at (codes ",") (codes ", " ++ u)) (λ _ u. mapped see (labelled_at (codes "column") u)) tt at (codes ", " ++ u) u rest (gives_spaced (codes ",") (codes ", " ++ u) (codes " " ++ u) u refl refl)
    (gives_mapped see (labelled_at (codes "column") u) at.column u rest (gives_labelled (codes "column") at.column rest fits.column stop))))

-- the bytes of a quoted text
pub gives_bytes : (bytes rest : Text) → IsUtf8 bytes → GivesBack (bytes_at (quoted (chars bytes) ++ rest)) bytes (quoted (chars bytes) ++ rest) rest
gives_bytes bytes rest fine = record {
  taken = quoted (chars bytes);
  is = ap (mapped encode_utf8_all) (quoted_back (chars bytes) rest) ∙ ap (λ b. let o : Outcome (List ℕ) = Read b (quoted (chars bytes)) rest in o) (encodes-chars bytes fine);
  whole = refl;
}

-- a source
pub gives_source : (s : Option (List ℕ)) (rest : Text) → IfSome s IsUtf8 → GivesBack (source_at (source_text s ++ rest)) s (source_text s ++ rest) rest
gives_source None rest fine = gives_mapped (λ _. None) (text_at (codes "<in-memory>") (codes "<in-memory>" ++ rest)) tt (codes "<in-memory>" ++ rest) rest (gives_text (codes "<in-memory>") rest)
gives_source (Some path) rest fine = gives_mapped Some (bytes_at (quoted (chars path) ++ rest)) path (quoted (chars path) ++ rest) rest (gives_bytes path rest fine)
