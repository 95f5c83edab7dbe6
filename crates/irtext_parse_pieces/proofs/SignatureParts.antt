-- How far the parser of the types in the canonical form has come: each module adds the part that was parsed next.
use Rattle.std.proofs.Common.{◌≡◌, Bool, false, Result, Ok, Err, List, [], ◌∷◌, ◌++◌, drop, codes, refl}
use Rattle.irtext_base.specs.Answers.{Outcome}
use Rattle.irtext_base.specs.Locations.{AttrView}
use Rattle.irtext_base.specs.Text.{Text}
use Rattle.irtext_base.specs.declared.parsable.fault.ParseFault.{ParseFault}
use Rattle.irtext_tokens.specs.Infix.{◌▷◌}
use Rattle.irtext_tokens.specs.MustRead.{MustRead}
use Rattle.irtext_tokens.specs.Tokens.{space_at, text_at}
use Rattle.irtext_tokens.proofs.Steps.{Lens, fine_there}
use Rattle.irtext_grammar.specs.declared.parsed.Setting.{Setting}
use Rattle.irtext_grammar.specs.Heads.{Step}
use Rattle.irtext_grammar.specs.declared.parsed.ReadPiece.{ReadPiece}
use Rattle.irtext_grammar.specs.declared.parsed.ReadPiece.TheVariants as read
use Rattle.irtext_parse_pieces.specs.Beside.{closed}
use Rattle.irtext_parse_pieces.specs.Canonical.{type_steps, signature_steps, MustSteps}
use Rattle.irtext_grammar.specs.Forms.{type_pieces, signature_pieces}
use Rattle.irtext_parse_pieces.proofs.CanonicalSteps.{Through, steps_begin, steps_more, steps_refused, steps_end, word_more, word_refused}

module _ {S T A : Type 0} (l : Lens S) (types : Text → Outcome T) (attr : Text → Outcome (AttrView A)) (setting : Setting) (names : List Text) {old : S} (fine : (l.view old).failed ≡ false) where
  -- these pieces were parsed, and these steps are left
  abbrev Left : List Step → S → List (ReadPiece T A) → Type 0
  Left left now found = Through l types attr setting names signature_steps left old now found

  -- the result is the fixed text that is required, with white space before it
  abbrev Word : Text → S → Result (Unit {0}) (ParseFault A) → S → Type 0
  Word w from result to = (l.view from).failed ≡ false → MustRead l.view l.at (λ u. u) (space_at ▷ text_at w) from result to

  -- the result is types in parentheses
  abbrev Types : S → Result (List T) (ParseFault A) → S → Type 0
  Types from result to = (names : List Text) → (l.view from).failed ≡ false → MustSteps l.view l.at names types attr setting type_steps type_pieces from result to

  -- all of it is this error
  abbrev NoTypes : ParseFault A → S → Type 0
  NoTypes fault new = MustSteps l.view l.at names types attr setting signature_steps signature_pieces old (Err fault) new

  at0 : Left signature_steps old []
  at0 = steps_begin l types attr setting names signature_steps old fine

  pub no_colon : {fault : ParseFault A} {new : S} → Word (codes ":") old (Err fault) new → NoTypes fault new
  no_colon w = word_refused l types attr setting signature_pieces (codes ":") (drop 1 signature_steps) names at0 w

  module _ {s1 : S} (word1 : Word (codes ":") old (Ok tt) s1) where
    at1 : Left (drop 1 signature_steps) s1 (read.Word ∷ [])
    at1 = word_more l types attr setting (codes ":") (drop 1 signature_steps) at0 word1

    pub no_angle : {fault : ParseFault A} {new : S} → Word (codes "<") s1 (Err fault) new → NoTypes fault new
    no_angle w = word_refused l types attr setting signature_pieces (codes "<") (drop 2 signature_steps) names at1 w

    module _ {s2 : S} (word2 : Word (codes "<") s1 (Ok tt) s2) where
      at2 : Left (drop 2 signature_steps) s2 (read.Word ∷ read.Word ∷ [])
      at2 = word_more l types attr setting (codes "<") (drop 2 signature_steps) at1 word2

      pub no_inputs : {fault : ParseFault A} {new : S} → Types s2 (Err fault) new → NoTypes fault new
      no_inputs h = steps_refused l types attr setting type_pieces signature_pieces type_steps (drop 5 signature_steps) names names at2 (h names (fine_there l at2.passed))

      module _ {s3 : S} {inputs : List T} (read3 : Types s2 (Ok inputs) s3) where
        at3 : Left (drop 5 signature_steps) s3 (read.Word ∷ read.Word ∷ type_pieces inputs)
        at3 = steps_more l types attr setting type_pieces type_steps (drop 5 signature_steps) names at2 (λ i text k. k) (read3 names (fine_there l at2.passed))

        pub no_arrow : {fault : ParseFault A} {new : S} → Word (codes "->") s3 (Err fault) new → NoTypes fault new
        no_arrow w = word_refused l types attr setting signature_pieces (codes "->") (drop 6 signature_steps) names at3 w

        module _ {s4 : S} (word4 : Word (codes "->") s3 (Ok tt) s4) where
          at4 : Left (drop 6 signature_steps) s4 (read.Word ∷ read.Word ∷ type_pieces inputs ++ read.Word ∷ [])
          at4 = word_more l types attr setting (codes "->") (drop 6 signature_steps) at3 word4

          pub no_results : {fault : ParseFault A} {new : S} → Types s4 (Err fault) new → NoTypes fault new
          no_results h = steps_refused l types attr setting type_pieces signature_pieces type_steps (drop 9 signature_steps) names names at4 (h names (fine_there l at4.passed))

          module _ {s5 : S} {results : List T} (read5 : Types s4 (Ok results) s5) where
            at5 : Left (drop 9 signature_steps) s5 (read.Word ∷ read.Word ∷ type_pieces inputs ++ read.Word ∷ type_pieces results)
            at5 = steps_more l types attr setting type_pieces type_steps (drop 9 signature_steps) names at4 (λ i text k. k) (read5 names (fine_there l at4.passed))

            pub no_end : {fault : ParseFault A} {new : S} → Word (codes ">") s5 (Err fault) new → NoTypes fault new
            no_end w = word_refused l types attr setting signature_pieces (codes ">") [] names at5 w

            -- all parts were parsed
            pub types_read : {s6 : S} → Word (codes ">") s5 (Ok tt) s6 → MustSteps {A = A} l.view l.at names types attr setting signature_steps signature_pieces old (Ok (inputs, results)) s6
            types_read w = steps_end l types attr setting signature_pieces (inputs, results) refl (word_more l types attr setting (codes ">") [] at5 w)

            -- all parts were parsed, or the last of them is refused
            pub types_ended : (w : Result (Unit {0}) (ParseFault A)) {r : Result (List T × List T) (ParseFault A)} {s6 : S} → r ≡ closed (inputs, results) w → Word (codes ">") s5 w s6 → MustSteps l.view l.at names types attr setting signature_steps signature_pieces old r s6
            types_ended (Ok u) e w = rw e (types_read w)
            types_ended (Err fault) e w = rw e (no_end w)
