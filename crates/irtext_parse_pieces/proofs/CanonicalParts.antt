-- How far the parser of the canonical form has come: each module adds the part that was parsed next.
use Rattle.std.proofs.Common.{◌≡◌, Bool, false, Result, Ok, Err, List, [], ◌++◌, drop, codes, refl}
use Rattle.std.specs.Prelude.{Vec}
use Rattle.std.specs.Global.{Global}
use Rattle.irtext_base.specs.Answers.{Outcome}
use Rattle.irtext_base.specs.Locations.{AttrView}
use Rattle.irtext_base.specs.Text.{Text}
use Rattle.irtext_base.specs.declared.base.attributes.AttrObj.{AttrObj}
use Rattle.irtext_base.specs.declared.parsable.fault.ParseFault.{ParseFault}
use Rattle.irtext_scopes.specs.Names.{KeepsNames}
use Rattle.irtext_tokens.proofs.Steps.{Lens, fine_there}
use Rattle.irtext_grammar.specs.declared.parsed.Setting.{Setting}
use Rattle.irtext_grammar.specs.Heads.{Step}
use Rattle.irtext_grammar.specs.declared.parsed.Key.{Key}
use Rattle.irtext_grammar.specs.declared.parsed.NameKind.TheVariants as kind
use Rattle.irtext_grammar.specs.declared.parsed.ReadName.{ReadName}
use Rattle.irtext_grammar.specs.declared.parsed.ReadPiece.{ReadPiece}
use Rattle.irtext_parse_pieces.specs.Canonical.{canonical_front, name_steps, dictionary_steps, signature_steps, MustSteps}
use Rattle.irtext_grammar.specs.Forms.{name_pieces, dictionary_pieces, signature_pieces, pieces_of}
use Rattle.irtext_parse_pieces.proofs.CanonicalSteps.{Through, steps_begin, steps_more, steps_refused, steps_end}

-- the names of the operands, in parentheses
abbrev operand_steps : List Step
operand_steps = name_steps (codes "(") kind.Value (codes ")")

-- the labels of the successors, in brackets
abbrev successor_steps : List Step
successor_steps = name_steps (codes "[") kind.Block (codes "]")

module _ {S T A : Type 0} (l : Lens S) (types : Text → Outcome T) (attr : Text → Outcome (AttrView A)) (setting : Setting) where
  -- on a stream that has not failed the result is what these steps parse
  abbrev Parses : {Y : Type 0} → List Text → List Step → (Y → List (ReadPiece T A)) → S → Result Y (ParseFault A) → S → Type 0
  Parses names steps see from result to = (l.view from).failed ≡ false → MustSteps l.view l.at names types attr setting steps see from result to

  -- these pieces were parsed, and these steps are left
  abbrev Left : List Text → List Step → S → S → List (ReadPiece T A) → Type 0
  Left names left old now found = Through l types attr setting names canonical_front left old now found

  module _ {old : S} (fine : (l.view old).failed ≡ false) (names0 : List Text) where
    -- the canonical form is this error
    abbrev NoForm : List Text → ParseFault A → S → Type 0
    NoForm names fault new = MustSteps l.view l.at names types attr setting canonical_front pieces_of old (Err fault) new

    at0 : Left names0 canonical_front old old []
    at0 = steps_begin l types attr setting names0 canonical_front old fine

    pub no_operands : (names : List Text) {fault : ParseFault A} {new : S} → Parses names operand_steps (name_pieces kind.Value) old (Err fault) new → NoForm names fault new
    no_operands names h = steps_refused l types attr setting (name_pieces kind.Value) pieces_of operand_steps (drop 3 canonical_front) names names at0 (h fine)

    module _ (names1 : List Text) (kept1 : KeepsNames names0 names1) {s1 : S} {operands : List ReadName} (read1 : Parses names1 operand_steps (name_pieces kind.Value) old (Ok operands) s1) where
      at1 : Left names1 (drop 3 canonical_front) old s1 (name_pieces kind.Value operands)
      at1 = steps_more l types attr setting (name_pieces kind.Value) operand_steps (drop 3 canonical_front) names1 at0 kept1 (read1 fine)

      pub no_successors : (names : List Text) {fault : ParseFault A} {new : S} → Parses names successor_steps (name_pieces kind.Block) s1 (Err fault) new → NoForm names fault new
      no_successors names h = steps_refused l types attr setting (name_pieces kind.Block) pieces_of successor_steps (drop 6 canonical_front) names names at1 (h (fine_there l at1.passed))

      module _ (names2 : List Text) (kept2 : KeepsNames names1 names2) {s2 : S} {successors : List ReadName} (read2 : Parses names2 successor_steps (name_pieces kind.Block) s1 (Ok successors) s2) where
        at2 : Left names2 (drop 6 canonical_front) old s2 (name_pieces kind.Value operands ++ name_pieces kind.Block successors)
        at2 = steps_more l types attr setting (name_pieces kind.Block) successor_steps (drop 6 canonical_front) names2 at1 kept2 (read2 (fine_there l at1.passed))

        pub no_entries : {fault : ParseFault A} {new : S} → Parses names2 dictionary_steps dictionary_pieces s2 (Err fault) new → NoForm names2 fault new
        no_entries h = steps_refused l types attr setting dictionary_pieces pieces_of dictionary_steps (drop 7 canonical_front) names2 names2 at2 (h (fine_there l at2.passed))

        module _ {s3 : S} {entries : Vec (Key × AttrObj A) Global} (read3 : Parses names2 dictionary_steps dictionary_pieces s2 (Ok entries) s3) where
          at3 : Left names2 (drop 7 canonical_front) old s3 (name_pieces kind.Value operands ++ name_pieces kind.Block successors ++ dictionary_pieces entries)
          at3 = steps_more l types attr setting dictionary_pieces dictionary_steps (drop 7 canonical_front) names2 at2 (λ i text k. k) (read3 (fine_there l at2.passed))

          pub no_types : {fault : ParseFault A} {new : S} → Parses names2 signature_steps signature_pieces s3 (Err fault) new → NoForm names2 fault new
          no_types h = steps_refused l types attr setting signature_pieces pieces_of signature_steps [] names2 names2 at3 (h (fine_there l at3.passed))

          -- all parts were parsed
          pub form_read : {s4 : S} {inputs results : List T} → Parses names2 signature_steps signature_pieces s3 (Ok (inputs, results)) s4
              → MustSteps l.view l.at names2 types attr setting canonical_front pieces_of old (Ok (record { operands = operands; successors = successors; entries = entries; inputs = inputs; results = results })) s4
          form_read h =
              steps_end l types attr setting pieces_of _ refl
              (steps_more l types attr setting signature_pieces signature_steps [] names2 at3 (λ i text k. k) (h (fine_there l at3.passed)))
