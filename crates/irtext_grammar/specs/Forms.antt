-- Between functions: the pieces of an operation, by the form that they were parsed in.
use Rattle.std.specs.Prelude.{List, [], ◌∷◌, ◌++◌, Vec}
use Rattle.irtext_grammar.specs.declared.found.Form.{Form}
use Rattle.irtext_grammar.specs.declared.found.Form.TheVariants.{Canonical, Custom}
use Rattle.irtext_grammar.specs.declared.parsed.ReadPiece.{ReadPiece}
use Rattle.irtext_grammar.specs.declared.parsed.CanonicalPieces.{CanonicalPieces}
use Rattle.irtext_grammar.specs.declared.parsed.ReadName.{ReadName}
use Rattle.std.specs.Global.{Global}
use Rattle.irtext_base.specs.declared.base.attributes.AttrObj.{AttrObj}
use Rattle.irtext_grammar.specs.declared.parsed.Key.{Key}
use Rattle.irtext_grammar.specs.declared.parsed.ReadPiece.TheVariants as read
use Rattle.irtext_grammar.specs.declared.parsed.NameKind.{NameKind}
use Rattle.irtext_grammar.specs.declared.parsed.NameKind.TheVariants as kind

module _ {T A : Type 0} where
  -- the piece that was parsed, of several names of this kind
  abbrev pub read_names : NameKind → List ReadName → ReadPiece T A
  read_names kind.Value = read.Operands
  read_names kind.Block = read.Successors

  -- the pieces of the names of this kind between two fixed texts
  abbrev pub name_pieces : NameKind → List ReadName → List (ReadPiece T A)
  name_pieces kind ns = read.Word ∷ read_names kind ns ∷ read.Word ∷ []

  -- the piece of the dictionary
  abbrev pub dictionary_pieces : Vec (Key × AttrObj A) Global → List (ReadPiece T A)
  dictionary_pieces es = read.Dictionary es ∷ []

  -- the pieces of types in parentheses
  abbrev pub type_pieces : List T → List (ReadPiece T A)
  type_pieces ts = read.Word ∷ read.Types ts ∷ read.Word ∷ []

  -- the pieces of the types of the operands and of the results
  abbrev pub signature_pieces : List T × List T → List (ReadPiece T A)
  signature_pieces ts = read.Word ∷ read.Word ∷ type_pieces ts.0 ++ read.Word ∷ type_pieces ts.1 ++ read.Word ∷ []

-- the pieces of the canonical form
abbrev pub pieces_of : {T A : Type 0} → CanonicalPieces T A → List (ReadPiece T A)
pieces_of p = name_pieces kind.Value p.operands ++ name_pieces kind.Block p.successors ++ dictionary_pieces p.entries ++ signature_pieces (p.inputs, p.results)

-- the pieces in the order of the text
abbrev pub form_pieces : {T A : Type 0} → Form T A → List (ReadPiece T A)
form_pieces (Canonical pieces) = pieces_of pieces
form_pieces (Custom pieces) = pieces
