-- Between functions: what parsed names, keys, entries, marks and pieces represent.
use Rattle.std.specs.Prelude.{◌≡◌, ℕ, List, [], ◌∷◌, ◌++◌, length, slice_get, Option, Some, None, Vec}
use Rattle.irtext_base.specs.Text.{Text}
use Rattle.irtext_stream.specs.Places.{IsPlaceAfter}
use Rattle.irtext_stream.specs.declared.position.Place.{Place}
use Rattle.irtext_grammar.specs.Grammar.Tree.{Name, Attribute, Mark, Piece, Part}
use Rattle.irtext_grammar.specs.declared.parsed.ReadName.{ReadName}
use Rattle.irtext_grammar.specs.declared.parsed.Symbol.{Symbol}
use Rattle.std.specs.Global.{Global}
use Rattle.irtext_base.specs.declared.base.attributes.AttrObj.{AttrObj}
use Rattle.irtext_grammar.specs.Contexts.Held.{attribute_of}
use Rattle.irtext_grammar.specs.declared.parsed.Key.{Key}
use Rattle.irtext_grammar.specs.declared.parsed.ReadMark.{ReadMark}
use Rattle.irtext_grammar.specs.Grammar.Tree as tree
use Rattle.irtext_grammar.specs.declared.parsed.ReadPiece.{ReadPiece}
use Rattle.irtext_grammar.specs.declared.parsed.ReadPiece.TheVariants as read

-- this many characters of the text are left after the position
pub record Leaves (text : Text) (place : Place) (left : ℕ) : Type 0 where
  pub passed : Text
  pub rest : Text
  pub same : passed ++ rest ≡ text
  pub positioned : IsPlaceAfter place passed
  pub counts : left ≡ length rest

-- the name's number is that of the text, and its position is the name's place
pub record Represents (names : List Text) (text : Text) (read : ReadName) (name : Name ℕ) : Type 0 where
  pub named : slice_get names read.name ≡ Some name.text
  pub place : Leaves text read.at name.place

-- the symbol has the text of the name, and is at the name's place
pub record IsSymbol (text : Text) (symbol : Symbol) (name : Name ℕ) : Type 0 where
  pub named : symbol.name ≡ name.text
  pub place : Leaves text symbol.at name.place

-- each element of the one list is related to the element of the other at the same index
abbrev pub Each : {X Y : Type 0} → (Y → X → Type 0) → List Y → List X → Type 0
Each R [] [] = Unit {0}
Each R [] (x ∷ xs) = ⊥
Each R (y ∷ ys) [] = ⊥
Each R (y ∷ ys) (x ∷ xs) = R y x × Each R ys xs

-- both are there and related, or neither is there
abbrev pub Optional : {X Y : Type 0} → (Y → X → Type 0) → Option Y → Option X → Type 0
Optional R None None = Unit {0}
Optional R None (Some x) = ⊥
Optional R (Some y) None = ⊥
Optional R (Some y) (Some x) = R y x

-- the key has the text of the name, and is at the name's place
pub record IsKey (text : Text) (key : Key) (name : Name ℕ) : Type 0 where
  pub named : key.name ≡ name.text
  pub place : Leaves text key.at name.place

-- the parsed entry has this key and this attribute
abbrev pub IsEntry : {A : Type 0} → Text → Key × AttrObj A → Name ℕ × Attribute A → Type 0
IsEntry text read entry = IsKey text read.0 entry.0 × (attribute_of read.1 ≡ entry.1)

-- the parsed entries are these
abbrev pub AreEntries : {A : Type 0} → Text → Vec (Key × AttrObj A) Global → List (Name ℕ × Attribute A) → Type 0
AreEntries text read entries = Each (IsEntry text) read.items entries

-- the parsed mark has the index of the mark, and is at its place
pub record IsMark (text : Text) (read : ReadMark) (mark : Mark ℕ) : Type 0 where
  pub indexed : read.index ≡ mark.index
  pub place : Leaves text read.at mark.place

-- the same, or there is none
abbrev pub IsMarkIf : Text → Option ReadMark → Option (Mark ℕ) → Type 0
IsMarkIf text None None = Unit {0}
IsMarkIf text None (Some mark) = ⊥
IsMarkIf text (Some read) None = ⊥
IsMarkIf text (Some read) (Some mark) = IsMark text read mark

-- the parsed attribute, or none
abbrev pub seen_attribute : {A : Type 0} → Option (AttrObj A) → Option (Attribute A)
seen_attribute None = None
seen_attribute (Some a) = Some (attribute_of a)

-- the parsed piece represents this piece of the text, with all parts
abbrev pub IsPiece : {T A : Type 0} → List Text → Text → ReadPiece T A → Piece ℕ T A → Type 0
IsPiece names text read.Word p = (s : Text) × (p ≡ tree.word s)
IsPiece names text (read.Operand i n) p = (m : Name ℕ) × (p ≡ tree.operand i m) × Represents names text n m
IsPiece names text (read.Operands ns) p = (ms : List (Name ℕ)) × (p ≡ tree.operands ms) × Each (Represents names text) ns ms
IsPiece names text (read.Successor i n) p = (m : Name ℕ) × (p ≡ tree.successor i m) × Represents names text n m
IsPiece names text (read.Successors ns) p = (ms : List (Name ℕ)) × (p ≡ tree.successors ms) × Each (Represents names text) ns ms
IsPiece names text (read.Attr k a) p = p ≡ tree.attribute k (seen_attribute a)
IsPiece {A = A} names text (read.Dictionary es) p = (ds : List (Name ℕ × Attribute A)) × (p ≡ tree.dictionary ds) × AreEntries text es ds
IsPiece names text (read.ResultType i t) p = p ≡ tree.result_type i t
IsPiece names text (read.Header s) p = (n : Name ℕ) × (p ≡ tree.header n) × IsSymbol text s n
IsPiece names text (read.Types ts) p = p ≡ tree.types ts

-- the piece represents this part
abbrev pub IsPart : {T A : Type 0} → List Text → Text → ReadPiece T A → Part ℕ T A → Type 0
IsPart {T = T} {A = A} names text read part = (p : Piece ℕ T A) × (part ≡ tree.piece p) × IsPiece names text read p
