-- For callers: the tree that a text parses to. P is what a node keeps of its place in the text; T are the types and A the attributes of
-- the caller.
use Rattle.std.specs.Prelude.{codes, ◌≡◌, ℕ, zero, suc, cond, ◌==◌, List, [], ◌∷◌, ◌++◌, length, map, Option, Some, None, option_to_list, ⊤}
use Rattle.irtext_base.specs.Text.{Text}
use Rattle.irtext_base.specs.Format as format
use Rattle.irtext_base.specs.Format.{Id}
use Rattle.irtext_grammar.specs.Grammar.Forest.{Root}

-- a name, a key or a label, with its place in the text
pub record Name (P : Type 0) : Type 0 where
  pub place : P
  pub text : Text

-- a mark: the index of an entry of the section, with its place in the text
pub record Mark (P : Type 0) : Type 0 where
  pub place : P
  pub index : ℕ

-- given names, an identifier, or an attribute of the caller
pub data Attribute (A : Type 0) : Type 0 where
  given_names : List (Option Text) → Attribute A
  ident : Text → Attribute A
  own : A → Attribute A

-- What one directive parses, unless it is a region; `types` is for the canonical form only.
pub data Piece (P T A : Type 0) : Type 0 where
  word : Text → Piece P T A
  operand : ℕ → Name P → Piece P T A
  operands : List (Name P) → Piece P T A
  successor : ℕ → Name P → Piece P T A
  successors : List (Name P) → Piece P T A
  attribute : Text → Option (Attribute A) → Piece P T A
  dictionary : List (Name P × Attribute A) → Piece P T A
  result_type : ℕ → T → Piece P T A
  header : Name P → Piece P T A
  types : List T → Piece P T A

-- A piece, or the next of the operation's regions, or all regions that are left.
pub data Part (P T A : Type 0) : Type 0 where
  piece : Piece P T A → Part P T A
  region : ℕ → Part P T A
  regions : Part P T A

-- what follows the operation's id: what the directives of its format parse, or the canonical form
pub data Body (P T A : Type 0) : Type 0 where
  custom : List (Part P T A) → Body P T A
  canonical : List (Name P) → List (Name P) → List (Name P × Attribute A) → List T → List T → Body P T A

-- an operation without its regions
pub record Op (P T A : Type 0) : Type 0 where
  pub place : P
  pub names : List (Name P)
  pub id : Id
  pub body : Body P T A
  pub mark : Option (Mark P)

-- a block without its operations
pub record Head (P T A : Type 0) : Type 0 where
  pub label : Name P
  pub arguments : List (Name P × T)
  pub attributes : Option (List (Name P × Attribute A))
  pub mark : Option (Mark P)

-- the own data of a region: its place if it is shown, or that it is elided
pub data Brace (P : Type 0) : Type 0 where
  shown : P → Brace P
  elided : Brace P

-- an operation with everything nested in it, as it is parsed
abbrev pub Tree : Type 0 → Type 0 → Type 0 → Type 0
Tree P T A = Root (Op P T A) (Head P T A) (Brace P)

-- The directive that parses a piece. A list of types has none: it is part of the canonical form only.
abbrev pub directive_of_piece : {P T A : Type 0} → Piece P T A → Option format.Directive
directive_of_piece (word s) = Some (format.word s)
directive_of_piece (operand i n) = Some (format.operand i)
directive_of_piece (operands ns) = Some format.operands
directive_of_piece (successor i n) = Some (format.successor i)
directive_of_piece (successors ns) = Some format.successors
directive_of_piece (attribute k a) = Some (format.attribute k)
directive_of_piece (dictionary es) = Some format.dictionary
directive_of_piece (result_type i t) = Some (format.result_type i)
directive_of_piece (header n) = Some format.header
directive_of_piece (types ts) = None

-- the directive that parses a part
abbrev pub directive : {P T A : Type 0} → Part P T A → Option format.Directive
directive (piece p) = directive_of_piece p
directive (region i) = Some (format.region i)
directive regions = Some format.regions

-- the parts of a body; those of the canonical form are listed here, too
abbrev pub parts_of : {P T A : Type 0} → Body P T A → List (Part P T A)
parts_of (custom ps) = ps
parts_of (canonical names labels entries operand_types result_types) =
    piece (word (codes "(")) ∷ piece (operands names) ∷ piece (word (codes ")")) ∷ piece (word (codes "[")) ∷ piece (successors labels) ∷ piece (word (codes "]"))
    ∷ piece (dictionary entries) ∷ piece (word (codes ":")) ∷ piece (word (codes "<")) ∷ piece (word (codes "(")) ∷ piece (types operand_types) ∷ piece (word (codes ")"))
    ∷ piece (word (codes "->")) ∷ piece (word (codes "(")) ∷ piece (types result_types) ∷ piece (word (codes ")")) ∷ piece (word (codes ">")) ∷ regions ∷ []

-- the body is one that this format parses
abbrev pub IsOf : {P T A : Type 0} → format.Format → Body P T A → Type 0
IsOf format.canonical (canonical _ _ _ _ _) = ⊤
IsOf (format.custom ds) (custom ps) = map directive ps ≡ map Some ds
IsOf _ _ = ⊥

-- The first element with the number k. The lists below use it: operands and successors are in the order of their indices, attributes in
-- that of the text.
abbrev pub at_place : {X : Type 0} → ℕ → List (ℕ × X) → Option X
at_place k [] = None
at_place k (e ∷ es) = cond (e.0 == k) (Some e.1) (at_place k es)

-- the elements with the numbers k to k + n - 1, in this order
abbrev pub in_order_from : {X : Type 0} → ℕ → ℕ → List (ℕ × X) → List X
in_order_from zero k es = []
in_order_from (suc n) k es = option_to_list (at_place k es) ++ in_order_from n (suc k) es

-- the elements with the numbers from 0 to one below the length, in this order
abbrev pub in_order : {X : Type 0} → List (ℕ × X) → List X
in_order es = in_order_from (length es) 0 es

-- what a function gives of the pieces, in the order of the text
abbrev pub views : {P T A X : Type 0} → (Piece P T A → List X) → List (Part P T A) → List X
views view [] = []
views view (piece p ∷ ps) = view p ++ views view ps
views view (_ ∷ ps) = views view ps

-- the names of an operation's operands, in the order of their indices
abbrev pub operand_names : {P T A : Type 0} → Op P T A → List (Name P)
operand_names o = in_order (views (λ p. elim p [ operand i n ↦ (i, n) ∷ [] | _ ↦ [] ]) (parts_of o.body))
    ++ views (λ p. elim p [ operands ns ↦ ns | _ ↦ [] ]) (parts_of o.body)

-- the labels of an operation's successors, in the order of their indices
abbrev pub successor_labels : {P T A : Type 0} → Op P T A → List (Name P)
successor_labels o = in_order (views (λ p. elim p [ successor i n ↦ (i, n) ∷ [] | _ ↦ [] ]) (parts_of o.body))
    ++ views (λ p. elim p [ successors ns ↦ ns | _ ↦ [] ]) (parts_of o.body)
