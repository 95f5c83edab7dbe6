-- For callers: trees that can be printed: each name is an identifier, and each fixed word begins with a printable character.
use Rattle.std.specs.Prelude.{◌≡◌, ◌<◌, ◌^◌, true, List, [], ◌∷◌, Option, Some, None, ⊤}
use Rattle.std.specs.Char.{is_ascii_graphic}
use Rattle.irtext_base.specs.Text.{Text, begins, is_identifier}
use Rattle.irtext_grammar.specs.Grammar.Forest.{Regions, no_regions, region}
use Rattle.irtext_grammar.specs.Grammar.Tree as tree
use Rattle.irtext_grammar.specs.Grammar.Tree.{Name, Mark, Attribute, given_names, ident, own, Piece}

-- the property holds of each element
abbrev pub Each : {X : Type 0} → (X → Type 0) → List X → Type 0
Each Q [] = ⊤
Each Q (x ∷ xs) = Q x × Each Q xs

-- the text is an identifier
abbrev pub IsIdentifier : Text → Type 0
IsIdentifier s = is_identifier s ≡ true

-- the name is an identifier
abbrev pub IsName : {P : Type 0} → Name P → Type 0
IsName n = IsIdentifier n.text

-- the given name is an identifier, if there is one
abbrev pub IsGiven : Option Text → Type 0
IsGiven None = ⊤
IsGiven (Some s) = IsIdentifier s

-- the names in an attribute are identifiers; of the caller's own attribute nothing is asked
abbrev pub IsSpellableAttribute : {A : Type 0} → Attribute A → Type 0
IsSpellableAttribute (given_names ns) = Each IsGiven ns
IsSpellableAttribute (ident s) = IsIdentifier s
IsSpellableAttribute (own a) = ⊤

-- the key of an entry and the names in its attribute are identifiers
abbrev pub IsSpellableEntry : {P A : Type 0} → Name P × Attribute A → Type 0
IsSpellableEntry e = IsName e.0 × IsSpellableAttribute e.1

-- the names in a piece are identifiers, the first character of a fixed word is printable ASCII, and the piece is no list of types
abbrev pub IsSpellable : {P T A : Type 0} → Piece P T A → Type 0
IsSpellable (tree.word s) = begins is_ascii_graphic s ≡ true
IsSpellable (tree.operand i n) = IsName n
IsSpellable (tree.operands ns) = Each IsName ns
IsSpellable (tree.successor i n) = IsName n
IsSpellable (tree.successors ns) = Each IsName ns
IsSpellable (tree.attribute k None) = ⊤
IsSpellable (tree.attribute k (Some a)) = IsSpellableAttribute a
IsSpellable (tree.dictionary es) = Each IsSpellableEntry es
IsSpellable (tree.result_type i t) = ⊤
IsSpellable (tree.header n) = IsName n
IsSpellable (tree.types ts) = ⊥

-- each part is spellable in this sense; of regions nothing is asked
abbrev pub AreSpellable : {P T A : Type 0} → List (tree.Part P T A) → Type 0
AreSpellable [] = ⊤
AreSpellable (tree.piece p ∷ ps) = IsSpellable p × AreSpellable ps
AreSpellable (_ ∷ ps) = AreSpellable ps

-- there is a part for each region, and a region for each part that takes one region
abbrev pub Enough : {P T A O B R : Type 0} → List (tree.Part P T A) → Regions O B R → Type 0
Enough [] no_regions = ⊤
Enough [] (region r bs rs) = ⊥
Enough (tree.piece p ∷ ps) rs = Enough ps rs
Enough (tree.region i ∷ ps) no_regions = ⊥
Enough (tree.region i ∷ ps) (region r bs rs) = Enough ps rs
Enough {P} {T} {A} {O} {B} {R} (tree.regions ∷ ps) rs = Enough {O = O} {B = B} {R = R} ps no_regions

-- a mark's index is below 2 ^ 64
abbrev pub IsSpellableMark : {P : Type 0} → Option (Mark P) → Type 0
IsSpellableMark None = ⊤
IsSpellableMark (Some m) = m.index < 2 ^ 64
