-- The conditions on formats in words: which directives are in the list, where, and which characters can come after a list.
use Rattle.std.specs.Prelude.{◌≡◌, ℕ, suc, ◌<◌, ◌≤◌, ◌⊎◌, true, List, length, drop, slice_get, Some}
use Rattle.irtext_base.specs.Text.{Text, begins_word}
use Rattle.irtext_base.specs.Format.{Directive, word, operand, operands, successor, successors, attribute, dictionary, result_type, region, regions, header, region_places, given_names_key, sym_name_key}

-- the directive is at this index of the list
abbrev pub IsListedAt : Directive → List Directive → ℕ → Type 0
IsListedAt d ds i = slice_get ds i ≡ Some d

-- the directive is in the list
abbrev pub IsListed : Directive → List Directive → Type 0
IsListed d ds = (i : ℕ) × IsListedAt d ds i

-- the directive is not at two indices of the list
abbrev pub IsListedOnce : Directive → List Directive → Type 0
IsListedOnce d ds = (i j : ℕ) → IsListedAt d ds i → IsListedAt d ds j → i ≡ j

-- the directives of one kind name the numbers below some number, each once, and no other
abbrev pub NameAllBelow : (ℕ → Directive) → List Directive → Type 0
NameAllBelow single ds = (n : ℕ) × ((k : ℕ) → k < n → IsListed (single k) ds × IsListedOnce (single k) ds) × ((k : ℕ) → n ≤ k → IsListed (single k) ds → ⊥)

-- C1: a fixed word has a character, and each of its characters is printable ASCII and no space
abbrev pub C1 : List Directive → Type 0
C1 ds = (s : Text) → IsListed (word s) ds → (0 < length s) × ((i c : ℕ) → slice_get s i ≡ Some c → (33 ≤ c) × (c ≤ 126))

-- C2: the indices of the operands that are named are 0 to one below their number, each once, and there is at most one list of operands
abbrev pub C2 : List Directive → Type 0
C2 ds = NameAllBelow operand ds × IsListedOnce operands ds

-- C3: the same for successors
abbrev pub C3 : List Directive → Type 0
C3 ds = NameAllBelow successor ds × IsListedOnce successors ds

-- C4: the indices of the results whose types are named are 0 to one below their number, each once
abbrev pub C4 : List Directive → Type 0
C4 ds = NameAllBelow result_type ds

-- C5: the indices of the regions that are named are 0, 1 and so on, in this order; there is at most one list of regions, and none is named
-- after it
abbrev pub C5 : List Directive → Type 0
C5 ds = ((j k : ℕ) → slice_get (region_places ds) j ≡ Some k → k ≡ j) × IsListedOnce regions ds × ((i j k : ℕ) → IsListedAt regions ds i → IsListedAt (region k) ds j → i < j → ⊥)

-- C6: each key is named at most once, and that of given names never; there are at most one dictionary and at most one header; and beside a
-- header the key of the symbol's name is not named
abbrev pub C6 : List Directive → Type 0
C6 ds = ((k : Text) → IsListedOnce (attribute k) ds) × (IsListed (attribute given_names_key) ds → ⊥) × IsListedOnce dictionary ds × IsListedOnce header ds × (IsListed header ds → IsListed (attribute sym_name_key) ds → ⊥)

-- the directive prints one region or a list of regions
abbrev pub WritesRegions : Directive → Type 0
WritesRegions (region k) = Unit {0}
WritesRegions regions = Unit {0}
WritesRegions _ = ⊥

-- the directive prints names or a type
abbrev pub WritesNamesOrType : Directive → Type 0
WritesNamesOrType (operand k) = Unit {0}
WritesNamesOrType operands = Unit {0}
WritesNamesOrType (successor k) = Unit {0}
WritesNamesOrType successors = Unit {0}
WritesNamesOrType (result_type k) = Unit {0}
WritesNamesOrType _ = ⊥

-- C7: after regions there are no names and no type
abbrev pub C7 : List Directive → Type 0
C7 ds = (i j : ℕ) (d e : Directive) → IsListedAt d ds i → IsListedAt e ds j → i < j → WritesRegions d → WritesNamesOrType e → ⊥

-- the directive prints a list, which may be empty
abbrev pub WritesList : Directive → Type 0
WritesList operands = Unit {0}
WritesList successors = Unit {0}
WritesList regions = Unit {0}
WritesList _ = ⊥

-- what the directive prints can begin with this character: a name and a type with a letter or `_` (95), an attribute with these or `!`
-- (33), a successor with `^` (94), a dictionary with `[` (91), a region with `{` (123), a symbol with `@` (64)
abbrev pub Begins : Directive → ℕ → Type 0
Begins (word s) c = slice_get s 0 ≡ Some c
Begins (operand i) c = begins_word c ≡ true
Begins operands c = begins_word c ≡ true
Begins (successor i) c = c ≡ 94
Begins successors c = c ≡ 94
Begins (attribute k) c = (begins_word c ≡ true) ⊎ (c ≡ 33)
Begins dictionary c = c ≡ 91
Begins (result_type i) c = begins_word c ≡ true
Begins (region i) c = c ≡ 123
Begins regions c = c ≡ 123
Begins header c = c ≡ 64

-- a list that the directive prints can continue with this character: the first of its next element, or the comma (44)
abbrev pub GoesOn : Directive → ℕ → Type 0
GoesOn operands c = (begins_word c ≡ true) ⊎ (c ≡ 44)
GoesOn successors c = (c ≡ 94) ⊎ (c ≡ 44)
GoesOn regions c = c ≡ 123
GoesOn _ c = ⊥

-- this character can come after an operation: `!`, `;` (59), `}` (125), or the `^` of the next block
abbrev pub MayFollow : ℕ → Type 0
MayFollow c = (c ≡ 33) ⊎ ((c ≡ 59) ⊎ ((c ≡ 125) ⊎ (c ≡ 94)))

-- all directives before this index print lists
abbrev pub ListsAlone : ℕ → List Directive → Type 0
ListsAlone j ds = (m : ℕ) (d : Directive) → m < j → IsListedAt d ds m → WritesList d

-- this character can come first in what these directives print, with what comes after the operation: one of them can begin with it and all
-- before it print lists, or all of them print lists and it can come after the operation
abbrev pub CanFollow : List Directive → ℕ → Type 0
CanFollow ds c = ((j : ℕ) × (e : Directive) × IsListedAt e ds j × ListsAlone j ds × Begins e c) ⊎ (ListsAlone (length ds) ds × MayFollow c)

-- C8: no character that can come after a list could continue it
abbrev pub C8 : List Directive → Type 0
C8 ds = (i : ℕ) (d : Directive) (c : ℕ) → IsListedAt d ds i → GoesOn d c → CanFollow (drop (suc i) ds) c → ⊥
