-- The formats of operations, and which of them are parsed in one way only.
use Rattle.std.specs.Prelude.{◌≡◌, ℕ, suc, Bool, true, false, cond, not, ◌&&◌, ◌||◌, ◌==◌, nat_lt, if◌then◌else◌, List, [], ◌∷◌, ◌++◌, length, codes, Some, None, filter_map}
use Rattle.std.specs.List.{list_all}
use Rattle.std.specs.Char.{is_ascii_graphic}
use Rattle.irtext_base.specs.Text.{Text, begins_word}

-- the id of an operation: its dialect and its name in the dialect
pub record Id : Type 0 where
  pub dialect : Text
  pub name : Text

-- one step of a format: a fixed word, or the part of the operation that is printed there
pub data Directive : Type 0 where
  word : Text → Directive
  operand : ℕ → Directive
  operands : Directive
  successor : ℕ → Directive
  successors : Directive
  attribute : Text → Directive
  dictionary : Directive
  result_type : ℕ → Directive
  region : ℕ → Directive
  regions : Directive
  header : Directive

-- how an operation is printed: in the canonical form, which any operation has, or by a list of directives of its own
pub data Format : Type 0 where
  canonical : Format
  custom : List Directive → Format

-- the two texts are the same
abbrev pub same_text : Text → Text → Bool
same_text [] [] = true
same_text (c ∷ s) (d ∷ t) = (c == d) && same_text s t
same_text _ _ = false

-- some element is the same as this one, by the given test
abbrev pub has : {X : Type 0} → (X → X → Bool) → X → List X → Bool
has same x [] = false
has same x (y ∷ ys) = same x y || has same x ys

-- no element is the same as a later one
abbrev pub distinct : {X : Type 0} → (X → X → Bool) → List X → Bool
distinct same [] = true
distinct same (x ∷ xs) = not (has same x xs) && distinct same xs

-- the elements are the numbers below the length of the list, each once, in any order
abbrev pub are_places : List ℕ → Bool
are_places ks = distinct ◌==◌ ks && list_all (λ k. nat_lt k (length ks)) ks

-- the elements are n, n + 1 and so on, in this order
abbrev pub ascend : ℕ → List ℕ → Bool
ascend n [] = true
ascend n (k ∷ ks) = (k == n) && ascend (suc n) ks

-- the indices of the operands that have a directive of their own
abbrev pub operand_places : List Directive → List ℕ
operand_places = filter_map (λ d. elim d [ operand i ↦ Some i | _ ↦ None ])

-- the indices of the successors that have a directive of their own
abbrev pub successor_places : List Directive → List ℕ
successor_places = filter_map (λ d. elim d [ successor i ↦ Some i | _ ↦ None ])

-- the indices of the results whose types have a directive
abbrev pub type_places : List Directive → List ℕ
type_places = filter_map (λ d. elim d [ result_type i ↦ Some i | _ ↦ None ])

-- the indices of the regions that have a directive of their own
abbrev pub region_places : List Directive → List ℕ
region_places = filter_map (λ d. elim d [ region i ↦ Some i | _ ↦ None ])

-- the keys of the attributes that have a directive of their own
abbrev pub keys : List Directive → List Text
keys = filter_map (λ d. elim d [ attribute k ↦ Some k | _ ↦ None ])

-- the directive is the list of operands
abbrev pub is_operands : Directive → Bool
is_operands d = elim d [ operands ↦ true | _ ↦ false ]

-- the directive is the list of successors
abbrev pub is_successors : Directive → Bool
is_successors d = elim d [ successors ↦ true | _ ↦ false ]

-- the directive is the list of regions
abbrev pub is_regions : Directive → Bool
is_regions d = elim d [ regions ↦ true | _ ↦ false ]

-- the directive is the dictionary
abbrev pub is_dictionary : Directive → Bool
is_dictionary d = elim d [ dictionary ↦ true | _ ↦ false ]

-- the directive is the symbol's name after `@`
abbrev pub is_header : Directive → Bool
is_header d = elim d [ header ↦ true | _ ↦ false ]

-- the directive prints one region, or all that are left
abbrev pub is_any_region : Directive → Bool
is_any_region d = elim d [ region i ↦ true | regions ↦ true | _ ↦ false ]

-- the directive prints a list, which may be empty
abbrev pub is_list : Directive → Bool
is_list d = elim d [ operands ↦ true | successors ↦ true | regions ↦ true | _ ↦ false ]

-- the number of directives that pass the test
abbrev pub count : (Directive → Bool) → List Directive → ℕ
count test [] = 0
count test (d ∷ ds) = cond (test d) (suc (count test ds)) (count test ds)

-- no directive that passes `late` has one after it that passes `early`
abbrev pub none_follows : (Directive → Bool) → (Directive → Bool) → List Directive → Bool
none_follows late early [] = true
none_follows late early (d ∷ ds) = (not (late d) || list_all (λ e. not (early e)) ds) && none_follows late early ds

-- if the directive is a fixed word, it is one or more printable ASCII characters
abbrev pub word_prints : Directive → Bool
word_prints d = elim d [ word s ↦ nat_lt 0 (length s) && list_all is_ascii_graphic s | _ ↦ true ]

-- C1: each fixed word is one or more printable ASCII characters
abbrev pub c1 : List Directive → Bool
c1 ds = list_all word_prints ds

-- C2: the indices of single operands are 0, 1 and so on, each once, in any order, and there is at most one list of operands
abbrev pub c2 : List Directive → Bool
c2 ds = are_places (operand_places ds) && nat_lt (count is_operands ds) 2

-- C3: the same for successors
abbrev pub c3 : List Directive → Bool
c3 ds = are_places (successor_places ds) && nat_lt (count is_successors ds) 2

-- C4: the indices of result types are 0, 1 and so on, each once, in any order
abbrev pub c4 : List Directive → Bool
c4 ds = are_places (type_places ds)

-- C5: the indices of single regions are 0, 1 and so on, in this order, and there is at most one list of regions, after all of them
abbrev pub c5 : List Directive → Bool
c5 ds = ascend 0 (region_places ds) && nat_lt (count is_regions ds) 2 && none_follows is_regions (λ d. elim d [ region i ↦ true | _ ↦ false ]) ds

-- the key of the given names of results or arguments
abbrev pub given_names_key : Text
given_names_key = codes "builtin_given_names"

-- the key under which a section has a block's label
abbrev pub block_label_key : Text
block_label_key = codes "builtin_block_label"

-- the key of a symbol's name
abbrev pub sym_name_key : Text
sym_name_key = codes "builtin_sym_name"

-- C6: no key comes twice or is the one of given names, there are at most one dictionary and at most one header, and beside a header there
-- is no directive for the key of a symbol's name
abbrev pub c6 : List Directive → Bool
c6 ds = distinct same_text (keys ds) && not (has same_text given_names_key (keys ds))
    && nat_lt (count is_dictionary ds) 2 && nat_lt (count is_header ds) 2
    && (not (nat_lt 0 (count is_header ds)) || not (has same_text sym_name_key (keys ds)))

-- C7: no name and no type comes after a region
abbrev pub c7 : List Directive → Bool
c7 ds = none_follows is_any_region (λ d. elim d [ operand i ↦ true | operands ↦ true | successor i ↦ true | successors ↦ true | result_type i ↦ true | _ ↦ false ]) ds

-- The kind of a character, for C8: all letters and `_` are of one kind, which is `_`; each other character is its own kind.
abbrev pub kind : ℕ → ℕ
kind c = cond (begins_word c) 95 c

-- the kind of a text's first character, if it has one
abbrev pub first_kinds : Text → List ℕ
first_kinds [] = []
first_kinds (c ∷ s) = kind c ∷ []

-- the kinds of the characters with which what the directive prints can begin
abbrev pub beginnings : Directive → List ℕ
beginnings (word s) = first_kinds s
beginnings (operand i) = codes "_"
beginnings operands = codes "_"
beginnings (successor i) = codes "^"
beginnings successors = codes "^"
beginnings (attribute k) = codes "_!"
beginnings dictionary = codes "["
beginnings (result_type i) = codes "_"
beginnings (region i) = codes "{"
beginnings regions = codes "{"
beginnings header = codes "@"

-- the kinds of the characters with which a list of the directive can continue
abbrev pub continuings : Directive → List ℕ
continuings operands = codes "_,"
continuings successors = codes "^,"
continuings regions = codes "{"
continuings _ = []

-- the kinds of the characters that can come first in what these directives print, with what comes after the operation: those of the first
-- directive, and those of the next ones as long as each before may print nothing
abbrev pub followers : List Directive → List ℕ
followers [] = codes "!;}^"
followers (d ∷ ds) = beginnings d ++ cond (is_list d) (followers ds) []

-- no element is in both lists
abbrev pub disjoint : List ℕ → List ℕ → Bool
disjoint cs ds = list_all (λ c. not (has ◌==◌ c ds)) cs

-- C8: no character that can come after a list can continue it
abbrev pub c8 : List Directive → Bool
c8 [] = true
c8 (d ∷ ds) = disjoint (continuings d) (followers ds) && c8 ds

-- The number of the first condition that the format fails, or 0 if it fails none.
abbrev pub first_fault : Format → ℕ
first_fault canonical = 0
first_fault (custom ds) = if c1 ds then (if c2 ds then (if c3 ds then (if c4 ds then (if c5 ds then (if c6 ds then (if c7 ds then (if c8 ds then 0 else 8) else 7) else 6) else 5) else 4) else 3) else 2) else 1

-- the format meets all conditions
abbrev pub Accepted : Format → Type 0
Accepted format = first_fault format ≡ 0
