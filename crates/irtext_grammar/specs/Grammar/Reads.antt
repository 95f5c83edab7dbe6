-- For callers: the grammar. Each construct has a `Reading`, which relates a text to what is left of it, given those of its parts. The
-- next character decides between alternatives.
use Rattle.std.specs.Prelude.{◌≡◌, false, ◌==◌, ◌||◌, ◌⊎◌, List, [], ◌∷◌, map, Option, Some, None, codes}
use Rattle.irtext_base.specs.Text.{Text, begins, after_space, begins_word}
use Rattle.irtext_base.specs.Reading.{Reading, ◌▹◌, ◌▸◌, nothing, never, white, ends, the, literal, keyword, identifier, number, separated, repeated}
use Rattle.irtext_grammar.specs.Grammar.Forest.{Regions, no_regions, region, Blocks, no_blocks, block, Operations, no_operations, operation}
use Rattle.irtext_grammar.specs.Grammar.Tree as tree
use Rattle.irtext_grammar.specs.Grammar.Tree.{Name, Mark, Attribute, given_names, ident, own, Piece, Part, Op, Head, Brace, shown, elided, Tree, IsOf, parts_of}
use Rattle.irtext_base.specs.Format.{Format, Id}
use Rattle.irtext_base.specs.Own.{Language, found, missing}

-- the id of an operation: its dialect, a dot, and its name in the dialect
abbrev pub id : Id → Reading
id i = identifier i.dialect ▸ literal (codes ".") ▸ identifier i.name

-- no identifier begins here
abbrev pub no_word : Text → Type 0
no_word text = begins begins_word text ≡ false

-- a given name, or `?` if there is none
abbrev pub given_name : Option Text → Reading
given_name None = literal (codes "?")
given_name (Some n) = identifier n

-- neither a given name nor `?` begins here
abbrev pub no_given_name : Text → Type 0
no_given_name text = begins (λ c. begins_word c || c == 63) text ≡ false

-- no label begins here
abbrev pub no_label : Text → Type 0
no_label text = begins (the 94) text ≡ false

-- no operation begins here, after white space
abbrev pub no_operation : Text → Type 0
no_operation text = begins (λ c. begins_word c || c == 61) (after_space text) ≡ false

module _ {P T A : Type 0} (L : Language P T A) where
  -- `reading`, at a text whose place is the given one
  abbrev pub here : P → Reading → Reading
  here place reading text rest = L.at place text × reading text rest

  -- an identifier
  abbrev pub name : Name P → Reading
  name n = here n.place (identifier n.text)

  -- a block's label; its place is that of the `^`
  abbrev pub label : Name P → Reading
  label n = here n.place (literal (codes "^") ▸ identifier n.text)

  -- the label of a successor; its place is that of the name, one character after the `^`
  abbrev pub target : Name P → Reading
  target n = literal (codes "^") ▸ here n.place (identifier n.text)

  -- a mark: `!` and a number; its place is that of the `!`
  abbrev pub mark : Mark P → Reading
  mark m = here m.place (literal (codes "!") ▸ number m.index)

  -- a mark if `!` comes next; otherwise nothing
  abbrev pub mark_if : Option (Mark P) → Reading
  mark_if None = ends (the 33)
  mark_if (Some m) = mark m

  -- a type, by its own parser
  abbrev pub type : T → Reading
  type t text rest = L.types.outcome text ≡ found t rest

  -- no type begins here
  abbrev pub no_type : Text → Type 0
  no_type text = L.types.outcome text ≡ missing

  -- an attribute of the caller, by its own parser
  abbrev pub own_read : A → Reading
  own_read a text rest = L.owns.outcome text ≡ found a rest

  -- `reading`, unless this keyword comes next
  abbrev pub unless : Text → Reading → Reading
  unless word reading text rest = ((after : Text) → keyword word text after → ⊥) × reading text rest

  -- a list of given names or an identifier, each after its keyword, or an attribute of the caller
  abbrev pub attribute : Attribute A → Reading
  attribute (given_names ns) = keyword (codes "builtin.given_names") ▹ literal (codes "[")
      ▹ separated 44 no_given_name (map given_name ns) ▹ literal (codes "]")
  attribute (ident n) = keyword (codes "builtin.identifier") ▹ identifier n
  attribute (own a) = unless (codes "builtin.given_names") (unless (codes "builtin.identifier") (own_read a))

  -- a key, `:`, and an attribute
  abbrev pub entry : Name P × Attribute A → Reading
  entry e = name e.0 ▹ literal (codes ":") ▹ attribute e.1

  -- entries in brackets, with `,` between
  abbrev pub dictionary : List (Name P × Attribute A) → Reading
  dictionary es = literal (codes "[") ▹ separated 44 no_word (map entry es) ▹ literal (codes "]")

  -- a dictionary if `[` comes next; otherwise nothing
  abbrev pub dictionary_if : Option (List (Name P × Attribute A)) → Reading
  dictionary_if None = ends (the 91)
  dictionary_if (Some es) = dictionary es

  -- a name, `:`, and a type
  abbrev pub argument : Name P × T → Reading
  argument a = name a.0 ▹ literal (codes ":") ▹ type a.1

  -- what a directive parses, unless it is a region
  abbrev pub piece : Piece P T A → Reading
  piece (tree.word s) = literal s
  piece (tree.operand i n) = name n
  piece (tree.operands ns) = separated 44 no_word (map name ns)
  piece (tree.successor i n) = target n
  piece (tree.successors ns) = separated 44 no_label (map target ns)
  piece (tree.attribute k None) = literal (codes "!outlined")
  piece (tree.attribute k (Some a)) = attribute a
  piece (tree.dictionary es) = dictionary es
  piece (tree.result_type i t) = type t
  piece (tree.header n) = here n.place (literal (codes "@") ▸ identifier n.text)
  piece (tree.types ts) = separated 44 no_type (map type ts)

  -- the parts, with white space before each; the regions' readings are used in order
  abbrev pub parts : List (Part P T A) → List Reading → Reading
  parts [] [] = nothing
  parts [] (r ∷ rs) = never
  parts (tree.piece p ∷ ps) rs = white (piece p ▸ parts ps rs)
  parts (tree.region i ∷ ps) [] = never
  parts (tree.region i ∷ ps) (r ∷ rs) = white (r ▸ parts ps rs)
  parts (tree.regions ∷ ps) rs = white (repeated (the 123) rs ▸ parts ps [])

  -- names with `,` between, and then `=`
  abbrev pub results : List (Name P) → Reading
  results ns = separated 44 no_word (map name ns) ▹ literal (codes "=")

  -- names and `=` if a whole list of names and `=` comes next; otherwise nothing, and there are no names
  abbrev pub results_if : List (Name P) → Reading
  results_if ns text rest = results ns text rest
      ⊎ ((ns ≡ []) × (rest ≡ text) × ((others : List (Name P)) (left : Text) → results others text left → ⊥))

  -- `reading`, if the operation is registered and its body has the shape of its format
  abbrev pub registered : Op P T A → Reading → Reading
  registered op reading text rest = ((f : Format) × (L.format_of op.id ≡ Some f) × IsOf f op.body) × reading text rest

  -- an operation: the names of its results, its id, its parts, and its mark
  abbrev pub operation_read : Op P T A → List Reading → Reading
  operation_read op regions = here op.place (registered op (white (results_if op.names ▹ id op.id ▸ parts (parts_of op.body) regions ▹ mark_if op.mark)))

  -- a block: its label, its arguments, its dictionary, its mark, `:`, and its operations with `;` between
  abbrev pub block_read : Head P T A → List Reading → Reading
  block_read h operations = label h.label ▹ literal (codes "(") ▹ separated 44 no_word (map argument h.arguments) ▹ literal (codes ")")
      ▹ dictionary_if h.attributes ▹ mark_if h.mark ▹ literal (codes ":") ▹ separated 59 no_operation operations

  -- blocks in braces; for an elided region, what the language allows in its place
  abbrev pub region_read : Brace P → List Reading → Reading
  region_read elided [] = L.left_out
  region_read elided (b ∷ blocks) = never
  region_read (shown place) blocks = here place (literal (codes "{") ▹ repeated (the 94) blocks ▹ literal (codes "}"))

  abbrev mutual
    -- the reading of each region
    pub region_readings : Regions (Op P T A) (Head P T A) (Brace P) → List Reading
    region_readings no_regions = []
    region_readings (region brace blocks regions) = region_read brace (block_readings blocks) ∷ region_readings regions

    -- the reading of each block
    pub block_readings : Blocks (Op P T A) (Head P T A) (Brace P) → List Reading
    block_readings no_blocks = []
    block_readings (block head operations blocks) = block_read head (operation_readings operations) ∷ block_readings blocks

    -- the reading of each operation
    pub operation_readings : Operations (Op P T A) (Head P T A) (Brace P) → List Reading
    operation_readings no_operations = []
    operation_readings (operation op regions operations) = operation_read op (region_readings regions) ∷ operation_readings operations

  -- the text parses as the tree, with this rest
  abbrev pub reads : Tree P T A → Reading
  reads t = operation_read t.own (region_readings t.regions)
