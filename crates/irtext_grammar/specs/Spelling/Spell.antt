-- For callers: the printed text of a tree. The indentation, and the width of one more level, are in spaces.
use Rattle.std.specs.Prelude.{ℕ, ◌+◌, Bool, cond, ◌==◌, List, [], ◌∷◌, ◌++◌, map, replicate, Option, Some, None, codes, decimal}
use Rattle.irtext_base.specs.Text.{Text, begins}
use Rattle.irtext_base.specs.Format.{has, Id}
use Rattle.irtext_grammar.specs.Grammar.Forest.{Regions, no_regions, region, Blocks, no_blocks, block, Operations, no_operations, operation}
use Rattle.irtext_grammar.specs.Grammar.Tree as tree
use Rattle.irtext_grammar.specs.Grammar.Tree.{Name, Mark, Attribute, given_names, ident, own, Piece, Part, Body, Op, Head, Brace, shown, elided, Tree}
use Rattle.irtext_base.specs.Own.{Language}

-- each text, after the text `between`
abbrev pub joined_from : Text → List Text → Text
joined_from between [] = []
joined_from between (t ∷ ts) = between ++ (t ++ joined_from between ts)

-- the texts, with the text `between` between them
abbrev pub joined : Text → List Text → Text
joined between [] = []
joined between (t ∷ ts) = t ++ joined_from between ts

-- the separator of lists
abbrev pub comma : Text
comma = codes ", "

-- a newline and the spaces of the indentation
abbrev pub newline : ℕ → Text
newline n = 10 ∷ replicate n 32

-- a given name, or `?` if there is none
abbrev pub or_question : Option Text → Text
or_question None = codes "?"
or_question (Some n) = n

-- no space is printed before a word that begins with one of these
abbrev pub joins_left : ℕ → Bool
joins_left c = has ◌==◌ c (codes ",:;)]>")

module _ {P T A : Type 0} (L : Language P T A) where
  -- `^` and the name
  abbrev pub label : Name P → Text
  label n = codes "^" ++ n.text

  -- a mark after a space, if there is one
  abbrev pub mark_if : Option (Mark P) → Text
  mark_if None = []
  mark_if (Some m) = codes " !" ++ decimal m.index

  -- the text of an attribute
  abbrev pub attribute : Attribute A → Text
  attribute (given_names ns) = codes "builtin.given_names [" ++ (joined comma (map or_question ns) ++ codes "]")
  attribute (ident n) = codes "builtin.identifier " ++ n
  attribute (own a) = L.owns.written a

  -- a key and its attribute
  abbrev pub entry : Name P × Attribute A → Text
  entry e = e.0.text ++ (codes ": " ++ attribute e.1)

  -- entries in brackets
  abbrev pub dictionary : List (Name P × Attribute A) → Text
  dictionary es = codes "[" ++ (joined comma (map entry es) ++ codes "]")

  -- a dictionary after a space, if there is one
  abbrev pub dictionary_if : Option (List (Name P × Attribute A)) → Text
  dictionary_if None = []
  dictionary_if (Some es) = codes " " ++ dictionary es

  -- an argument, `:`, and its type
  abbrev pub argument : Name P × T → Text
  argument a = a.0.text ++ (codes ": " ++ L.types.written a.1)

  -- what a directive prints, unless it is a region
  abbrev pub piece : Piece P T A → Text
  piece (tree.word s) = s
  piece (tree.operand i n) = n.text
  piece (tree.operands ns) = joined comma (map (λ n. n.text) ns)
  piece (tree.successor i n) = label n
  piece (tree.successors ns) = joined comma (map label ns)
  piece (tree.attribute k None) = codes "!outlined"
  piece (tree.attribute k (Some a)) = attribute a
  piece (tree.dictionary es) = dictionary es
  piece (tree.result_type i t) = L.types.written t
  piece (tree.header n) = codes "@" ++ n.text
  piece (tree.types ts) = joined comma (map L.types.written ts)

  -- the space before a piece: none before a word that joins what precedes it
  abbrev pub space : Piece P T A → Text
  space (tree.word s) = cond (begins joins_left s) [] (codes " ")
  space _ = codes " "

  -- the parts; the texts of the regions are used in order
  abbrev pub parts : List (Part P T A) → List Text → Text
  parts [] rs = []
  parts (tree.piece p ∷ ps) rs = space p ++ (piece p ++ parts ps rs)
  parts (tree.region i ∷ ps) [] = parts ps []
  parts (tree.region i ∷ ps) (r ∷ rs) = codes " " ++ (r ++ parts ps rs)
  parts (tree.regions ∷ ps) rs = codes " " ++ (joined [] rs ++ parts ps [])

  -- the text after the id; in the canonical form all attributes are in the dictionary
  abbrev pub body : Body P T A → List Text → Text
  body (tree.custom ps) rs = parts ps rs
  body (tree.canonical names labels entries operand_types result_types) rs = codes " (" ++ (joined comma (map (λ n. n.text) names)
      ++ (codes ") [" ++ (joined comma (map label labels) ++ (codes "] " ++ (dictionary entries ++ (codes ": <("
      ++ (joined comma (map L.types.written operand_types) ++ (codes ") -> (" ++ (joined comma (map L.types.written result_types) ++ (codes ")>" ++ joined [] rs))))))))))

  -- the results' names and `=`, if there are any
  abbrev pub results : List (Name P) → Text
  results [] = []
  results (n ∷ ns) = joined comma (map (λ m. m.text) (n ∷ ns)) ++ codes " = "

  -- the id of an operation
  abbrev pub id : Id → Text
  id i = i.dialect ++ (codes "." ++ i.name)

  -- an operation without its mark, with the texts of its regions
  abbrev pub concrete : Op P T A → List Text → Text
  concrete op regions = results op.names ++ (id op.id ++ body op.body regions)

  -- an operation, with the texts of its regions
  abbrev pub operation_text : Op P T A → List Text → Text
  operation_text op regions = concrete op regions ++ mark_if op.mark

  module _ (width : ℕ) where
    -- a block at an indentation, with the texts of its operations
    abbrev pub block_text : ℕ → Head P T A → List Text → Text
    block_text n h operations = label h.label ++ (codes "(" ++ (joined comma (map argument h.arguments) ++ (codes ")" ++ (dictionary_if h.attributes
        ++ (mark_if h.mark ++ (codes ":" ++ (newline (n + width) ++ joined (codes ";" ++ newline (n + width)) operations)))))))

    -- a region at an indentation, with the texts of its blocks
    abbrev pub region_text : ℕ → Brace P → List Text → Text
    region_text n elided blocks = codes "{..}"
    region_text n (shown place) blocks = newline n ++ (codes "{" ++ (newline (n + width) ++ (joined (10 ∷ newline (n + width)) blocks ++ (newline n ++ codes "}"))))

    abbrev mutual
      -- the texts of the regions
      pub region_texts : ℕ → Regions (Op P T A) (Head P T A) (Brace P) → List Text
      region_texts n no_regions = []
      region_texts n (region brace blocks regions) = region_text n brace (block_texts (n + width) blocks) ∷ region_texts n regions

      -- the texts of the blocks
      pub block_texts : ℕ → Blocks (Op P T A) (Head P T A) (Brace P) → List Text
      block_texts n no_blocks = []
      block_texts n (block head operations blocks) = block_text n head (operation_texts (n + width) operations) ∷ block_texts n blocks

      -- the texts of the operations
      pub operation_texts : ℕ → Operations (Op P T A) (Head P T A) (Brace P) → List Text
      operation_texts n no_operations = []
      operation_texts n (operation op regions operations) = operation_text op (region_texts n regions) ∷ operation_texts n operations

    -- the text of an operation with everything nested in it, without a section
    abbrev pub spelled : ℕ → Tree P T A → Text
    spelled n t = operation_text t.own (region_texts n t.regions)
