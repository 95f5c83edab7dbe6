-- For callers: an operation as the arenas hold it, and the tree that is printed of it: names and marks are added, and the contents of
-- elided regions are left out. An item is an operation or a block that carries a mark.
use Rattle.std.specs.Prelude.{ℕ, zero, suc, ◌+◌, Bool, true, false, cond, not, ◌==◌, List, [], ◌∷◌, ◌++◌, map, drop, length, filter, filter_map, flat_map, slice_get, Option, Some, None, option_map, option_and_then, ⊤}
use Rattle.irtext_base.specs.Text.{Text}
use Rattle.irtext_grammar.specs.Grammar.Forest.{Regions, no_regions, region, Blocks, no_blocks, block, Operations, no_operations, operation, Root}
use Rattle.irtext_base.specs.Format as format
use Rattle.irtext_base.specs.Format.{Format, same_text, has, keys, operand_places, successor_places, is_header, block_label_key, sym_name_key, count, Id}
use Rattle.irtext_grammar.specs.Grammar.Tree as tree
use Rattle.irtext_grammar.specs.Grammar.Tree.{Name, Mark, Attribute, given_names, ident, own, Part, Body, Op, Head, Brace, shown, elided, Tree}
use Rattle.irtext_grammar.specs.Spelling.PrintedNames.{value_name, block_name}

-- an operation without its regions: values are given by their numbers, blocks by place and generation; the location is a text, if it is
-- known
pub record GraphOp (T A : Type 0) : Type 0 where
  pub id : Id
  pub results : List (ℕ × T)
  pub operands : List ℕ
  pub successors : List (ℕ × ℕ)
  pub attributes : List (Text × Attribute A)
  pub location : Option Text

-- a block without its operations
pub record GraphBlock (T A : Type 0) : Type 0 where
  pub place : ℕ × ℕ
  pub arguments : List (ℕ × T)
  pub attributes : List (Text × Attribute A)
  pub location : Option Text

-- an operation with everything nested in it
abbrev pub Graph : Type 0 → Type 0 → Type 0
Graph T A = Root (GraphOp T A) (GraphBlock T A) ⊤

-- what printing asks of the rest of the context, and of the caller's attributes
pub record Printing (T A : Type 0) : Type 0 where
  pub given : ℕ → Option Text
  pub label : ℕ × ℕ → Option Text
  pub type_of : ℕ → Option T
  pub own_outlined : A → Bool
  pub own_once : A → Bool
  pub same_own : A → A → Bool
  pub format_of : Id → Option Format

-- how many levels of regions are printed, if that is limited
abbrev pub Limit : Type 0
Limit = Option ℕ

-- the first value under a key
abbrev pub lookup : {X : Type 0} → Text → List (Text × X) → Option X
lookup key [] = None
lookup key (e ∷ es) = cond (same_text key e.0) (Some e.1) (lookup key es)

-- the entry of a section for a label, if there is one
abbrev pub label_entry : {A : Type 0} → Option Text → List (Text × Attribute A)
label_entry None = []
label_entry (Some l) = (block_label_key, ident l) ∷ []

module _ {T A : Type 0} (C : Printing T A) where
  -- the attribute is printed in the section, not inline
  abbrev pub outlined : Attribute A → Bool
  outlined (given_names ns) = true
  outlined (ident n) = false
  outlined (own a) = C.own_outlined a

  -- a name without a place in a text
  abbrev pub named : Text → Name ⊤
  named text = record { place = tt; text = text }

  -- the printed name of a value
  abbrev pub value : ℕ → Name ⊤
  value v = named (value_name (C.given v) v)

  -- the printed name of a block
  abbrev pub target : ℕ × ℕ → Name ⊤
  target b = named (block_name (C.label b) b)

  -- the entries that are printed inline
  abbrev pub inline : List (Text × Attribute A) → List (Text × Attribute A)
  inline es = filter (λ e. not (outlined e.1)) es

  -- the entries with their keys as names
  abbrev pub entries : List (Text × Attribute A) → List (Name ⊤ × Attribute A)
  entries es = map (λ e. (named e.0, e.1)) es

  -- the keys that directives of the format print
  abbrev pub written_keys : List format.Directive → List Text
  written_keys ds = keys ds ++ cond (count is_header ds == 0) [] (sym_name_key ∷ [])

  -- The part that a directive prints; none if the operation has nothing for it.
  abbrev pub part_of : List format.Directive → GraphOp T A → format.Directive → Option (Part ⊤ T A)
  part_of ds o (format.word s) = Some (tree.piece (tree.word s))
  part_of ds o (format.operand i) = option_map (λ v. tree.piece (tree.operand i (value v))) (slice_get o.operands i)
  part_of ds o format.operands = Some (tree.piece (tree.operands (map value (drop (length (operand_places ds)) o.operands))))
  part_of ds o (format.successor i) = option_map (λ b. tree.piece (tree.successor i (target b))) (slice_get o.successors i)
  part_of ds o format.successors = Some (tree.piece (tree.successors (map target (drop (length (successor_places ds)) o.successors))))
  part_of ds o (format.attribute k) = option_map (λ a. tree.piece (tree.attribute k (cond (outlined a) None (Some a)))) (lookup k o.attributes)
  part_of ds o format.dictionary = Some (tree.piece (tree.dictionary (entries (filter (λ e. not (has same_text e.0 (written_keys ds))) (inline o.attributes)))))
  part_of ds o (format.result_type i) = option_map (λ r. tree.piece (tree.result_type i r.1)) (slice_get o.results i)
  part_of ds o (format.region i) = Some (tree.region i)
  part_of ds o format.regions = Some tree.regions
  part_of ds o format.header = option_and_then (λ a. elim a [ ident n ↦ Some (tree.piece (tree.header (named n))) | _ ↦ None ]) (lookup sym_name_key o.attributes)

  -- what is printed after the id, by the operation's format
  abbrev pub body_of : GraphOp T A → Option Format → Body ⊤ T A
  body_of o None = tree.custom []
  body_of o (Some format.canonical) = tree.canonical (map value o.operands) (map target o.successors) (entries (inline o.attributes)) (filter_map C.type_of o.operands) (map (λ r. r.1) o.results)
  body_of o (Some (format.custom ds)) = tree.custom (filter_map (part_of ds o) ds)

  -- the entries of a dictionary that are printed in the section
  abbrev pub outlined_entries : List (Text × Attribute A) → List (Text × Attribute A)
  outlined_entries es = filter (λ e. outlined e.1) es

  -- what the section has of an operation besides its location
  abbrev pub op_outlined : GraphOp T A → List (Text × Attribute A)
  op_outlined o = outlined_entries o.attributes

  -- what the section has of a block besides its location: its label first
  abbrev pub block_outlined : GraphBlock T A → List (Text × Attribute A)
  block_outlined h = label_entry (C.label h.place) ++ outlined_entries h.attributes

  -- An operation or a block is marked if its location is known or the section has something else of it.
  abbrev pub is_marked : Option Text → List (Text × Attribute A) → Bool
  is_marked (Some l) es = true
  is_marked None [] = false
  is_marked None (e ∷ es) = true

  -- 1 if it is marked, otherwise 0
  abbrev pub own_marks : Option Text → List (Text × Attribute A) → ℕ
  own_marks l es = cond (is_marked l es) 1 0

  -- its mark, if it is marked; n marks come before it
  abbrev pub mark_at : ℕ → Option Text → List (Text × Attribute A) → Option (Mark ⊤)
  mark_at n l es = cond (is_marked l es) (Some (record { place = tt; index = n })) None

  -- the limit inside a region
  abbrev pub inside : Limit → Limit
  inside None = None
  inside (Some zero) = Some 0
  inside (Some (suc k)) = Some k

  -- regions are elided at this limit
  abbrev pub is_elided : Limit → Bool
  is_elided None = false
  is_elided (Some zero) = true
  is_elided (Some (suc k)) = false

  -- how many marks are printed in regions
  abbrev mutual
    pub marks_in_regions : Limit → Regions (GraphOp T A) (GraphBlock T A) ⊤ → ℕ
    marks_in_regions l no_regions = 0
    marks_in_regions l (region r bs rs) = cond (is_elided l) 0 (marks_in_blocks (inside l) bs) + marks_in_regions l rs

    -- how many marks are printed in blocks
    pub marks_in_blocks : Limit → Blocks (GraphOp T A) (GraphBlock T A) ⊤ → ℕ
    marks_in_blocks l no_blocks = 0
    marks_in_blocks l (block h os bs) = own_marks h.location (block_outlined h) + marks_in_operations l os + marks_in_blocks l bs

    -- how many marks are printed in operations
    pub marks_in_operations : Limit → Operations (GraphOp T A) (GraphBlock T A) ⊤ → ℕ
    marks_in_operations l no_operations = 0
    marks_in_operations l (operation o rs os) = marks_in_regions l rs + own_marks o.location (op_outlined o) + marks_in_operations l os

  -- the operation that is printed, without its regions; n marks come before its own, those in its regions included
  abbrev pub tree_op : ℕ → GraphOp T A → Op ⊤ T A
  tree_op n o = record { place = tt; names = map (λ r. value r.0) o.results; id = o.id; body = body_of o (C.format_of o.id); mark = mark_at n o.location (op_outlined o) }

  -- the block that is printed, without its operations; n marks come before its own
  abbrev pub tree_head : ℕ → GraphBlock T A → Head ⊤ T A
  tree_head n h = record {
    label = target h.place;
    arguments = map (λ a. (value a.0, a.1)) h.arguments;
    attributes = elim (entries (inline h.attributes)) [ [] ↦ None | e ∷ es ↦ Some (e ∷ es) ];
    mark = mark_at n h.location (block_outlined h);
  }

  -- The regions that are printed; n marks come before them.
  abbrev mutual
    pub tree_regions : Limit → ℕ → Regions (GraphOp T A) (GraphBlock T A) ⊤ → Regions (Op ⊤ T A) (Head ⊤ T A) (Brace ⊤)
    tree_regions l n no_regions = no_regions
    tree_regions l n (region r bs rs) = cond (is_elided l) (region elided no_blocks (tree_regions l n rs))
        (region (shown tt) (tree_blocks (inside l) n bs) (tree_regions l (n + marks_in_blocks (inside l) bs) rs))

    -- the blocks that are printed; n marks come before them
    pub tree_blocks : Limit → ℕ → Blocks (GraphOp T A) (GraphBlock T A) ⊤ → Blocks (Op ⊤ T A) (Head ⊤ T A) (Brace ⊤)
    tree_blocks l n no_blocks = no_blocks
    tree_blocks l n (block h os bs) = let m = n + own_marks h.location (block_outlined h) in
        block (tree_head n h) (tree_operations l m os) (tree_blocks l (m + marks_in_operations l os) bs)

    -- the operations that are printed; n marks come before them
    pub tree_operations : Limit → ℕ → Operations (GraphOp T A) (GraphBlock T A) ⊤ → Operations (Op ⊤ T A) (Head ⊤ T A) (Brace ⊤)
    tree_operations l n no_operations = no_operations
    tree_operations l n (operation o rs os) = let m = n + marks_in_regions l rs in
        operation (tree_op m o) (tree_regions l n rs) (tree_operations l (m + own_marks o.location (op_outlined o)) os)

  -- the tree that is printed of a root
  abbrev pub written : Limit → Graph T A → Tree ⊤ T A
  written l g = record { own = tree_op (marks_in_regions l g.regions) g.own; regions = tree_regions l 0 g.regions }

  -- the contents of an item's entry: its location, if it is known, and attributes
  pub record Entry : Type 0 where
    pub location : Option Text
    pub attributes : List (Text × Attribute A)

  -- the entry of an operation or a block, if it is marked
  abbrev pub own_entry : Option Text → List (Text × Attribute A) → List Entry
  own_entry l es = cond (is_marked l es) (record { location = l; attributes = es } ∷ []) []

  abbrev mutual
    -- the entries of the items in regions
    pub entries_of_regions : Limit → Regions (GraphOp T A) (GraphBlock T A) ⊤ → List Entry
    entries_of_regions l no_regions = []
    entries_of_regions l (region r bs rs) = cond (is_elided l) [] (entries_of_blocks (inside l) bs) ++ entries_of_regions l rs

    -- the entries of the items in blocks: a block's comes before those of its operations
    pub entries_of_blocks : Limit → Blocks (GraphOp T A) (GraphBlock T A) ⊤ → List Entry
    entries_of_blocks l no_blocks = []
    entries_of_blocks l (block h os bs) = own_entry h.location (block_outlined h) ++ (entries_of_operations l os ++ entries_of_blocks l bs)

    -- the entries of the items among operations: an operation's comes after those of its regions
    pub entries_of_operations : Limit → Operations (GraphOp T A) (GraphBlock T A) ⊤ → List Entry
    entries_of_operations l no_operations = []
    entries_of_operations l (operation o rs os) = entries_of_regions l rs ++ (own_entry o.location (op_outlined o) ++ entries_of_operations l os)

  -- the entries of the items of a root
  abbrev pub entries_of : Limit → Graph T A → List Entry
  entries_of l g = entries_of_regions l g.regions ++ own_entry g.own.location (op_outlined g.own)

  -- the caller's attribute, if it is print-once
  abbrev pub once : Attribute A → List A
  once (own a) = cond (C.own_once a) (a ∷ []) []
  once _ = []

  -- the attributes that are not among the known ones, each at its first occurrence
  abbrev pub firsts : List A → List A → List A
  firsts known [] = []
  firsts known (a ∷ rest) = cond (has C.same_own a known) (firsts known rest) (a ∷ firsts (a ∷ known) rest)

  -- the print-once attributes of the section, in the order of their first occurrence
  abbrev pub shared : List Entry → List A
  shared es = firsts [] (flat_map (λ e. flat_map (λ a. once a.1) e.attributes) es)

  -- the index of an attribute in the list
  abbrev pub place_in : List A → A → ℕ
  place_in [] a = 0
  place_in (b ∷ bs) a = cond (C.same_own a b) 0 (suc (place_in bs a))
