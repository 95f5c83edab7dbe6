-- For callers: what parsing a tree and its section does with names: a list of acts, in the order in which the text is parsed. An item is
-- an operation or a block that carries a mark.
use Rattle.std.specs.Prelude.{ℕ, suc, Bool, true, false, cond, not, ◌&&◌, ◌||◌, ◌==◌, List, [], ◌∷◌, ◌++◌, length, map, flat_map, Option, Some, None, is_some, option_map, option_to_list}
use Rattle.irtext_base.specs.Text.{Text}
use Rattle.irtext_base.specs.Format.{same_text, given_names_key, block_label_key, Id}
use Rattle.irtext_grammar.specs.Grammar.Forest.{Regions, no_regions, region, Blocks, no_blocks, block, Operations, no_operations, operation}
use Rattle.irtext_grammar.specs.Grammar.Tree as tree
use Rattle.irtext_grammar.specs.Grammar.Tree.{Name, Mark, Attribute, given_names, ident, Piece, Part, Body, custom, canonical, Op, Head, Brace, shown, elided, Tree, parts_of, views, in_order}
use Rattle.irtext_grammar.specs.Grammar.Section.{Item, direct, reference, Entry, of_item, of_once}
use Rattle.irtext_grammar.specs.Names.Script.{Path, result, argument, block_at, operand, successor, Word, Failure, Act, use_value, use_label, define_value, define_label, mark, entry, claim, Script, done, within, does_all, ResultCount, UnknownPrintOnce, ReservedKey}
use Rattle.irtext_grammar.specs.Names.Scopes.{is_among, no_scope, failures}

module _ {P : Type 0} where
  -- a name of the tree, in the form that scripts use
  abbrev pub word_of : Name P → Word Text P
  word_of n = record { name = n.text; at = n.place }

  -- uses of the names as operands, from index k on
  abbrev pub value_uses : Path → ℕ → List (Name P) → List (Act Text P)
  value_uses p k [] = []
  value_uses p k (n ∷ ns) = use_value (word_of n) (operand p k) ∷ value_uses p (suc k) ns

  -- uses of the labels as successors, from index k on
  abbrev pub label_uses : Path → ℕ → List (Name P) → List (Act Text P)
  label_uses p k [] = []
  label_uses p k (n ∷ ns) = use_label (word_of n) (successor p k) ∷ label_uses p (suc k) ns

  -- definitions of the names as results, from index k on
  abbrev pub result_definitions : Path → ℕ → List (Name P) → List (Act Text P)
  result_definitions p k [] = []
  result_definitions p k (n ∷ ns) = define_value (word_of n) (result p k) ∷ result_definitions p (suc k) ns

  -- the act of the mark, if there is one
  abbrev pub mark_acts : Option (Mark P) → List (Act Text P)
  mark_acts None = []
  mark_acts (Some m) = mark m.index m.place ∷ []

-- definitions of the names as arguments of a block, from index k on
abbrev pub argument_definitions : {P T : Type 0} → Path → ℕ → List (Name P × T) → List (Act Text P)
argument_definitions p k [] = []
argument_definitions p k (a ∷ rest) = define_value (word_of a.0) (argument p k) ∷ argument_definitions p (suc k) rest

-- the attribute is a list of given names
abbrev pub is_given : {A : Type 0} → Attribute A → Bool
is_given a = elim a [ given_names ns ↦ true | _ ↦ false ]

-- the attribute is allowed under the key: under that of given names only given names are
abbrev pub may_hold : {A : Type 0} → Text → Attribute A → Bool
may_hold k a = not (same_text k given_names_key) || is_given a

-- the attribute is an identifier
abbrev pub is_label : {A : Type 0} → Attribute A → Bool
is_label a = elim a [ ident n ↦ true | _ ↦ false ]

-- which attributes are allowed under which keys
abbrev pub Rule : Type 0 → Type 0
Rule A = Text → Attribute A → Bool

-- what is allowed in a block's dictionary: what `may_hold` allows, but nothing under the key of a label
abbrev pub block_may_hold : {A : Type 0} → Rule A
block_may_hold k a = may_hold k a && not (same_text k block_label_key)

-- what is allowed in a block's entry in the section: what `may_hold` allows, but under the key of a label only an identifier
abbrev pub keeps_label_key : {A : Type 0} → Rule A
keeps_label_key k a = may_hold k a && (not (same_text k block_label_key) || is_label a)

-- the test that the attribute of an entry is allowed under its key
abbrev pub key_act : {P A : Type 0} → Rule A → Name P × Attribute A → Act Text P
key_act rule e = claim (rule e.0.text e.1) (record { cause = ReservedKey e.0.text; at = Some e.0.place })

-- how many operands have a directive of their own
abbrev pub singles : {P T A : Type 0} → List (Part P T A) → ℕ
singles ps = length (views (λ p. elim p [ tree.operand i n ↦ n ∷ [] | _ ↦ [] ]) ps)

-- how many successors have a directive of their own
abbrev pub single_labels : {P T A : Type 0} → List (Part P T A) → ℕ
single_labels ps = length (views (λ p. elim p [ tree.successor i n ↦ n ∷ [] | _ ↦ [] ]) ps)

-- the result types of a body, in the order of their indices
abbrev pub result_types : {P T A : Type 0} → Body P T A → List T
result_types (custom ps) = in_order (views (λ p. elim p [ tree.result_type i x ↦ (i, x) ∷ [] | _ ↦ [] ]) ps)
result_types (canonical names labels entries operand_types types) = types

-- the scripts of the regions, one after another, and then the rest
abbrev pub all_of : {S : Type 0} → List (S → S) → S → S
all_of [] then = then
all_of (r ∷ rs) then = r (all_of rs then)

-- the entries of a dictionary, if there is one
abbrev pub entries_if : {P A : Type 0} → Option (List (Name P × Attribute A)) → List (Name P × Attribute A)
entries_if None = []
entries_if (Some es) = es

-- a region with the script of its blocks, and then the rest; an elided region does nothing
abbrev pub region_script : {P : Type 0} → Bool → Brace P → Script Text P → Script Text P → Script Text P
region_script iso (shown place) body then = within iso place body then
region_script iso elided body then = then

module _ {P T A : Type 0} where
  -- what a piece does with names and keys; k and l are the indices of the first operand and the first successor of a list
  abbrev pub piece_acts : Path → ℕ → ℕ → Piece P T A → List (Act Text P)
  piece_acts p k l (tree.operand i n) = use_value (word_of n) (operand p i) ∷ []
  piece_acts p k l (tree.operands ns) = value_uses p k ns
  piece_acts p k l (tree.successor i n) = use_label (word_of n) (successor p i) ∷ []
  piece_acts p k l (tree.successors ns) = label_uses p l ns
  piece_acts p k l (tree.dictionary es) = map (key_act may_hold) es
  piece_acts p k l _ = []

  -- the parts in their order, each region with its script, and then the rest
  abbrev pub parts_script : Path → ℕ → ℕ → List (Part P T A) → List (Script Text P → Script Text P) → Script Text P → Script Text P
  parts_script p k l [] rs then = then
  parts_script p k l (tree.piece x ∷ ps) rs then = does_all (piece_acts p k l x) (parts_script p k l ps rs then)
  parts_script p k l (tree.region i ∷ ps) [] then = parts_script p k l ps [] then
  parts_script p k l (tree.region i ∷ ps) (r ∷ rs) then = r (parts_script p k l ps rs then)
  parts_script p k l (tree.regions ∷ ps) rs then = all_of rs (parts_script p k l ps [] then)

  -- the end of an operation: the number of names has to be that of the result types; then the results are defined; then comes the mark
  abbrev pub closing_acts : Path → Op P T A → List (Act Text P)
  closing_acts p o = claim (length (result_types o.body) == length o.names) (record { cause = ResultCount (length (result_types o.body)) (length o.names); at = Some o.place })
      ∷ (result_definitions p 0 o.names ++ mark_acts o.mark)

  -- what the header of a block does, once all of it is parsed: its keys, its arguments, its mark and its label
  abbrev pub header_acts : Path → Head P T A → List (Act Text P)
  header_acts p h = map (key_act block_may_hold) (entries_if h.attributes) ++ (argument_definitions p 0 h.arguments ++ (mark_acts h.mark ++ define_label (word_of h.label) (block_at p) ∷ []))

  -- an operation: its parts in the order of the text, its end, and then the rest
  abbrev pub operation_script : Path → Op P T A → List (Script Text P → Script Text P) → Script Text P → Script Text P
  operation_script p o rs then = parts_script p (singles (parts_of o.body)) (single_labels (parts_of o.body)) (parts_of o.body) rs (does_all (closing_acts p o) then)

  module _ (isolated : Id → Bool) where
    abbrev mutual
      -- what each region does; j is the index of the first
      pub region_scripts : Path → ℕ → Bool → Regions (Op P T A) (Head P T A) (Brace P) → List (Script Text P → Script Text P)
      region_scripts p j iso no_regions = []
      region_scripts p j iso (region brace bs rs) = region_script iso brace (blocks_script (j ∷ p) 0 bs) ∷ region_scripts p (suc j) iso rs

      -- what the blocks of a region do; k is the index of the first
      pub blocks_script : Path → ℕ → Blocks (Op P T A) (Head P T A) (Brace P) → Script Text P
      blocks_script p k no_blocks = done
      blocks_script p k (block h os bs) = does_all (header_acts (k ∷ p) h) (operations_script (k ∷ p) 0 os (blocks_script p (suc k) bs))

      -- what the operations of a block do, and then the rest; i is the index of the first
      pub operations_script : Path → ℕ → Operations (Op P T A) (Head P T A) (Brace P) → Script Text P → Script Text P
      operations_script p i no_operations then = then
      operations_script p i (operation o rs os) then = operation_script (i ∷ p) o (region_scripts (i ∷ p) 0 (isolated o.id) rs) (operations_script p (suc i) os then)

    -- what a root does, and then the rest; the root's own path is empty
    abbrev pub tree_script : Tree P T A → Script Text P → Script Text P
    tree_script t then = operation_script [] t.own (region_scripts [] 0 (isolated t.own.id) t.regions) then

-- ---- the section

-- the test that an attribute in an entry is allowed under its key; a reference is tested later
abbrev pub item_acts : {P A : Type 0} → Rule A → Name P × Item P A → List (Act Text P)
item_acts rule (n, direct a) = key_act rule (n, a) ∷ []
item_acts rule (n, reference m) = []

-- the attribute, if there is one, is allowed under the key
abbrev pub keeps_if : {A : Type 0} → Rule A → Text → Option (Attribute A) → Bool
keeps_if rule k None = true
keeps_if rule k (Some a) = rule k a

module _ {P A X : Type 0} where
  -- the print-once attribute with this index in a section; the last one if there are several
  abbrev pub shared_attribute : ℕ → List (Entry P A X) → Option (Attribute A)
  shared_attribute i [] = None
  shared_attribute i (of_item m x items ∷ es) = shared_attribute i es
  shared_attribute i (of_once m a ∷ es) = elim (shared_attribute i es) [ Some b ↦ Some b | None ↦ cond (m.index == i) (Some a) None ]

  -- what an entry does where it is parsed: its index, and the keys of the attributes in it, by the rule of the item with that mark
  abbrev pub entry_acts : (ℕ → Rule A) → Entry P A X → List (Act Text P)
  entry_acts rules (of_item m x items) = entry m.index m.place ∷ flat_map (item_acts (rules m.index)) items
  entry_acts rules (of_once m a) = []

  -- a reference in an entry: its index has to be that of a print-once attribute, and that attribute has to be allowed under the key
  abbrev pub reference_acts : Rule A → List (Entry P A X) → Name P × Item P A → List (Act Text P)
  reference_acts rule all (n, direct a) = []
  reference_acts rule all (n, reference m) = claim (is_some (shared_attribute m.index all)) (record { cause = UnknownPrintOnce m.index; at = Some m.place })
      ∷ claim (keeps_if rule n.text (shared_attribute m.index all)) (record { cause = ReservedKey n.text; at = Some n.place }) ∷ []

  -- what an entry does after the last entry: its references
  abbrev pub late_acts : (ℕ → Rule A) → List (Entry P A X) → Entry P A X → List (Act Text P)
  late_acts rules all (of_item m x items) = flat_map (reference_acts (rules m.index) all) items
  late_acts rules all (of_once m a) = []

  -- each entry in order, and after the last one all references
  abbrev pub section_acts : (ℕ → Rule A) → List (Entry P A X) → List (Act Text P)
  section_acts rules es = flat_map (entry_acts rules) es ++ flat_map (late_acts rules es) es

-- the index of an item's mark, if it has one
abbrev pub marked_as : {P : Type 0} → Option (Mark P) → List ℕ
marked_as m = option_to_list (option_map (λ m. m.index) m)

module _ {P T A : Type 0} where
  abbrev mutual
    -- the indices of the marks of blocks in regions
    pub block_marks_in_regions : Regions (Op P T A) (Head P T A) (Brace P) → List ℕ
    block_marks_in_regions no_regions = []
    block_marks_in_regions (region brace bs rs) = block_marks_in_blocks bs ++ block_marks_in_regions rs

    -- of these blocks, and of blocks nested in them
    pub block_marks_in_blocks : Blocks (Op P T A) (Head P T A) (Brace P) → List ℕ
    block_marks_in_blocks no_blocks = []
    block_marks_in_blocks (block h os bs) = marked_as h.mark ++ (block_marks_in_operations os ++ block_marks_in_blocks bs)

    -- of blocks nested in operations
    pub block_marks_in_operations : Operations (Op P T A) (Head P T A) (Brace P) → List ℕ
    block_marks_in_operations no_operations = []
    block_marks_in_operations (operation o rs os) = block_marks_in_regions rs ++ block_marks_in_operations os

  -- what is allowed in the entry of the mark with this index: by the rule of blocks if a block carries it, otherwise by that of
  -- operations
  abbrev pub rule_of : Tree P T A → ℕ → Rule A
  rule_of t i = cond (is_among i (block_marks_in_regions t.regions)) keeps_label_key may_hold

-- what parsing a root with its section does, as a script
abbrev pub root_script : {P T A X : Type 0} → (Id → Bool) → Tree P T A → List (Entry P A X) → Script Text P
root_script isolated t es = tree_script isolated t (does_all (section_acts (rule_of t) es) done)

-- what is wrong in a root and its section, in the order in which they are parsed; the root resolves if nothing is
abbrev pub failures_of : {P T A X : Type 0} → (Id → Bool) → Tree P T A → List (Entry P A X) → List (Failure Text P)
failures_of isolated t es = failures same_text no_scope (root_script isolated t es)
