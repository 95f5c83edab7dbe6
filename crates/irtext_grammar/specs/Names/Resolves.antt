-- For callers: which roots resolve with their sections, property by property. An item is an operation or a block that carries a mark.
use Rattle.std.specs.Prelude.{◌≡◌, ℕ, Bool, true, cond, ◌==◌, List, [], ◌∷◌, ◌++◌, map, flat_map, length, is_some, ⊤}
use Rattle.irtext_base.specs.Text.{Text}
use Rattle.irtext_base.specs.Format.{Id, same_text, has, distinct}
use Rattle.irtext_grammar.specs.Grammar.Forest.{Regions, no_regions, region, Blocks, no_blocks, block, Operations, no_operations, operation, AllRegions}
use Rattle.irtext_grammar.specs.Grammar.Tree as tree
use Rattle.irtext_grammar.specs.Grammar.Tree.{Name, Attribute, Op, Head, Brace, Tree, parts_of, views}
use Rattle.irtext_grammar.specs.Grammar.Section.{Item, direct, reference, Entry, of_item, of_once}
use Rattle.irtext_grammar.specs.Names.Acts.{Rule, shared_attribute, may_hold, block_may_hold, keeps_if, result_types, entries_if, marked_as, rule_of}
use Rattle.irtext_grammar.specs.Spelling.Spellable.{Each}
use Rattle.irtext_grammar.specs.Spelling.Writable.{has_region}

-- the names without their places
abbrev pub texts : {P : Type 0} → List (Name P) → List Text
texts ns = map (λ n. n.text) ns

-- each entry of a dictionary is allowed by the rule
abbrev pub KeysKept : {P A : Type 0} → Rule A → List (Name P × Attribute A) → Type 0
KeysKept rule es = Each (λ e. rule e.0.text e.1 ≡ true) es

-- the names that are defined and those that are used in one scope
pub record Scope : Type 0 where
  pub defined : List Text
  pub used : List Text

-- no name is defined twice in the scope
abbrev pub DefinesOnce : Scope → Type 0
DefinesOnce scope = distinct same_text scope.defined ≡ true

-- each name that is used in the scope is defined there
abbrev pub DefinesUsed : Scope → Type 0
DefinesUsed scope = Each (λ name. has same_text name scope.defined ≡ true) scope.used

-- ---- the section
module _ {P A X : Type 0} where
  -- the pairs of key and attribute in the entries of items
  abbrev pub items : List (Entry P A X) → List (Name P × Item P A)
  items = flat_map (λ e. elim e [ of_item m x pairs ↦ pairs | of_once m a ↦ [] ])

  -- the indices of the items that have an entry
  abbrev pub indices : List (Entry P A X) → List ℕ
  indices = flat_map (λ e. elim e [ of_item m x pairs ↦ m.index ∷ [] | of_once m a ↦ [] ])

  -- a reference refers to a print-once attribute
  abbrev pub is_known : List (Entry P A X) → Name P × Item P A → Bool
  is_known es (n, direct a) = true
  is_known es (n, reference m) = is_some (shared_attribute m.index es)

  -- the attribute, or the one that its reference refers to, is allowed under its key
  abbrev pub is_kept : Rule A → List (Entry P A X) → Name P × Item P A → Bool
  is_kept rule es (n, direct a) = rule n.text a
  is_kept rule es (n, reference m) = keeps_if rule n.text (shared_attribute m.index es)

  -- the attributes in the entry of an item are allowed by the rule of its mark
  abbrev pub EntryKept : (ℕ → Rule A) → List (Entry P A X) → Entry P A X → Type 0
  EntryKept rules es (of_item m x pairs) = Each (λ i. is_kept (rules m.index) es i ≡ true) pairs
  EntryKept rules es (of_once m a) = ⊤

  -- each entry belongs to a mark, no mark has two entries, each reference is known, and each attribute is allowed under its key
  pub record SectionResolves (rules : ℕ → Rule A) (marks : List ℕ) (es : List (Entry P A X)) : Type 0 where
    pub one_each : distinct ◌==◌ (indices es) ≡ true
    pub marked : Each (λ i. has ◌==◌ i marks ≡ true) (indices es)
    pub known : Each (λ i. is_known es i ≡ true) (items es)
    pub kept : Each (EntryKept rules es) es

-- ---- the root
-- what a region passes to the scope around it: nothing if its operation is isolated, otherwise all (values)
abbrev pub shared : {X : Type 0} → Bool → List X → List X
shared isolation xs = cond isolation [] xs

-- a region passes nothing to the scope around it (labels)
abbrev pub kept_inside : {X : Type 0} → Bool → List X → List X
kept_inside isolation xs = []

-- a region passes everything on (marks)
abbrev pub everywhere : {X : Type 0} → Bool → List X → List X
everywhere isolation xs = xs

module _ {P T A : Type 0} where
  -- the names of the values that an operation uses
  abbrev pub used_values : Op P T A → List Text
  used_values o = texts (views (λ p. elim p [ tree.operand i n ↦ n ∷ [] | tree.operands ns ↦ ns | _ ↦ [] ]) (parts_of o.body))

  -- the labels that an operation uses
  abbrev pub used_labels : Op P T A → List Text
  used_labels o = texts (views (λ p. elim p [ tree.successor i n ↦ n ∷ [] | tree.successors ns ↦ ns | _ ↦ [] ]) (parts_of o.body))

  -- an operation has as many names as result types
  abbrev pub CountsAgree : Op P T A → Type 0
  CountsAgree o = (length (result_types o.body) == length o.names) ≡ true

  -- under the key of given names, the operation's dictionary has only given names
  abbrev pub OpKeysKept : Op P T A → Type 0
  OpKeysKept o = KeysKept may_hold (views (λ p. elim p [ tree.dictionary es ↦ es | _ ↦ [] ]) (parts_of o.body))

  -- a block's dictionary has no label, and under the key of given names only given names
  abbrev pub HeadKeysKept : Head P T A → Type 0
  HeadKeysKept h = KeysKept block_may_hold (entries_if h.attributes)

  module _ (isolated : Id → Bool) where
    -- What the operations and the blocks of a forest have: that of an operation comes after that of its regions, that of a block before
    -- that of its operations. `outward` is what a region passes on of its contents, given whether its operation is isolated.
    module _ {X : Type 0} (of_op : Op P T A → List X) (of_head : Head P T A → List X) (outward : Bool → List X → List X) where
      abbrev mutual
        -- of regions; the flag says whether their operation is isolated
        pub all_in_regions : Bool → Regions (Op P T A) (Head P T A) (Brace P) → List X
        all_in_regions isolation no_regions = []
        all_in_regions isolation (region brace bs rs) = outward isolation (all_in_blocks bs) ++ all_in_regions isolation rs

        -- of blocks
        pub all_in_blocks : Blocks (Op P T A) (Head P T A) (Brace P) → List X
        all_in_blocks no_blocks = []
        all_in_blocks (block h os bs) = of_head h ++ (all_in_operations os ++ all_in_blocks bs)

        -- of operations
        pub all_in_operations : Operations (Op P T A) (Head P T A) (Brace P) → List X
        all_in_operations no_operations = []
        all_in_operations (operation o rs os) = (all_in_regions (isolated o.id) rs ++ of_op o) ++ all_in_operations os

    -- the scope of the values of a region
    abbrev pub values_of : Blocks (Op P T A) (Head P T A) (Brace P) → Scope
    values_of bs = record {
      defined = all_in_blocks (λ o. texts o.names) (λ h. texts (map (λ a. a.0) h.arguments)) shared bs;
      used = all_in_blocks used_values (λ h. []) shared bs;
    }

    -- the scope of the labels of a region
    abbrev pub labels_of : Blocks (Op P T A) (Head P T A) (Brace P) → Scope
    labels_of bs = record {
      defined = all_in_blocks (λ o. []) (λ h. h.label.text ∷ []) kept_inside bs;
      used = all_in_blocks used_labels (λ h. []) kept_inside bs;
    }

    abbrev mutual
      -- The scopes of regions: each region has one of labels, and one of values if its operation is isolated.
      pub scopes_in_regions : Bool → Regions (Op P T A) (Head P T A) (Brace P) → List Scope
      scopes_in_regions isolation no_regions = []
      scopes_in_regions isolation (region brace bs rs) = labels_of bs ∷ (cond isolation (values_of bs ∷ []) [] ++ (scopes_in_blocks bs ++ scopes_in_regions isolation rs))

      -- the scopes in blocks
      pub scopes_in_blocks : Blocks (Op P T A) (Head P T A) (Brace P) → List Scope
      scopes_in_blocks no_blocks = []
      scopes_in_blocks (block h os bs) = scopes_in_operations os ++ scopes_in_blocks bs

      -- the scopes in operations
      pub scopes_in_operations : Operations (Op P T A) (Head P T A) (Brace P) → List Scope
      scopes_in_operations no_operations = []
      scopes_in_operations (operation o rs os) = scopes_in_regions (isolated o.id) rs ++ scopes_in_operations os

    -- the scopes of a root
    abbrev pub scopes_of : Tree P T A → List Scope
    scopes_of t = scopes_in_regions (isolated t.own.id) t.regions

    -- the indices of a root's marks
    abbrev pub marks_of : Tree P T A → List ℕ
    marks_of t = all_in_regions (λ o. marked_as o.mark) (λ h. marked_as h.mark) everywhere (isolated t.own.id) t.regions ++ marked_as t.own.mark

    -- What a root and its section must satisfy to be built.
    pub record Resolves {X : Type 0} (t : Tree P T A) (es : List (Entry P A X)) : Type 0 where
      pub counts : CountsAgree t.own × AllRegions CountsAgree (λ h. ⊤) (λ r. ⊤) t.regions
      pub keys : OpKeysKept t.own × AllRegions OpKeysKept HeadKeysKept (λ r. ⊤) t.regions
      pub nothing_outside : (t.own.names ≡ []) × (used_values t.own ≡ []) × (used_labels t.own ≡ [])
      pub is_isolated : has_region t.regions ≡ true → isolated t.own.id ≡ true
      pub once : Each DefinesOnce (scopes_of t)
      pub known : Each DefinesUsed (scopes_of t)
      pub marks : distinct ◌==◌ (marks_of t) ≡ true
      pub section : SectionResolves (rule_of t) (marks_of t) es
