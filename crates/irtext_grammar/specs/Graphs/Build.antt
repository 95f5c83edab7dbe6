-- For callers: the graph that a tree and its section build: the same forest, in which operands and successors are the places of their
-- definitions in the tree. An item is an operation or a block that carries a mark.
use Rattle.std.specs.Prelude.{ℕ, suc, Bool, cond, ◌==◌, List, [], ◌∷◌, ◌++◌, map, flat_map, Option, Some, None, option_and_then, option_map, filter, not, ⊤}
use Rattle.irtext_base.specs.Text.{Text}
use Rattle.irtext_base.specs.Format.{same_text, given_names_key, block_label_key, sym_name_key, Id}
use Rattle.irtext_grammar.specs.Grammar.Forest.{Regions, no_regions, region, Blocks, no_blocks, block, Operations, no_operations, operation, Root}
use Rattle.irtext_grammar.specs.Grammar.Tree as tree
use Rattle.irtext_grammar.specs.Grammar.Tree.{Name, Mark, Attribute, given_names, ident, Piece, Op, Head, Brace, Tree, parts_of, views, operand_names, successor_labels}
use Rattle.irtext_grammar.specs.Grammar.Section.{Item, direct, reference, Entry, of_item, of_once}
use Rattle.irtext_grammar.specs.Names.Script.{Path, Place}
use Rattle.irtext_grammar.specs.Names.Scopes.{Fact, lookup, facts}
use Rattle.irtext_grammar.specs.Names.Acts.{result_types, entries_if, shared_attribute, blocks_script}

-- an operation that was built; its operands and successors are the places of their definitions, if they have one
pub record BuiltOp (T A X : Type 0) : Type 0 where
  pub id : Id
  pub result_types : List T
  pub operands : List (Option Place)
  pub successors : List (Option Place)
  pub attributes : List (Text × Attribute A)
  pub location : X

-- a block that was built
pub record BuiltBlock (T A X : Type 0) : Type 0 where
  pub label : Text
  pub argument_types : List T
  pub attributes : List (Text × Attribute A)
  pub location : X

-- a root that was built, with everything nested in it
abbrev pub Built : Type 0 → Type 0 → Type 0 → Type 0
Built T A X = Root (BuiltOp T A X) (BuiltBlock T A X) ⊤

-- a dictionary with an entry put in: a key that is there keeps its position and gets the new value; a new key comes last
abbrev pub put : {V : Type 0} → Text × V → List (Text × V) → List (Text × V)
put e [] = e ∷ []
put e (d ∷ ds) = cond (same_text e.0 d.0) (e ∷ ds) (d ∷ put e ds)

-- the first dictionary, with the entries of the second put in one after another
abbrev pub put_all : {V : Type 0} → List (Text × V) → List (Text × V) → List (Text × V)
put_all es [] = es
put_all es (d ∷ ds) = put_all (put d es) ds

-- the names that were parsed, as an attribute of given names; nothing if there are none
abbrev pub read_names : {A : Type 0} → List Text → List (Text × Attribute A)
read_names [] = []
read_names (n ∷ ns) = (given_names_key, given_names (map Some (n ∷ ns))) ∷ []

-- an entry of a dictionary, with its key as a text
abbrev pub plain_entry : {P A : Type 0} → Name P × Attribute A → Text × Attribute A
plain_entry e = (e.0.text, e.1)

-- what a piece stores in the dictionary of its operation
abbrev pub stored : {P T A : Type 0} → Piece P T A → List (Text × Attribute A)
stored (tree.attribute k (Some a)) = (k, a) ∷ []
stored (tree.dictionary es) = map plain_entry es
stored (tree.header n) = (sym_name_key, ident n.text) ∷ []
stored _ = []

-- what the text of an operation stores in its dictionary, in the order of the text
abbrev pub inline_entries : {P T A : Type 0} → Op P T A → List (Text × Attribute A)
inline_entries o = views stored (parts_of o.body)

module _ {P A X : Type 0} (all : List (Entry P A X)) where
  -- what a pair in an entry stores: the attribute, or the one that its reference refers to
  abbrev pub resolved : Name P × Item P A → List (Text × Attribute A)
  resolved (n, direct a) = (n.text, a) ∷ []
  resolved (n, reference m) = elim (shared_attribute m.index all) [ Some a ↦ (n.text, a) ∷ [] | None ↦ [] ]

  -- the contents of the item's entry with this index: a location, if it has one, and attributes
  abbrev pub content_in : List (Entry P A X) → ℕ → Option (Option X × List (Text × Attribute A))
  content_in [] i = None
  content_in (of_item m x items ∷ es) i = cond (m.index == i) (Some (x, flat_map resolved items)) (content_in es i)
  content_in (of_once m a ∷ es) i = content_in es i

  -- the contents of the entry of this mark, if there is one
  abbrev pub content : Option (Mark P) → Option (Option X × List (Text × Attribute A))
  content m = option_and_then (λ m. content_in all m.index) m

-- the location that the entry gives; otherwise the first argument
abbrev pub located : {X C : Type 0} → X → Option (Option X × C) → X
located x None = x
located x (Some (None, c)) = x
located x (Some (Some y, c)) = y

-- the label that an entry's attributes give, the last one if there are several; otherwise the first argument
abbrev pub label_among : {A : Type 0} → Text → List (Text × Attribute A) → Text
label_among l [] = l
label_among l (e ∷ es) = label_among (cond (same_text e.0 block_label_key) (elim e.1 [ ident n ↦ n | _ ↦ l ]) l) es

-- the label of a block whose entry has these contents
abbrev pub labelled : {A C : Type 0} → Text → Option (C × List (Text × Attribute A)) → Text
labelled l None = l
labelled l (Some c) = label_among l c.1

-- what a block stores of its entry: all but the label
abbrev pub but_label : {V C : Type 0} → Option (C × List (Text × V)) → Option (C × List (Text × V))
but_label c = option_map (λ c. (c.0, filter (λ e. not (same_text e.0 block_label_key)) c.1)) c

-- a dictionary with the attributes of the entry put in
abbrev pub with_content : {V X : Type 0} → List (Text × V) → Option (X × List (Text × V)) → List (Text × V)
with_content es None = es
with_content es (Some c) = put_all es c.1

module _ {P T A X : Type 0} (isolated : Id → Bool) (first : P → X) (all : List (Entry P A X)) where
  -- the operation that is built, without its regions; v and l are the facts of the whole scopes around it
  abbrev pub built_op : List (Fact Text) → List (Fact Text) → Op P T A → BuiltOp T A X
  built_op v l o = record {
    id = o.id;
    result_types = result_types o.body;
    operands = map (λ n. lookup same_text n.text v) (operand_names o);
    successors = map (λ n. lookup same_text n.text l) (successor_labels o);
    attributes = with_content (put_all [] (inline_entries o ++ read_names (map (λ n. n.text) o.names))) (content all o.mark);
    location = located (first o.place) (content all o.mark);
  }

  -- the block that is built, without its operations: with the label of its entry, and with the names of its arguments as given names
  abbrev pub built_head : Head P T A → BuiltBlock T A X
  built_head h = record {
    label = labelled h.label.text (content all h.mark);
    argument_types = map (λ a. a.1) h.arguments;
    attributes = with_content (put_all [] (map plain_entry (entries_if h.attributes) ++ read_names (map (λ a. a.0.text) h.arguments))) (but_label (content all h.mark));
    location = located (first h.label.place) (content all h.mark);
  }

  abbrev mutual
    -- the regions that are built; j is the index of the first
    pub built_regions : List (Fact Text) → Path → ℕ → Bool → Regions (Op P T A) (Head P T A) (Brace P) → Regions (BuiltOp T A X) (BuiltBlock T A X) ⊤
    built_regions v p j iso no_regions = no_regions
    built_regions v p j iso (region brace bs rs) =
        region tt (built_blocks (cond iso (facts same_text (blocks_script isolated (j ∷ p) 0 bs)).values v) (facts same_text (blocks_script isolated (j ∷ p) 0 bs)).labels (j ∷ p) 0 bs)
        (built_regions v p (suc j) iso rs)

    -- the blocks that are built; k is the index of the first
    pub built_blocks : List (Fact Text) → List (Fact Text) → Path → ℕ → Blocks (Op P T A) (Head P T A) (Brace P) → Blocks (BuiltOp T A X) (BuiltBlock T A X) ⊤
    built_blocks v l p k no_blocks = no_blocks
    built_blocks v l p k (block h os bs) = block (built_head h) (built_operations v l (k ∷ p) 0 os) (built_blocks v l p (suc k) bs)

    -- the operations that are built; i is the index of the first
    pub built_operations : List (Fact Text) → List (Fact Text) → Path → ℕ → Operations (Op P T A) (Head P T A) (Brace P) → Operations (BuiltOp T A X) (BuiltBlock T A X) ⊤
    built_operations v l p i no_operations = no_operations
    built_operations v l p i (operation o rs os) =
        operation (built_op v l o) (built_regions v (i ∷ p) 0 (isolated o.id) rs) (built_operations v l p (suc i) os)

  -- what a root and its section build
  abbrev pub build : Tree P T A → Built T A X
  build t = record { own = built_op [] [] t.own; regions = built_regions [] [] 0 (isolated t.own.id) t.regions }
