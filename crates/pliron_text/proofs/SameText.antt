-- The text of a graph asks for the names of its own values and blocks, and for the types of its operands: where these are the same, it is.
use Rattle.std.proofs.Common.{◌≡◌, ◌∙◌, ◌+◌, ◌∷◌, ◌++◌, ℕ, zero, suc, Bool, true, false, cond, not, List, [], map, drop, flat_map, slice_get, filter_map, Option, Some, None, option_map, refl, sym, ap, ap₂, codes, decimal}
use Rattle.std.specs.Prelude.{⊤, filter, length}
use Rattle.std.proofs.lemmas.List.{map-append, length-map}
use Rattle.irtext_base.specs.Format as format
use Rattle.irtext_base.specs.Format.{Format, Id, same_text, has, operand_places, successor_places}
use Rattle.irtext_base.specs.Own.{Language}
use Rattle.irtext_base.specs.Text.{Text}
use Rattle.irtext_grammar.specs.Grammar.Forest.{Regions, no_regions, region, Blocks, no_blocks, block, Operations, no_operations, operation, AllRegions, AllBlocks, AllOperations}
use Rattle.irtext_grammar.specs.Grammar.Tree as tree
use Rattle.irtext_grammar.specs.Grammar.Tree.{Name, Attribute, given_names, ident, own, Part, Body, Op, Head, Brace, Mark}
use Rattle.irtext_grammar.specs.Graphs.Graph.{GraphOp, GraphBlock, Graph, Printing, Limit, lookup, label_entry, outlined, named, value, target, inline, entries, written_keys, part_of, body_of, outlined_entries, op_outlined, block_outlined, is_marked, own_marks, mark_at, inside, is_elided, marks_in_regions, marks_in_blocks, marks_in_operations, tree_op, tree_head, tree_regions, tree_blocks, tree_operations, Entry, own_entry, entries_of_regions, entries_of_blocks, entries_of_operations, entries_of, once, firsts, shared, place_in}
use Rattle.irtext_grammar.specs.Spelling.PrintedNames.{value_name, block_name}
use Rattle.irtext_grammar.specs.Spelling.Section.{item, located, entry_text, entry_texts, once_texts, section, text}
use Rattle.irtext_grammar.specs.Spelling.Spell.{attribute, comma, joined, mark_if, concrete, region_texts, spelled}
use Rattle.irtext_print_ops.specs.Opened.{mark_text}

-- every element of a list has the property
abbrev pub Every : {X : Type 0} → (X → Type 0) → List X → Type 0
Every P [] = ⊤
Every P (x ∷ xs) = P x × Every P xs

every_left : {X : Type 0} (P : X → Type 0) (n : ℕ) (xs : List X) → Every P xs → Every P (drop n xs)
every_left P zero xs e = e
every_left P (suc n) [] e = tt
every_left P (suc n) (x ∷ xs) e = every_left P n xs e.1

map_same : {X Y : Type 0} (f h : X → Y) (xs : List X) → Every (λ x. f x ≡ h x) xs → map f xs ≡ map h xs
map_same f h [] e = refl
map_same f h (x ∷ xs) e = ap₂ ◌∷◌ e.0 (map_same f h xs e.1)

filter_map_same : {X Y : Type 0} (f h : X → Option Y) (xs : List X) → Every (λ x. f x ≡ h x) xs → filter_map f xs ≡ filter_map h xs
filter_map_same f h [] e = refl
filter_map_same f h (x ∷ xs) e = rw (e.0, filter_map_same f h xs e.1) refl

filter_same : {X : Type 0} (f h : X → Bool) → ((x : X) → f x ≡ h x) → (xs : List X) → filter f xs ≡ filter h xs
filter_same f h e [] = refl
filter_same f h e (x ∷ xs) = rw (e x, filter_same f h e xs) refl

-- where something holds of each element, so does what follows from it
every_map : {X : Type 0} (P Q : X → Type 0) → ((x : X) → P x → Q x) → (xs : List X) → Every P xs → Every Q xs
every_map P Q f [] e = tt
every_map P Q f (x ∷ xs) e = (f x e.0, every_map P Q f xs e.1)

module _ {T A : Type 0} (own_outlined own_once : A → Bool) (same : A → A → Bool) (formats : Id → Option Format) (given given' : ℕ → Option Text) (label label' : ℕ × ℕ → Option Text) (types types' : ℕ → Option T) where
  -- what printing asks of the one context, and of the other
  abbrev pub C : Printing T A
  C = record { given = given; label = label; type_of = types; own_outlined = own_outlined; own_once = own_once; same_own = same; format_of = formats }

  abbrev pub D : Printing T A
  D = record { given = given'; label = label'; type_of = types'; own_outlined = own_outlined; own_once = own_once; same_own = same; format_of = formats }

  -- a value that an operation uses has the same name and the same type in both
  abbrev pub SameUse : ℕ → Type 0
  SameUse v = (given' v ≡ given v) × (types' v ≡ types v)

  -- a value that an operation or a block defines has the same name in both
  abbrev pub SameName : ℕ × T → Type 0
  SameName r = given' r.0 ≡ given r.0

  -- a block has the same label in both
  abbrev pub SameLabel : ℕ × ℕ → Type 0
  SameLabel b = label' b ≡ label b

  -- the names and types that an operation mentions
  pub record OpSame (o : GraphOp T A) : Type 0 where
    pub results : Every SameName o.results
    pub operands : Every SameUse o.operands
    pub successors : Every SameLabel o.successors

  -- those that the head of a block mentions
  pub record HeadSame (h : GraphBlock T A) : Type 0 where
    pub own : SameLabel h.place
    pub arguments : Every SameName h.arguments

  -- ---- what does not ask for names
  pub outlined_same : (a : Attribute A) → outlined D a ≡ outlined C a
  outlined_same (given_names ns) = refl
  outlined_same (ident n) = refl
  outlined_same (own a) = refl

  inline_same : (es : List (Text × Attribute A)) → inline D es ≡ inline C es
  inline_same es = filter_same (λ e. not (outlined D e.1)) (λ e. not (outlined C e.1)) (λ e. ap not (outlined_same e.1)) es

  outlined_entries_same : (es : List (Text × Attribute A)) → outlined_entries D es ≡ outlined_entries C es
  outlined_entries_same es = filter_same (λ e. outlined D e.1) (λ e. outlined C e.1) (λ e. outlined_same e.1) es

  is_marked_same : (l : Option Text) (es : List (Text × Attribute A)) → is_marked D l es ≡ is_marked C l es
  is_marked_same (Some l) es = refl
  is_marked_same None [] = refl
  is_marked_same None (e ∷ es) = refl

  pub inside_same : (l : Limit) → inside D l ≡ inside C l
  inside_same None = refl
  inside_same (Some zero) = refl
  inside_same (Some (suc k)) = refl

  pub is_elided_same : (l : Limit) → is_elided D l ≡ is_elided C l
  is_elided_same None = refl
  is_elided_same (Some zero) = refl
  is_elided_same (Some (suc k)) = refl

  -- ---- names
  value_same : (v : ℕ) → given' v ≡ given v → value D v ≡ value C v
  value_same v e = ap (λ n. named C (value_name n v)) e

  target_same : (b : ℕ × ℕ) → label' b ≡ label b → target D b ≡ target C b
  target_same b e = ap (λ n. named C (block_name n b)) e

  values_same : (vs : List ℕ) → Every SameUse vs → map (value D) vs ≡ map (value C) vs
  values_same vs e = map_same (value D) (value C) vs (every_map SameUse (λ v. value D v ≡ value C v) (λ v s. value_same v s.0) vs e)

  targets_same : (bs : List (ℕ × ℕ)) → Every SameLabel bs → map (target D) bs ≡ map (target C) bs
  targets_same bs e = map_same (target D) (target C) bs (every_map SameLabel (λ b. target D b ≡ target C b) (λ b s. target_same b s) bs e)

  types_same : (vs : List ℕ) → Every SameUse vs → filter_map types' vs ≡ filter_map types vs
  types_same vs e = filter_map_same types' types vs (every_map SameUse (λ v. types' v ≡ types v) (λ v s. s.1) vs e)

  results_same : (rs : List (ℕ × T)) → Every SameName rs → map (λ r. value D r.0) rs ≡ map (λ r. value C r.0) rs
  results_same rs e = map_same (λ r. value D r.0) (λ r. value C r.0) rs (every_map SameName (λ r. value D r.0 ≡ value C r.0) (λ r s. value_same r.0 s) rs e)

  -- an argument, with its name and its type
  abbrev argument_of : Printing T A → ℕ × T → Name ⊤ × T
  argument_of P r = (value P r.0, r.1)

  arguments_same : (rs : List (ℕ × T)) → Every SameName rs → map (argument_of D) rs ≡ map (argument_of C) rs
  arguments_same rs e = map_same (argument_of D) (argument_of C) rs (every_map SameName (λ r. argument_of D r ≡ argument_of C r) (λ r s. one r (value_same r.0 s)) rs e)
    where
      one : (r : ℕ × T) → value D r.0 ≡ value C r.0 → argument_of D r ≡ argument_of C r
      one r e =
          let with_type : Name ⊤ → Name ⊤ × T = λ n. (n, r.1) in
          ap with_type e

  operand_same : (vs : List ℕ) (i k : ℕ) → Every SameUse vs
      → ◌≡◌ {A = Option (Part ⊤ T A)} (option_map (λ v. tree.piece (tree.operand i (value D v))) (slice_get vs k)) (option_map (λ v. tree.piece (tree.operand i (value C v))) (slice_get vs k))
  operand_same [] i k e = refl
  operand_same (v ∷ vs) i zero e = ap (λ n. Some (tree.piece (tree.operand i n))) (value_same v e.0.0)
  operand_same (v ∷ vs) i (suc k) e = operand_same vs i k e.1

  successor_same : (bs : List (ℕ × ℕ)) (i k : ℕ) → Every SameLabel bs
      → ◌≡◌ {A = Option (Part ⊤ T A)} (option_map (λ b. tree.piece (tree.successor i (target D b))) (slice_get bs k)) (option_map (λ b. tree.piece (tree.successor i (target C b))) (slice_get bs k))
  successor_same [] i k e = refl
  successor_same (b ∷ bs) i zero e = ap (λ n. Some (tree.piece (tree.successor i n))) (target_same b e.0)
  successor_same (b ∷ bs) i (suc k) e = successor_same bs i k e.1

  attribute_same : (k : Text) (a : Option (Attribute A))
      → ◌≡◌ {A = Option (Part ⊤ T A)} (option_map (λ a. tree.piece (tree.attribute k (cond (outlined D a) None (Some a)))) a) (option_map (λ a. tree.piece (tree.attribute k (cond (outlined C a) None (Some a)))) a)
  attribute_same k None = refl
  attribute_same k (Some a) = ap (λ b. Some (tree.piece (tree.attribute k (cond b None (Some a))))) (outlined_same a)

  part_same : (ds : List format.Directive) (o : GraphOp T A) → OpSame o → (d : format.Directive) → part_of D ds o d ≡ part_of C ds o d
  part_same ds o s (format.word w) = refl
  part_same ds o s (format.operand i) = operand_same o.operands i i s.operands
  part_same ds o s format.operands = let n = length (operand_places ds) in ap (λ ns. Some (tree.piece (tree.operands ns))) (values_same (drop n o.operands) (every_left SameUse n o.operands s.operands))
  part_same ds o s (format.successor i) = successor_same o.successors i i s.successors
  part_same ds o s format.successors = let n = length (successor_places ds) in ap (λ ns. Some (tree.piece (tree.successors ns))) (targets_same (drop n o.successors) (every_left SameLabel n o.successors s.successors))
  part_same ds o s (format.attribute k) = attribute_same k (lookup k o.attributes)
  part_same ds o s format.dictionary = ap (λ es. Some (tree.piece (tree.dictionary (entries C (filter (λ e. not (has same_text e.0 (written_keys C ds))) es))))) (inline_same o.attributes)
  part_same ds o s (format.result_type i) = refl
  part_same ds o s (format.region i) = refl
  part_same ds o s format.regions = refl
  part_same ds o s format.header = refl

  parts_same : (ds : List format.Directive) (o : GraphOp T A) → OpSame o → (es : List format.Directive) → filter_map (part_of D ds o) es ≡ filter_map (part_of C ds o) es
  parts_same ds o s [] = refl
  parts_same ds o s (d ∷ es) = rw (part_same ds o s d, parts_same ds o s es) refl

  canonical_same : (o : GraphOp T A) → OpSame o → body_of D o (Some format.canonical) ≡ body_of C o (Some format.canonical)
  canonical_same o s =
      let results = map (λ (r : ℕ × T). r.1) o.results in
      ap (λ ns. tree.canonical ns (map (target D) o.successors) (entries D (inline D o.attributes)) (filter_map types' o.operands) results) (values_same o.operands s.operands)
      ∙ ap (λ ns. tree.canonical (map (value C) o.operands) ns (entries D (inline D o.attributes)) (filter_map types' o.operands) results) (targets_same o.successors s.successors)
      ∙ ap (λ es. tree.canonical (map (value C) o.operands) (map (target C) o.successors) (entries C es) (filter_map types' o.operands) results) (inline_same o.attributes)
      ∙ ap (λ ts. tree.canonical (map (value C) o.operands) (map (target C) o.successors) (entries C (inline C o.attributes)) ts results) (types_same o.operands s.operands)

  body_same : (o : GraphOp T A) → OpSame o → (f : Option Format) → body_of D o f ≡ body_of C o f
  body_same o s None = refl
  body_same o s (Some format.canonical) = canonical_same o s
  body_same o s (Some (format.custom ds)) = ap tree.custom (parts_same ds o s ds)

  -- ---- marks
  op_outlined_same : (o : GraphOp T A) → op_outlined D o ≡ op_outlined C o
  op_outlined_same o = outlined_entries_same o.attributes

  head_outlined_same : (h : GraphBlock T A) → SameLabel h.place → block_outlined D h ≡ block_outlined C h
  head_outlined_same h e = ap₂ ◌++◌ (ap label_entry e) (outlined_entries_same h.attributes)

  mark_same : (n : ℕ) (l : Option Text) (es fs : List (Text × Attribute A)) → es ≡ fs → mark_at D n l es ≡ mark_at C n l fs
  mark_same n l es fs e = ap (λ b. cond b (Some (record { place = tt; index = n })) None) (is_marked_same l es) ∙ ap (mark_at C n l) e

  own_marks_same : (l : Option Text) (es fs : List (Text × Attribute A)) → es ≡ fs → own_marks D l es ≡ own_marks C l fs
  own_marks_same l es fs e = ap (λ b. cond b 1 0) (is_marked_same l es) ∙ ap (own_marks C l) e

  -- ---- one operation, and the head of one block
  tree_op_same : (n : ℕ) (o : GraphOp T A) → OpSame o → tree_op D n o ≡ tree_op C n o
  tree_op_same n o s =
      let make : List (Name ⊤) → Body ⊤ T A → Option (Mark ⊤) → Op ⊤ T A = λ ns b m. record { place = tt; names = ns; id = o.id; body = b; mark = m } in
      ap (λ ns. make ns (body_of D o (formats o.id)) (mark_at D n o.location (op_outlined D o))) (results_same o.results s.results)
      ∙ ap (λ b. make (map (λ r. value C r.0) o.results) b (mark_at D n o.location (op_outlined D o))) (body_same o s (formats o.id))
      ∙ ap (make (map (λ r. value C r.0) o.results) (body_of C o (formats o.id))) (mark_same n o.location (op_outlined D o) (op_outlined C o) (op_outlined_same o))

  tree_head_same : (n : ℕ) (h : GraphBlock T A) → HeadSame h → tree_head D n h ≡ tree_head C n h
  tree_head_same n h s =
      let make : Name ⊤ → List (Name ⊤ × T) → List (Name ⊤ × Attribute A) → Option (Mark ⊤) → Head ⊤ T A = λ l xs es m. record { label = l; arguments = xs; attributes = elim es [ [] ↦ None | e ∷ es ↦ Some (e ∷ es) ]; mark = m } in
      ap (λ l. make l (map (argument_of D) h.arguments) (entries D (inline D h.attributes)) (mark_at D n h.location (block_outlined D h))) (target_same h.place s.own)
      ∙ ap (λ xs. make (target C h.place) xs (entries D (inline D h.attributes)) (mark_at D n h.location (block_outlined D h))) (arguments_same h.arguments s.arguments)
      ∙ ap (λ es. make (target C h.place) (map (argument_of C) h.arguments) (entries C es) (mark_at D n h.location (block_outlined D h))) (inline_same h.attributes)
      ∙ ap (make (target C h.place) (map (argument_of C) h.arguments) (entries C (inline C h.attributes))) (mark_same n h.location (block_outlined D h) (block_outlined C h) (head_outlined_same h s.own))

  -- ---- everything nested
  abbrev RegionsSame : Regions (GraphOp T A) (GraphBlock T A) ⊤ → Type 0
  RegionsSame = AllRegions OpSame HeadSame (λ r. ⊤)

  abbrev BlocksSame : Blocks (GraphOp T A) (GraphBlock T A) ⊤ → Type 0
  BlocksSame = AllBlocks OpSame HeadSame (λ r. ⊤)

  abbrev OperationsSame : Operations (GraphOp T A) (GraphBlock T A) ⊤ → Type 0
  OperationsSame = AllOperations OpSame HeadSame (λ r. ⊤)

  mutual
    pub marks_in_regions_same : (l : Limit) (rs : Regions (GraphOp T A) (GraphBlock T A) ⊤) → RegionsSame rs → marks_in_regions D l rs ≡ marks_in_regions C l rs
    marks_in_regions_same l no_regions s = refl
    marks_in_regions_same l (region r bs rs) s = rw (is_elided_same l, inside_same l, marks_in_blocks_same (inside C l) bs s.1, marks_in_regions_same l rs s.2) refl

    marks_in_blocks_same : (l : Limit) (bs : Blocks (GraphOp T A) (GraphBlock T A) ⊤) → BlocksSame bs → marks_in_blocks D l bs ≡ marks_in_blocks C l bs
    marks_in_blocks_same l no_blocks s = refl
    marks_in_blocks_same l (block h os bs) s = rw (own_marks_same h.location (block_outlined D h) (block_outlined C h) (head_outlined_same h s.0.own), marks_in_operations_same l os s.1, marks_in_blocks_same l bs s.2) refl

    marks_in_operations_same : (l : Limit) (os : Operations (GraphOp T A) (GraphBlock T A) ⊤) → OperationsSame os → marks_in_operations D l os ≡ marks_in_operations C l os
    marks_in_operations_same l no_operations s = refl
    marks_in_operations_same l (operation o rs os) s = rw (marks_in_regions_same l rs s.1, own_marks_same o.location (op_outlined D o) (op_outlined C o) (op_outlined_same o), marks_in_operations_same l os s.2) refl

  mutual
    pub tree_regions_same : (l : Limit) (n : ℕ) (rs : Regions (GraphOp T A) (GraphBlock T A) ⊤) → RegionsSame rs → tree_regions D l n rs ≡ tree_regions C l n rs
    tree_regions_same l n no_regions s = refl
    tree_regions_same l n (region r bs rs) s = rw (is_elided_same l, inside_same l, marks_in_blocks_same (inside C l) bs s.1, tree_blocks_same (inside C l) n bs s.1, tree_regions_same l n rs s.2, tree_regions_same l (n + marks_in_blocks C (inside C l) bs) rs s.2) refl

    tree_blocks_same : (l : Limit) (n : ℕ) (bs : Blocks (GraphOp T A) (GraphBlock T A) ⊤) → BlocksSame bs → tree_blocks D l n bs ≡ tree_blocks C l n bs
    tree_blocks_same l n no_blocks s = refl
    tree_blocks_same l n (block h os bs) s =
        let m = n + own_marks C h.location (block_outlined C h) in
        rw (own_marks_same h.location (block_outlined D h) (block_outlined C h) (head_outlined_same h s.0.own), marks_in_operations_same l os s.1, tree_head_same n h s.0, tree_operations_same l m os s.1, tree_blocks_same l (m + marks_in_operations C l os) bs s.2) refl

    tree_operations_same : (l : Limit) (n : ℕ) (os : Operations (GraphOp T A) (GraphBlock T A) ⊤) → OperationsSame os → tree_operations D l n os ≡ tree_operations C l n os
    tree_operations_same l n no_operations s = refl
    tree_operations_same l n (operation o rs os) s =
        let m = n + marks_in_regions C l rs in
        rw (marks_in_regions_same l rs s.1, own_marks_same o.location (op_outlined D o) (op_outlined C o) (op_outlined_same o), tree_op_same m o s.0, tree_regions_same l n rs s.1, tree_operations_same l (m + own_marks C o.location (op_outlined C o)) os s.2) refl

  -- ---- the section
  -- the same entry for the other context
  abbrev moved : Entry D → Entry C
  moved e = record { location = e.location; attributes = e.attributes }

  own_entry_same : (l : Option Text) (es fs : List (Text × Attribute A)) → es ≡ fs → map moved (own_entry D l es) ≡ own_entry C l fs
  own_entry_same l es fs e = ap (λ b. map moved (cond b (record { location = l; attributes = es } ∷ []) [])) (is_marked_same l es) ∙ one (is_marked C l es) ∙ ap (own_entry C l) e
    where
      one : (b : Bool) → map moved (cond b (record { location = l; attributes = es } ∷ []) []) ≡ cond b (record { location = l; attributes = es } ∷ []) []
      one true = refl
      one false = refl

  both : (es fs : List (Entry D)) (xs ys : List (Entry C)) → map moved es ≡ xs → map moved fs ≡ ys → map moved (es ++ fs) ≡ xs ++ ys
  both es fs xs ys h k = map-append moved es fs ∙ ap₂ ◌++◌ h k

  cut : (b : Bool) (es : List (Entry D)) (xs : List (Entry C)) → map moved es ≡ xs → map moved (cond b [] es) ≡ cond b [] xs
  cut true es xs h = refl
  cut false es xs h = h

  mutual
    entries_of_regions_same : (l : Limit) (rs : Regions (GraphOp T A) (GraphBlock T A) ⊤) → RegionsSame rs → map moved (entries_of_regions D l rs) ≡ entries_of_regions C l rs
    entries_of_regions_same l no_regions s = refl
    entries_of_regions_same l (region r bs rs) s =
        both (cond (is_elided D l) [] (entries_of_blocks D (inside D l) bs)) (entries_of_regions D l rs) (cond (is_elided C l) [] (entries_of_blocks C (inside C l) bs)) (entries_of_regions C l rs)
        (ap (λ b. map moved (cond b [] (entries_of_blocks D (inside D l) bs))) (is_elided_same l)
        ∙ ap (λ k. map moved (cond (is_elided C l) [] (entries_of_blocks D k bs))) (inside_same l)
        ∙ cut (is_elided C l) (entries_of_blocks D (inside C l) bs) (entries_of_blocks C (inside C l) bs) (entries_of_blocks_same (inside C l) bs s.1))
        (entries_of_regions_same l rs s.2)

    entries_of_blocks_same : (l : Limit) (bs : Blocks (GraphOp T A) (GraphBlock T A) ⊤) → BlocksSame bs → map moved (entries_of_blocks D l bs) ≡ entries_of_blocks C l bs
    entries_of_blocks_same l no_blocks s = refl
    entries_of_blocks_same l (block h os bs) s =
        both (own_entry D h.location (block_outlined D h)) (entries_of_operations D l os ++ entries_of_blocks D l bs) (own_entry C h.location (block_outlined C h)) (entries_of_operations C l os ++ entries_of_blocks C l bs)
        (own_entry_same h.location (block_outlined D h) (block_outlined C h) (head_outlined_same h s.0.own))
        (both (entries_of_operations D l os) (entries_of_blocks D l bs) (entries_of_operations C l os) (entries_of_blocks C l bs) (entries_of_operations_same l os s.1) (entries_of_blocks_same l bs s.2))

    entries_of_operations_same : (l : Limit) (os : Operations (GraphOp T A) (GraphBlock T A) ⊤) → OperationsSame os → map moved (entries_of_operations D l os) ≡ entries_of_operations C l os
    entries_of_operations_same l no_operations s = refl
    entries_of_operations_same l (operation o rs os) s =
        both (entries_of_regions D l rs) (own_entry D o.location (op_outlined D o) ++ entries_of_operations D l os) (entries_of_regions C l rs) (own_entry C o.location (op_outlined C o) ++ entries_of_operations C l os)
        (entries_of_regions_same l rs s.1)
        (both (own_entry D o.location (op_outlined D o)) (entries_of_operations D l os) (own_entry C o.location (op_outlined C o)) (entries_of_operations C l os) (own_entry_same o.location (op_outlined D o) (op_outlined C o) (op_outlined_same o)) (entries_of_operations_same l os s.2))

  firsts_same : (known xs : List A) → firsts D known xs ≡ firsts C known xs
  firsts_same known [] = refl
  firsts_same known (a ∷ xs) = rw (firsts_same known xs, firsts_same (a ∷ known) xs) refl

  once_same : (a : Attribute A) → once D a ≡ once C a
  once_same (given_names ns) = refl
  once_same (ident n) = refl
  once_same (own a) = refl

  onces_same : (es : List (Text × Attribute A)) → flat_map (λ a. once D a.1) es ≡ flat_map (λ a. once C a.1) es
  onces_same [] = refl
  onces_same (e ∷ es) = ap₂ ◌++◌ (once_same e.1) (onces_same es)

  mentioned_same : (es : List (Entry D)) → flat_map (λ e. flat_map (λ a. once D a.1) e.attributes) es ≡ flat_map (λ e. flat_map (λ a. once C a.1) e.attributes) (map moved es)
  mentioned_same [] = refl
  mentioned_same (e ∷ es) = ap₂ ◌++◌ (onces_same e.attributes) (mentioned_same es)

  shared_same : (es : List (Entry D)) → shared D es ≡ shared C (map moved es)
  shared_same es = firsts_same [] (flat_map (λ e. flat_map (λ a. once D a.1) e.attributes) es) ∙ ap (firsts C []) (mentioned_same es)

  place_in_same : (xs : List A) (a : A) → place_in D xs a ≡ place_in C xs a
  place_in_same [] a = refl
  place_in_same (b ∷ xs) a = rw (place_in_same xs a) refl

  module _ (L : Language ⊤ T A) where
    located_same : (l : Option Text) → located L D l ≡ located L C l
    located_same None = refl
    located_same (Some l) = refl

    item_same : (n : ℕ) (xs : List A) (a : Attribute A) → item L D n xs a ≡ item L C n xs a
    item_same n xs (given_names ns) = refl
    item_same n xs (ident i) = refl
    item_same n xs (own a) = ap (λ k. cond (own_once a) (codes "!" ++ decimal (n + k)) (attribute L (own a))) (place_in_same xs a)

    pairs_same : (n : ℕ) (xs : List A) (es : List (Text × Attribute A)) → map (λ e. e.0 ++ (codes " = " ++ item L D n xs e.1)) es ≡ map (λ e. e.0 ++ (codes " = " ++ item L C n xs e.1)) es
    pairs_same n xs [] = refl
    pairs_same n xs (e ∷ es) = ap₂ ◌∷◌ (ap (λ t. e.0 ++ (codes " = " ++ t)) (item_same n xs e.1)) (pairs_same n xs es)

    entry_text_same : (n : ℕ) (xs : List A) (k : ℕ) (e : Entry D) → entry_text L D n xs k e ≡ entry_text L C n xs k (moved e)
    entry_text_same n xs k e =
        let whole : Text → List Text → Text = λ l ps. codes "!" ++ (decimal k ++ (codes " = " ++ (l ++ (codes "[" ++ (joined comma ps ++ codes "]\n"))))) in
        ap₂ whole (located_same e.location) (pairs_same n xs e.attributes)

    entry_texts_same : (n : ℕ) (xs : List A) (k : ℕ) (es : List (Entry D)) → entry_texts L D n xs k es ≡ entry_texts L C n xs k (map moved es)
    entry_texts_same n xs k [] = refl
    entry_texts_same n xs k (e ∷ es) = ap₂ ◌++◌ (entry_text_same n xs k e) (entry_texts_same n xs (suc k) es)

    once_texts_same : (n : ℕ) (xs : List A) → once_texts L D n xs ≡ once_texts L C n xs
    once_texts_same n [] = refl
    once_texts_same n (a ∷ xs) = rw (once_texts_same (suc n) xs) refl

    section_same : (es : List (Entry D)) → section L D es ≡ section L C (map moved es)
    section_same [] = refl
    section_same (e ∷ es) =
        let all = e ∷ es in
        let size : length all ≡ length (map moved all) = sym (length-map all moved) in
        ap (λ xs. codes "\n\noutlined_attributes:\n" ++ (entry_texts L D (length all) xs 0 all ++ once_texts L D (length all) xs)) (shared_same all)
        ∙ ap₂ (λ x y. codes "\n\noutlined_attributes:\n" ++ (x ++ y)) (entry_texts_same (length all) (shared C (map moved all)) 0 all) (once_texts_same (length all) (shared C (map moved all)))
        ∙ ap (λ n. codes "\n\noutlined_attributes:\n" ++ (entry_texts L C n (shared C (map moved all)) 0 (map moved all) ++ once_texts L C n (shared C (map moved all)))) size

    -- the whole text
    pub text_same : (g : Graph T A) → OpSame g.own → RegionsSame g.regions → (i width : ℕ) (l : Limit) → text L D g i width l ≡ text L C g i width l
    text_same g s rs i width l =
        let m = marks_in_regions C l g.regions in
        let whole : Op ⊤ T A → Regions (Op ⊤ T A) (Head ⊤ T A) (Brace ⊤) → Text = λ o ts. spelled L width i (record { own = o; regions = ts }) in
        ap (λ k. whole (tree_op D k g.own) (tree_regions D l 0 g.regions) ++ section L D (entries_of D l g)) (marks_in_regions_same l g.regions rs)
        ∙ ap₂ ◌++◌ (ap₂ whole (tree_op_same m g.own s) (tree_regions_same l 0 g.regions rs))
        (section_same (entries_of D l g) ∙ ap (section L C) (both (entries_of_regions D l g.regions) (own_entry D g.own.location (op_outlined D g.own)) (entries_of_regions C l g.regions) (own_entry C g.own.location (op_outlined C g.own)) (entries_of_regions_same l g.regions rs) (own_entry_same g.own.location (op_outlined D g.own) (op_outlined C g.own) (op_outlined_same g.own))))

    -- the text of an operation, with its mark if it is to be printed
    abbrev pub under : Printing T A → GraphOp T A → Regions (GraphOp T A) (GraphBlock T A) ⊤ → ℕ → ℕ → Limit → Bool → ℕ → Text
    under P o rs i width l marked n = let m = n + marks_in_regions P l rs in
        concrete L (tree_op P m o) (region_texts L width i (tree_regions P l n rs)) ++ mark_text P L 0 m (cond marked (Some o) None)

    mark_text_same : (o : GraphOp T A) (marked : Bool) (m : ℕ) → mark_text D L 0 m (cond marked (Some o) None) ≡ mark_text C L 0 m (cond marked (Some o) None)
    mark_text_same o false m = refl
    mark_text_same o true m = ap (mark_if L) (mark_same m o.location (op_outlined D o) (op_outlined C o) (op_outlined_same o))

    pub under_same : (o : GraphOp T A) (rs : Regions (GraphOp T A) (GraphBlock T A) ⊤) → OpSame o → RegionsSame rs → (i width : ℕ) (l : Limit) (marked : Bool) (n : ℕ) → under D o rs i width l marked n ≡ under C o rs i width l marked n
    under_same o rs s ss i width l marked n =
        let m = n + marks_in_regions C l rs in
        ap (λ k. concrete L (tree_op D k o) (region_texts L width i (tree_regions D l n rs)) ++ mark_text D L 0 k (cond marked (Some o) None)) (ap (λ k. n + k) (marks_in_regions_same l rs ss))
        ∙ ap₂ ◌++◌ (ap₂ (λ t ts. concrete L t (region_texts L width i ts)) (tree_op_same m o s) (tree_regions_same l n rs ss)) (mark_text_same o marked m)
