-- The script of what is written of a graph is the graph's own, under the printed names, with marks and claims between.
use Rattle.std.proofs.Common.{◌≡◌, ℕ, suc, ◌+◌, Bool, cond, List, [], ◌∷◌, ◌++◌, map, drop, length, filter_map, slice_get, Option, Some, None, option_map, option_and_then, refl, sym, ap, ap₂, ◌∙◌, subst}
use Rattle.std.specs.Prelude.{⊤}
use Rattle.std.specs.List.{cons_option}
use Rattle.irtext_base.specs.Text.{Text}
use Rattle.irtext_base.specs.Format as format
use Rattle.irtext_base.specs.Format.{Format, Directive, operand_places, successor_places, sym_name_key, Id}
use Rattle.irtext_grammar.specs.Grammar.Forest.{Regions, no_regions, region, Blocks, no_blocks, block, Operations, no_operations, operation, regions_list}
use Rattle.irtext_grammar.specs.Grammar.Tree as tree
use Rattle.irtext_grammar.specs.Grammar.Tree.{Name, Mark, Attribute, given_names, ident, own, Part, parts_of}
use Rattle.irtext_grammar.specs.Graphs.Graph.{Graph, GraphOp, GraphBlock, Printing, value, target, part_of, body_of, tree_op, tree_head, mark_at, own_marks, tree_regions, tree_blocks, tree_operations, marks_in_regions, marks_in_blocks, marks_in_operations, written, outlined, lookup, op_outlined, block_outlined}
use Rattle.irtext_grammar.specs.Names.Script.{Path, result, argument, block_at, operand, successor, Act, use_value, use_label, define_value, define_label, Script, done, does, within, does_all, script_as}
use Rattle.irtext_grammar.specs.Names.Acts.{value_uses, label_uses, result_definitions, argument_definitions, mark_acts, key_act, entries_if, singles, single_labels, all_of, parts_script, closing_acts, header_acts, region_scripts, blocks_script, operations_script, tree_script, Rule, may_hold, block_may_hold}
use Rattle.irtext_grammar.specs.Graphs.Closed.{Thing, a_value, a_block, printed, spot, uses_of_values, uses_of_blocks, defined_results, defined_arguments, use_if, use_block_if, directives_script, body_script, graph_regions, graph_blocks, graph_operations, graph_script, FitsFormat, FitRegions, FitBlocks, FitOperations, Fit}
use Rattle.irtext_grammar.proofs.Graphs.FitsFormat.{meets, singles_are, labels_are}
use Rattle.irtext_grammar.specs.Names.Plain.{plain}

module _ {T A : Type 0} (C : Printing T A) where
  -- a script under the printed names
  abbrev pub S : Script Thing ⊤ → Script Text ⊤
  S x = script_as (printed C) (λ p. p) x

  -- the written text's, and the graph's
  pub record Like (t : Script Text ⊤) (g : Script Thing ⊤) : Type 0 where
    pub so : plain t ≡ S g

  values_like : (p : Path) (k : ℕ) (vs : List ℕ) {t : Script Text ⊤} {g : Script Thing ⊤} → Like t g → Like (does_all (value_uses p k (map (value C) vs)) t) (does_all (uses_of_values p k vs) g)
  values_like p k [] h = h
  values_like p k (v ∷ vs) h = record { so = ap (λ z. does (use_value (record { name = printed C (a_value v); at = tt }) (operand p k)) z) (values_like p (suc k) vs h).so }

  labels_like : (p : Path) (k : ℕ) (bs : List (ℕ × ℕ)) {t : Script Text ⊤} {g : Script Thing ⊤} → Like t g → Like (does_all (label_uses p k (map (target C) bs)) t) (does_all (uses_of_blocks p k bs) g)
  labels_like p k [] h = h
  labels_like p k (b ∷ bs) h = record { so = ap (λ z. does (use_label (record { name = printed C (a_block b); at = tt }) (successor p k)) z) (labels_like p (suc k) bs h).so }

  results_like : (p : Path) (k : ℕ) (rs : List (ℕ × T)) {t : Script Text ⊤} {g : Script Thing ⊤} → Like t g → Like (does_all (result_definitions p k (map (λ (r : ℕ × T). value C r.0) rs)) t) (does_all (defined_results p k rs) g)
  results_like p k [] h = h
  results_like p k (r ∷ rs) h = record { so = ap (λ z. does (define_value (record { name = printed C (a_value r.0); at = tt }) (result p k)) z) (results_like p (suc k) rs h).so }

  arguments_like : (p : Path) (k : ℕ) (rs : List (ℕ × T)) {t : Script Text ⊤} {g : Script Thing ⊤} → Like t g → Like (does_all (argument_definitions p k (map (λ (a : ℕ × T). (value C a.0, a.1)) rs)) t) (does_all (defined_arguments p k rs) g)
  arguments_like p k [] h = h
  arguments_like p k (r ∷ rs) h = record { so = ap (λ z. does (define_value (record { name = printed C (a_value r.0); at = tt }) (argument p k)) z) (arguments_like p (suc k) rs h).so }

  keys_like : (rule : Rule A) (es : List (Name ⊤ × Attribute A)) {t : Script Text ⊤} {g : Script Thing ⊤} → Like t g → Like (does_all (map (key_act rule) es) t) g
  keys_like rule [] h = h
  keys_like rule (e ∷ es) h = record { so = (keys_like rule es h).so }

  mark_like : (m : Option (Mark ⊤)) {t : Script Text ⊤} {g : Script Thing ⊤} → Like t g → Like (does_all (mark_acts m) t) g
  mark_like None h = h
  mark_like (Some m) h = record { so = h.so }

  -- acts joined are done one list after the other
  pub does_both : {N P : Type 0} (xs ys : List (Act N P)) (k : Script N P) → does_all (xs ++ ys) k ≡ does_all xs (does_all ys k)
  does_both [] ys k = refl
  does_both (x ∷ xs) ys k = ap (does x) (does_both xs ys k)

  like_from : {t u : Script Text ⊤} {g : Script Thing ⊤} → t ≡ u → Like u g → Like t g
  like_from {g = g} e h = subst (λ z. Like z g) (sym e) h

  -- region by region
  abbrev LikeAll : List (Script Text ⊤ → Script Text ⊤) → List (Script Thing ⊤ → Script Thing ⊤) → Type 0
  LikeAll [] [] = ⊤
  LikeAll (r ∷ rs) (s ∷ ss) = ((t : Script Text ⊤) (g : Script Thing ⊤) → Like t g → Like (r t) (s g)) × LikeAll rs ss
  LikeAll _ _ = ⊥

  all_like : (rs : List (Script Text ⊤ → Script Text ⊤)) (ss : List (Script Thing ⊤ → Script Thing ⊤)) {t : Script Text ⊤} {g : Script Thing ⊤} → LikeAll rs ss → Like t g → Like (all_of rs t) (all_of ss g)
  all_like [] [] a h = h
  all_like [] (s ∷ ss) a h = absurd a
  all_like (r ∷ rs) [] a h = absurd a
  all_like (r ∷ rs) (s ∷ ss) {t = t} {g = g} a h = a.0 (all_of rs t) (all_of ss g) (all_like rs ss a.1 h)

  module _ (ds : List Directive) (p : Path) (o : GraphOp T A) {t : Script Text ⊤} {g : Script Thing ⊤} (h : Like t g) where
    abbrev K : ℕ
    K = length (operand_places ds)

    abbrev J : ℕ
    J = length (successor_places ds)

    abbrev Left : List (Part ⊤ T A) → List (Script Text ⊤ → Script Text ⊤) → Script Text ⊤
    Left ps rs = parts_script p K J ps rs t

    parts_like : (rest : List Directive) (rs : List (Script Text ⊤ → Script Text ⊤)) (ss : List (Script Thing ⊤ → Script Thing ⊤)) → LikeAll rs ss
        → Like (Left (filter_map (part_of C ds o) rest) rs) (directives_script ds p o rest ss g)
    parts_like [] rs ss a = h
    parts_like (format.word s ∷ rest) rs ss a = parts_like rest rs ss a
    parts_like (format.operand i ∷ rest) rs ss a = go (slice_get o.operands i) (parts_like rest rs ss a)
      where
        go : (x : Option ℕ) → Like (Left (filter_map (part_of C ds o) rest) rs) (directives_script ds p o rest ss g)
            → Like (Left (cons_option (option_map (λ v. tree.piece (tree.operand i (value C v))) x) (filter_map (part_of C ds o) rest)) rs) (does_all (use_if p i x) (directives_script ds p o rest ss g))
        go None k = k
        go (Some v) k = record { so = ap (λ z. does (use_value (record { name = printed C (a_value v); at = tt }) (operand p i)) z) k.so }
    parts_like (format.operands ∷ rest) rs ss a = values_like p K (drop K o.operands) (parts_like rest rs ss a)
    parts_like (format.successor i ∷ rest) rs ss a = go (slice_get o.successors i) (parts_like rest rs ss a)
      where
        go : (x : Option (ℕ × ℕ)) → Like (Left (filter_map (part_of C ds o) rest) rs) (directives_script ds p o rest ss g)
            → Like (Left (cons_option (option_map (λ b. tree.piece (tree.successor i (target C b))) x) (filter_map (part_of C ds o) rest)) rs) (does_all (use_block_if p i x) (directives_script ds p o rest ss g))
        go None k = k
        go (Some b) k = record { so = ap (λ z. does (use_label (record { name = printed C (a_block b); at = tt }) (successor p i)) z) k.so }
    parts_like (format.successors ∷ rest) rs ss a = labels_like p J (drop J o.successors) (parts_like rest rs ss a)
    parts_like (format.attribute key ∷ rest) rs ss a = go (lookup key o.attributes) (parts_like rest rs ss a)
      where
        go : (x : Option (Attribute A)) → Like (Left (filter_map (part_of C ds o) rest) rs) (directives_script ds p o rest ss g)
            → Like (Left (cons_option (option_map (λ a. tree.piece (tree.attribute key (cond (outlined C a) None (Some a)))) x) (filter_map (part_of C ds o) rest)) rs) (directives_script ds p o rest ss g)
        go None k = k
        go (Some x) k = k
    parts_like (format.dictionary ∷ rest) rs ss a = keys_like may_hold _ (parts_like rest rs ss a)
    parts_like (format.result_type i ∷ rest) rs ss a = go (slice_get o.results i) (parts_like rest rs ss a)
      where
        go : (x : Option (ℕ × T)) → Like (Left (filter_map (part_of C ds o) rest) rs) (directives_script ds p o rest ss g)
            → Like (Left (cons_option (option_map (λ r. tree.piece (tree.result_type i r.1)) x) (filter_map (part_of C ds o) rest)) rs) (directives_script ds p o rest ss g)
        go None k = k
        go (Some x) k = k
    parts_like (format.region i ∷ rest) [] [] a = parts_like rest [] [] a
    parts_like (format.region i ∷ rest) [] (s ∷ ss) a = absurd a
    parts_like (format.region i ∷ rest) (r ∷ rs) [] a = absurd a
    parts_like (format.region i ∷ rest) (r ∷ rs) (s ∷ ss) a = a.0 _ _ (parts_like rest rs ss a.1)
    parts_like (format.regions ∷ rest) rs ss a = all_like rs ss a (parts_like rest [] [] tt)
    parts_like (format.header ∷ rest) rs ss a = go (lookup sym_name_key o.attributes) (parts_like rest rs ss a)
      where
        go : (x : Option (Attribute A)) → Like (Left (filter_map (part_of C ds o) rest) rs) (directives_script ds p o rest ss g)
            → Like (Left (cons_option (option_and_then (λ a. elim a [ ident n ↦ Some (tree.piece (tree.header (record { place = tt; text = n }))) | _ ↦ None ]) x) (filter_map (part_of C ds o) rest)) rs) (directives_script ds p o rest ss g)
        go None k = k
        go (Some (given_names ns)) k = k
        go (Some (ident n)) k = k
        go (Some (own x)) k = k

  closing_like : (p : Path) (n : ℕ) (o : GraphOp T A) {t : Script Text ⊤} {g : Script Thing ⊤} → Like t g → Like (does_all (closing_acts p (tree_op C n o)) t) (does_all (defined_results p 0 o.results) g)
  closing_like p n o {t = t} h =
      let m = mark_at C n o.location (op_outlined C o) in
      let ns = map (λ (r : ℕ × T). value C r.0) o.results in
      record { so = ap plain (does_both (result_definitions p 0 ns) (mark_acts m) t) ∙ (results_like p 0 o.results (mark_like m h)).so }

  header_like : (p : Path) (n : ℕ) (b : GraphBlock T A) {t : Script Text ⊤} {g : Script Thing ⊤} → Like t g
      → Like (does_all (header_acts p (tree_head C n b)) t) (does_all (defined_arguments p 0 b.arguments) (does (define_label (spot (a_block b.place)) (block_at p)) g))
  header_like p n b {t = t} {g = g} h =
      let m = mark_at C n b.location (block_outlined C b) in
      let pairs = map (λ (a : ℕ × T). (value C a.0, a.1)) b.arguments in
      let es = entries_if (tree_head C n b).attributes in
      let last : Like (does (define_label (record { name = printed C (a_block b.place); at = tt }) (block_at p)) t) (does (define_label (spot (a_block b.place)) (block_at p)) g) = record { so = ap (λ z. does (define_label (record { name = printed C (a_block b.place); at = tt }) (block_at p)) z) h.so } in
      like_from (does_both (map (key_act block_may_hold) es) _ t) (keys_like block_may_hold es (like_from (does_both (argument_definitions p 0 pairs) _ t) (arguments_like p 0 b.arguments (like_from (does_both (mark_acts m) _ t) (mark_like m last)))))

  module _ (isolated : Id → Bool) where
    body_like : (p : Path) (o : GraphOp T A) (n : ℕ) (f : Option Format) → FitsFormat C isolated f o n → (rs : List (Script Text ⊤ → Script Text ⊤)) (ss : List (Script Thing ⊤ → Script Thing ⊤)) → LikeAll rs ss
        → {t : Script Text ⊤} {g : Script Thing ⊤} → Like t g
        → Like (parts_script p (singles (parts_of (body_of C o f))) (single_labels (parts_of (body_of C o f))) (parts_of (body_of C o f)) rs t) (body_script f p o ss g)
    body_like p o n None x rs ss a h = absurd x
    body_like p o n (Some format.canonical) x rs ss a h = values_like p 0 o.operands (labels_like p 0 o.successors (keys_like may_hold _ (all_like rs ss a h)))
    body_like p o n (Some (format.custom ds)) x rs ss a {t = t} h =
        let m = meets ds x.0 in
        like_from (ap₂ (λ i j. parts_script p i j (filter_map (part_of C ds o) ds) rs t) (singles_are C isolated ds o n m x.1) (labels_are C isolated ds o n m x.1))
        (parts_like ds p o h ds rs ss a)

    mutual
      regions_like : (n : ℕ) (p : Path) (j : ℕ) (iso : Bool) (rs : Regions (GraphOp T A) (GraphBlock T A) ⊤) → FitRegions C isolated rs → LikeAll (region_scripts isolated p j iso (tree_regions C None n rs)) (graph_regions C isolated p j iso rs)
      regions_like n p j iso no_regions f = tt
      regions_like n p j iso (region r bs rs) f = (
        (λ t g h. record { so = ap₂ (λ x y. within iso tt x y) (blocks_like n (j ∷ p) 0 bs f.0).so h.so }),
        regions_like (n + marks_in_blocks C None bs) p (suc j) iso rs f.1,
      )

      -- the script of written blocks is the graph's, but for marks and claims
      pub blocks_like : (n : ℕ) (p : Path) (k : ℕ) (bs : Blocks (GraphOp T A) (GraphBlock T A) ⊤) → FitBlocks C isolated bs → Like (blocks_script isolated p k (tree_blocks C None n bs)) (graph_blocks C isolated p k bs)
      blocks_like n p k no_blocks f = record { so = refl }
      blocks_like n p k (block b os bs) f =
          let m = n + own_marks C b.location (block_outlined C b) in
          header_like (k ∷ p) n b (operations_like m (k ∷ p) 0 os f.0 (blocks_like (m + marks_in_operations C None os) p (suc k) bs f.1))

      operations_like : (n : ℕ) (p : Path) (i : ℕ) (os : Operations (GraphOp T A) (GraphBlock T A) ⊤) → FitOperations C isolated os → {t : Script Text ⊤} {g : Script Thing ⊤} → Like t g
          → Like (operations_script isolated p i (tree_operations C None n os) t) (graph_operations C isolated p i os g)
      operations_like n p i no_operations f h = h
      operations_like n p i (operation o rs os) f h =
          let m = n + marks_in_regions C None rs in
          body_like (i ∷ p) o (length (regions_list rs)) (C.format_of o.id) f.0 _ _ (regions_like n (i ∷ p) 0 (isolated o.id) rs f.1)
          (closing_like (i ∷ p) m o (operations_like (m + own_marks C o.location (op_outlined C o)) p (suc i) os f.2 h))

    -- of a whole root, before whatever is done then
    pub written_like : (g : Graph T A) → Fit C isolated g → plain (tree_script isolated (written C None g) done) ≡ S (graph_script C isolated g)
    written_like g f =
        let h : Like done done = record { so = refl } in
        (body_like [] g.own (length (regions_list g.regions)) (C.format_of g.own.id) f.0 _ _ (regions_like 0 [] 0 (isolated g.own.id) g.regions f.1)
        (closing_like [] (marks_in_regions C None g.regions) g.own h)).so
