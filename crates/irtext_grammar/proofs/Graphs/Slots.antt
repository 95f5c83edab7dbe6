-- What the uses of a tree's script mean is what the operands and successors of the graph that it builds hold.
use Rattle.std.proofs.Common.{◌≡◌, ℕ, suc, List, [], ◌∷◌, ◌++◌, map, length, Option, Some, None, refl, sym, ap, ap₂, ◌∙◌, flat_map}
use Rattle.std.specs.Prelude.{⊤}
use Rattle.std.proofs.lemmas.List.{append_assoc, append-nil}
use Rattle.irtext_base.specs.Text.{Text}
use Rattle.irtext_base.specs.Format.{same_text}
use Rattle.irtext_grammar.specs.Grammar.Forest.{Regions, no_regions, region, Blocks, no_blocks, block, Operations, no_operations, operation}
use Rattle.irtext_grammar.specs.Grammar.Tree as tree
use Rattle.irtext_grammar.specs.Grammar.Tree.{Name, Mark, Attribute, Piece, Part, Op, Head, parts_of, views, in_order, operand_names, successor_labels}
use Rattle.irtext_grammar.specs.Names.Script.{Path, Place, User, operand, successor, Act}
use Rattle.irtext_grammar.specs.Names.Script as script
use Rattle.irtext_grammar.specs.Names.Scopes.{Fact, lookup}
use Rattle.irtext_grammar.specs.Names.Acts.{value_uses, label_uses, result_definitions, argument_definitions, mark_acts, key_act, entries_if, singles, single_labels, piece_acts, closing_acts, header_acts, Rule, may_hold, block_may_hold}
use Rattle.irtext_grammar.specs.Graphs.Build.{BuiltOp, BuiltBlock, Built}
use Rattle.irtext_grammar.proofs.Lists.Sets.{Same, same_refl, same_path, same_then, same_both, same_swap}
use Rattle.irtext_grammar.proofs.Names.UsesMean.{acts_meant}
use Rattle.irtext_grammar.proofs.Graphs.PartKinds.{spread_if, chosen, views_chosen, single_operand, operand_list, single_successor, successor_list, Numbered}
use Rattle.irtext_grammar.proofs.Lists.Numbering.{numbered, own, listed, all_numbered}

-- ---- lists with the same members
pub same_under : {X : Type 0} (a : List X) {x y : List X} → Same x y → Same (a ++ x) (a ++ y)
same_under a h = same_both (same_refl a) h

-- a list in the middle may be moved to the front
pub same_past : {X : Type 0} (h a b : List X) → Same (h ++ (a ++ b)) (a ++ (h ++ b))
same_past h a b = same_then (same_path _ _ (sym (append_assoc h a b))) (same_then (same_both (same_swap h a) (same_refl b)) (same_path _ _ (append_assoc a h b)))

-- the middle parts of two lists may change places
pub same_two : {X : Type 0} (a x b y : List X) → Same ((a ++ x) ++ (b ++ y)) ((a ++ b) ++ (x ++ y))
same_two a x b y = same_then (same_path _ _ (append_assoc a x (b ++ y))) (same_then (same_under a (same_past x b y)) (same_path _ _ (sym (append_assoc a b (x ++ y)))))

same_four : {X : Type 0} (a b c d w x y z : List X) → Same ((a ++ (b ++ (c ++ d))) ++ (w ++ (x ++ (y ++ z)))) ((a ++ w) ++ ((b ++ x) ++ ((c ++ y) ++ (d ++ z))))
same_four a b c d w x y z =
    same_then (same_two a (b ++ (c ++ d)) w (x ++ (y ++ z)))
    (same_under (a ++ w) (same_then (same_two b (c ++ d) x (y ++ z)) (same_under (b ++ x) (same_two c d y z))))

kept : {X : Type 0} (xs : List X) → flat_map (λ e. e ∷ []) xs ≡ xs
kept [] = refl
kept (x ∷ xs) = ap (λ z. x ∷ z) (kept xs)

-- ---- what the operations of a built graph hold, in the order of its links
module _ {T A X : Type 0} where
  -- what an operation's operands and successors hold
  abbrev pub op_slots : Path → BuiltOp T A X → List (User × Option Place)
  op_slots p o = numbered (operand p) 0 o.operands ++ numbered (successor p) 0 o.successors

  abbrev mutual
    -- what those in regions hold
    pub region_slots : Path → ℕ → Regions (BuiltOp T A X) (BuiltBlock T A X) ⊤ → List (User × Option Place)
    region_slots p j no_regions = []
    region_slots p j (region r bs rs) = block_slots (j ∷ p) 0 bs ++ region_slots p (suc j) rs

    -- what those in blocks hold
    pub block_slots : Path → ℕ → Blocks (BuiltOp T A X) (BuiltBlock T A X) ⊤ → List (User × Option Place)
    block_slots p k no_blocks = []
    block_slots p k (block h os bs) = operation_slots (k ∷ p) 0 os ++ block_slots p (suc k) bs

    -- what those of a block's operations hold
    pub operation_slots : Path → ℕ → Operations (BuiltOp T A X) (BuiltBlock T A X) ⊤ → List (User × Option Place)
    operation_slots p i no_operations = []
    operation_slots p i (operation o rs os) = (op_slots (i ∷ p) o ++ region_slots (i ∷ p) 0 rs) ++ operation_slots p (suc i) os

  -- what all operands and successors of a root hold
  abbrev pub slots : Built T A X → List (User × Option Place)
  slots b = op_slots [] b.own ++ region_slots [] 0 b.regions

module _ (v l : List (Fact Text)) where
  abbrev Uses : Type 0
  Uses = List (User × Option Place)

  abbrev look : {P : Type 0} → Name P → Option Place
  look n = lookup same_text n.text v

  abbrev look_label : {P : Type 0} → Name P → Option Place
  look_label n = lookup same_text n.text l

  abbrev M_acts : {P : Type 0} → List (Act Text P) → Uses
  M_acts acts = acts_meant same_text v l acts

  values_meant : {P : Type 0} (p : Path) (k : ℕ) (ns : List (Name P)) → M_acts (value_uses p k ns) ≡ numbered (operand p) k (map look ns)
  values_meant p k [] = refl
  values_meant p k (n ∷ ns) = ap (λ z. (operand p k, look n) ∷ z) (values_meant p (suc k) ns)

  labels_meant : {P : Type 0} (p : Path) (k : ℕ) (ns : List (Name P)) → M_acts (label_uses p k ns) ≡ numbered (successor p) k (map look_label ns)
  labels_meant p k [] = refl
  labels_meant p k (n ∷ ns) = ap (λ z. (successor p k, look_label n) ∷ z) (labels_meant p (suc k) ns)

  -- acts that use nothing, joined, use nothing
  pub nothing_both : {P : Type 0} (xs ys : List (Act Text P)) → M_acts xs ≡ [] → M_acts ys ≡ [] → M_acts (xs ++ ys) ≡ []
  nothing_both [] ys e f = f
  nothing_both (script.use_value w u ∷ xs) ys e f = cc
  nothing_both (script.use_label w u ∷ xs) ys e f = cc
  nothing_both (_ ∷ xs) ys e f = nothing_both xs ys e f

  results_mean_nothing : {P : Type 0} (p : Path) (k : ℕ) (ns : List (Name P)) → M_acts (result_definitions p k ns) ≡ []
  results_mean_nothing p k [] = refl
  results_mean_nothing p k (n ∷ ns) = results_mean_nothing p (suc k) ns

  arguments_mean_nothing : {P T : Type 0} (p : Path) (k : ℕ) (ns : List (Name P × T)) → M_acts (argument_definitions p k ns) ≡ []
  arguments_mean_nothing p k [] = refl
  arguments_mean_nothing p k (n ∷ ns) = arguments_mean_nothing p (suc k) ns

  mark_means_nothing : {P : Type 0} (m : Option (Mark P)) → M_acts (mark_acts m) ≡ []
  mark_means_nothing None = refl
  mark_means_nothing (Some m) = refl

  keys_mean_nothing : {P A : Type 0} (rule : Rule A) (es : List (Name P × Attribute A)) → M_acts (map (key_act rule) es) ≡ []
  keys_mean_nothing rule [] = refl
  keys_mean_nothing rule (e ∷ es) = keys_mean_nothing rule es

  module _ {P T A : Type 0} where
    -- the acts at an operation's end use nothing
    pub closing_means_nothing : (p : Path) (o : Op P T A) → M_acts (closing_acts p o) ≡ []
    closing_means_nothing p o = nothing_both (result_definitions p 0 o.names) (mark_acts o.mark) (results_mean_nothing p 0 o.names) (mark_means_nothing o.mark)

    -- the acts of a block's own use nothing
    pub header_means_nothing : (p : Path) (h : Head P T A) → M_acts (header_acts p h) ≡ []
    header_means_nothing p h =
        let last = script.define_label (record { name = h.label.text; at = h.label.place }) (script.block_at p) ∷ [] in
        nothing_both (map (key_act block_may_hold) (entries_if h.attributes)) (argument_definitions p 0 h.arguments ++ (mark_acts h.mark ++ last)) (keys_mean_nothing block_may_hold (entries_if h.attributes))
        (nothing_both (argument_definitions p 0 h.arguments) (mark_acts h.mark ++ last) (arguments_mean_nothing p 0 h.arguments) (nothing_both (mark_acts h.mark) last (mark_means_nothing h.mark) refl))

    -- ---- the parts of a body
    module _ (p : Path) (k m : ℕ) where
      abbrev own_value : Piece P T A → Uses
      own_value x = elim x [ tree.operand i n ↦ (operand p i, look n) ∷ [] | _ ↦ [] ]

      abbrev more_values : Piece P T A → Uses
      more_values x = elim x [ tree.operands ns ↦ numbered (operand p) k (map look ns) | _ ↦ [] ]

      abbrev own_label : Piece P T A → Uses
      own_label x = elim x [ tree.successor i n ↦ (successor p i, look_label n) ∷ [] | _ ↦ [] ]

      abbrev more_labels : Piece P T A → Uses
      more_labels x = elim x [ tree.successors ns ↦ numbered (successor p) m (map look_label ns) | _ ↦ [] ]

      -- what the uses of a body's parts mean
      abbrev pub parts_meant : List (Part P T A) → Uses
      parts_meant ps = views (λ x. M_acts (piece_acts p k m x)) ps

      piece_meant : (x : Piece P T A) → M_acts (piece_acts p k m x) ≡ own_value x ++ (more_values x ++ (own_label x ++ more_labels x))
      piece_meant (tree.operands ns) = values_meant p k ns ∙ sym (append-nil (numbered (operand p) k (map look ns)))
      piece_meant (tree.successors ns) = labels_meant p m ns
      piece_meant (tree.dictionary es) = keys_mean_nothing may_hold es
      piece_meant _ = refl

      apart : (ps : List (Part P T A)) → Same (parts_meant ps) (views own_value ps ++ (views more_values ps ++ (views own_label ps ++ views more_labels ps)))
      apart [] = same_refl []
      apart (tree.piece x ∷ ps) =
          same_then (same_both (same_path _ _ (piece_meant x)) (apart ps))
          (same_four (own_value x) (more_values x) (own_label x) (more_labels x) (views own_value ps) (views more_values ps) (views own_label ps) (views more_labels ps))
      apart (tree.region i ∷ ps) = apart ps
      apart (tree.regions ∷ ps) = apart ps

    -- as many names are seen as are chosen
    seen_chosen : {Y : Type 0} (view : Piece P T A → List (Name P)) (sel : Piece P T A → Option Y) (f : Y → Name P) → ((x : Piece P T A) → view x ≡ spread_if (λ e. f e ∷ []) (sel x)) → (ps : List (Part P T A))
        → length (views view ps) ≡ length (chosen sel ps)
    seen_chosen view sel f h ps = ap length (views_chosen view sel (λ e. f e ∷ []) h ps) ∙ each_one (chosen sel ps)
      where
        each_one : (es : List _) → length (flat_map (λ e. f e ∷ []) es) ≡ length es
        each_one [] = refl
        each_one (e ∷ es) = ap suc (each_one es)

    singles_chosen : (ps : List (Part P T A)) → singles ps ≡ length (chosen single_operand ps)
    singles_chosen = seen_chosen _ single_operand (λ e. e.1) (elim [ tree.operand i n ↦ refl | _ ↦ refl ])

    labels_chosen : (ps : List (Part P T A)) → single_labels ps ≡ length (chosen single_successor ps)
    labels_chosen = seen_chosen _ single_successor (λ e. e.1) (elim [ tree.successor i n ↦ refl | _ ↦ refl ])

    own_operands : (x : Piece P T A) → elim x [ tree.operand i n ↦ (i, n) ∷ [] | _ ↦ [] ] ≡ spread_if (λ e. e ∷ []) (single_operand x)
    own_operands (tree.operand i n) = refl
    own_operands _ = refl

    values_numbered : (p : Path) (ps : List (Part P T A)) → Numbered ps
        → Same (views (own_value p (singles ps) 0) ps ++ views (more_values p (singles ps) 0) ps)
        (numbered (operand p) 0 (map look (in_order (views (λ x. elim x [ tree.operand i n ↦ (i, n) ∷ [] | _ ↦ [] ]) ps) ++ views (λ x. elim x [ tree.operands ns ↦ ns | _ ↦ [] ]) ps)))
    values_numbered p ps f =
        let es = chosen single_operand ps in
        let ls = chosen operand_list ps in
        same_then (same_path _ _ (ap₂ ◌++◌ (views_chosen (own_value p (singles ps) 0) single_operand (own look (operand p)) single ps)
        (views_chosen (more_values p (singles ps) 0) operand_list (listed look (operand p) (singles ps)) list ps ∙ ap (λ n. flat_map (listed look (operand p) n) ls) (singles_chosen ps))))
        (same_then (all_numbered look (operand p) es ls f.operands f.operand_lists)
        (same_path _ _ (ap₂ (λ xs ys. numbered (operand p) 0 (map look (in_order xs ++ ys))) (sym (views_chosen _ single_operand (λ e. e ∷ []) own_operands ps ∙ kept es)) (sym (views_chosen _ operand_list (λ ns. ns) names ps)))))
      where
        single : (x : Piece P T A) → own_value p (singles ps) 0 x ≡ spread_if (own look (operand p)) (single_operand x)
        single (tree.operand i n) = refl
        single _ = refl

        list : (x : Piece P T A) → more_values p (singles ps) 0 x ≡ spread_if (listed look (operand p) (singles ps)) (operand_list x)
        list (tree.operands ns) = refl
        list _ = refl

        names : (x : Piece P T A) → elim x [ tree.operands ns ↦ ns | _ ↦ [] ] ≡ spread_if (λ ns. ns) (operand_list x)
        names (tree.operands ns) = refl
        names _ = refl

    own_successors : (x : Piece P T A) → elim x [ tree.successor i n ↦ (i, n) ∷ [] | _ ↦ [] ] ≡ spread_if (λ e. e ∷ []) (single_successor x)
    own_successors (tree.successor i n) = refl
    own_successors _ = refl

    labels_numbered : (p : Path) (ps : List (Part P T A)) → Numbered ps
        → Same (views (own_label p 0 (single_labels ps)) ps ++ views (more_labels p 0 (single_labels ps)) ps)
        (numbered (successor p) 0 (map look_label (in_order (views (λ x. elim x [ tree.successor i n ↦ (i, n) ∷ [] | _ ↦ [] ]) ps) ++ views (λ x. elim x [ tree.successors ns ↦ ns | _ ↦ [] ]) ps)))
    labels_numbered p ps f =
        let es = chosen single_successor ps in
        let ls = chosen successor_list ps in
        same_then (same_path _ _ (ap₂ ◌++◌ (views_chosen (own_label p 0 (single_labels ps)) single_successor (own look_label (successor p)) single ps)
        (views_chosen (more_labels p 0 (single_labels ps)) successor_list (listed look_label (successor p) (single_labels ps)) list ps ∙ ap (λ n. flat_map (listed look_label (successor p) n) ls) (labels_chosen ps))))
        (same_then (all_numbered look_label (successor p) es ls f.successors f.successor_lists)
        (same_path _ _ (ap₂ (λ xs ys. numbered (successor p) 0 (map look_label (in_order xs ++ ys))) (sym (views_chosen _ single_successor (λ e. e ∷ []) own_successors ps ∙ kept es)) (sym (views_chosen _ successor_list (λ ns. ns) names ps)))))
      where
        single : (x : Piece P T A) → own_label p 0 (single_labels ps) x ≡ spread_if (own look_label (successor p)) (single_successor x)
        single (tree.successor i n) = refl
        single _ = refl

        list : (x : Piece P T A) → more_labels p 0 (single_labels ps) x ≡ spread_if (listed look_label (successor p) (single_labels ps)) (successor_list x)
        list (tree.successors ns) = refl
        list _ = refl

        names : (x : Piece P T A) → elim x [ tree.successors ns ↦ ns | _ ↦ [] ] ≡ spread_if (λ ns. ns) (successor_list x)
        names (tree.successors ns) = refl
        names _ = refl

    -- what the uses of an operation mean, by its operands and successors in order
    pub op_meant : (p : Path) (o : Op P T A) → Numbered (parts_of o.body)
        → Same (parts_meant p (singles (parts_of o.body)) (single_labels (parts_of o.body)) (parts_of o.body)) (numbered (operand p) 0 (map look (operand_names o)) ++ numbered (successor p) 0 (map look_label (successor_labels o)))
    op_meant p o f =
        let ps = parts_of o.body in
        let k = singles ps in
        let m = single_labels ps in
        same_then (apart p k m ps)
        (same_then (same_path _ _ (sym (append_assoc (views (own_value p k m) ps) (views (more_values p k m) ps) (views (own_label p k m) ps ++ views (more_labels p k m) ps))))
        (same_both (values_numbered p ps f) (labels_numbered p ps f)))
