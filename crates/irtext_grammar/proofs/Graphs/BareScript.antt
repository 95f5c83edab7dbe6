-- Places say nothing to names: a tree resolves, and builds operands and successors, as it does without its places.
use Rattle.std.proofs.Common.{◌≡◌, ℕ, zero, suc, Bool, true, false, cond, ◌==◌, List, [], ◌∷◌, ◌++◌, map, length, Option, Some, None, option_map, option_to_list, refl, sym, ap, ap₂, ◌∙◌}
use Rattle.std.specs.Prelude.{⊤}
use Rattle.irtext_base.specs.Text.{Text}
use Rattle.irtext_base.specs.Format.{same_text, Id}
use Rattle.irtext_grammar.specs.Grammar.Forest.{Regions, no_regions, region, Blocks, no_blocks, block, Operations, no_operations, operation}
use Rattle.irtext_grammar.specs.Grammar.Tree as tree
use Rattle.irtext_grammar.specs.Grammar.Tree.{Name, Mark, Attribute, Piece, Part, Body, custom, canonical, Op, Head, Brace, shown, elided, Tree, parts_of, views, at_place, in_order_from, in_order, operand_names, successor_labels}
use Rattle.irtext_grammar.specs.Grammar.Bare.{bare_name, bare_mark_if, bare_entry, bare_piece, bare_argument, bare_part, bare_body, bare_op, bare_head, bare_brace, bare_regions, bare_blocks, bare_operations, bare}
use Rattle.irtext_grammar.specs.Names.Script.{Path, Act, Script, done, does, within, does_all, act_as, script_as, failure_as}
use Rattle.irtext_grammar.specs.Names.Script as script
use Rattle.irtext_grammar.specs.Names.Scopes.{Fact, uses, defines, no_scope, failures}
use Rattle.irtext_grammar.specs.Names.Acts.{value_uses, label_uses, result_definitions, argument_definitions, mark_acts, key_act, entries_if, result_types, singles, single_labels, piece_acts, all_of, parts_script, closing_acts, header_acts, operation_script, region_script, region_scripts, blocks_script, operations_script, tree_script, Rule, may_hold, block_may_hold}
use Rattle.irtext_grammar.proofs.Names.Natural.{map_both, AllScript, AllAct, fact_as, failures_natural}

mapped_both : {A B : Type 0} (F : A → B) (xs ys : List A) → map F xs ++ map F ys ≡ map F (xs ++ ys)
mapped_both F xs ys = sym (map_both F xs ys)

mapped_length : {A B : Type 0} (F : A → B) (xs : List A) → length (map F xs) ≡ length xs
mapped_length F [] = refl
mapped_length F (x ∷ xs) = ap suc (mapped_length F xs)

-- one mapping after another is both at once
pub mapped_twice : {A B D : Type 0} (F : A → B) (G : B → D) (xs : List A) → map G (map F xs) ≡ map (λ x. G (F x)) xs
mapped_twice F G [] = refl
mapped_twice F G (x ∷ xs) = ap (λ z. G (F x) ∷ z) (mapped_twice F G xs)

abbrev second : {X Y : Type 0} → (X → Y) → ℕ × X → ℕ × Y
second F e = (e.0, F e.1)

at_mapped : {X Y : Type 0} (F : X → Y) (k : ℕ) (es : List (ℕ × X)) → at_place k (map (second F) es) ≡ option_map F (at_place k es)
at_mapped F k [] = refl
at_mapped F k (e ∷ es) = ap (λ o. cond (e.0 == k) (Some (F e.1)) o) (at_mapped F k es) ∙ go (e.0 == k) (at_place k es)
  where
    go : (b : Bool) (o : Option _) → cond b (Some (F e.1)) (option_map F o) ≡ option_map F (cond b (Some e.1) o)
    go true o = refl
    go false o = refl

listed : {X Y : Type 0} (F : X → Y) (o : Option X) → option_to_list (option_map F o) ≡ map F (option_to_list o)
listed F None = refl
listed F (Some x) = refl

from_mapped : {X Y : Type 0} (F : X → Y) (n k : ℕ) (es : List (ℕ × X)) → in_order_from n k (map (second F) es) ≡ map F (in_order_from n k es)
from_mapped F zero k es = refl
from_mapped F (suc n) k es = ap₂ (λ o z. option_to_list o ++ z) (at_mapped F k es) (from_mapped F n (suc k) es) ∙ (ap (λ z. z ++ map F (in_order_from n (suc k) es)) (listed F (at_place k es)) ∙ mapped_both F (option_to_list (at_place k es)) (in_order_from n (suc k) es))

in_order_mapped : {X Y : Type 0} (F : X → Y) (es : List (ℕ × X)) → in_order (map (second F) es) ≡ map F (in_order es)
in_order_mapped F es = ap (λ n. in_order_from n 0 (map (second F) es)) (mapped_length (second F) es) ∙ from_mapped F (length es) 0 es

-- facts whose names stay are the same facts
pub fact_same : (fs : List (Fact Text)) → map (fact_as (λ n. n)) fs ≡ fs
fact_same [] = refl
fact_same (uses n u ∷ fs) = ap (λ z. uses n u ∷ z) (fact_same fs)
fact_same (defines n p ∷ fs) = ap (λ z. defines n p ∷ z) (fact_same fs)

-- whatever the names, they have the property that all have
pub any_script : {P : Type 0} (x : Script Text P) → AllScript (λ n. ⊤) x
any_script done = tt
any_script (does a k) = (any_act a, any_script k)
  where
    any_act : {P : Type 0} (a : Act Text P) → AllAct (λ n. ⊤) a
    any_act (script.use_value w u) = tt
    any_act _ = tt
any_script (within iso p body k) = (any_script body, any_script k)

module _ {P : Type 0} where
  -- a script without its places
  abbrev pub E : Script Text P → Script Text ⊤
  E x = script_as (λ n. n) (λ p. tt) x

  abbrev B : Act Text P → Act Text ⊤
  B a = act_as (λ n. n) (λ p. tt) a

  -- acts without their places, and what is done then
  pub does_bare : (xs : List (Act Text P)) (k : Script Text P) → E (does_all xs k) ≡ does_all (map B xs) (E k)
  does_bare [] k = refl
  does_bare (a ∷ xs) k = ap (does (B a)) (does_bare xs k)

  bare_value_uses : (p : Path) (k : ℕ) (ns : List (Name P)) → value_uses p k (map bare_name ns) ≡ map B (value_uses p k ns)
  bare_value_uses p k [] = refl
  bare_value_uses p k (n ∷ ns) = ap (λ z. script.use_value (record { name = n.text; at = tt }) (script.operand p k) ∷ z) (bare_value_uses p (suc k) ns)

  bare_label_uses : (p : Path) (k : ℕ) (ns : List (Name P)) → label_uses p k (map bare_name ns) ≡ map B (label_uses p k ns)
  bare_label_uses p k [] = refl
  bare_label_uses p k (n ∷ ns) = ap (λ z. script.use_label (record { name = n.text; at = tt }) (script.successor p k) ∷ z) (bare_label_uses p (suc k) ns)

  bare_results : (p : Path) (k : ℕ) (ns : List (Name P)) → result_definitions p k (map bare_name ns) ≡ map B (result_definitions p k ns)
  bare_results p k [] = refl
  bare_results p k (n ∷ ns) = ap (λ z. script.define_value (record { name = n.text; at = tt }) (script.result p k) ∷ z) (bare_results p (suc k) ns)

  bare_marks : (m : Option (Mark P)) → mark_acts (bare_mark_if m) ≡ map B (mark_acts m)
  bare_marks None = refl
  bare_marks (Some m) = refl

  -- each of the scripts is the other's without its places
  abbrev pub BareAll : List (Script Text P → Script Text P) → List (Script Text ⊤ → Script Text ⊤) → Type 0
  BareAll [] [] = ⊤
  BareAll (r ∷ rs) (s ∷ ss) = ((x : Script Text P) → E (r x) ≡ s (E x)) × BareAll rs ss
  BareAll _ _ = ⊥

  bare_all : (rs : List (Script Text P → Script Text P)) (ss : List (Script Text ⊤ → Script Text ⊤)) (x : Script Text P) → BareAll rs ss → E (all_of rs x) ≡ all_of ss (E x)
  bare_all [] [] x h = refl
  bare_all [] (s ∷ ss) x h = absurd h
  bare_all (r ∷ rs) [] x h = absurd h
  bare_all (r ∷ rs) (s ∷ ss) x h = h.0 (all_of rs x) ∙ ap s (bare_all rs ss x h.1)

  bare_region_script : (iso : Bool) (b : Brace P) (body x : Script Text P) (c : Script Text ⊤) → E body ≡ c → E (region_script iso b body x) ≡ region_script iso (bare_brace b) c (E x)
  bare_region_script iso (shown p) body x c h = ap (λ z. within iso tt z (E x)) h
  bare_region_script iso elided body x c h = refl

module _ {P T : Type 0} where
  bare_arguments : (p : Path) (k : ℕ) (ns : List (Name P × T)) → argument_definitions p k (map bare_argument ns) ≡ map B (argument_definitions p k ns)
  bare_arguments p k [] = refl
  bare_arguments p k (n ∷ ns) = ap (λ z. script.define_value (record { name = n.0.text; at = tt }) (script.argument p k) ∷ z) (bare_arguments p (suc k) ns)

module _ {P A : Type 0} where
  bare_keys : (rule : Rule A) (es : List (Name P × Attribute A)) → map (key_act rule) (map bare_entry es) ≡ map B (map (key_act rule) es)
  bare_keys rule [] = refl
  bare_keys rule (e ∷ es) = ap (λ z. key_act rule (bare_entry e) ∷ z) (bare_keys rule es)

  bare_entries_if : (es : Option (List (Name P × Attribute A))) → entries_if (option_map (map bare_entry) es) ≡ map bare_entry (entries_if es)
  bare_entries_if None = refl
  bare_entries_if (Some es) = refl

-- the test of texts without their places is the test of the texts
pub same_itself : (a b : Text) → ⊤ → ⊤ → same_text a b ≡ same_text a b
same_itself a b h k = refl

-- a list without images is empty
pub nothing_left : {X Y : Type 0} (F : X → Y) (xs : List X) → map F xs ≡ [] → xs ≡ []
nothing_left F [] e = refl
nothing_left F (x ∷ xs) e = cc

module _ {P T A : Type 0} where
  -- a view of parts without their places is the view of the parts, if this holds for each piece
  views_bare : {X Y : Type 0} (F : Piece ⊤ T A → List Y) (G : Piece P T A → List X) (h : X → Y) → ((x : Piece P T A) → F (bare_piece x) ≡ map h (G x)) → (ps : List (Part P T A)) → views F (map bare_part ps) ≡ map h (views G ps)
  views_bare F G h same [] = refl
  views_bare F G h same (tree.piece x ∷ ps) = ap₂ ◌++◌ (same x) (views_bare F G h same ps) ∙ mapped_both h (G x) (views G ps)
  views_bare F G h same (_ ∷ ps) = views_bare F G h same ps

  bare_types : (ps : List (Part P T A)) → views {X = ℕ × T} (λ (p : Piece ⊤ T A). elim p [ tree.result_type i x ↦ (i, x) ∷ [] | _ ↦ [] ]) (map bare_part ps) ≡ views {X = ℕ × T} (λ (p : Piece P T A). elim p [ tree.result_type i x ↦ (i, x) ∷ [] | _ ↦ [] ]) ps
  bare_types [] = refl
  bare_types (tree.piece (tree.result_type i x) ∷ ps) = ap (λ z. (i, x) ∷ z) (bare_types ps)
  bare_types (_ ∷ ps) = bare_types ps

  bare_singles : (ps : List (Part P T A)) → singles (map bare_part ps) ≡ singles ps
  bare_singles ps = ap length (views_bare (λ p. elim p [ tree.operand i n ↦ n ∷ [] | _ ↦ [] ]) (λ p. elim p [ tree.operand i n ↦ n ∷ [] | _ ↦ [] ]) bare_name (elim [ tree.operand i n ↦ refl | _ ↦ refl ]) ps) ∙ mapped_length bare_name _

  bare_single_labels : (ps : List (Part P T A)) → single_labels (map bare_part ps) ≡ single_labels ps
  bare_single_labels ps = ap length (views_bare (λ p. elim p [ tree.successor i n ↦ n ∷ [] | _ ↦ [] ]) (λ p. elim p [ tree.successor i n ↦ n ∷ [] | _ ↦ [] ]) bare_name (elim [ tree.successor i n ↦ refl | _ ↦ refl ]) ps) ∙ mapped_length bare_name _

  -- the parts of a body without its places
  pub bare_parts : (b : Body P T A) → parts_of (bare_body b) ≡ map bare_part (parts_of b)
  bare_parts (custom ps) = refl
  bare_parts (canonical ns ls es xs ys) = refl

  -- a body has the same result types without its places
  pub bare_result_types : (b : Body P T A) → result_types (bare_body b) ≡ result_types b
  bare_result_types (custom ps) = ap in_order (bare_types ps)
  bare_result_types (canonical ns ls es xs ys) = refl

  -- names of one kind, single ones in order and then lists of them, are the same without their places
  names_bare : (one : Piece P T A → List (ℕ × Name P)) (bare_one : Piece ⊤ T A → List (ℕ × Name ⊤)) (more : Piece P T A → List (Name P)) (bare_more : Piece ⊤ T A → List (Name ⊤))
      → ((x : Piece P T A) → bare_one (bare_piece x) ≡ map (second bare_name) (one x)) → ((x : Piece P T A) → bare_more (bare_piece x) ≡ map bare_name (more x)) → (b : Body P T A)
      → in_order (views bare_one (parts_of (bare_body b))) ++ views bare_more (parts_of (bare_body b)) ≡ map bare_name (in_order (views one (parts_of b)) ++ views more (parts_of b))
  names_bare one bare_one more bare_more e f b =
      ap (λ ps. in_order (views bare_one ps) ++ views bare_more ps) (bare_parts b)
      ∙ (ap₂ ◌++◌ (ap in_order (views_bare bare_one one (second bare_name) e (parts_of b)) ∙ in_order_mapped bare_name (views one (parts_of b))) (views_bare bare_more more bare_name f (parts_of b)) ∙ mapped_both bare_name (in_order (views one (parts_of b))) (views more (parts_of b)))

  -- an operation has the same operands without its places
  pub bare_operand_names : (o : Op P T A) → operand_names (bare_op o) ≡ map bare_name (operand_names o)
  bare_operand_names o = names_bare _ _ _ _ (elim [ tree.operand i n ↦ refl | _ ↦ refl ]) (elim [ tree.operands ns ↦ refl | _ ↦ refl ]) o.body

  -- an operation has the same successors without its places
  pub bare_successor_labels : (o : Op P T A) → successor_labels (bare_op o) ≡ map bare_name (successor_labels o)
  bare_successor_labels o = names_bare _ _ _ _ (elim [ tree.successor i n ↦ refl | _ ↦ refl ]) (elim [ tree.successors ns ↦ refl | _ ↦ refl ]) o.body

  -- ---- scripts
  bare_piece_acts : (p : Path) (k l : ℕ) (x : Piece P T A) → piece_acts p k l (bare_piece x) ≡ map B (piece_acts p k l x)
  bare_piece_acts p k l (tree.operands ns) = bare_value_uses p k ns
  bare_piece_acts p k l (tree.successors ns) = bare_label_uses p l ns
  bare_piece_acts p k l (tree.dictionary es) = bare_keys may_hold es
  bare_piece_acts p k l _ = refl

  bare_parts_script : (p : Path) (k l : ℕ) (ps : List (Part P T A)) (rs : List (Script Text P → Script Text P)) (ss : List (Script Text ⊤ → Script Text ⊤)) (x : Script Text P) → BareAll rs ss
      → E (parts_script p k l ps rs x) ≡ parts_script p k l (map bare_part ps) ss (E x)
  bare_parts_script p k l [] rs ss x h = refl
  bare_parts_script p k l (tree.piece y ∷ ps) rs ss x h =
      does_bare (piece_acts p k l y) (parts_script p k l ps rs x) ∙ ap₂ does_all (sym (bare_piece_acts p k l y)) (bare_parts_script p k l ps rs ss x h)
  bare_parts_script p k l (tree.region i ∷ ps) [] [] x h = bare_parts_script p k l ps [] [] x h
  bare_parts_script p k l (tree.region i ∷ ps) [] (s ∷ ss) x h = absurd h
  bare_parts_script p k l (tree.region i ∷ ps) (r ∷ rs) [] x h = absurd h
  bare_parts_script p k l (tree.region i ∷ ps) (r ∷ rs) (s ∷ ss) x h = h.0 (parts_script p k l ps rs x) ∙ ap s (bare_parts_script p k l ps rs ss x h.1)
  bare_parts_script p k l (tree.regions ∷ ps) rs ss x h = bare_all rs ss (parts_script p k l ps [] x) h ∙ ap (all_of ss) (bare_parts_script p k l ps [] [] x tt)

  bare_closing : (p : Path) (o : Op P T A) → closing_acts p (bare_op o) ≡ map B (closing_acts p o)
  bare_closing p o =
      ap₂ (λ i j. script.claim (i == j) (record { cause = script.ResultCount i j; at = Some tt }) ∷ (result_definitions p 0 (map bare_name o.names) ++ mark_acts (bare_mark_if o.mark)))
      (ap length (bare_result_types o.body)) (mapped_length bare_name o.names)
      ∙ ap (λ z. script.claim (length (result_types o.body) == length o.names) (record { cause = script.ResultCount (length (result_types o.body)) (length o.names); at = Some tt }) ∷ z) (ap₂ ◌++◌ (bare_results p 0 o.names) (bare_marks o.mark) ∙ mapped_both B (result_definitions p 0 o.names) (mark_acts o.mark))

  bare_header : (p : Path) (h : Head P T A) → header_acts p (bare_head h) ≡ map B (header_acts p h)
  bare_header p h =
      let last = script.define_label (record { name = h.label.text; at = h.label.place }) (script.block_at p) ∷ [] in
      let mark = mark_acts h.mark in
      let arguments = argument_definitions p 0 h.arguments in
      let keys = map (key_act block_may_hold) (entries_if h.attributes) in
      ap₂ ◌++◌ (ap (map (key_act block_may_hold)) (bare_entries_if h.attributes) ∙ bare_keys block_may_hold (entries_if h.attributes))
      (ap₂ ◌++◌ (bare_arguments p 0 h.arguments) (ap (λ z. z ++ map B last) (bare_marks h.mark) ∙ mapped_both B mark last) ∙ mapped_both B arguments (mark ++ last))
      ∙ mapped_both B keys (arguments ++ (mark ++ last))

  bare_operation_script : (p : Path) (o : Op P T A) (rs : List (Script Text P → Script Text P)) (ss : List (Script Text ⊤ → Script Text ⊤)) (x : Script Text P) → BareAll rs ss
      → E (operation_script p o rs x) ≡ operation_script p (bare_op o) ss (E x)
  bare_operation_script p o rs ss x h =
      let ps = parts_of o.body in
      bare_parts_script p (singles ps) (single_labels ps) ps rs ss (does_all (closing_acts p o) x) h
      ∙ (ap₂ (λ i j. parts_script p i j (map bare_part ps) ss (E (does_all (closing_acts p o) x)))
      (sym (bare_singles ps)) (sym (bare_single_labels ps))
      ∙ (ap (λ z. parts_script p (singles (map bare_part ps)) (single_labels (map bare_part ps)) (map bare_part ps) ss z) (does_bare (closing_acts p o) x ∙ ap (λ z. does_all z (E x)) (sym (bare_closing p o)))
      ∙ ap (λ qs. parts_script p (singles qs) (single_labels qs) qs ss (does_all (closing_acts p (bare_op o)) (E x))) (sym (bare_parts o.body))))

  module _ (isolated : Id → Bool) where
    mutual
      regions_bare : (p : Path) (j : ℕ) (iso : Bool) (rs : Regions (Op P T A) (Head P T A) (Brace P)) → BareAll (region_scripts isolated p j iso rs) (region_scripts isolated p j iso (bare_regions rs))
      regions_bare p j iso no_regions = tt
      regions_bare p j iso (region b bs rs) = ((λ x. bare_region_script iso b _ x _ (blocks_bare (j ∷ p) 0 bs)), regions_bare p (suc j) iso rs)

      -- the script of blocks without their places
      pub blocks_bare : (p : Path) (k : ℕ) (bs : Blocks (Op P T A) (Head P T A) (Brace P)) → E (blocks_script isolated p k bs) ≡ blocks_script isolated p k (bare_blocks bs)
      blocks_bare p k no_blocks = refl
      blocks_bare p k (block h os bs) =
          does_bare (header_acts (k ∷ p) h) _ ∙ ap₂ does_all (sym (bare_header (k ∷ p) h)) (operations_bare (k ∷ p) 0 os (blocks_script isolated p (suc k) bs) ∙ ap (operations_script isolated (k ∷ p) 0 (bare_operations os)) (blocks_bare p (suc k) bs))

      operations_bare : (p : Path) (i : ℕ) (os : Operations (Op P T A) (Head P T A) (Brace P)) (x : Script Text P) → E (operations_script isolated p i os x) ≡ operations_script isolated p i (bare_operations os) (E x)
      operations_bare p i no_operations x = refl
      operations_bare p i (operation o rs os) x =
          bare_operation_script (i ∷ p) o _ _ (operations_script isolated p (suc i) os x) (regions_bare (i ∷ p) 0 (isolated o.id) rs)
          ∙ ap (operation_script (i ∷ p) (bare_op o) (region_scripts isolated (i ∷ p) 0 (isolated o.id) (bare_regions rs))) (operations_bare p (suc i) os x)

    -- the script of a tree without its places
    pub tree_bare : (t : Tree P T A) (x : Script Text P) → E (tree_script isolated t x) ≡ tree_script isolated (bare t) (E x)
    tree_bare t x = bare_operation_script [] t.own _ _ x (regions_bare [] 0 (isolated t.own.id) t.regions)

    -- a tree resolves where it does without its places
    pub resolves_bare : (t : Tree P T A) → failures same_text no_scope (tree_script isolated (bare t) done) ≡ [] → failures same_text no_scope (tree_script isolated t done) ≡ []
    resolves_bare t e =
        nothing_left (failure_as (λ n. n) (λ p. tt)) (failures same_text no_scope (tree_script isolated t done))
        (sym (failures_natural (λ n. n) (λ (p : P). tt) same_text same_text (λ n. ⊤) same_itself no_scope (tree_script isolated t done) (record { values = tt; labels = tt }) (any_script (tree_script isolated t done)))
        ∙ (ap (failures same_text no_scope) (tree_bare t done) ∙ e))
