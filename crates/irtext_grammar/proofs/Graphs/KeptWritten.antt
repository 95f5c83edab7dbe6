-- In what is printed of a graph, counts agree, the reserved key is kept, and the marks are numbered on: there is no failure.
use Rattle.std.proofs.Common.{◌≡◌, ℕ, suc, ◌+◌, ◌<◌, ◌≤◌, Bool, true, false, cond, ◌&&◌, ◌==◌, nat_eq, List, [], ◌∷◌, ◌++◌, map, filter, length, filter_map, slice_get, Option, Some, None, option_map, option_and_then, refl, sym, ap, ap₂, ◌∙◌, subst, true≢false, append-nil, arith}
use Rattle.std.specs.Prelude.{⊤}
use Rattle.std.specs.List.{cons_option}
use Rattle.std.proofs.lemmas.Bool.Decides.{nat_tests}
use Rattle.irtext_base.specs.Text.{Text}
use Rattle.irtext_base.specs.Format as format
use Rattle.irtext_base.specs.Format.{Format, Directive, same_text, sym_name_key, Id}
use Rattle.irtext_grammar.specs.Grammar.Forest.{Regions, no_regions, region, Blocks, no_blocks, block, Operations, no_operations, operation, regions_list, AllRegions, AllBlocks, AllOperations}
use Rattle.irtext_grammar.specs.Grammar.Tree as tree
use Rattle.irtext_grammar.specs.Grammar.Tree.{Name, Attribute, given_names, ident, own, Piece, Part, parts_of}
use Rattle.irtext_grammar.specs.Graphs.Graph.{Graph, GraphOp, GraphBlock, Printing, value, inline, entries, is_marked, mark_at, own_marks, part_of, body_of, tree_op, tree_head, tree_regions, tree_blocks, tree_operations, marks_in_regions, marks_in_blocks, marks_in_operations, written, lookup, op_outlined, block_outlined}
use Rattle.irtext_grammar.specs.Names.Script.{Path, Failure, Act, mark, claim, Script, done, does, within, does_all, DuplicateIndex}
use Rattle.irtext_grammar.specs.Names.Scopes.{Scopes, ◌⊳◌, fact_of, inside, is_among, facts, outward, act_failures}
use Rattle.irtext_grammar.specs.Names.Acts.{value_uses, label_uses, result_definitions, argument_definitions, mark_acts, key_act, may_hold, entries_if, result_types, piece_acts, all_of, parts_script, closing_acts, header_acts, region_scripts, blocks_script, operations_script, tree_script, Rule, block_may_hold}
use Rattle.irtext_grammar.specs.Graphs.Closed.{FitsFormat, FitRegions, FitBlocks, FitOperations, Fit}
use Rattle.irtext_grammar.specs.Names.Plain.{names_one, Kept}
use Rattle.irtext_grammar.specs.Graphs.ReservedKeys.{OpKeepsKeys, BlockKeepsKeys, GraphKeepsKeys, KeepsRule}
use Rattle.irtext_grammar.proofs.Graphs.WrittenScript.{does_both}
use Rattle.irtext_grammar.proofs.Graphs.FitsFormat.{and_left, and_right}
use Rattle.irtext_grammar.proofs.Lists.SameText.{same_itself}
use Rattle.irtext_grammar.proofs.Graphs.Views.{names_back}

-- all marks are below a number
abbrev Below : ℕ → List ℕ → Type 0
Below n [] = ⊤
Below n (m ∷ ms) = (m < n) × Below n ms

below_more : (n m : ℕ) → n ≤ m → (xs : List ℕ) → Below n xs → Below m xs
below_more n m h [] b = tt
below_more n m h (x ∷ xs) b = let l = b.0 in (omega arith, below_more n m h xs b.1)

below_both : (n : ℕ) (xs ys : List ℕ) → Below n xs → Below n ys → Below n (xs ++ ys)
below_both n [] ys b c = c
below_both n (x ∷ xs) ys b c = (b.0, below_both n xs ys b.1 c)

differ : (m n : ℕ) → m < n → nat_eq m n ≡ false
differ m n h = grind (arith, nat_tests)

not_among : (n : ℕ) (ms : List ℕ) → Below n ms → is_among n ms ≡ false
not_among n [] b = refl
not_among n (m ∷ ms) b = ap (λ c. cond c true (is_among n ms)) (differ m n b.0) ∙ not_among n ms b.1

-- every mark of a script is below a number
abbrev MarksBelow : ℕ → Script Text ⊤ → Type 0
MarksBelow n done = ⊤
MarksBelow n (does a k) = Below n (fact_of a).marks × MarksBelow n k
MarksBelow n (within iso p body k) = MarksBelow n body × MarksBelow n k

outward_marks : (iso : Bool) (x : Script Text ⊤) → (outward same_text iso (facts same_text x)).marks ≡ (facts same_text x).marks
outward_marks true x = refl
outward_marks false x = refl

facts_below : (n : ℕ) (x : Script Text ⊤) → MarksBelow n x → Below n (facts same_text x).marks
facts_below n done b = tt
facts_below n (does a k) b = below_both n (fact_of a).marks (facts same_text k).marks b.0 (facts_below n k b.1)
facts_below n (within iso p body k) b = below_both n (outward same_text iso (facts same_text body)).marks (facts same_text k).marks (subst (Below n) (sym (outward_marks iso body)) (facts_below n body b.0)) (facts_below n k b.1)

marks_more : (n m : ℕ) → n ≤ m → (x : Script Text ⊤) → MarksBelow n x → MarksBelow m x
marks_more n m h done b = tt
marks_more n m h (does a k) b = (below_more n m h (fact_of a).marks b.0, marks_more n m h k b.1)
marks_more n m h (within iso p body k) b = (marks_more n m h body b.0, marks_more n m h k b.1)

-- If the marks so far are below n, there is no failure; and all its own marks are below m.
pub record Good (m n : ℕ) (x : Script Text ⊤) : Type 0 where
  pub kept : (s : Scopes Text) → Below n s.marks → Kept same_text s x
  pub below : MarksBelow m x

good_later : {k m n : ℕ} {x : Script Text ⊤} → n ≤ k → Good m k x → Good m n x
good_later {k = k} {n = n} h f = record { kept = λ s b. f.kept s (below_more n k h s.marks b); below = f.below }

-- the act marks nothing, and does not fail if it looks at no name
pub record GoodAct (a : Act Text ⊤) : Type 0 where
  pub no_mark : (fact_of a).marks ≡ []
  pub no_fault : (s : Scopes Text) → names_one a ≡ false → act_failures same_text s a ≡ []

good_act : {m n : ℕ} (a : Act Text ⊤) {x : Script Text ⊤} → GoodAct a → Good m n x → Good m n (does a x)
good_act {m = m} {n = n} a h f = record {
  kept = λ s b. (h.no_fault s, f.kept (s ⊳ fact_of a) (subst (Below n) (sym (ap (λ z. s.marks ++ z) h.no_mark ∙ append-nil s.marks)) b));
  below = (subst (Below m) (sym h.no_mark) tt, f.below);
}

abbrev GoodActs : List (Act Text ⊤) → Type 0
GoodActs [] = ⊤
GoodActs (a ∷ rest) = GoodAct a × GoodActs rest

good_acts : {m n : ℕ} (xs : List (Act Text ⊤)) {x : Script Text ⊤} → GoodActs xs → Good m n x → Good m n (does_all xs x)
good_acts [] h f = f
good_acts (a ∷ rest) h f = good_act a h.0 (good_acts rest h.1 f)

named_act : (a : Act Text ⊤) → (fact_of a).marks ≡ [] → names_one a ≡ true → GoodAct a
named_act a e t = record { no_mark = e; no_fault = λ s k. absurd (true≢false (sym t ∙ k)) }

claimed : (b : Bool) (x : Failure Text ⊤) → b ≡ true → GoodAct (claim b x)
claimed b x e = record { no_mark = refl; no_fault = λ s k. ap (λ c. cond c [] (x ∷ [])) e }

values_good : (p : Path) (k : ℕ) (ns : List (Name ⊤)) → GoodActs (value_uses p k ns)
values_good p k [] = tt
values_good p k (n ∷ ns) = (named_act _ refl refl, values_good p (suc k) ns)

labels_good : (p : Path) (k : ℕ) (ns : List (Name ⊤)) → GoodActs (label_uses p k ns)
labels_good p k [] = tt
labels_good p k (n ∷ ns) = (named_act _ refl refl, labels_good p (suc k) ns)

results_good : (p : Path) (k : ℕ) (ns : List (Name ⊤)) → GoodActs (result_definitions p k ns)
results_good p k [] = tt
results_good p k (n ∷ ns) = (named_act _ refl refl, results_good p (suc k) ns)

arguments_good : {T : Type 0} (p : Path) (k : ℕ) (ns : List (Name ⊤ × T)) → GoodActs (argument_definitions p k ns)
arguments_good p k [] = tt
arguments_good p k (n ∷ ns) = (named_act _ refl refl, arguments_good p (suc k) ns)

abbrev EntriesKeep : {A : Type 0} → Rule A → List (Name ⊤ × Attribute A) → Type 0
EntriesKeep rule [] = ⊤
EntriesKeep rule (e ∷ es) = (rule e.0.text e.1 ≡ true) × EntriesKeep rule es

keys_good : {A : Type 0} (rule : Rule A) (es : List (Name ⊤ × Attribute A)) → EntriesKeep rule es → GoodActs (map (key_act rule) es)
keys_good rule [] h = tt
keys_good rule (e ∷ es) h = (claimed _ _ h.0, keys_good rule es h.1)

-- the entries that pass a test are allowed if all entries are
pub keeps_filter : {A : Type 0} (rule : Rule A) (test : Text × Attribute A → Bool) (es : List (Text × Attribute A)) → KeepsRule rule es → KeepsRule rule (filter test es)
keeps_filter rule test [] h = refl
keeps_filter rule test (e ∷ es) h = go (test e) (keeps_filter rule test es (and_right (rule e.0 e.1) _ h))
  where
    go : (b : Bool) → KeepsRule rule (filter test es) → KeepsRule rule (cond b (e ∷ filter test es) (filter test es))
    go true k = ap₂ ◌&&◌ (and_left (rule e.0 e.1) _ h) k
    go false k = k

module _ {T A : Type 0} (C : Printing T A) where
  entries_keep : (rule : Rule A) (es : List (Text × Attribute A)) → KeepsRule rule es → EntriesKeep rule (entries C es)
  entries_keep rule [] h = tt
  entries_keep rule (e ∷ es) h = (and_left (rule e.0 e.1) _ h, entries_keep rule es (and_right (rule e.0 e.1) _ h))

  entries_if_keep : (rule : Rule A) (es : List (Name ⊤ × Attribute A)) → EntriesKeep rule es → EntriesKeep rule (entries_if (elim es [ [] ↦ None | e ∷ rest ↦ Some (e ∷ rest) ]))
  entries_if_keep rule [] h = tt
  entries_if_keep rule (e ∷ es) h = h

  abbrev PartKeeps : Part ⊤ T A → Type 0
  PartKeeps (tree.piece (tree.dictionary es)) = EntriesKeep may_hold es
  PartKeeps _ = ⊤

  abbrev OptionKeeps : Option (Part ⊤ T A) → Type 0
  OptionKeeps None = ⊤
  OptionKeeps (Some x) = PartKeeps x

  abbrev PartsKeep : List (Part ⊤ T A) → Type 0
  PartsKeep [] = ⊤
  PartsKeep (x ∷ ps) = PartKeeps x × PartsKeep ps

  mapped_keeps : {Y : Type 0} (F : Y → Part ⊤ T A) → ((y : Y) → PartKeeps (F y)) → (o : Option Y) → OptionKeeps (option_map F o)
  mapped_keeps F h None = tt
  mapped_keeps F h (Some y) = h y

  part_keeps : (ds : List Directive) (o : GraphOp T A) → OpKeepsKeys o → (d : Directive) → OptionKeeps (part_of C ds o d)
  part_keeps ds o h (format.operand i) = mapped_keeps _ (λ y. tt) (slice_get o.operands i)
  part_keeps ds o h (format.successor i) = mapped_keeps _ (λ y. tt) (slice_get o.successors i)
  part_keeps ds o h (format.attribute k) = mapped_keeps _ (λ y. tt) (lookup k o.attributes)
  part_keeps ds o h format.dictionary = entries_keep may_hold _ (keeps_filter may_hold _ (inline C o.attributes) (keeps_filter may_hold _ o.attributes h))
  part_keeps ds o h (format.result_type i) = mapped_keeps _ (λ y. tt) (slice_get o.results i)
  part_keeps ds o h format.header = go (lookup sym_name_key o.attributes)
    where
      go : (x : Option (Attribute A)) → OptionKeeps (option_and_then (λ a. elim a [ ident n ↦ Some (tree.piece (tree.header (record { place = tt; text = n }))) | _ ↦ None ]) x)
      go None = tt
      go (Some (given_names ns)) = tt
      go (Some (ident n)) = tt
      go (Some (own x)) = tt
  part_keeps ds o h _ = tt

  parts_keep : (ds : List Directive) (o : GraphOp T A) → OpKeepsKeys o → (rest : List Directive) → PartsKeep (filter_map (part_of C ds o) rest)
  parts_keep ds o h [] = tt
  parts_keep ds o h (d ∷ rest) = go (part_of C ds o d) (part_keeps ds o h d) (parts_keep ds o h rest)
    where
      go : (x : Option (Part ⊤ T A)) → OptionKeeps x → PartsKeep (filter_map (part_of C ds o) rest) → PartsKeep (cons_option x (filter_map (part_of C ds o) rest))
      go None k f = f
      go (Some x) k f = (k, f)

  body_keeps : (o : GraphOp T A) → OpKeepsKeys o → (f : Option Format) → PartsKeep (parts_of (body_of C o f))
  body_keeps o h None = tt
  body_keeps o h (Some format.canonical) = (tt, (tt, (tt, (tt, (tt, (tt, (entries_keep may_hold _ (keeps_filter may_hold _ o.attributes h), (tt, (tt, (tt, (tt, (tt, (tt, (tt, (tt, (tt, (tt, (tt, tt))))))))))))))))))
  body_keeps o h (Some (format.custom ds)) = parts_keep ds o h ds

  piece_good : (p : Path) (k l : ℕ) (x : Piece ⊤ T A) → PartKeeps (tree.piece x) → GoodActs (piece_acts p k l x)
  piece_good p k l (tree.operand i n) h = (named_act _ refl refl, tt)
  piece_good p k l (tree.operands ns) h = values_good p k ns
  piece_good p k l (tree.successor i n) h = (named_act _ refl refl, tt)
  piece_good p k l (tree.successors ns) h = labels_good p l ns
  piece_good p k l (tree.dictionary es) h = keys_good may_hold es h
  piece_good p k l _ h = tt

  -- region by region, the marks numbered on from n to e
  abbrev GoodRegions : ℕ → ℕ → ℕ → List (Script Text ⊤ → Script Text ⊤) → Type 0
  GoodRegions m n e [] = n ≤ e
  GoodRegions m n e (r ∷ rs) = (k : ℕ) × (n ≤ k) × ((x : Script Text ⊤) → Good m k x → Good m n (r x)) × GoodRegions m k e rs

  span : (m n e : ℕ) (rs : List (Script Text ⊤ → Script Text ⊤)) → GoodRegions m n e rs → n ≤ e
  span m n e [] h = h
  span m n e (r ∷ rs) (k, l, f, g) = let q = span m k e rs g in omega arith

  all_good : (m n e : ℕ) (rs : List (Script Text ⊤ → Script Text ⊤)) (x : Script Text ⊤) → GoodRegions m n e rs → Good m e x → Good m n (all_of rs x)
  all_good m n e [] x h f = good_later h f
  all_good m n e (r ∷ rs) x (k, l, q, g) f = q (all_of rs x) (all_good m k e rs x g f)

  parts_good : (m n e : ℕ) (p : Path) (k l : ℕ) (ps : List (Part ⊤ T A)) (rs : List (Script Text ⊤ → Script Text ⊤)) (x : Script Text ⊤) → PartsKeep ps → GoodRegions m n e rs → Good m e x → Good m n (parts_script p k l ps rs x)
  parts_good m n e p k l [] rs x h g f = good_later (span m n e rs g) f
  parts_good m n e p k l (tree.piece y ∷ ps) rs x h g f = good_acts _ (piece_good p k l y h.0) (parts_good m n e p k l ps rs x h.1 g f)
  parts_good m n e p k l (tree.region i ∷ ps) [] x h g f = parts_good m n e p k l ps [] x h.1 g f
  parts_good m n e p k l (tree.region i ∷ ps) (r ∷ rs) x h (j, q, c, g) f = c _ (parts_good m j e p k l ps rs x h.1 g f)
  parts_good m n e p k l (tree.regions ∷ ps) rs x h g f = all_good m n e rs _ g (parts_good m e e p k l ps [] x h.1 (omega arith) f)

  mark_good : (m n : ℕ) (l : Option Text) (es : List (Text × Attribute A)) (x : Script Text ⊤) → n + own_marks C l es ≤ m → Good m (n + own_marks C l es) x → Good m n (does_all (mark_acts (mark_at C n l es)) x)
  mark_good m n l es x = go (is_marked C l es)
    where
      unit : ⊤
      unit = tt

      go : (b : Bool) → n + cond b 1 0 ≤ m → Good m (n + cond b 1 0) x → Good m n (does_all (mark_acts (cond b (Some (record { place = tt; index = n })) None)) x)
      go false h f = good_later (omega arith) f
      go true h f = record {
        kept = λ s b. (
          (λ k. ap (λ c. cond c (record { cause = DuplicateIndex n; at = Some unit } ∷ []) []) (not_among n s.marks b)),
          f.kept (s ⊳ fact_of (mark n unit)) (below_both (n + 1) s.marks (n ∷ []) (below_more n (n + 1) (omega arith) s.marks b) (omega arith, tt)),
        );
        below = ((omega arith, tt), f.below);
      }

  lengths_agree : {X Y : Type 0} (xs : List X) (F : X → Y) → length (map F xs) ≡ length xs
  lengths_agree [] F = refl
  lengths_agree (x ∷ xs) F = ap suc (lengths_agree xs F)

  module _ (isolated : Id → Bool) where
    closing_good : (m k : ℕ) (p : Path) (o : GraphOp T A) (n : ℕ) (x : Script Text ⊤) → FitsFormat C isolated (C.format_of o.id) o n → k + own_marks C o.location (op_outlined C o) ≤ m → Good m (k + own_marks C o.location (op_outlined C o)) x
        → Good m k (does_all (closing_acts p (tree_op C k o)) x)
    closing_good m k p o n x fit h f =
        let ns = map (λ (r : ℕ × T). value C r.0) o.results in
        let t = (names_back C isolated o n k (C.format_of o.id) refl fit).2 in
        let same : length (result_types (body_of C o (C.format_of o.id))) ≡ length ns = ap length t ∙ (lengths_agree o.results (λ (r : ℕ × T). r.1) ∙ sym (lengths_agree o.results (λ (r : ℕ × T). value C r.0))) in
        good_act _ (claimed _ _ (subst (λ z. (length (result_types (body_of C o (C.format_of o.id))) == z) ≡ true) same (same_itself (length (result_types (body_of C o (C.format_of o.id)))))))
        (subst (Good m k) (sym (does_both C (result_definitions p 0 ns) (mark_acts (mark_at C k o.location (op_outlined C o))) x))
        (good_acts _ (results_good p 0 ns) (mark_good m k o.location (op_outlined C o) x h f)))

    header_good : (m n : ℕ) (p : Path) (b : GraphBlock T A) (x : Script Text ⊤) → BlockKeepsKeys b → n + own_marks C b.location (block_outlined C b) ≤ m → Good m (n + own_marks C b.location (block_outlined C b)) x
        → Good m n (does_all (header_acts p (tree_head C n b)) x)
    header_good m n p b x e h f =
        let k = mark_at C n b.location (block_outlined C b) in
        let pairs = map (λ (a : ℕ × T). (value C a.0, a.1)) b.arguments in
        let es = entries_if (tree_head C n b).attributes in
        subst (Good m n) (sym (does_both C (map (key_act block_may_hold) es) _ x))
        (good_acts _ (keys_good block_may_hold es (entries_if_keep block_may_hold (entries C (inline C b.attributes)) (entries_keep block_may_hold _ (keeps_filter block_may_hold _ b.attributes e))))
        (subst (Good m n) (sym (does_both C (argument_definitions p 0 pairs) _ x))
        (good_acts _ (arguments_good p 0 pairs)
        (subst (Good m n) (sym (does_both C (mark_acts k) _ x))
        (mark_good m n b.location (block_outlined C b) _ h (good_act _ (named_act _ refl refl) f))))))

    within_good : (m n k : ℕ) (iso : Bool) (body x : Script Text ⊤) → n ≤ k → k ≤ m → Good k n body → Good m k x → Good m n (within iso tt body x)
    within_good m n k iso body x l h b f = record {
      kept = λ s c. (
        b.kept (inside iso s) (subst (Below n) (sym (inside_marks iso s)) c),
        f.kept (s ⊳ outward same_text iso (facts same_text body)) (below_both k s.marks (outward same_text iso (facts same_text body)).marks (below_more n k l s.marks c) (subst (Below k) (sym (outward_marks iso body)) (facts_below k body b.below))),
      );
      below = (marks_more k m h body b.below, f.below);
    }
      where
        inside_marks : (iso : Bool) (s : Scopes Text) → (inside iso s).marks ≡ s.marks
        inside_marks true s = refl
        inside_marks false s = refl

    mutual
      regions_good : (m n : ℕ) (p : Path) (j : ℕ) (iso : Bool) (rs : Regions (GraphOp T A) (GraphBlock T A) ⊤) → FitRegions C isolated rs → AllRegions OpKeepsKeys BlockKeepsKeys (λ r. ⊤) rs → n + marks_in_regions C None rs ≤ m
          → GoodRegions m n (n + marks_in_regions C None rs) (region_scripts isolated p j iso (tree_regions C None n rs))
      regions_good m n p j iso no_regions f e h = omega arith
      regions_good m n p j iso (region r bs rs) f e h =
          let k = n + marks_in_blocks C None bs in (
            k,
            omega arith,
            (λ x g. within_good m n k iso _ x (omega arith) (omega arith) (blocks_good k n (j ∷ p) 0 bs f.0 e.1 (omega arith)) g),
            subst (λ z. GoodRegions m k z (region_scripts isolated p (suc j) iso (tree_regions C None k rs))) (omega arith) (regions_good m k p (suc j) iso rs f.1 e.2 (omega arith)),
          )

      blocks_good : (m n : ℕ) (p : Path) (k : ℕ) (bs : Blocks (GraphOp T A) (GraphBlock T A) ⊤) → FitBlocks C isolated bs → AllBlocks OpKeepsKeys BlockKeepsKeys (λ r. ⊤) bs → n + marks_in_blocks C None bs ≤ m
          → Good m n (blocks_script isolated p k (tree_blocks C None n bs))
      blocks_good m n p k no_blocks f e h = record { kept = λ s b. tt; below = tt }
      blocks_good m n p k (block b os bs) f e h =
          let q = n + own_marks C b.location (block_outlined C b) in
          header_good m n (k ∷ p) b _ e.0 (omega arith)
          (operations_good m q (k ∷ p) 0 os _ f.0 e.1 (omega arith) (blocks_good m (q + marks_in_operations C None os) p (suc k) bs f.1 e.2 (omega arith)))

      operations_good : (m n : ℕ) (p : Path) (i : ℕ) (os : Operations (GraphOp T A) (GraphBlock T A) ⊤) (x : Script Text ⊤) → FitOperations C isolated os → AllOperations OpKeepsKeys BlockKeepsKeys (λ r. ⊤) os → n + marks_in_operations C None os ≤ m
          → Good m (n + marks_in_operations C None os) x → Good m n (operations_script isolated p i (tree_operations C None n os) x)
      operations_good m n p i no_operations x f e h g = good_later (omega arith) g
      operations_good m n p i (operation o rs os) x f e h g =
          let q = n + marks_in_regions C None rs in
          let w = q + own_marks C o.location (op_outlined C o) in
          parts_good m n q (i ∷ p) _ _ (parts_of (body_of C o (C.format_of o.id))) _ _ (body_keeps o e.0 (C.format_of o.id)) (regions_good m n (i ∷ p) 0 (isolated o.id) rs f.1 e.1 (omega arith))
          (closing_good m q (i ∷ p) o (length (regions_list rs)) _ f.0 (omega arith)
          (operations_good m w p (suc i) os x f.2 e.2 (omega arith) (subst (λ z. Good m z x) (omega arith) g)))

    -- of a whole root, before whatever is done then: all marks are numbered below their count
    pub root_good : (g : Graph T A) (x : Script Text ⊤) → Fit C isolated g → GraphKeepsKeys g
        → let m = marks_in_regions C None g.regions + own_marks C g.own.location (op_outlined C g.own) in Good m m x → Good m 0 (tree_script isolated (written C None g) x)
    root_good g x f e h =
        let q = marks_in_regions C None g.regions in
        let m = q + own_marks C g.own.location (op_outlined C g.own) in
        parts_good m 0 q [] _ _ (parts_of (body_of C g.own (C.format_of g.own.id))) _ _ (body_keeps g.own e.0 (C.format_of g.own.id)) (subst (λ z. GoodRegions m 0 z (region_scripts isolated [] 0 (isolated g.own.id) (tree_regions C None 0 g.regions))) (omega arith) (regions_good m 0 [] 0 (isolated g.own.id) g.regions f.1 e.1 (omega arith)))
        (closing_good m q [] g.own (length (regions_list g.regions)) _ f.0 (omega arith) h)
