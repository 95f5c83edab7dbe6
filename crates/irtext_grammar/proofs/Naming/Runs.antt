-- The effects of items as they are parsed are those of the state machine that runs the script of their tree, event by event.
use Rattle.std.proofs.Common.{◌≡◌, ◌∙◌, ℕ, suc, Bool, List, [], ◌∷◌, ◌++◌, length, map, Option, Some, None, refl, sym, ap, ap₂, append-nil}
use Rattle.std.specs.Prelude.{⊤, ◌==◌}
use Rattle.irtext_base.specs.Format as format
use Rattle.irtext_base.specs.Format.{Format, Directive, Id, operand_places, successor_places}
use Rattle.irtext_grammar.specs.Grammar.Forest.{Regions, no_regions, region, Blocks, no_blocks, block, Operations, no_operations, operation, AllRegions, AllBlocks, AllOperations}
use Rattle.irtext_grammar.specs.Grammar.Tree as tree
use Rattle.irtext_grammar.specs.Grammar.Tree.{Part, Body, Op, Head, Brace, shown, elided, Tree, IsOf, parts_of, views, directive}
use Rattle.irtext_grammar.specs.Spelling.Spellable.{Each}
use Rattle.irtext_grammar.specs.Names.Script.{Path, done, does_all, claim, ResultCount}
use Rattle.irtext_grammar.specs.Names.TextScopes.{Act, Script}
use Rattle.irtext_grammar.specs.Names.Acts.{singles, single_labels, piece_acts, closing_acts, result_definitions, result_types, mark_acts, header_acts, all_of, region_script, parts_script, operation_script, region_scripts, blocks_script, operations_script, tree_script}
use Rattle.irtext_grammar.specs.Names.History.{Event, act, events, Outcome, next, run}
use Rattle.irtext_grammar.specs.Names.History as history
use Rattle.irtext_grammar.proofs.Lists.Each.{each_left, each_right}
use Rattle.irtext_grammar.specs.Reached.{Actions, front_parts, region_parts, each_of, do_parts, do_operation, do_region, do_regions, do_blocks, do_operations, do_tree}
use Rattle.irtext_grammar.specs.Naming.{acted, single_operands, single_successors, body_of, unmarked, naming, HasFormat, HaveFormats, paths_in_regions, paths_in_blocks, paths_in_operations, Names}

-- ---- events one after another
run_both : (es fs : List Event) (o : Outcome) → run o (es ++ fs) ≡ run (run o es) fs
run_both [] fs o = refl
run_both (e ∷ es) fs o = run_both es fs (next o e)

acted_both : (xs ys : List Act) (o : Outcome) → acted (xs ++ ys) o ≡ acted ys (acted xs o)
acted_both [] ys o = refl
acted_both (x ∷ xs) ys o = acted_both xs ys (next o (act x))

-- acts, and then a script
run_acts : (xs : List Act) (then : Script) (o : Outcome) → run o (events (does_all xs then)) ≡ run (acted xs o) (events then)
run_acts [] then o = refl
run_acts (x ∷ xs) then o = run_acts xs then (next o (act x))

-- acts that end with none, and then others
acted_split : (xs ys : List Act) (o : Outcome) → acted (xs ++ ys) o ≡ acted ys (acted (xs ++ []) o)
acted_split xs ys o = acted_both xs ys o ∙ ap (λ z. acted ys (acted z o)) (sym (append-nil xs))

-- ---- what a format says of the parts that it parses
-- the places of the operands that have a directive of their own, among directives that may be none
abbrev operands_seen : List (Option Directive) → List ℕ
operands_seen [] = []
operands_seen (d ∷ ds) = elim d [ Some e ↦ elim e [ format.operand i ↦ i ∷ operands_seen ds | _ ↦ operands_seen ds ] | None ↦ operands_seen ds ]

-- the same of successors
abbrev successors_seen : List (Option Directive) → List ℕ
successors_seen [] = []
successors_seen (d ∷ ds) = elim d [ Some e ↦ elim e [ format.successor i ↦ i ∷ successors_seen ds | _ ↦ successors_seen ds ] | None ↦ successors_seen ds ]

operands_of : (ds : List Directive) → operands_seen (map Some ds) ≡ operand_places ds
operands_of [] = refl
operands_of (format.operand i ∷ ds) = ap (λ z. i ∷ z) (operands_of ds)
operands_of (_ ∷ ds) = operands_of ds

successors_of : (ds : List Directive) → successors_seen (map Some ds) ≡ successor_places ds
successors_of [] = refl
successors_of (format.successor i ∷ ds) = ap (λ z. i ∷ z) (successors_of ds)
successors_of (_ ∷ ds) = successors_of ds

module _ {P T A : Type 0} where
  singles_seen : (ps : List (Part P T A)) → singles ps ≡ length (operands_seen (map directive ps))
  singles_seen [] = refl
  singles_seen (tree.piece (tree.operand i n) ∷ ps) = ap suc (singles_seen ps)
  singles_seen (tree.piece _ ∷ ps) = singles_seen ps
  singles_seen (_ ∷ ps) = singles_seen ps

  labels_seen : (ps : List (Part P T A)) → single_labels ps ≡ length (successors_seen (map directive ps))
  labels_seen [] = refl
  labels_seen (tree.piece (tree.successor i n) ∷ ps) = ap suc (labels_seen ps)
  labels_seen (tree.piece _ ∷ ps) = labels_seen ps
  labels_seen (_ ∷ ps) = labels_seen ps

  -- the format says how many operands have a directive of their own
  pub singles_by_format : (f : Format) (b : Body P T A) → IsOf f b → singles (parts_of b) ≡ single_operands (Some f)
  singles_by_format format.canonical (tree.canonical ns ls es xs ys) is = refl
  singles_by_format format.canonical (tree.custom ps) is = absurd is
  singles_by_format (format.custom ds) (tree.canonical ns ls es xs ys) is = absurd is
  singles_by_format (format.custom ds) (tree.custom ps) is = singles_seen ps ∙ ap length (ap operands_seen is ∙ operands_of ds)

  -- and how many successors have one
  pub labels_by_format : (f : Format) (b : Body P T A) → IsOf f b → single_labels (parts_of b) ≡ single_successors (Some f)
  labels_by_format format.canonical (tree.canonical ns ls es xs ys) is = refl
  labels_by_format format.canonical (tree.custom ps) is = absurd is
  labels_by_format (format.custom ds) (tree.canonical ns ls es xs ys) is = absurd is
  labels_by_format (format.custom ds) (tree.custom ps) is = labels_seen ps ∙ ap length (ap successors_seen is ∙ successors_of ds)

  -- the body of a format is the one that has its parts
  pub body_by_format : (f : Format) (b : Body P T A) → IsOf f b → body_of (Some f) (parts_of b) ≡ b
  body_by_format format.canonical (tree.canonical ns ls es xs ys) is = λ i. tree.canonical (append-nil ns i) (append-nil ls i) (append-nil es i) xs ys
  body_by_format format.canonical (tree.custom ps) is = absurd is
  body_by_format (format.custom ds) (tree.canonical ns ls es xs ys) is = absurd is
  body_by_format (format.custom ds) (tree.custom ps) is = refl

-- ---- what scripts of regions do, and the outcomes of the machine
-- running a script followed by another is applying a function to the outcome, and then running the other
pub record Does (script : Script → Script) (come : Outcome → Outcome) : Type 0 where
  pub so : (then : Script) (o : Outcome) → run o (events (script then)) ≡ run (come o) (events then)

-- it holds of each
abbrev EachDoes : List (Script → Script) → List (Outcome → Outcome) → Type 0
EachDoes [] [] = ⊤
EachDoes (r ∷ rs) (d ∷ ds) = Does r d × EachDoes rs ds
EachDoes _ _ = ⊥

all_do : (rs : List (Script → Script)) (ds : List (Outcome → Outcome)) → EachDoes rs ds → (then : Script) (o : Outcome) → run o (events (all_of rs then)) ≡ run (each_of ds o) (events then)
all_do [] [] h then o = refl
all_do [] (d ∷ ds) h then o = absurd h
all_do (r ∷ rs) [] h then o = absurd h
all_do (r ∷ rs) (d ∷ ds) h then o = h.0.so (all_of rs then) o ∙ all_do rs ds h.1 then (d o)

module _ (T A : Type 0) (formats : Id → Option Format) (path : ℕ → Path) where
  abbrev does : Actions T A Outcome
  does = naming {T = T} {A = A} formats path

  -- a region in its braces, of which the inside is known
  pub region_does : (isolated : Id → Bool) (iso : Bool) (brace : Brace ℕ) (body : Script) (inside : Outcome → Outcome) → ((o : Outcome) → run o (events body) ≡ inside o)
      → Does (region_script iso brace body) (do_region isolated does iso brace inside)
  region_does isolated iso elided body inside h = record { so = λ then o. refl }
  region_does isolated iso (shown place) body inside h = record {
    so = λ then o. let first = next o (history.enter iso) in
        run_both (events body ++ history.leave iso place ∷ []) (events then) first
        ∙ ap (λ z. run z (events then)) (run_both (events body) (history.leave iso place ∷ []) first ∙ ap (λ z. next z (history.leave iso place)) (h first));
  }

  -- the parts before the first region
  front_does : (p : Path) (k l : ℕ) (ps : List (Part ℕ T A)) (rs : List (Script → Script)) (then : Script) (o : Outcome)
      → run o (events (parts_script p k l ps rs then)) ≡ run (acted (views (piece_acts p k l) (front_parts ps)) o) (events (parts_script p k l (region_parts ps) rs then))
  front_does p k l [] rs then o = refl
  front_does p k l (tree.piece x ∷ ps) rs then o =
      run_acts (piece_acts p k l x) (parts_script p k l ps rs then) o
      ∙ (front_does p k l ps rs then (acted (piece_acts p k l x) o)
      ∙ ap (λ z. run z (events (parts_script p k l (region_parts ps) rs then))) (sym (acted_both (piece_acts p k l x) (views (piece_acts p k l) (front_parts ps)) o)))
  front_does p k l (tree.region i ∷ ps) rs then o = refl
  front_does p k l (tree.regions ∷ ps) rs then o = refl

  module _ (isolated : Id → Bool) where
    -- the parts from the first region on, with the regions
    parts_do : (place : ℕ) (id : Id) (ps : List (Part ℕ T A)) (rs : List (Script → Script)) (ds : List (Outcome → Outcome)) → EachDoes rs ds → (then : Script) (o : Outcome)
        → run o (events (parts_script (path place) (single_operands (formats id)) (single_successors (formats id)) ps rs then)) ≡ run (do_parts isolated does place id ps ds o) (events then)
    parts_do place id [] rs ds h then o = refl
    parts_do place id (tree.piece x ∷ ps) rs ds h then o =
        let k = single_operands (formats id) in let l = single_successors (formats id) in
        run_acts (piece_acts (path place) k l x) (parts_script (path place) k l ps rs then) o ∙ parts_do place id ps rs ds h then (acted (piece_acts (path place) k l x) o)
    parts_do place id (tree.region i ∷ ps) [] [] h then o = parts_do place id ps [] [] h then o
    parts_do place id (tree.region i ∷ ps) [] (d ∷ ds) h then o = absurd h
    parts_do place id (tree.region i ∷ ps) (r ∷ rs) [] h then o = absurd h
    parts_do place id (tree.region i ∷ ps) (r ∷ rs) (d ∷ ds) h then o =
        h.0.so (parts_script (path place) (single_operands (formats id)) (single_successors (formats id)) ps rs then) o ∙ parts_do place id ps rs ds h.1 then (d o)
    parts_do place id (tree.regions ∷ ps) rs ds h then o =
        all_do rs ds h (parts_script (path place) (single_operands (formats id)) (single_successors (formats id)) ps [] then) o ∙ parts_do place id ps [] [] tt then (each_of ds o)

    -- the end of an operation: the acts are those before its mark, and that of its mark
    closing_both : (p : Path) (o : Op ℕ T A) (s : Outcome) → acted (closing_acts p o) s ≡ acted (mark_acts o.mark) (acted (closing_acts p (unmarked o.place o.names o.id o.body)) s)
    closing_both p o s =
        acted_split (result_definitions p 0 o.names) (mark_acts o.mark)
        (next s (act (claim (length (result_types o.body) == length o.names) (record { cause = ResultCount (length (result_types o.body)) (length o.names); at = Some o.place }))))

    -- an operation whose path and format are those of the names
    body_does : (o : Op ℕ T A) (rs : List (Script → Script)) (ds : List (Outcome → Outcome)) → EachDoes rs ds → (then : Script) (s : Outcome)
        → run s (events (parts_script (path o.place) (single_operands (formats o.id)) (single_successors (formats o.id)) (parts_of o.body) rs (does_all (closing_acts (path o.place) o) then)))
        ≡ run (acted (mark_acts o.mark) (acted (closing_acts (path o.place) (unmarked o.place o.names o.id o.body))
        (do_parts isolated does o.place o.id (region_parts (parts_of o.body)) ds (does.uses o.place o.id (front_parts (parts_of o.body)) s)))) (events then)
    body_does o rs ds h then s =
        let p = path o.place in
        let k = single_operands (formats o.id) in
        let l = single_successors (formats o.id) in
        let used = does.uses o.place o.id (front_parts (parts_of o.body)) s in
        let parts = do_parts isolated does o.place o.id (region_parts (parts_of o.body)) ds used in
        front_does p k l (parts_of o.body) rs (does_all (closing_acts p o) then) s
        ∙ (parts_do o.place o.id (region_parts (parts_of o.body)) rs ds h (does_all (closing_acts p o) then) used
        ∙ (run_acts (closing_acts p o) then parts ∙ ap (λ z. run z (events then)) (closing_both p o parts)))

    operation_does : (p : Path) (o : Op ℕ T A) (rs : List (Script → Script)) (ds : List (Outcome → Outcome)) → path o.place ≡ p → HasFormat formats o → EachDoes rs ds
        → Does (operation_script p o rs) (do_operation isolated does o ds)
    operation_does p o rs ds there (f, known, is) h = record {
      so = λ then s.
          let ps = parts_of o.body in
          let k : singles ps ≡ single_operands (formats o.id) = singles_by_format f o.body is ∙ ap single_operands (sym known) in
          let l : single_labels ps ≡ single_successors (formats o.id) = labels_by_format f o.body is ∙ ap single_successors (sym known) in
          let b : body_of (formats o.id) ps ≡ o.body = ap (λ z. body_of z ps) known ∙ body_by_format f o.body is in
          ap (λ z. run s (events (operation_script z o rs then))) (sym there)
          ∙ (ap₂ (λ m n. run s (events (parts_script (path o.place) m n ps rs (does_all (closing_acts (path o.place) o) then)))) k l
          ∙ (body_does o rs ds h then s
          ∙ ap (λ z. run (acted (mark_acts o.mark) (acted (closing_acts (path o.place) (unmarked o.place o.names o.id z))
          (do_parts isolated does o.place o.id (region_parts ps) ds (does.uses o.place o.id (front_parts ps) s)))) (events then)) (sym b)));
    }

    -- ---- the tree
    abbrev Said : List (ℕ × Path) → Type 0
    Said items = Each (λ item. path item.0 ≡ item.1) items

    abbrev Formed : Op ℕ T A → Type 0
    Formed o = HasFormat formats o

    mutual
      regions_do : (p : Path) (j : ℕ) (iso : Bool) (rs : Regions (Op ℕ T A) (Head ℕ T A) (Brace ℕ)) → Said (paths_in_regions p j rs) → AllRegions Formed (λ h. ⊤) (λ b. ⊤) rs
          → EachDoes (region_scripts isolated p j iso rs) (do_regions isolated does iso rs)
      regions_do p j iso no_regions n f = tt
      regions_do p j iso (region brace bs rs) n f =
          let inside = each_left (λ item. path item.0 ≡ item.1) (paths_in_blocks (j ∷ p) 0 bs) (paths_in_regions p (suc j) rs) n in
          let others = each_right (λ item. path item.0 ≡ item.1) (paths_in_blocks (j ∷ p) 0 bs) (paths_in_regions p (suc j) rs) n in (
            region_does isolated iso brace (blocks_script isolated (j ∷ p) 0 bs) (do_blocks isolated does bs) (blocks_do (j ∷ p) 0 bs inside f.1),
            regions_do p (suc j) iso rs others f.2,
          )

      pub blocks_do : (p : Path) (k : ℕ) (bs : Blocks (Op ℕ T A) (Head ℕ T A) (Brace ℕ)) → Said (paths_in_blocks p k bs) → AllBlocks Formed (λ h. ⊤) (λ b. ⊤) bs
          → (o : Outcome) → run o (events (blocks_script isolated p k bs)) ≡ do_blocks isolated does bs o
      blocks_do p k no_blocks n f o = refl
      blocks_do p k (block h os bs) n f o =
          let inside = each_left (λ item. path item.0 ≡ item.1) (paths_in_operations (k ∷ p) 0 os) (paths_in_blocks p (suc k) bs) n.1 in
          let others = each_right (λ item. path item.0 ≡ item.1) (paths_in_operations (k ∷ p) 0 os) (paths_in_blocks p (suc k) bs) n.1 in
          let then = operations_script isolated (k ∷ p) 0 os (blocks_script isolated p (suc k) bs) in
          let headed = acted (header_acts (path h.label.place) h) o in
          ap (λ z. run o (events (does_all (header_acts z h) then))) (sym n.0)
          ∙ (run_acts (header_acts (path h.label.place) h) then o
          ∙ ((operations_do (k ∷ p) 0 os inside f.1).so (blocks_script isolated p (suc k) bs) headed
          ∙ blocks_do p (suc k) bs others f.2 (do_operations isolated does os headed)))

      operations_do : (p : Path) (i : ℕ) (os : Operations (Op ℕ T A) (Head ℕ T A) (Brace ℕ)) → Said (paths_in_operations p i os) → AllOperations Formed (λ h. ⊤) (λ b. ⊤) os
          → Does (operations_script isolated p i os) (do_operations isolated does os)
      operations_do p i no_operations n f = record { so = λ then o. refl }
      operations_do p i (operation o rs os) n f =
          let inside = each_left (λ item. path item.0 ≡ item.1) (paths_in_regions (i ∷ p) 0 rs) (paths_in_operations p (suc i) os) n.1 in
          let others = each_right (λ item. path item.0 ≡ item.1) (paths_in_regions (i ∷ p) 0 rs) (paths_in_operations p (suc i) os) n.1 in
          let ds = do_regions isolated does (isolated o.id) rs in
          let scripts = region_scripts isolated (i ∷ p) 0 (isolated o.id) rs in
          let one = operation_does (i ∷ p) o scripts ds n.0 f.0 (regions_do (i ∷ p) 0 (isolated o.id) rs inside f.1) in
          let more = operations_do p (suc i) os others f.2 in record {
            so = λ then s. one.so (operations_script isolated p (suc i) os then) s ∙ more.so then (do_operation isolated does o ds s);
          }

    tree_does : (t : Tree ℕ T A) → Names path t → HaveFormats formats t → Does (tree_script isolated t) (do_tree isolated does t)
    tree_does t n f = operation_does [] t.own (region_scripts isolated [] 0 (isolated t.own.id) t.regions) (do_regions isolated does (isolated t.own.id) t.regions) n.0 f.0
        (regions_do [] 0 (isolated t.own.id) t.regions n.1 f.1)

module _ {T A : Type 0} (formats : Id → Option Format) (path : ℕ → Path) (isolated : Id → Bool) (t : Tree ℕ T A) (names : Names path t) (formed : HaveFormats formats t) where
  -- the actions of a tree, followed by a script, have the outcome of the machine that runs the events of the tree's script followed by that
  -- script
  pub runs_before : (then : Script) (o : Outcome) → run o (events (tree_script isolated t then)) ≡ run (do_tree isolated (naming formats path) t o) (events then)
  runs_before then o = (tree_does T A formats path isolated t names formed).so then o

  -- the actions of a tree have the outcome of the machine that runs the events of its script
  pub runs_script : (o : Outcome) → do_tree isolated (naming formats path) t o ≡ run o (events (tree_script isolated t done))
  runs_script o = sym (runs_before done o)
