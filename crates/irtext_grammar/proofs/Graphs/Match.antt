-- What the written tree builds has the graph's operands and successors, types and labels.
use Rattle.std.proofs.Common.{◌≡◌, ℕ, suc, ◌+◌, ◌<◌, ◌^◌, Bool, true, false, cond, List, [], ◌∷◌, map, length, slice_get, Option, Some, None, refl, sym, ap, ap₂, ◌∙◌}
use Rattle.std.specs.Prelude.{⊤}
use Rattle.irtext_base.specs.Text.{Text}
use Rattle.irtext_base.specs.Format as format
use Rattle.irtext_base.specs.Format.{Format, Directive, same_text, operand_places, successor_places, Id}
use Rattle.irtext_grammar.specs.Spelling.Spellable.{Each}
use Rattle.irtext_grammar.specs.Grammar.Forest.{Regions, no_regions, region, Blocks, no_blocks, block, Operations, no_operations, operation, regions_list, MatchRegions, MatchBlocks, MatchOperations, AllRegions, AllBlocks, AllOperations}
use Rattle.irtext_grammar.specs.Grammar.Tree.{Name}
use Rattle.irtext_grammar.specs.Graphs.Graph.{Graph, GraphOp, GraphBlock, Printing, value, target, tree_op, own_marks, tree_regions, tree_blocks, tree_operations, marks_in_regions, marks_in_blocks, marks_in_operations, written, op_outlined, block_outlined}
use Rattle.irtext_grammar.specs.Names.Script.{Path, Script, does_all}
use Rattle.irtext_grammar.specs.Names.Scopes as scopes
use Rattle.irtext_grammar.specs.Names.Scopes.{Fact, facts}
use Rattle.irtext_grammar.specs.Grammar.Section.{Entry}
use Rattle.irtext_grammar.specs.Names.Acts.{all_of, blocks_script}
use Rattle.irtext_grammar.specs.Graphs.Build.{built_op, built_regions, built_blocks, built_operations, build}
use Rattle.irtext_grammar.specs.Graphs.Closed.{Thing, a_value, a_block, same_thing, printed, uses_of_values, uses_of_blocks, defined_results, defined_arguments, use_if, use_block_if, directives_script, body_script, graph_regions, graph_blocks, graph_operations, graph_script, FitRegions, FitBlocks, FitOperations, Fit, Small}
use Rattle.irtext_grammar.specs.Graphs.Same.{SmallOp, SmallBlock, SmallGraph, resolved_op, resolved_regions, resolved_blocks, resolved_operations, resolved_root, SameShape, SameBlockShape, SameShapes}
use Rattle.irtext_grammar.proofs.Names.Natural.{AllFacts, AllScript, fact_as, facts_as, facts_natural, of_script, lookup_as}
use Rattle.irtext_grammar.proofs.Names.Plainly.{unmarked, facts_plain}
use Rattle.irtext_grammar.proofs.Names.Injective.{names_agree}
use Rattle.irtext_grammar.proofs.Graphs.WrittenScript.{blocks_like}
use Rattle.irtext_grammar.proofs.Graphs.Views.{names_back}
use Rattle.irtext_grammar.proofs.Lists.Each.{each_drop, OfOption, each_at}

-- ---- the numbers of a script are those of its graph
uses_small : (p : Path) (k : ℕ) (vs : List ℕ) (g : Script Thing ⊤) → Each (λ v. v < 2 ^ 64) vs → AllScript Small g → AllScript Small (does_all (uses_of_values p k vs) g)
uses_small p k [] g e a = a
uses_small p k (v ∷ vs) g e a = (e.0, uses_small p (suc k) vs g e.1 a)

blocks_small : (p : Path) (k : ℕ) (bs : List (ℕ × ℕ)) (g : Script Thing ⊤) → Each (λ (b : ℕ × ℕ). (b.0 < 2 ^ 64) × (b.1 < 2 ^ 64)) bs → AllScript Small g → AllScript Small (does_all (uses_of_blocks p k bs) g)
blocks_small p k [] g e a = a
blocks_small p k (b ∷ bs) g e a = (e.0, blocks_small p (suc k) bs g e.1 a)

results_small : {T : Type 0} (p : Path) (k : ℕ) (rs : List (ℕ × T)) (g : Script Thing ⊤) → Each (λ (r : ℕ × T). r.0 < 2 ^ 64) rs → AllScript Small g → AllScript Small (does_all (defined_results p k rs) g)
results_small p k [] g e a = a
results_small p k (r ∷ rs) g e a = (e.0, results_small p (suc k) rs g e.1 a)

arguments_small : {T : Type 0} (p : Path) (k : ℕ) (rs : List (ℕ × T)) (g : Script Thing ⊤) → Each (λ (r : ℕ × T). r.0 < 2 ^ 64) rs → AllScript Small g → AllScript Small (does_all (defined_arguments p k rs) g)
arguments_small p k [] g e a = a
arguments_small p k (r ∷ rs) g e a = (e.0, arguments_small p (suc k) rs g e.1 a)

use_small : (p : Path) (i : ℕ) (x : Option ℕ) (g : Script Thing ⊤) → OfOption (λ v. v < 2 ^ 64) x → AllScript Small g → AllScript Small (does_all (use_if p i x) g)
use_small p i None g e a = a
use_small p i (Some v) g e a = (e, a)

use_block_small : (p : Path) (i : ℕ) (x : Option (ℕ × ℕ)) (g : Script Thing ⊤) → OfOption (λ (b : ℕ × ℕ). (b.0 < 2 ^ 64) × (b.1 < 2 ^ 64)) x → AllScript Small g → AllScript Small (does_all (use_block_if p i x) g)
use_block_small p i None g e a = a
use_block_small p i (Some v) g e a = (e, a)

abbrev SmallAll : List (Script Thing ⊤ → Script Thing ⊤) → Type 0
SmallAll [] = ⊤
SmallAll (s ∷ ss) = ((g : Script Thing ⊤) → AllScript Small g → AllScript Small (s g)) × SmallAll ss

all_small : (ss : List (Script Thing ⊤ → Script Thing ⊤)) (g : Script Thing ⊤) → SmallAll ss → AllScript Small g → AllScript Small (all_of ss g)
all_small [] g e a = a
all_small (s ∷ ss) g e a = e.0 (all_of ss g) (all_small ss g e.1 a)

module _ {T A : Type 0} (C : Printing T A) (isolated : Id → Bool) where
  directives_small : (ds : List Directive) (p : Path) (o : GraphOp T A) (rest : List Directive) (ss : List (Script Thing ⊤ → Script Thing ⊤)) (g : Script Thing ⊤) → SmallOp C isolated o → SmallAll ss → AllScript Small g
      → AllScript Small (directives_script ds p o rest ss g)
  directives_small ds p o [] ss g e s a = a
  directives_small ds p o (format.operand i ∷ rest) ss g e s a = use_small p i (slice_get o.operands i) _ (each_at _ o.operands i e.operands) (directives_small ds p o rest ss g e s a)
  directives_small ds p o (format.operands ∷ rest) ss g e s a = uses_small p _ _ _ (each_drop _ (length (operand_places ds)) o.operands e.operands) (directives_small ds p o rest ss g e s a)
  directives_small ds p o (format.successor i ∷ rest) ss g e s a = use_block_small p i (slice_get o.successors i) _ (each_at _ o.successors i e.successors) (directives_small ds p o rest ss g e s a)
  directives_small ds p o (format.successors ∷ rest) ss g e s a = blocks_small p _ _ _ (each_drop _ (length (successor_places ds)) o.successors e.successors) (directives_small ds p o rest ss g e s a)
  directives_small ds p o (format.region i ∷ rest) [] g e s a = directives_small ds p o rest [] g e s a
  directives_small ds p o (format.region i ∷ rest) (r ∷ ss) g e s a = s.0 _ (directives_small ds p o rest ss g e s.1 a)
  directives_small ds p o (format.regions ∷ rest) ss g e s a = all_small ss _ s (directives_small ds p o rest [] g e tt a)
  directives_small ds p o (_ ∷ rest) ss g e s a = directives_small ds p o rest ss g e s a

  body_small : (f : Option Format) (p : Path) (o : GraphOp T A) (ss : List (Script Thing ⊤ → Script Thing ⊤)) (g : Script Thing ⊤) → SmallOp C isolated o → SmallAll ss → AllScript Small g → AllScript Small (body_script f p o ss g)
  body_small None p o ss g e s a = uses_small p 0 o.operands _ e.operands (blocks_small p 0 o.successors _ e.successors (all_small ss g s a))
  body_small (Some format.canonical) p o ss g e s a = uses_small p 0 o.operands _ e.operands (blocks_small p 0 o.successors _ e.successors (all_small ss g s a))
  body_small (Some (format.custom ds)) p o ss g e s a = directives_small ds p o ds ss g e s a

  mutual
    small_regions : (p : Path) (j : ℕ) (iso : Bool) (rs : Regions (GraphOp T A) (GraphBlock T A) ⊤) → AllRegions (SmallOp C isolated) (SmallBlock C isolated) (λ r. ⊤) rs → SmallAll (graph_regions C isolated p j iso rs)
    small_regions p j iso no_regions e = tt
    small_regions p j iso (region r bs rs) e = ((λ g a. (small_blocks (j ∷ p) 0 bs e.1, a)), small_regions p (suc j) iso rs e.2)

    small_blocks : (p : Path) (k : ℕ) (bs : Blocks (GraphOp T A) (GraphBlock T A) ⊤) → AllBlocks (SmallOp C isolated) (SmallBlock C isolated) (λ r. ⊤) bs → AllScript Small (graph_blocks C isolated p k bs)
    small_blocks p k no_blocks e = tt
    small_blocks p k (block h os bs) e = arguments_small (k ∷ p) 0 h.arguments _ e.0.arguments (e.0.place, small_operations (k ∷ p) 0 os _ e.1 (small_blocks p (suc k) bs e.2))

    small_operations : (p : Path) (i : ℕ) (os : Operations (GraphOp T A) (GraphBlock T A) ⊤) (g : Script Thing ⊤) → AllOperations (SmallOp C isolated) (SmallBlock C isolated) (λ r. ⊤) os → AllScript Small g → AllScript Small (graph_operations C isolated p i os g)
    small_operations p i no_operations g e a = a
    small_operations p i (operation o rs os) g e a =
        body_small (C.format_of o.id) (i ∷ p) o _ _ e.0 (small_regions (i ∷ p) 0 (isolated o.id) rs e.1)
        (results_small (i ∷ p) 0 o.results _ e.0.results (small_operations p (suc i) os g e.2 a))

  -- the numbers in the script of a small graph are small
  pub small_script : (g : Graph T A) → SmallGraph C isolated g → AllScript Small (graph_script C isolated g)
  small_script g e = body_small (C.format_of g.own.id) [] g.own _ _ e.0 (small_regions [] 0 (isolated g.own.id) g.regions e.1) (results_small [] 0 g.own.results _ e.0.results tt)

  -- ---- scopes of the text are those of the graph, under the printed names
  pub record Scoped (v : List (Fact Text)) (w : List (Fact Thing)) : Type 0 where
    pub same : v ≡ map (fact_as (printed C)) w
    pub small : AllFacts Small w

  -- of the blocks of a region
  pub record Inside (x : Script Text ⊤) (y : Script Thing ⊤) : Type 0 where
    pub values : Scoped (facts same_text x).values (facts same_thing y).values
    pub labels : Scoped (facts same_text x).labels (facts same_thing y).labels

  inside_blocks : (n : ℕ) (p : Path) (bs : Blocks (GraphOp T A) (GraphBlock T A) ⊤) → FitBlocks C isolated bs → AllBlocks (SmallOp C isolated) (SmallBlock C isolated) (λ r. ⊤) bs
      → Inside (blocks_script isolated p 0 (tree_blocks C None n bs)) (graph_blocks C isolated p 0 bs)
  inside_blocks n p bs f e =
      let x = blocks_script isolated p 0 (tree_blocks C None n bs) in
      let y = graph_blocks C isolated p 0 bs in
      let a = small_blocks p 0 bs e in
      let same : unmarked (facts same_text x) ≡ facts_as (printed C) (facts same_thing y) =
      sym (facts_plain same_text x) ∙ (ap (facts same_text) (blocks_like C isolated n p 0 bs f).so ∙ facts_natural (printed C) (λ q. q) same_thing same_text Small (names_agree C) y a) in
      let o = of_script (printed C) (λ (q : ⊤). q) same_thing same_text Small (names_agree C) y a in
      record { values = record { same = ap (λ z. z.values) same; small = o.values }; labels = record { same = ap (λ z. z.labels) same; small = o.labels } }

  scoped_if : (iso : Bool) (v v' : List (Fact Text)) (w w' : List (Fact Thing)) → Scoped v w → Scoped v' w' → Scoped (cond iso v v') (cond iso w w')
  scoped_if true v v' w w' s t = s
  scoped_if false v v' w w' s t = t

  looked_values : (v : List (Fact Text)) (w : List (Fact Thing)) (vs : List ℕ) → Scoped v w → Each (λ v. v < 2 ^ 64) vs
      → map (λ x. scopes.lookup same_thing (a_value x) w) vs ≡ map (λ n. scopes.lookup same_text n.text v) (map (value C) vs)
  looked_values v w [] s e = refl
  looked_values v w (x ∷ vs) s e =
      ap₂ ◌∷◌ (sym (ap (scopes.lookup same_text (printed C (a_value x))) s.same ∙ lookup_as (printed C) (λ (q : ⊤). q) same_thing same_text Small (names_agree C) (a_value x) w e.0 s.small))
      (looked_values v w vs s e.1)

  looked_blocks : (v : List (Fact Text)) (w : List (Fact Thing)) (bs : List (ℕ × ℕ)) → Scoped v w → Each (λ (b : ℕ × ℕ). (b.0 < 2 ^ 64) × (b.1 < 2 ^ 64)) bs
      → map (λ x. scopes.lookup same_thing (a_block x) w) bs ≡ map (λ n. scopes.lookup same_text n.text v) (map (target C) bs)
  looked_blocks v w [] s e = refl
  looked_blocks v w (x ∷ bs) s e =
      ap₂ ◌∷◌ (sym (ap (scopes.lookup same_text (printed C (a_block x))) s.same ∙ lookup_as (printed C) (λ (q : ⊤). q) same_thing same_text Small (names_agree C) (a_block x) w e.0 s.small))
      (looked_blocks v w bs s e.1)

  types_back : (xs : List (ℕ × T)) → map (λ (r : ℕ × T). r.1) xs ≡ map (λ (a : Name ⊤ × T). a.1) (map (λ (a : ℕ × T). (value C a.0, a.1)) xs)
  types_back [] = refl
  types_back (a ∷ xs) = ap (λ z. a.1 ∷ z) (types_back xs)

  module _ {X : Type 0} (first : ⊤ → X) (es : List (Entry ⊤ A X)) where
    same_op : (n k : ℕ) (v l : List (Fact Text)) (w m : List (Fact Thing)) (o : GraphOp T A) (rs : Regions (GraphOp T A) (GraphBlock T A) ⊤) → FitOperations C isolated (operation o rs no_operations) → SmallOp C isolated o → Scoped v w → Scoped l m
        → SameShape (resolved_op C isolated w m o) (built_op isolated first es v l (tree_op C k o))
    same_op n k v l w m o rs f e s t =
        let b = names_back C isolated o (length (regions_list rs)) k (C.format_of o.id) refl f.0 in
        record {
          id = refl;
          result_types = sym b.2;
          operands = looked_values v w o.operands s e.operands ∙ ap (map (λ n. scopes.lookup same_text n.text v)) (sym b.0);
          successors = looked_blocks l m o.successors t e.successors ∙ ap (map (λ n. scopes.lookup same_text n.text l)) (sym b.1);
        }

    mutual
      same_regions : (n : ℕ) (v : List (Fact Text)) (w : List (Fact Thing)) (p : Path) (j : ℕ) (iso : Bool) (rs : Regions (GraphOp T A) (GraphBlock T A) ⊤) → FitRegions C isolated rs → AllRegions (SmallOp C isolated) (SmallBlock C isolated) (λ r. ⊤) rs → Scoped v w
          → MatchRegions SameShape SameBlockShape (λ r s. ⊤) (resolved_regions C isolated w p j iso rs) (built_regions isolated first es v p j iso (tree_regions C None n rs))
      same_regions n v w p j iso no_regions f e s = tt
      same_regions n v w p j iso (region r bs rs) f e s =
          let i = inside_blocks n (j ∷ p) bs f.0 e.1 in
          (tt, same_blocks n _ _ _ _ (j ∷ p) 0 bs f.0 e.1 (scoped_if iso _ v _ w i.values s) i.labels, same_regions (n + marks_in_blocks C None bs) v w p (suc j) iso rs f.1 e.2 s)

      same_blocks : (n : ℕ) (v l : List (Fact Text)) (w m : List (Fact Thing)) (p : Path) (k : ℕ) (bs : Blocks (GraphOp T A) (GraphBlock T A) ⊤) → FitBlocks C isolated bs → AllBlocks (SmallOp C isolated) (SmallBlock C isolated) (λ r. ⊤) bs → Scoped v w → Scoped l m
          → MatchBlocks SameShape SameBlockShape (λ r s. ⊤) (resolved_blocks C isolated w m p k bs) (built_blocks isolated first es v l p k (tree_blocks C None n bs))
      same_blocks n v l w m p k no_blocks f e s t = tt
      same_blocks n v l w m p k (block h os bs) f e s t =
          let q = n + own_marks C h.location (block_outlined C h) in
          (record { argument_types = types_back h.arguments }, same_operations q v l w m (k ∷ p) 0 os f.0 e.1 s t, same_blocks (q + marks_in_operations C None os) v l w m p (suc k) bs f.1 e.2 s t)

      same_operations : (n : ℕ) (v l : List (Fact Text)) (w m : List (Fact Thing)) (p : Path) (i : ℕ) (os : Operations (GraphOp T A) (GraphBlock T A) ⊤) → FitOperations C isolated os → AllOperations (SmallOp C isolated) (SmallBlock C isolated) (λ r. ⊤) os → Scoped v w → Scoped l m
          → MatchOperations SameShape SameBlockShape (λ r s. ⊤) (resolved_operations C isolated w m p i os) (built_operations isolated first es v l p i (tree_operations C None n os))
      same_operations n v l w m p i no_operations f e s t = tt
      same_operations n v l w m p i (operation o rs os) f e s t =
          let q = n + marks_in_regions C None rs in
          (same_op n q v l w m o rs (f.0, f.1, tt) e.0 s t, same_regions n v w (i ∷ p) 0 (isolated o.id) rs f.1 e.1 s, same_operations (q + own_marks C o.location (op_outlined C o)) v l w m p (suc i) os f.2 e.2 s t)

    -- what the written tree builds has the shape of the graph
    pub same_shapes : (g : Graph T A) → Fit C isolated g → SmallGraph C isolated g → SameShapes (resolved_root C isolated g) (build isolated first es (written C None g))
    same_shapes g f e =
        let nothing : Scoped [] [] = record { same = refl; small = tt } in
        (same_op 0 (marks_in_regions C None g.regions) [] [] [] [] g.own g.regions (f.0, f.1, tt) e.0 nothing nothing, same_regions 0 [] [] [] 0 (isolated g.own.id) g.regions f.1 e.1 nothing)
