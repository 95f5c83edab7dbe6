-- What the script of a graph that printing sees states of values and blocks is true of the context: each place that it states is that of
-- the definition there.
use Rattle.std.proofs.Common.{◌≡◌, ◌∙◌, ◌+◌, ℕ, suc, Bool, true, false, List, [], ◌∷◌, map, filter_map, drop, length, slice_get, Option, Some, None, option_map, refl, sym, ap, subst, inl, inr, arith}
use Rattle.std.specs.Prelude.{⊤}
use Rattle.std.specs.List.{cons_option}
use Rattle.irtext_base.specs.Format as format
use Rattle.irtext_base.specs.Format.{Format, Directive, Id, operand_places, successor_places}
use Rattle.irtext_base.specs.Text.{Text}
use Rattle.irtext_context.specs.Context.{ContextView, known}
use Rattle.irtext_graph.specs.declared.arena.Ptr.{Ptr}
use Rattle.irtext_graph.specs.declared.object.BasicBlock.{BasicBlock}
use Rattle.irtext_graph.specs.declared.object.Object.{Object}
use Rattle.irtext_graph.specs.declared.object.Object.TheVariants.{TheOperation, TheBlock}
use Rattle.irtext_graph.specs.declared.object.Value.{Value}
use Rattle.irtext_graph.specs.declared.object.Value.TheVariants.{Result, Argument}
use Rattle.irtext_graph.specs.Chained.{Among}
use Rattle.irtext_graph.specs.Content.{Typed}
use Rattle.irtext_graph.specs.Parts.{results, arguments}
use Rattle.irtext_graph.proofs.Preorders.{among_left, among_right}
use Rattle.irtext_grammar.specs.Contexts.Nested.{typed_number, number_of, place_of}
use Rattle.irtext_grammar.specs.Grammar.Forest as forest
use Rattle.irtext_grammar.specs.Grammar.Forest.{Regions, no_regions, Blocks, no_blocks, Operations, no_operations}
use Rattle.irtext_grammar.specs.Graphs.Closed.{Thing, a_value, a_block, same_thing, spot, uses_of_values, uses_of_blocks, defined_results, defined_arguments, use_if, use_block_if, directives_script, body_script, graph_regions, graph_blocks, graph_operations}
use Rattle.irtext_grammar.specs.Graphs.Graph.{GraphOp, GraphBlock, Printing}
use Rattle.irtext_grammar.specs.Names.Acts.{all_of}
use Rattle.irtext_grammar.specs.Names.Scopes.{Fact, uses, defines, facts}
use Rattle.irtext_grammar.specs.Names.Script.{Path, Place, result, argument, block_at, Act, define_value, define_label, Script, does, within, does_all}
use Rattle.irtext_grammar.specs.Spelling.Spellable.{Each}
use Rattle.irtext_grammar.proofs.Lists.Each.{each_both}
use Rattle.irtext_names.specs.Held.{PtrRegions, PtrBlocks, PtrOperations, placed_regions, placed_blocks, placed_operations, path_of, value_place, block_place}
use Rattle.pliron_text.proofs.Shown.{SeenRegions, SeenBlocks, SeenOperations, results_seen, arguments_seen, unlike, first_is, rest_is}

module _ {T A : Type 0} (c : ContextView T A) (all : List (Object × Path)) where
  -- a value with this number is at the place that is stated
  abbrev pub TrueValue : Fact Thing → Type 0
  TrueValue (uses n u) = ⊤
  TrueValue (defines (a_value n) q) = (v : Value) × (number_of c v ≡ Some n) × (value_place all v ≡ Some q)
  TrueValue (defines (a_block at) q) = ⊥

  -- a block of this place and generation does
  abbrev pub TrueLabel : Fact Thing → Type 0
  TrueLabel (uses n u) = ⊤
  TrueLabel (defines (a_value n) q) = ⊥
  TrueLabel (defines (a_block at) q) = (b : Ptr BasicBlock) × (place_of c b ≡ at) × (block_place all b ≡ Some q)

  -- all that the script says is true
  pub record Trues (x : Script Thing ⊤) : Type 0 where
    pub values : Each TrueValue (facts same_thing x).values
    pub labels : Each TrueLabel (facts same_thing x).labels

  -- ---- uses
  values_true : (p : Path) (k : ℕ) (vs : List ℕ) {x : Script Thing ⊤} → Trues x → Trues (does_all (uses_of_values p k vs) x)
  values_true p k [] h = h
  values_true p k (v ∷ vs) h = let r = values_true p (suc k) vs h in record { values = (tt, r.values); labels = r.labels }

  blocks_used : (p : Path) (k : ℕ) (bs : List (ℕ × ℕ)) {x : Script Thing ⊤} → Trues x → Trues (does_all (uses_of_blocks p k bs) x)
  blocks_used p k [] h = h
  blocks_used p k (b ∷ bs) h = let r = blocks_used p (suc k) bs h in record { values = r.values; labels = (tt, r.labels) }

  value_true : (p : Path) (i : ℕ) (o : Option ℕ) {x : Script Thing ⊤} → Trues x → Trues (does_all (use_if p i o) x)
  value_true p i None h = h
  value_true p i (Some v) h = record { values = (tt, h.values); labels = h.labels }

  block_used : (p : Path) (i : ℕ) (o : Option (ℕ × ℕ)) {x : Script Thing ⊤} → Trues x → Trues (does_all (use_block_if p i o) x)
  block_used p i None h = h
  block_used p i (Some b) h = record { values = h.values; labels = (tt, h.labels) }

  -- ---- definitions
  -- values of these types, each at its place
  module _ (at : ℕ → Place) (acts : ℕ → List (ℕ × T) → List (Act Thing ⊤)) (no_acts : (k : ℕ) → acts k [] ≡ []) (next_acts : (k : ℕ) (r : ℕ × T) (rs : List (ℕ × T)) → acts k (r ∷ rs) ≡ define_value (spot (a_value r.0)) (at k) ∷ acts (suc k) rs) where
    typed_true : (k : ℕ) (vs : List (Typed (Option T))) (types : List T) → map (λ (v : Typed (Option T)). v.of_type) vs ≡ known types
        → ((i : ℕ) (t : Typed (Option T)) → slice_get vs i ≡ Some t → TrueValue (defines (a_value t.number) (at (k + i)))) → {x : Script Thing ⊤} → Trues x → Trues (does_all (acts k (filter_map typed_number vs)) x)
    typed_true k [] types e true_at {x = x} h = subst (λ a. Trues (does_all a x)) (sym (no_acts k)) h
    typed_true k (v ∷ vs) [] e true_at h = absurd (unlike v.of_type (map (λ v. v.of_type) vs) e)
    typed_true k (v ∷ vs) (t ∷ types) e true_at {x = x} h =
        let here : v.of_type ≡ Some t = first_is v.of_type (Some t) (map (λ (v : Typed (Option T)). v.of_type) vs) (known types) e in
        let rest = rest_is v.of_type (Some t) (map (λ (v : Typed (Option T)). v.of_type) vs) (known types) e in
        let r = typed_true (suc k) vs types rest (λ i u f. let n : k + suc i ≡ suc k + i = omega arith in subst (λ (m : ℕ). TrueValue (defines (a_value u.number) (at m))) n (true_at (suc i) u f)) h in
        let z : k + 0 ≡ k = omega arith in
        let first : Trues (does_all (acts k ((v.number, t) ∷ filter_map typed_number vs)) x) = subst (λ a. Trues (does_all a x)) (sym (next_acts k (v.number, t) (filter_map typed_number vs)))
        (record { values = (subst (λ (m : ℕ). TrueValue (defines (a_value v.number) (at m))) z (true_at 0 v refl), r.values); labels = r.labels }) in
        subst (λ (o : Option T). Trues (does_all (acts k (cons_option (option_map (λ (t : T). (v.number, t)) o) (filter_map typed_number vs))) x)) (sym here) first

  results_true : (q : Path) (k : ℕ) (vs : List (Typed (Option T))) (types : List T) → map (λ (v : Typed (Option T)). v.of_type) vs ≡ known types
      → ((i : ℕ) (t : Typed (Option T)) → slice_get vs i ≡ Some t → TrueValue (defines (a_value t.number) (result q (k + i)))) → {x : Script Thing ⊤} → Trues x → Trues (does_all (defined_results q k (filter_map typed_number vs)) x)
  results_true q = typed_true (result q) (defined_results q) (λ k. refl) (λ k r rs. refl)

  arguments_true : (q : Path) (k : ℕ) (vs : List (Typed (Option T))) (types : List T) → map (λ (v : Typed (Option T)). v.of_type) vs ≡ known types
      → ((i : ℕ) (t : Typed (Option T)) → slice_get vs i ≡ Some t → TrueValue (defines (a_value t.number) (argument q (k + i)))) → {x : Script Thing ⊤} → Trues x → Trues (does_all (defined_arguments q k (filter_map typed_number vs)) x)
  arguments_true q = typed_true (argument q) (defined_arguments q) (λ k. refl) (λ k r rs. refl)

  -- ---- regions
  within_true : (iso : Bool) (body : Script Thing ⊤) {x : Script Thing ⊤} → Trues body → Trues x → Trues (within iso tt body x)
  within_true true body b h = record { values = h.values; labels = h.labels }
  within_true false body {x = x} b h = record { values = each_both TrueValue (facts same_thing body).values (facts same_thing x).values b.values h.values; labels = h.labels }

  abbrev AllTrue : List (Script Thing ⊤ → Script Thing ⊤) → Type 0
  AllTrue [] = ⊤
  AllTrue (s ∷ ss) = ((x : Script Thing ⊤) → Trues x → Trues (s x)) × AllTrue ss

  all_true : (ss : List (Script Thing ⊤ → Script Thing ⊤)) {x : Script Thing ⊤} → AllTrue ss → Trues x → Trues (all_of ss x)
  all_true [] a h = h
  all_true (s ∷ ss) a h = a.0 _ (all_true ss a.1 h)

  module _ (ds : List Directive) (p : Path) (o : GraphOp T A) {x : Script Thing ⊤} (h : Trues x) where
    directives_true : (rest : List Directive) (ss : List (Script Thing ⊤ → Script Thing ⊤)) → AllTrue ss → Trues (directives_script ds p o rest ss x)
    directives_true [] ss a = h
    directives_true (format.operand i ∷ rest) ss a = value_true p i (slice_get o.operands i) (directives_true rest ss a)
    directives_true (format.operands ∷ rest) ss a = values_true p (length (operand_places ds)) (drop (length (operand_places ds)) o.operands) (directives_true rest ss a)
    directives_true (format.successor i ∷ rest) ss a = block_used p i (slice_get o.successors i) (directives_true rest ss a)
    directives_true (format.successors ∷ rest) ss a = blocks_used p (length (successor_places ds)) (drop (length (successor_places ds)) o.successors) (directives_true rest ss a)
    directives_true (format.region i ∷ rest) [] a = directives_true rest [] a
    directives_true (format.region i ∷ rest) (s ∷ ss) a = a.0 _ (directives_true rest ss a.1)
    directives_true (format.regions ∷ rest) ss a = all_true ss a (directives_true rest [] tt)
    directives_true (_ ∷ rest) ss a = directives_true rest ss a

  body_true : (f : Option Format) (p : Path) (o : GraphOp T A) (ss : List (Script Thing ⊤ → Script Thing ⊤)) {x : Script Thing ⊤} → AllTrue ss → Trues x → Trues (body_script f p o ss x)
  body_true None p o ss a h = values_true p 0 o.operands (blocks_used p 0 o.successors (all_true ss a h))
  body_true (Some format.canonical) p o ss a h = values_true p 0 o.operands (blocks_used p 0 o.successors (all_true ss a h))
  body_true (Some (format.custom ds)) p o ss a h = directives_true ds p o h ds ss a

  -- ---- the forest
  -- each object has the path that this list gives it
  abbrev Into : List (Object × Path) → Type 0
  Into xs = (o : Object) (q : Path) → Among (o, q) xs → path_of all o ≡ Some q

  module _ (text_of : A → Text) (C : Printing T A) (isolated : Id → Bool) where
    mutual
      regions_true : (p : Path) (j : ℕ) (iso : Bool) (ps : PtrRegions) (rs : Regions (GraphOp T A) (GraphBlock T A) ⊤) → SeenRegions c text_of all ps rs → Into (placed_regions p j ps) → AllTrue (graph_regions C isolated p j iso rs)
      regions_true p j iso no_regions no_regions s i = tt
      regions_true p j iso no_regions (forest.region r bs rs) s i = absurd s
      regions_true p j iso (forest.region r bs ps) no_regions s i = absurd s
      regions_true p j iso (forest.region r bs ps) (forest.region q cs rs) s i = (
        (λ x h. within_true iso (graph_blocks C isolated (j ∷ p) 0 cs) (blocks_true (j ∷ p) 0 bs cs s.1 (λ o q a. i o q (inr (among_left (o, q) (placed_blocks (j ∷ p) 0 bs) (placed_regions p (suc j) ps) a)))) h),
        regions_true p (suc j) iso ps rs s.2 (λ o q a. i o q (inr (among_right (o, q) (placed_blocks (j ∷ p) 0 bs) (placed_regions p (suc j) ps) a))),
      )

      -- what blocks say is true
      pub blocks_true : (p : Path) (k : ℕ) (ps : PtrBlocks) (bs : Blocks (GraphOp T A) (GraphBlock T A) ⊤) → SeenBlocks c text_of all ps bs → Into (placed_blocks p k ps) → Trues (graph_blocks C isolated p k bs)
      blocks_true p k no_blocks no_blocks s i = record { values = tt; labels = tt }
      blocks_true p k no_blocks (forest.block d os bs) s i = absurd s
      blocks_true p k (forest.block b qs ps) no_blocks s i = absurd s
      blocks_true p k (forest.block b qs ps) (forest.block d os bs) s i =
          let path = i (TheBlock b) (k ∷ p) (inl refl) in
          let later = blocks_true p (suc k) ps bs s.2 (λ o q a. i o q (inr (among_right (o, q) (placed_operations (k ∷ p) 0 qs) (placed_blocks p (suc k) ps) a))) in
          let inner = operations_true (k ∷ p) 0 qs os s.1 (λ o q a. i o q (inr (among_left (o, q) (placed_operations (k ∷ p) 0 qs) (placed_blocks p (suc k) ps) a))) later in
          let w = s.0.whole in
          let label : TrueLabel (defines (a_block d.place) (block_at (k ∷ p))) = (b, sym (ap (λ (z : GraphBlock T A). z.place) s.0.sees), ap (option_map block_at) path) in
          let labelled : Trues (does (define_label (spot (a_block d.place)) (block_at (k ∷ p))) (graph_operations C isolated (k ∷ p) 0 os (graph_blocks C isolated p (suc k) bs))) = record { values = inner.values; labels = (label, inner.labels) } in
          subst (λ (gs : List (ℕ × T)). Trues (does_all (defined_arguments (k ∷ p) 0 gs) (does (define_label (spot (a_block d.place)) (block_at (k ∷ p))) (graph_operations C isolated (k ∷ p) 0 os (graph_blocks C isolated p (suc k) bs))))) (sym (ap (λ (z : GraphBlock T A). z.arguments) s.0.sees))
          (arguments_true (k ∷ p) 0 (arguments c.graph b) w.types (sym (arguments_seen c b w.view w.is) ∙ w.known_as)
          (λ n t e. let m : 0 + n ≡ n = omega arith in (Argument b n, ap (option_map (λ (t : Typed (Option T)). t.number)) e, ap (option_map (λ (r : Path). argument r n)) path ∙ ap (λ (l : ℕ). Some (argument (k ∷ p) l)) (sym m))) labelled)

      operations_true : (p : Path) (k : ℕ) (ps : PtrOperations) (os : Operations (GraphOp T A) (GraphBlock T A) ⊤) → SeenOperations c text_of all ps os → Into (placed_operations p k ps) → {x : Script Thing ⊤} → Trues x → Trues (graph_operations C isolated p k os x)
      operations_true p k no_operations no_operations s i h = h
      operations_true p k no_operations (forest.operation o rs os) s i h = absurd s
      operations_true p k (forest.operation q qs ps) no_operations s i h = absurd s
      operations_true p k (forest.operation q qs ps) (forest.operation o rs os) s i {x = x} h =
          let path = i (TheOperation q) (k ∷ p) (inl refl) in
          let later = operations_true p (suc k) ps os s.2 (λ y r a. i y r (inr (among_right (y, r) (placed_regions (k ∷ p) 0 qs) (placed_operations p (suc k) ps) a))) h in
          let inner = regions_true (k ∷ p) 0 (isolated o.id) qs rs s.1 (λ y r a. i y r (inr (among_left (y, r) (placed_regions (k ∷ p) 0 qs) (placed_operations p (suc k) ps) a))) in
          let w = s.0.whole in
          let defined = results_true (k ∷ p) 0 (results c.graph q) w.types (sym (results_seen c q w.view w.is) ∙ w.known_as)
          (λ n t e. let m : 0 + n ≡ n = omega arith in (Result q n, ap (option_map (λ (t : Typed (Option T)). t.number)) e, ap (option_map (λ (r : Path). result r n)) path ∙ ap (λ (l : ℕ). Some (result (k ∷ p) l)) (sym m))) later in
          body_true (C.format_of o.id) (k ∷ p) o (graph_regions C isolated (k ∷ p) 0 (isolated o.id) rs) inner
          (subst (λ (gs : List (ℕ × T)). Trues (does_all (defined_results (k ∷ p) 0 gs) (graph_operations C isolated p (suc k) os x))) (sym (ap (λ (z : GraphOp T A). z.results) s.0.sees)) defined)
