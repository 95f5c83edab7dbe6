-- An operation whose data were written leaves defined what is defined, in place what is in place, and waiting what waits.
use Rattle.std.proofs.Common.{◌≡◌, ◌∙◌, inl, inr, ℕ, List, Option, Some, None, IsSome, length, map, arith, refl, sym, ap, subst}
use Rattle.std.specs.Prelude.{option_and_then}
use Rattle.std.specs.Option.{option_map}
use Rattle.irtext_context.specs.Context.{ContextView, operation, operation_of, view_of, block_of, EditsOperation}
use Rattle.irtext_context.specs.declared.base.block.BlockData.{BlockData}
use Rattle.irtext_context.specs.declared.base.operation.OperationData.{OperationData}
use Rattle.irtext_graph.specs.declared.arena.Ptr.{Ptr}
use Rattle.irtext_graph.specs.declared.arena.Entry.{Entry}
use Rattle.irtext_graph.specs.declared.object.Operation.{Operation}
use Rattle.irtext_graph.specs.declared.object.BasicBlock.{BasicBlock}
use Rattle.irtext_graph.specs.declared.object.Region.{Region}
use Rattle.irtext_graph.specs.declared.object.Object.{Object}
use Rattle.irtext_graph.specs.declared.object.Object.TheVariants.{TheOperation, TheBlock, TheRegion}
use Rattle.irtext_graph.specs.Content.{Node, Content, OperationContent, BlockContent, RegionContent, AnOperation, ABlock, ARegion}
use Rattle.irtext_graph.specs.Data as graphs
use Rattle.irtext_graph.specs.Data.{with_data}
use Rattle.irtext_graph.specs.Graph.{GraphView, content, content_of, parent, parent_of, children, children_of}
use Rattle.irtext_graph.specs.Objects.{is_older}
use Rattle.irtext_graph.specs.Parts.{operation_at, operands_of, successors_of, results, results_of}
use Rattle.irtext_graph.specs.Store.{get, object_of}
use Rattle.irtext_graph.proofs.Nests.{same_or_other}
use Rattle.irtext_graph.proofs.Same.{ptr_tells}
use Rattle.irtext_parse_state.specs.States.{marks_of}
use Rattle.irtext_parse_state.specs.declared.parsable.state.State as code
use Rattle.irtext_grammar.specs.Names.History.{Outcome}
use Rattle.irtext_grammar.specs.Names.Script.{Path}
use Rattle.irtext_names.specs.Tied.{MatchesGraph}
use Rattle.irtext_names.specs.Items.{Made, Names, Pledge, MachineAgrees, KeepsLive, IsSound}
use Rattle.irtext_parse_nested.proofs.NamesLeft.{LeavesNames, sound_left, agrees_left}

module _ {O B T : Type 0} (g k : GraphView (Option O) B T) (op : Ptr Operation) (change : O → O) (edits : graphs.EditsOperation g k op (option_map change)) where
  abbrev Stored : Type 0
  Stored = Option (Entry (Node BasicBlock Region (OperationContent (Option O) T)))

  -- a block, as what an object is
  abbrev a_block : ℕ × BlockContent B T → Content (Option O) B T
  a_block d = ABlock d.0 d.1

  -- an entry with the data changed
  abbrev written : Stored → Stored
  written e = option_map (object_of (with_data (option_map change))) e

  -- what does not look at an operation's data sees what it saw
  seen_same : {X : Type 0} (f : Stored → X) → ((e : Stored) → f (written e) ≡ f e) → (p : Ptr Operation) → f (get k.operations p) ≡ f (get g.operations p)
  seen_same f same p = elim (same_or_other ptr_tells p op) [
    | inl e ↦ ap (λ q. f (get k.operations q)) e ∙ (ap f edits.operations.updates.changed ∙ (same (get g.operations op) ∙ ap (λ q. f (get g.operations q)) (sym e)))
    | inr n ↦ ap f (edits.operations.updates.others p n)
  ]

  -- and so does what looks at its content
  view_same : {X : Type 0} (f : Option (OperationContent (Option O) T) → X) → ((e : Entry (Node BasicBlock Region (OperationContent (Option O) T))) → f (option_map (λ e. e.content.content) (written (Some e))) ≡ f (Some e.content.content)) → (p : Ptr Operation) → f (operation_at k p) ≡ f (operation_at g p)
  view_same f same p = seen_same (λ e. f (option_map (λ e. e.content.content) e)) (elim [ None ↦ refl | Some e ↦ same e ]) p

  pub results_same : (p : Ptr Operation) → results k p ≡ results g p
  results_same = view_same results_of (λ e. refl)

  operands_same : (p : Ptr Operation) → operands_of (operation_at k p) ≡ operands_of (operation_at g p)
  operands_same = view_same operands_of (λ e. refl)

  successors_same : (p : Ptr Operation) → successors_of (operation_at k p) ≡ successors_of (operation_at g p)
  successors_same = view_same successors_of (λ e. refl)

  -- the data of an operation, and whether it has any
  data_seen : Stored → Option (Option O)
  data_seen e = option_map (λ e. e.content.content.data_of) e

  data_is : (p : Ptr Operation) (h : GraphView (Option O) B T) → option_map (λ c. c.data_of) (operation_at h p) ≡ data_seen (get h.operations p)
  unfolding data_seen
  data_is p h = go (get h.operations p)
    where
      go : (e : Stored) → option_map (λ c. c.data_of) (option_map (λ e. e.content.content) e) ≡ option_map (λ e. e.content.content.data_of) e
      go None = refl
      go (Some e) = refl

  blank_written : (e : Stored) → data_seen e ≡ Some None → data_seen (written e) ≡ Some None
  unfolding data_seen
  blank_written None h = h
  blank_written (Some e) h = go e.content.content.data_of h
    where
      go : (d : Option O) → Some d ≡ Some None → Some (option_map change d) ≡ Some None
      go None f = refl
      go (Some x) f = absurd (cc)

  written_blank : (e : Stored) → data_seen (written e) ≡ Some None → data_seen e ≡ Some None
  unfolding data_seen
  written_blank None h = h
  written_blank (Some e) h = go e.content.content.data_of h
    where
      go : (d : Option O) → Some (option_map change d) ≡ Some None → Some d ≡ Some None
      go None f = refl
      go (Some x) f = absurd (cc)

  has_written : (e : Stored) (x : O) → data_seen e ≡ Some (Some x) → (y : O) × (data_seen (written e) ≡ Some (Some y))
  unfolding data_seen
  has_written None x h = absurd (cc)
  has_written (Some e) x h = go e.content.content.data_of h
    where
      go : (d : Option O) → Some d ≡ Some (Some x) → (y : O) × (Some (option_map change d) ≡ Some (Some y))
      go None f = absurd (cc)
      go (Some z) f = (change z, refl)

  blank_operation : (p : Ptr Operation) → data_seen (get g.operations p) ≡ Some None → data_seen (get k.operations p) ≡ Some None
  blank_operation p h = elim (same_or_other ptr_tells p op) [
    | inl e ↦ ap (λ q. data_seen (get k.operations q)) e ∙ (ap data_seen edits.operations.updates.changed ∙ blank_written (get g.operations op) (ap (λ q. data_seen (get g.operations q)) (sym e) ∙ h))
    | inr n ↦ ap data_seen (edits.operations.updates.others p n) ∙ h
  ]

  was_blank_operation : (p : Ptr Operation) → data_seen (get k.operations p) ≡ Some None → data_seen (get g.operations p) ≡ Some None
  was_blank_operation p h = elim (same_or_other ptr_tells p op) [
    | inl e ↦ ap (λ q. data_seen (get g.operations q)) e ∙ written_blank (get g.operations op) (ap data_seen (sym edits.operations.updates.changed) ∙ (ap (λ q. data_seen (get k.operations q)) (sym e) ∙ h))
    | inr n ↦ ap data_seen (sym (edits.operations.updates.others p n)) ∙ h
  ]

  -- an operation that has data has data
  has_operation : (p : Ptr Operation) (x : O) → data_seen (get g.operations p) ≡ Some (Some x) → (y : O) × (data_seen (get k.operations p) ≡ Some (Some y))
  has_operation p x h = elim (same_or_other ptr_tells p op) [
    | inl e ↦ let r = has_written (get g.operations op) x (ap (λ q. data_seen (get g.operations q)) (sym e) ∙ h) in (r.0, ap (λ q. data_seen (get k.operations q)) e ∙ (ap data_seen edits.operations.updates.changed ∙ r.1))
    | inr n ↦ (x, ap data_seen (edits.operations.updates.others p n) ∙ h)
  ]

  pub still_has : (p : Ptr Operation) (x : O) → option_map (λ c. c.data_of) (operation_at g p) ≡ Some (Some x) → (y : O) × (option_map (λ c. c.data_of) (operation_at k p) ≡ Some (Some y))
  still_has p x h = let r = has_operation p x (sym (data_is p g) ∙ h) in (r.0, data_is p k ∙ r.1)

  parent_same : (p : Ptr Operation) → parent k (TheOperation p) ≡ parent g (TheOperation p)
  parent_same p = ap (option_map TheBlock) (seen_same parent_of (elim [ None ↦ refl | Some e ↦ refl ]) p)

  children_same : (p : Ptr Operation) → children k (TheOperation p) ≡ children g (TheOperation p)
  children_same p = ap (map TheRegion) (seen_same children_of (elim [ None ↦ refl | Some e ↦ refl ]) p)

  -- each object is as old as it was
  pub age_same : (m : ℕ) (q : Object) → is_older m (content k q) ≡ is_older m (content g q)
  age_same m (TheOperation p) = seen_same (λ e. is_older {O = Option O} {B = B} {T = T} m (option_map (λ d. AnOperation d.0 d.1) (content_of e))) go p
    where
      go : (e : Stored) → is_older {O = Option O} {B = B} {T = T} m (option_map (λ d. AnOperation d.0 d.1) (content_of (written e))) ≡ is_older {O = Option O} {B = B} {T = T} m (option_map (λ d. AnOperation d.0 d.1) (content_of e))
      go None = refl
      go (Some e) = refl
  age_same m (TheBlock b) = ap (λ s. is_older {O = Option O} {B = B} {T = T} m (option_map (λ d. ABlock d.0 d.1) (content_of (get s b)))) edits.blocks
  age_same m (TheRegion r) = ap (λ s. is_older {O = Option O} {B = B} {T = T} m (option_map (λ d. ARegion d.0 d.1) (content_of (get s r)))) edits.regions

  pub edited_leaves : LeavesNames g k
  edited_leaves = record {
    blocks = edits.blocks;
    results = results_same;
    operands = operands_same;
    successors = successors_same;
    blank = λ p h. data_is p k ∙ blank_operation p (sym (data_is p g) ∙ h);
    was_blank = λ p h. data_is p g ∙ was_blank_operation p (sym (data_is p k) ∙ h);
    has = still_has;
    parents = parent_same;
    children = λ p h. children_same p;
    ages = λ m p. age_same m (TheOperation p);
  }

-- ---- an operation of a context
module _ {T A : Type 0} (old new : ContextView T A) (op : Ptr Operation) (change : OperationData A → OperationData A) (edits : EditsOperation old new op change) where
  -- a region, as what an object is
  abbrev a_region : ℕ × RegionContent → Content (Option (OperationData A)) (BlockData A) (Option T)
  a_region d = ARegion d.0 d.1

  -- what is seen of an operation is there still
  still_seen : (p : Ptr Operation) → IsSome (operation old p) → IsSome (operation new p)
  still_seen p h = elim (same_or_other ptr_tells p op) [
    | inl e ↦ subst (λ q. IsSome (operation new q)) (sym e) (subst (λ x. IsSome (option_and_then operation_of x)) (sym edits.graph.operations.updates.changed) (go (get old.graph.operations op) (subst (λ q. IsSome (operation old q)) e h)))
    | inr n ↦ subst (λ x. IsSome (option_and_then operation_of x)) (sym (edits.graph.operations.updates.others p n)) h
  ]
    where
      mapped : {Y : Type 0} (h : OperationData A → Y) (d : Option (OperationData A)) → IsSome (option_map h d) → IsSome (option_map h (option_map change d))
      mapped h None s = absurd (cc)
      mapped h (Some x) s = refl

      go : (e : Option (Entry (Node BasicBlock Region (OperationContent (Option (OperationData A)) (Option T))))) → IsSome (option_and_then operation_of e) → IsSome (option_and_then operation_of (option_map (object_of (with_data (option_map change))) e))
      go None s = absurd (cc)
      go (Some e) s = mapped (view_of e.content.content.results e.content.children) e.content.content.data_of s

  -- the open objects are still live
  pub edited_lasts : KeepsLive old new
  edited_lasts = record {
    operations = still_seen;
    results = λ p h. ap length (results_same old.graph new.graph op change edits.graph p);
    blocks = λ b h s. (
      subst (λ z. IsSome (option_map block_of (get z b))) (sym edits.graph.blocks) h,
      ap (λ z. option_map TheRegion (parent_of (get z b))) edits.graph.blocks,
    );
    regions = λ r s. subst (λ z. IsSome (option_map a_region (content_of (get z r)))) (sym edits.graph.regions) s;
    newer = λ m q le n. age_same old.graph new.graph op change edits.graph m q ∙ n;
    made = let e = edits.graph.made in omega (arith, e);
    dialects = edits.dialects;
  }

  module _ {U : Type 0} (names : Names) (s z : code.State T A U) (e : s.ctx.now ≡ old) (f : z.ctx.now ≡ new) where
    -- names wait for what they waited
    pub edited_sound : (m : ℕ) → IsSound m names s → IsSound m names z
    edited_sound m h = sound_left old new (edited_leaves old.graph new.graph op change edits.graph) names s z e f m h

    -- names, graph and marks agree with the state of the machine
    pub edited_agrees : {path : ℕ → Path} {items : Made} {pledges : List Pledge} {o : Outcome} → marks_of z ≡ marks_of s → MatchesGraph names.values names.labels old.graph → MachineAgrees path items pledges names s o → MachineAgrees path items pledges names z o
    edited_agrees same tied h = agrees_left old new (edited_leaves old.graph new.graph op change edits.graph) names s z e f same tied h
