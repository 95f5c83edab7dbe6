-- The values and blocks that a kept root mentions have the names and types that they had, since no two values have one number, and each older
-- object has its content.
use Rattle.std.proofs.Common.{◌≡◌, ◌∙◌, ◌+◌, ◌-◌, ◌∷◌, ℕ, suc, Bool, List, [], map, slice_get, filter_map, Option, Some, None, IsSome, IfSome, option_map, refl, sym, ap, subst, arith}
use Rattle.std.specs.Prelude.{⊤}
use Rattle.std.specs.List.{cons_option}
use Rattle.std.specs.Option.{option_and_then}
use Rattle.irtext_base.specs.Format.{Format, Id}
use Rattle.irtext_base.specs.Text.{Text}
use Rattle.irtext_context.specs.Context.{ContextView, OperationView, BlockView, operation, block, operation_of, block_of, view_of}
use Rattle.irtext_context.specs.declared.base.operation.OperationData.{OperationData}
use Rattle.irtext_context.proofs.Contexts.{OperationEntry, BlockEntry}
use Rattle.irtext_graph.specs.Content.{Typed}
use Rattle.irtext_graph.specs.Graph.{IsLive, content_of}
use Rattle.irtext_graph.specs.Parts.{results, arguments, operands, successors, value_at}
use Rattle.irtext_graph.specs.Store.{get}
use Rattle.irtext_graph.specs.declared.arena.Ptr.{Ptr}
use Rattle.irtext_graph.specs.declared.object.BasicBlock.{BasicBlock}
use Rattle.irtext_graph.specs.declared.object.Defined.TheVariants.{OfBlock}
use Rattle.irtext_graph.specs.declared.object.Object.TheVariants.{TheOperation, TheBlock}
use Rattle.irtext_graph.specs.declared.object.Operation.{Operation}
use Rattle.irtext_graph.specs.declared.object.Site.TheVariants.{AtSuccessor}
use Rattle.irtext_graph.specs.declared.object.Value.{Value}
use Rattle.irtext_graph.specs.declared.object.Value.TheVariants.{Result, Argument}
use Rattle.irtext_graph.proofs.Frames.{operation_content_same, block_content_same}
use Rattle.irtext_graph.proofs.Nests.{some_eq}
use Rattle.irtext_graph.proofs.Pointers.{ptr_same}
use Rattle.irtext_grammar.specs.ContextParts.{KeepsCounters}
use Rattle.irtext_grammar.specs.Contexts.Nested.{given_at, given_to, type_of, label_of, typed_number, number_of, place_of, seen_operation, seen_block, seen_regions, seen_blocks, seen_operations}
use Rattle.irtext_grammar.specs.Grammar.Forest as forest
use Rattle.irtext_grammar.specs.Grammar.Forest.{Regions, no_regions, region, Blocks, no_blocks, Operations, no_operations, AllRegions, AllBlocks, AllOperations}
use Rattle.irtext_grammar.specs.Graphs.Graph.{GraphOp, GraphBlock}
use Rattle.irtext_grammar.specs.UniqueNames.{given_name}
use Rattle.irtext_names.proofs.Ages.{here_is_live}
use Rattle.irtext_names.specs.Held.{PtrRegions, PtrBlocks, PtrOperations}
use Rattle.irtext_print_ops.proofs.ValuesByNumber.{given_by_number, type_by_number}
use Rattle.pliron_text.specs.Older.{KeepsRoot}
use Rattle.pliron_text.proofs.Older.{value_same, results_there, arguments_there}
use Rattle.pliron_text.proofs.SameText.{Every, OpSame, HeadSame}

-- ---- every element of what a function makes of a list
every_filter : {X Y : Type 0} (f : X → Option Y) (Q : Y → Type 0) (xs : List X) → ((i : ℕ) (x : X) → slice_get xs i ≡ Some x → (y : Y) → f x ≡ Some y → Q y) → Every Q (filter_map f xs)
every_filter f Q [] h = tt
every_filter {Y = Y} f Q (x ∷ xs) h = go (f x) refl (every_filter f Q xs (λ i y at. h (suc i) y at))
  where
    go : (o : Option Y) → f x ≡ o → Every Q (filter_map f xs) → Every Q (cons_option o (filter_map f xs))
    go None e later = later
    go (Some y) e later = (h 0 x refl y e, later)

every_image : {X Y : Type 0} (f : X → Y) (Q : Y → Type 0) (xs : List X) → ((i : ℕ) (x : X) → slice_get xs i ≡ Some x → Q (f x)) → Every Q (map f xs)
every_image f Q [] h = tt
every_image f Q (x ∷ xs) h = (h 0 x refl, every_image f Q xs (λ i y at. h (suc i) y at))

numbered_so : {T : Type 0} (t : Typed (Option T)) (r : ℕ × T) → typed_number t ≡ Some r → r.0 ≡ t.number
numbered_so {T = T} t r e = go t.of_type e
  where
    go : (o : Option T) → option_map (λ y. (t.number, y)) o ≡ Some r → r.0 ≡ t.number
    go None e = absurd (cc)
    go (Some y) e = sym (ap (λ z. z.0) (some_eq e))

-- ---- names by contents
result_named : {T A : Type 0} (i : ℕ) (e : Option (OperationEntry T A))
    → option_and_then (λ (op : OperationView T A). given_at i op.attributes) (option_and_then operation_of e) ≡ option_and_then (λ d. option_and_then (λ (held : OperationData A). given_at i held.attributes) d.1.data_of) (content_of e)
result_named i None = refl
result_named {T = T} {A = A} i (Some e) = go e.content.content.data_of
  where
    go : (d : Option (OperationData A)) → option_and_then (λ (op : OperationView T A). given_at i op.attributes) (option_map (view_of e.content.content.results e.content.children) d) ≡ option_and_then (λ (held : OperationData A). given_at i held.attributes) d
    go None = refl
    go (Some held) = refl

argument_named : {T A : Type 0} (i : ℕ) (e : Option (BlockEntry T A)) → option_and_then (λ (b : BlockView T A). given_at i b.attributes) (option_map block_of e) ≡ option_and_then (λ d. given_at i d.1.data_of.attributes) (content_of e)
argument_named i None = refl
argument_named i (Some e) = refl

labelled : {T A : Type 0} (e : Option (BlockEntry T A)) → option_and_then (λ (b : BlockView T A). b.label) (option_map block_of e) ≡ option_and_then (λ d. d.1.data_of.label) (content_of e)
labelled None = refl
labelled (Some e) = refl

module _ {T A : Type 0} (old new : ContextView T A) (root : Ptr Operation) (kept : KeepsRoot root old new) (before : KeepsCounters old.graph) (after : KeepsCounters new.graph) where
  result_name_same : (p : Ptr Operation) (i : ℕ) → IsSome (get old.graph.operations p) → given_name new (Result p i) ≡ given_name old (Result p i)
  result_name_same p i l =
      let same = operation_content_same old.graph new.graph p (kept.contents (TheOperation p) (here_is_live old.graph (TheOperation p) l)) in
      result_named i (get new.graph.operations p)
      ∙ ap (λ c. option_and_then (λ d. option_and_then (λ (held : OperationData A). given_at i held.attributes) d.1.data_of) c) same
      ∙ sym (result_named i (get old.graph.operations p))

  argument_name_same : (b : Ptr BasicBlock) (i : ℕ) → IsSome (get old.graph.blocks b) → given_name new (Argument b i) ≡ given_name old (Argument b i)
  argument_name_same b i l =
      let same = block_content_same old.graph new.graph b (kept.contents (TheBlock b) (here_is_live old.graph (TheBlock b) l)) in
      argument_named i (get new.graph.blocks b)
      ∙ ap (λ c. option_and_then (λ d. given_at i d.1.data_of.attributes) c) same
      ∙ sym (argument_named i (get old.graph.blocks b))

  -- a value that was there has its name
  name_same : (v : Value) → IsSome (value_at old.graph v) → given_name new v ≡ given_name old v
  name_same (Result p i) l = result_name_same p i (results_there old new root kept before.nested (get old.graph.operations p) i l)
  name_same (Argument b i) l = argument_name_same b i (arguments_there old new root kept before.nested (get old.graph.blocks b) i l)

  there_is : (v : Value) (t : Typed (Option T)) → value_at old.graph v ≡ Some t → IsSome (value_at old.graph v)
  there_is v t e = subst IsSome (sym e) refl

  value_is : (v : Value) (t : Typed (Option T)) → value_at old.graph v ≡ Some t → value_at new.graph v ≡ Some t
  value_is v t e = value_same old new root kept before.nested v (there_is v t e) ∙ e

  given_same : (v : Value) (t : Typed (Option T)) → value_at old.graph v ≡ Some t → given_to new t.number ≡ given_to old t.number
  given_same v t e =
      subst (λ o. IfSome o (λ t. given_to new t.number ≡ given_name new v)) (value_is v t e) (given_by_number new after.differ v)
      ∙ name_same v (there_is v t e)
      ∙ sym (subst (λ o. IfSome o (λ t. given_to old t.number ≡ given_name old v)) e (given_by_number old before.differ v))

  type_same : (v : Value) (t : Typed (Option T)) → value_at old.graph v ≡ Some t → type_of new t.number ≡ type_of old t.number
  type_same v t e =
      subst (λ o. IfSome o (λ t. type_of new t.number ≡ t.of_type)) (value_is v t e) (type_by_number new after.differ v)
      ∙ sym (subst (λ o. IfSome o (λ t. type_of old t.number ≡ t.of_type)) e (type_by_number old before.differ v))

  -- a block that was there has its label
  label_at_same : (b : Ptr BasicBlock) → IsLive old.graph (TheBlock b) → option_and_then (λ (v : BlockView T A). v.label) (block new b) ≡ option_and_then (λ (v : BlockView T A). v.label) (block old b)
  label_at_same b l =
      let same = block_content_same old.graph new.graph b (kept.contents (TheBlock b) l) in
      labelled (get new.graph.blocks b) ∙ ap (λ c. option_and_then (λ d. d.1.data_of.label) c) same ∙ sym (labelled (get old.graph.blocks b))

  label_same : (b : Ptr BasicBlock) → IsLive old.graph (TheBlock b) → label_of new (place_of old b) ≡ label_of old (place_of old b)
  label_same b l =
      let f = old.graph.first_place in
      let at : ContextView T A → ℕ → Option Text = λ c n. option_and_then (λ (v : BlockView T A). v.label) (block c (record { index = n; generation = b.generation; of = record {} })) in
      let back : (f + b.index) - f ≡ b.index = omega arith in
      let same : ◌≡◌ {A = Ptr BasicBlock} (record { index = b.index; generation = b.generation; of = record {} }) b = ptr_same (record { index = b.index; generation = b.generation; of = record {} }) b refl refl in
      ap (λ k. at new ((f + b.index) - k)) kept.counts.first_place
      ∙ ap (at new) back
      ∙ ap (λ q. option_and_then (λ (v : BlockView T A). v.label) (block new q)) same
      ∙ label_at_same b l
      ∙ sym (ap (λ q. option_and_then (λ (v : BlockView T A). v.label) (block old q)) same)
      ∙ sym (ap (at old) back)

  module _ (own_outlined own_once : A → Bool) (alike : A → A → Bool) (formats : Id → Option Format) (written : A → Text) where
    -- printing asks of both contexts
    abbrev Op : GraphOp T A → Type 0
    Op = OpSame own_outlined own_once alike formats (given_to old) (given_to new) (label_of old) (label_of new) (type_of old) (type_of new)

    abbrev Head : GraphBlock T A → Type 0
    Head = HeadSame own_outlined own_once alike formats (given_to old) (given_to new) (label_of old) (label_of new) (type_of old) (type_of new)

    -- what an operation mentions
    pub op_names : (p : Ptr Operation) (view : OperationView T A) → Op (seen_operation written old p view)
    op_names p view = record {
      results = every_filter typed_number (λ r. given_to new r.0 ≡ given_to old r.0) (results old.graph p) (λ i t at r e.
          subst (λ n. given_to new n ≡ given_to old n) (sym (numbered_so t r e)) (given_same (Result p i) t at));
      operands = every_filter (number_of old) (λ n. (given_to new n ≡ given_to old n) × (type_of new n ≡ type_of old n)) (operands old.graph p) (λ i v at n e. used v (value_at old.graph v) refl n e);
      successors = every_image (place_of old) (λ b. label_of new b ≡ label_of old b) (successors old.graph p) (λ i b at. label_same b (before.used (AtSuccessor p i) (OfBlock b) (ap (option_map OfBlock) at)));
    }
      where
        used : (v : Value) (o : Option (Typed (Option T))) → value_at old.graph v ≡ o → (n : ℕ) → option_map (λ t. t.number) o ≡ Some n → (given_to new n ≡ given_to old n) × (type_of new n ≡ type_of old n)
        used v None e n f = absurd (cc)
        used v (Some t) e n f = subst (λ n. (given_to new n ≡ given_to old n) × (type_of new n ≡ type_of old n)) (some_eq f) (given_same v t e, type_same v t e)

    -- what the head of a block mentions
    pub head_names : (b : Ptr BasicBlock) (view : BlockView T A) → block old b ≡ Some view → Head (seen_block written old b view)
    head_names b view is = record {
      own = label_same b (here_is_live old.graph (TheBlock b) (entry_of (get old.graph.blocks b) is));
      arguments = every_filter typed_number (λ r. given_to new r.0 ≡ given_to old r.0) (arguments old.graph b) (λ i t at r e.
          subst (λ n. given_to new n ≡ given_to old n) (sym (numbered_so t r e)) (given_same (Argument b i) t at));
    }
      where
        entry_of : (e : Option (BlockEntry T A)) → option_map block_of e ≡ Some view → IsSome e
        entry_of None h = absurd (cc)
        entry_of (Some e) h = refl

    one_operation : (p : Ptr Operation) (v : Option (OperationView T A)) (rs : Regions (GraphOp T A) (GraphBlock T A) ⊤) (os : Operations (GraphOp T A) (GraphBlock T A) ⊤) → AllRegions Op Head (λ r. ⊤) rs → AllOperations Op Head (λ r. ⊤) os
        → AllOperations Op Head (λ r. ⊤) (elim v [ Some view ↦ forest.operation (seen_operation written old p view) rs os | None ↦ os ])
    one_operation p None rs os x y = y
    one_operation p (Some view) rs os x y = (op_names p view, x, y)

    one_block : (b : Ptr BasicBlock) (v : Option (BlockView T A)) → block old b ≡ v → (os : Operations (GraphOp T A) (GraphBlock T A) ⊤) (bs : Blocks (GraphOp T A) (GraphBlock T A) ⊤) → AllOperations Op Head (λ r. ⊤) os → AllBlocks Op Head (λ r. ⊤) bs
        → AllBlocks Op Head (λ r. ⊤) (elim v [ Some view ↦ forest.block (seen_block written old b view) os bs | None ↦ bs ])
    one_block b None is os bs x y = y
    one_block b (Some view) is os bs x y = (head_names b view is, x, y)

    -- everything nested
    mutual
      pub regions_names : (rs : PtrRegions) → AllRegions Op Head (λ r. ⊤) (seen_regions written old rs)
      regions_names no_regions = tt
      regions_names (region r bs rs) = (tt, blocks_names bs, regions_names rs)

      blocks_names : (bs : PtrBlocks) → AllBlocks Op Head (λ r. ⊤) (seen_blocks written old bs)
      blocks_names no_blocks = tt
      blocks_names (forest.block b os bs) = one_block b (block old b) refl (seen_operations written old os) (seen_blocks written old bs) (operations_names os) (blocks_names bs)

      operations_names : (os : PtrOperations) → AllOperations Op Head (λ r. ⊤) (seen_operations written old os)
      operations_names no_operations = tt
      operations_names (forest.operation p rs os) = one_operation p (operation old p) (seen_regions written old rs) (seen_operations written old os) (regions_names rs) (operations_names os)
