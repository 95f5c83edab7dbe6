-- Edits of data in the other order, and an edit that is taken back.
use Rattle.std.proofs.Common.{◌≡◌, ◌≢◌, ◌∙◌, inl, inr, ℕ, refl, sym, ap, subst, Bool, true, false, cond, nat_lt, Option, Some, None}
use Rattle.std.specs.Option.{option_map}
use Rattle.irtext_context.specs.Context.{ContextView, EditsOperation, EditsBlock}
use Rattle.irtext_context.specs.declared.base.block.BlockData.{BlockData}
use Rattle.irtext_context.specs.declared.base.operation.OperationData.{OperationData}
use Rattle.irtext_graph.specs.Arena.{older}
use Rattle.irtext_graph.specs.Content.{Node, OperationContent, BlockContent}
use Rattle.irtext_graph.specs.Data.{edited_at, with_object, with_data, with_block}
use Rattle.irtext_graph.specs.Store.{Store, Edits, get, before, object_of}
use Rattle.irtext_graph.specs.declared.arena.Entry.{Entry}
use Rattle.irtext_graph.specs.declared.arena.Ptr.{Ptr}
use Rattle.irtext_graph.specs.declared.object.BasicBlock.{BasicBlock}
use Rattle.irtext_graph.specs.declared.object.Operation.{Operation}
use Rattle.irtext_graph.specs.declared.object.Region.{Region}
use Rattle.irtext_graph.proofs.Data.{edits_at}
use Rattle.irtext_graph.proofs.Pointers.{ptr_or}
use Rattle.irtext_parse_locations.proofs.Edits.{rest_same, rest_twice, operation_rest, block_rest, operation_edit, block_edit}

-- ---- one kind of objects
module _ {X : Type 0} where
  -- an edit of one object, whether it is live or not
  pub edits_there : {K : Type 0} (s : Store X) (p : Ptr K) (change : X → X) → Edits s (edited_at s p change) p change
  edits_there {K} s p change = go (get s p) refl
    where
      go : (t : Option (Entry X)) → get s p ≡ t → Edits s (with_object t s p change) p change
      go None e = record {
        updates = record { changed = e ∙ sym (ap (option_map (object_of change)) e); others = λ q n. refl };
        generations = λ i. refl;
        free = refl;
        len = refl;
      }
      go (Some o) e = subst (λ t. Edits s (with_object t s p change) p change) e (edits_at s p o change e)

  module _ {K : Type 0} (a b c : Store X) (p q : Ptr K) (f h : X → X) (one : Edits a b p f) (two : Edits b c q h) (same : (x : X) → h (f x) ≡ f (h x)) where
    abbrev second_first : Store X
    second_first = edited_at a q h

    first : Edits a second_first q h
    first = edits_there a q h

    both : (s : Option (Entry X)) → option_map (object_of h) (option_map (object_of f) s) ≡ option_map (object_of f) (option_map (object_of h) s)
    both None = refl
    both (Some e) = ap (λ x. Some (record { born = e.born; content = x })) (same e.content)

    here : get c p ≡ option_map (object_of f) (get second_first p)
    here = elim (ptr_or p q) [
      | inl e ↦ ap (get c) e
          ∙ (two.updates.changed
          ∙ (ap (λ z. option_map (object_of h) (get b z)) (sym e)
          ∙ (ap (option_map (object_of h)) one.updates.changed
          ∙ (both (get a p)
          ∙ (ap (λ z. option_map (object_of f) (option_map (object_of h) (get a z))) e
          ∙ (ap (option_map (object_of f)) (sym first.updates.changed)
          ∙ ap (λ z. option_map (object_of f) (get second_first z)) (sym e)))))))
      | inr n ↦ two.updates.others p n ∙ (one.updates.changed ∙ ap (option_map (object_of f)) (sym (first.updates.others p n)))
    ]

    there : (r : Ptr K) → r ≢ p → get c r ≡ get second_first r
    there r n = elim (ptr_or r q) [
      | inl e ↦ ap (get c) e
          ∙ (two.updates.changed
          ∙ (ap (λ z. option_map (object_of h) (get b z)) (sym e)
          ∙ (ap (option_map (object_of h)) (one.updates.others r n)
          ∙ (ap (λ z. option_map (object_of h) (get a z)) e
          ∙ (sym first.updates.changed
          ∙ ap (get second_first) (sym e))))))
      | inr m ↦ two.updates.others r m ∙ (one.updates.others r n ∙ sym (first.updates.others r m))
    ]

    -- the second of two edits comes first
    pub swapped : Edits second_first c p f
    swapped = record {
      updates = record { changed = here; others = there };
      generations = λ i. two.generations i ∙ (one.generations i ∙ sym (first.generations i));
      free = two.free ∙ (one.free ∙ sym first.free);
      len = two.len ∙ (one.len ∙ sym first.len);
    }

  older_changed : (f : X → X) (mark : ℕ) (s : Option (Entry X)) → older mark (option_map (object_of f) s) ≡ option_map (object_of f) (older mark s)
  older_changed f mark None = refl
  older_changed f mark (Some x) = go (nat_lt x.born mark)
    where
      go : (t : Bool) → cond t (Some (object_of f x)) None ≡ option_map (object_of f) (cond t (Some x) None)
      go true = refl
      go false = refl

  -- older objects are as they were before an edit once it is undone
  pub taken_back : {K : Type 0} (mark : ℕ) (a b c d : Store X) (p : Ptr K) (f h : X → X) → Edits a b p f → ((q : Ptr K) → before mark c q ≡ before mark b q) → Edits c d p h
      → ((x : Entry X) → get a p ≡ Some x → h (f x.content) ≡ x.content) → (q : Ptr K) → before mark d q ≡ before mark a q
  taken_back {K} mark a b c d p f h one kept two back q = elim (ptr_or q p) [
    | inl e ↦ ap (before mark d) e ∙ (here ∙ ap (before mark a) (sym e))
    | inr n ↦ ap (older mark) (two.updates.others q n) ∙ (kept q ∙ ap (older mark) (one.updates.others q n))
  ]
    where
      restored : (s : Option (Entry X)) → get a p ≡ s → option_map (object_of h) (option_map (object_of f) (older mark s)) ≡ older mark s
      restored None e = refl
      restored (Some x) e = go (nat_lt x.born mark)
        where
          go : (t : Bool) → option_map (object_of h) (option_map (object_of f) (cond t (Some x) None)) ≡ cond t (Some x) None
          go true = ap (λ y. Some (record { born = x.born; content = y })) (back x e)
          go false = refl

      here : before mark d p ≡ before mark a p
      here = ap (older mark) two.updates.changed
          ∙ (older_changed h mark (get c p)
          ∙ (ap (option_map (object_of h)) (kept p ∙ (ap (older mark) one.updates.changed ∙ older_changed f mark (get a p)))
          ∙ restored (get a p) refl))

-- ---- contexts
module _ {T A : Type 0} (a b c : ContextView T A) where
  module _ (p q : Ptr Operation) (f h : OperationData A → OperationData A) (one : EditsOperation a b p f) (two : EditsOperation b c q h) (same : (x : OperationData A) → h (f x) ≡ f (h x)) where
    same_data : (o : Option (OperationData A)) → option_map h (option_map f o) ≡ option_map f (option_map h o)
    same_data None = refl
    same_data (Some x) = ap (λ y. Some y) (same x)

    same_node : (n : Node BasicBlock Region (OperationContent (Option (OperationData A)) (Option T))) → with_data (option_map h) (with_data (option_map f) n) ≡ with_data (option_map f) (with_data (option_map h) n)
    same_node n = ap (λ d. record n { content = record n.content { data_of = d } }) (same_data n.content.data_of)

    -- the second of two edits of operations comes first
    pub operations_swapped : (m : ContextView T A) × EditsOperation a m q h × EditsOperation m c p f
    operations_swapped =
        let m : ContextView T A = record a { graph = record a.graph { operations = edited_at a.graph.operations q (with_data (option_map h)) } } in (
          m,
          operation_edit a m q h (edits_there a.graph.operations q (with_data (option_map h))) refl (rest_same a),
          operation_edit m c p f (swapped a.graph.operations b.graph.operations c.graph.operations p q (with_data (option_map f)) (with_data (option_map h)) one.graph.operations two.graph.operations same_node)
              (two.graph.blocks ∙ one.graph.blocks) (rest_twice a b c (operation_rest a b p f one) (operation_rest b c q h two)),
        )

  module _ (p q : Ptr BasicBlock) (f h : BlockData A → BlockData A) (one : EditsBlock a b p f) (two : EditsBlock b c q h) (same : (x : BlockData A) → h (f x) ≡ f (h x)) where
    same_block : (n : Node Region Operation (BlockContent (BlockData A) (Option T))) → with_block h (with_block f n) ≡ with_block f (with_block h n)
    same_block n = ap (λ d. record n { content = record n.content { data_of = d } }) (same n.content.data_of)

    -- the second of two edits of blocks comes first
    pub blocks_swapped : (m : ContextView T A) × EditsBlock a m q h × EditsBlock m c p f
    blocks_swapped =
        let m : ContextView T A = record a { graph = record a.graph { blocks = edited_at a.graph.blocks q (with_block h) } } in (
          m,
          block_edit a m q h refl (edits_there a.graph.blocks q (with_block h)) (rest_same a),
          block_edit m c p f (two.graph.operations ∙ one.graph.operations) (swapped a.graph.blocks b.graph.blocks c.graph.blocks p q (with_block f) (with_block h) one.graph.blocks two.graph.blocks same_block)
              (rest_twice a b c (block_rest a b p f one) (block_rest b c q h two)),
        )

  -- an edit of a block comes before one of an operation
  pub block_first : (p : Ptr Operation) (q : Ptr BasicBlock) (f : OperationData A → OperationData A) (h : BlockData A → BlockData A) → EditsOperation a b p f → EditsBlock b c q h
      → (m : ContextView T A) × EditsBlock a m q h × EditsOperation m c p f
  block_first p q f h one two =
      let m : ContextView T A = record a { graph = record a.graph { blocks = c.graph.blocks } } in (
        m,
        block_edit a m q h refl (subst (λ s. Edits s c.graph.blocks q (with_block h)) one.graph.blocks two.graph.blocks) (rest_same a),
        operation_edit m c p f (subst (λ s. Edits a.graph.operations s p (with_data (option_map f))) (sym two.graph.operations) one.graph.operations) refl (rest_twice a b c (operation_rest a b p f one) (block_rest b c q h two)),
      )

  -- an edit of an operation comes before one of a block
  pub operation_first : (p : Ptr BasicBlock) (q : Ptr Operation) (f : BlockData A → BlockData A) (h : OperationData A → OperationData A) → EditsBlock a b p f → EditsOperation b c q h
      → (m : ContextView T A) × EditsOperation a m q h × EditsBlock m c p f
  operation_first p q f h one two =
      let m : ContextView T A = record a { graph = record a.graph { operations = c.graph.operations } } in (
        m,
        operation_edit a m q h (subst (λ s. Edits s c.graph.operations q (with_data (option_map h))) one.graph.operations two.graph.operations) refl (rest_same a),
        block_edit m c p f refl (subst (λ s. Edits a.graph.blocks s p (with_block f)) (sym two.graph.blocks) one.graph.blocks) (rest_twice a b c (block_rest a b p f one) (operation_rest b c q h two)),
      )
