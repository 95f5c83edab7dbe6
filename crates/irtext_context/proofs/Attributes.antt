-- Attributes that are borrowed for writing: what the context holds once the borrow has ended, and what is unchanged.
use Rattle.std.proofs.Common.{◌≡◌, ◌∙◌, ℕ, refl, sym, ap, subst, List, Option, None, Some, Result, OnOk, OnErr}
use Rattle.std.proofs.lemmas.Result.{on_ok_weaker, on_err_weaker}
use Rattle.std.specs.Option.{option_map}
use Rattle.std.specs.Prelude.{option_and_then}
use Rattle.std.specs.Str.{bytes_eq}
use Rattle.indexmap.specs.IndexMap.{insert_entry}
use Rattle.irtext_base.specs.Text.{Text}
use Rattle.irtext_base.proofs.Results.{either_way}
use Rattle.irtext_base.specs.declared.base.attributes.AttrObj.{AttrObj}
use Rattle.irtext_graph.specs.Data as edits
use Rattle.irtext_graph.specs.Data.{with_object, with_data, with_block, with_operation_data, with_block_data}
use Rattle.irtext_graph.specs.Parts.{operation_at, block_at}
use Rattle.irtext_graph.specs.Store.{get, before}
use Rattle.irtext_graph.specs.declared.arena.Ptr.{Ptr}
use Rattle.irtext_graph.specs.declared.object.BasicBlock.{BasicBlock}
use Rattle.irtext_graph.specs.declared.object.Operation.{Operation}
use Rattle.irtext_graph.proofs.Data.{edited, unedited, edited_block, unedited_block}
use Rattle.irtext_graph.proofs.Nests.{some_eq}
use Rattle.irtext_context.specs.Context.{ContextView, operation, operation_of, view_of, block, block_of, with_attribute, with_attributes, with_block_attribute, with_block_attributes, with_changed_operation, with_changed_block, EditsOperation, EditsBlock, KeepsOlder}
use Rattle.irtext_context.specs.declared.base.block.BlockData.{BlockData}
use Rattle.irtext_context.specs.declared.base.operation.OperationData.{OperationData}
use Rattle.irtext_context.proofs.Contexts.{OperationEntry, BlockEntry, edits-keeps, edits_block-keeps, same-keeps}

-- the data x of an object are borrowed: how the state c is once other data are written, and that a change is an edit of that object alone
record IsBorrowed {C X : Type 0} (x : X) (c : C) (after : (X → X) → C) (Edits : C → (X → X) → Type 0) : Type 0 where
  pub write : X → C
  pub changed : (f : X → X) → write (f x) ≡ after f
  pub edits : (f : X → X) → Edits (after f) f
  pub same : write x ≡ c

module _ {C X A : Type 0} {x : X} {c : C} {after : (X → X) → C} {Edits : C → (X → X) → Type 0} (b : IsBorrowed x c after Edits) (entries : X → List (Text × AttrObj A)) (with_entries : List (Text × AttrObj A) → X → X)
    (w a : List (Text × AttrObj A)) (is : entries x ≡ w) where
  -- attributes with one more are written back: that one was put in
  entry_put : (key : Text) (attr : AttrObj A) → a ≡ insert_entry bytes_eq w key attr → Edits (after (with_entries a)) (λ y. with_entries (insert_entry bytes_eq (entries y) key attr) y)
  entry_put key attr e =
      let put : X → X = λ y. with_entries (insert_entry bytes_eq (entries y) key attr) y in
      subst (λ new. Edits new put) (sym (sym (b.changed (with_entries a)) ∙ ap (λ l. b.write (with_entries l x)) (e ∙ ap (λ l. insert_entry bytes_eq l key attr) (sym is)) ∙ b.changed put)) (b.edits put)

  -- attributes are written back as they are: nothing changed
  entries_back : with_entries (entries x) x ≡ x → a ≡ w → after (with_entries a) ≡ c
  entries_back back e = sym (b.changed (with_entries a)) ∙ ap (λ l. b.write (with_entries l x)) (e ∙ sym is) ∙ ap b.write back ∙ b.same

  -- one was put in, or none could be: so the state is an edit, or as it was, and keeps what it keeps in both cases
  entry_set : (key : Text) (attr : AttrObj A) {E : Type 0} (r : Result (Unit {0}) E) → OnOk r (a ≡ insert_entry bytes_eq w key attr) → OnErr r (a ≡ w) → with_entries (entries x) x ≡ x → (Keeps : C → Type 0)
      → ((new : C) → Edits new (λ y. with_entries (insert_entry bytes_eq (entries y) key attr) y) → Keeps new) → ((new : C) → new ≡ c → Keeps new)
      → OnOk r (Edits (after (with_entries a)) (λ y. with_entries (insert_entry bytes_eq (entries y) key attr) y)) × OnErr r (after (with_entries a) ≡ c) × Keeps (after (with_entries a))
  entry_set key attr r put same back Keeps edit_keeps same_keeps =
      let edited = on_ok_weaker r (entry_put key attr) put in
      let unchanged = on_err_weaker r (entries_back back) same in
      (edited, unchanged, either_way r (edit_keeps (after (with_entries a))) (same_keeps (after (with_entries a))) edited unchanged)

module _ {T A : Type 0} (c : ContextView T A) where
  module _ (p : Ptr Operation) where
    -- the context holds this of an operation
    abbrev pub Holds : Option (OperationData A) → Type 0
    Holds held = option_map (λ x. x.data_of) (operation_at c.graph p) ≡ Some held

    -- what it holds is seen
    pub held_seen : (held : Option (OperationData A)) → Holds held → option_map (λ op. op.attributes) (operation c p) ≡ option_map (λ op. op.attributes) held
    held_seen held e = go (get c.graph.operations p) e
      where
        inner : (x : OperationEntry T A) (d : Option (OperationData A)) → option_map (λ op. op.attributes) (option_map (view_of x.content.content.results x.content.children) d) ≡ option_map (λ op. op.attributes) d
        inner x None = refl
        inner x (Some d) = refl

        go : (s : Option (OperationEntry T A)) → option_map (λ x. x.data_of) (option_map (λ x. x.content.content) s) ≡ Some held
            → option_map (λ op. op.attributes) (option_and_then operation_of s) ≡ option_map (λ op. op.attributes) held
        go None h = absurd (cc)
        go (Some x) h = inner x x.content.content.data_of ∙ ap (option_map (λ op. op.attributes)) (some_eq h)

    -- the operation with these attributes is what the context holds
    pub seen_held : (w : List (Text × AttrObj A)) → option_map (λ op. op.attributes) (operation c p) ≡ Some w → (held : OperationData A) × Holds (Some held) × (held.attributes ≡ w)
    seen_held w e = go (get c.graph.operations p) refl e
      where
        inner : (x : OperationEntry T A) (d : Option (OperationData A)) → x.content.content.data_of ≡ d → option_map (λ op. op.attributes) (option_map (view_of x.content.content.results x.content.children) d) ≡ Some w
            → (held : OperationData A) × (x.content.content.data_of ≡ Some held) × (held.attributes ≡ w)
        inner x None f h = absurd (cc)
        inner x (Some held) f h = (held, f, some_eq h)

        go : (s : Option (OperationEntry T A)) → get c.graph.operations p ≡ s → option_map (λ op. op.attributes) (option_and_then operation_of s) ≡ Some w
            → (held : OperationData A) × Holds (Some held) × (held.attributes ≡ w)
        go None f h = absurd (cc)
        go (Some x) f h =
            let i = inner x x.content.content.data_of refl h in
            (i.0, ap (λ s. option_map (λ y. y.data_of) (option_map (λ y. y.content.content) s)) f ∙ ap (λ d. Some d) i.1, i.2)

    -- the operation's data are written once they are changed
    pub changed : (held : Option (OperationData A)) (change : OperationData A → OperationData A) → Holds held
        → record c { graph = with_operation_data c.graph p (option_map change held) } ≡ with_changed_operation c p change
    changed held change e = ap (λ s. record c { graph = record c.graph { operations = s } }) (go (get c.graph.operations p) e)
      where
        go : (s : Option (OperationEntry T A)) → option_map (λ x. x.data_of) (option_map (λ x. x.content.content) s) ≡ Some held
            → with_object s c.graph.operations p (with_data (λ _. option_map change held)) ≡ with_object s c.graph.operations p (with_data (option_map change))
        go None h = refl
        go (Some x) h = ap (λ d. with_object (Some x) c.graph.operations p (with_data (λ _. option_map change d))) (sym (some_eq h))

    -- a change is an edit of the operation alone
    pub changed_edits : (held : Option (OperationData A)) (change : OperationData A → OperationData A) → Holds held → EditsOperation c (with_changed_operation c p change) p change
    changed_edits held change e = subst (λ new. EditsOperation c new p change) (changed held change e)
        (record { graph = edited c.graph p held (option_map change) e; paths = refl; dialects = refl })

    -- its data are borrowed
    operation_borrowed : (held : OperationData A) → Holds (Some held) → IsBorrowed held c (with_changed_operation c p) (λ new. EditsOperation c new p)
    operation_borrowed held e = record {
      write = λ d. record c { graph = with_operation_data c.graph p (Some d) };
      changed = λ f. changed (Some held) f e;
      edits = λ f. changed_edits (Some held) f e;
      same = ap (λ g. record c { graph = g }) (unedited c.graph p (Some held) e);
    }

    -- an attribute was set, or could not be
    pub operation_set : (w a : List (Text × AttrObj A)) → option_map (λ x. x.attributes) (operation c p) ≡ Some w → (key : Text) (attr : AttrObj A) {E : Type 0} (r : Result (Unit {0}) E) → OnOk r (a ≡ insert_entry bytes_eq w key attr) → OnErr r (a ≡ w)
        → OnOk r (EditsOperation c (with_changed_operation c p (with_attributes a)) p (with_attribute key attr)) × OnErr r (with_changed_operation c p (with_attributes a) ≡ c) × ((mark : ℕ) → before mark c.graph.operations p ≡ None → KeepsOlder mark c (with_changed_operation c p (with_attributes a)))
    operation_set w a value key attr r put same = let h = seen_held w value in
        entry_set (operation_borrowed h.0 h.1) (λ d. d.attributes) with_attributes w a h.2 key attr r put same refl (λ new. (mark : ℕ) → before mark c.graph.operations p ≡ None → KeepsOlder mark c new)
        (λ new e mark none. edits-keeps mark c new p (with_attribute key attr) none e) (λ new e mark none. same-keeps mark c new e)

  module _ (p : Ptr BasicBlock) where
    -- the context holds this of a block
    abbrev pub HoldsBlock : BlockData A → Type 0
    HoldsBlock held = option_map (λ x. x.data_of) (block_at c.graph p) ≡ Some held

    -- what it holds is seen
    pub block_held_seen : (held : BlockData A) → HoldsBlock held → option_map (λ b. b.attributes) (block c p) ≡ Some held.attributes
    block_held_seen held e = go (get c.graph.blocks p) e
      where
        go : (s : Option (BlockEntry T A)) → option_map (λ x. x.data_of) (option_map (λ x. x.content.content) s) ≡ Some held → option_map (λ b. b.attributes) (option_map block_of s) ≡ Some held.attributes
        go None h = absurd (cc)
        go (Some x) h = ap (λ d. Some d.attributes) (some_eq h)

    -- the block with these attributes is what the context holds
    pub block_seen_held : (w : List (Text × AttrObj A)) → option_map (λ b. b.attributes) (block c p) ≡ Some w → (held : BlockData A) × HoldsBlock held × (held.attributes ≡ w)
    block_seen_held w e = go (get c.graph.blocks p) refl e
      where
        go : (s : Option (BlockEntry T A)) → get c.graph.blocks p ≡ s → option_map (λ b. b.attributes) (option_map block_of s) ≡ Some w → (held : BlockData A) × HoldsBlock held × (held.attributes ≡ w)
        go None f h = absurd (cc)
        go (Some x) f h = (x.content.content.data_of, ap (λ s. option_map (λ y. y.data_of) (option_map (λ y. y.content.content) s)) f, some_eq h)

    -- the block's data are written once they are changed
    pub changed_block : (held : BlockData A) (change : BlockData A → BlockData A) → HoldsBlock held
        → record c { graph = with_block_data c.graph p (change held) } ≡ with_changed_block c p change
    changed_block held change e = ap (λ s. record c { graph = record c.graph { blocks = s } }) (go (get c.graph.blocks p) e)
      where
        go : (s : Option (BlockEntry T A)) → option_map (λ x. x.data_of) (option_map (λ x. x.content.content) s) ≡ Some held
            → with_object s c.graph.blocks p (with_block (λ _. change held)) ≡ with_object s c.graph.blocks p (with_block change)
        go None h = refl
        go (Some x) h = ap (λ d. with_object (Some x) c.graph.blocks p (with_block (λ _. change d))) (sym (some_eq h))

    -- a change is an edit of the block alone
    pub changed_block_edits : (held : BlockData A) (change : BlockData A → BlockData A) → HoldsBlock held → EditsBlock c (with_changed_block c p change) p change
    changed_block_edits held change e = subst (λ new. EditsBlock c new p change) (changed_block held change e)
        (record { graph = edited_block c.graph p held change e; paths = refl; dialects = refl })

    -- its data are borrowed
    block_borrowed : (held : BlockData A) → HoldsBlock held → IsBorrowed held c (with_changed_block c p) (λ new. EditsBlock c new p)
    block_borrowed held e = record {
      write = λ d. record c { graph = with_block_data c.graph p d };
      changed = λ f. changed_block held f e;
      edits = λ f. changed_block_edits held f e;
      same = ap (λ g. record c { graph = g }) (unedited_block c.graph p held e);
    }

    -- an attribute was set, or could not be
    pub block_set : (w a : List (Text × AttrObj A)) → option_map (λ x. x.attributes) (block c p) ≡ Some w → (key : Text) (attr : AttrObj A) {E : Type 0} (r : Result (Unit {0}) E) → OnOk r (a ≡ insert_entry bytes_eq w key attr) → OnErr r (a ≡ w)
        → OnOk r (EditsBlock c (with_changed_block c p (with_block_attributes a)) p (with_block_attribute key attr)) × OnErr r (with_changed_block c p (with_block_attributes a) ≡ c) × ((mark : ℕ) → before mark c.graph.blocks p ≡ None → KeepsOlder mark c (with_changed_block c p (with_block_attributes a)))
    block_set w a value key attr r put same = let h = block_seen_held w value in
        entry_set (block_borrowed h.0 h.1) (λ d. d.attributes) with_block_attributes w a h.2 key attr r put same refl (λ new. (mark : ℕ) → before mark c.graph.blocks p ≡ None → KeepsOlder mark c new)
        (λ new e mark none. edits_block-keeps mark c new p (with_block_attribute key attr) none e) (λ new e mark none. same-keeps mark c new e)
