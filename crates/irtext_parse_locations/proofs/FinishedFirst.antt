-- A step that takes no memory may precede one that does: a location or a label that is set after attributes were put in might as well have
-- been set before them.
use Rattle.std.proofs.Common.{◌≡◌, ◌∙◌, Bool, true, false, cond, is_some, List, Option, Some, None, refl, sym, ap, subst}
use Rattle.std.specs.Option.{option_map}
use Rattle.std.specs.Prelude.{option_and_then}
use Rattle.irtext_base.specs.Text.{Text}
use Rattle.irtext_base.specs.declared.base.attributes.AttrObj.{AttrObj}
use Rattle.irtext_base.specs.declared.location.Location.{Location}
use Rattle.irtext_context.specs.Context.{ContextView, OperationView, BlockView, operation, operation_of, block, block_of, view_of, EditsOperation, EditsBlock, with_loc, with_attributes, with_block_loc, with_block_attributes, with_label}
use Rattle.irtext_context.specs.declared.base.block.BlockData.{BlockData}
use Rattle.irtext_context.specs.declared.base.item.Item.{Item}
use Rattle.irtext_context.specs.declared.base.item.Item.TheVariants as item
use Rattle.irtext_context.specs.declared.base.operation.OperationData.{OperationData}
use Rattle.irtext_context.proofs.Contexts.{OperationEntry, BlockEntry}
use Rattle.irtext_graph.specs.Data.{with_data, with_block}
use Rattle.irtext_graph.specs.Store.{get}
use Rattle.irtext_graph.specs.declared.arena.Ptr.{Ptr}
use Rattle.irtext_graph.specs.declared.object.BasicBlock.{BasicBlock}
use Rattle.irtext_graph.specs.declared.object.Operation.{Operation}
use Rattle.irtext_graph.proofs.Stores.{edited_same}
use Rattle.irtext_grammar.specs.Contexts.Held.{entries_of}
use Rattle.irtext_grammar.specs.Grammar.Tree.{Attribute}
use Rattle.irtext_grammar.specs.Graphs.Build.{put_all}
use Rattle.irtext_parse_locations.specs.Applied.{no_label, label_in, LocatesOperation, StoresOperation, LocatesBlock, StoresBlock, LabelsBlock, Gives}
use Rattle.irtext_parse_locations.specs.Together.{Stores, Finishes}
use Rattle.irtext_parse_locations.proofs.Swaps.{operations_swapped, blocks_swapped, block_first, operation_first}

-- ---- what is seen of the attributes
abbrev pub Attributes : Type 0 → Type 0
Attributes A = List (Text × AttrObj A)

-- an operation's attributes, if it is live
abbrev pub attributes_at : {T A : Type 0} → ContextView T A → Ptr Operation → Option (Attributes A)
attributes_at c p = option_map (λ op. op.attributes) (operation c p)

-- a block's
abbrev pub block_attributes_at : {T A : Type 0} → ContextView T A → Ptr BasicBlock → Option (Attributes A)
block_attributes_at c p = option_map (λ b. b.attributes) (block c p)

module _ {T A : Type 0} (a b : ContextView T A) where
  module _ (p : Ptr Operation) (h : OperationData A → OperationData A) (e : EditsOperation a b p h) where
    is_live_in : (x : OperationEntry T A) (o : Option (OperationData A)) → is_some (option_map (view_of {T = T} {A = A} x.content.content.results x.content.children) (option_map h o)) ≡ is_some (option_map (view_of {T = T} {A = A} x.content.content.results x.content.children) o)
    is_live_in x None = refl
    is_live_in x (Some d) = refl

    -- whatever edit is made of an operation's data, the same operations are live
    pub operation_is_live : (q : Ptr Operation) → is_some (operation b q) ≡ is_some (operation a q)
    operation_is_live q = edited_same a.graph.operations b.graph.operations p (with_data (option_map h)) (λ s. is_some (option_and_then (operation_of {T = T} {A = A}) s)) (λ x. is_live_in x x.content.content.data_of) e.graph.operations q

    pub block_beside_same : (q : Ptr BasicBlock) → block b q ≡ block a q
    block_beside_same q = ap (λ s. option_map (block_of {T = T} {A = A}) (get s q)) e.graph.blocks

    module _ (plain : (x : OperationData A) → (h x).attributes ≡ x.attributes) where
      same_in : (x : OperationEntry T A) (o : Option (OperationData A)) → option_map (λ (op : OperationView T A). op.attributes) (option_map (view_of {T = T} {A = A} x.content.content.results x.content.children) (option_map h o)) ≡ option_map (λ (op : OperationView T A). op.attributes) (option_map (view_of {T = T} {A = A} x.content.content.results x.content.children) o)
      same_in x None = refl
      same_in x (Some d) = ap (λ w. Some w) (plain d)

      pub same_attributes : (q : Ptr Operation) → attributes_at b q ≡ attributes_at a q
      same_attributes q = edited_same a.graph.operations b.graph.operations p (with_data (option_map h)) (λ s. option_map (λ (op : OperationView T A). op.attributes) (option_and_then (operation_of {T = T} {A = A}) s)) (λ x. same_in x x.content.content.data_of) e.graph.operations q

  module _ (p : Ptr BasicBlock) (h : BlockData A → BlockData A) (e : EditsBlock a b p h) where
    pub block_is_live : (q : Ptr BasicBlock) → is_some (block b q) ≡ is_some (block a q)
    block_is_live q = edited_same a.graph.blocks b.graph.blocks p (with_block h) (λ s. is_some (option_map (block_of {T = T} {A = A}) s)) (λ x. refl) e.graph.blocks q

    pub operation_beside_same : (q : Ptr Operation) → operation b q ≡ operation a q
    operation_beside_same q = ap (λ s. option_and_then (operation_of {T = T} {A = A}) (get s q)) e.graph.operations

    module _ (plain : (x : BlockData A) → (h x).attributes ≡ x.attributes) where
      pub same_block_attributes : (q : Ptr BasicBlock) → block_attributes_at b q ≡ block_attributes_at a q
      same_block_attributes q = edited_same a.graph.blocks b.graph.blocks p (with_block h) (λ s. option_map (λ (b : BlockView T A). b.attributes) (option_map (block_of {T = T} {A = A}) s)) (λ x. ap (λ w. Some w) (plain x.content.content.data_of)) e.graph.blocks q

-- ---- what was put in is put into the same attributes
module _ {A : Type 0} (content : List (Text × Attribute A)) where
  -- what is put in, where the same attributes are seen
  into_same : {V W : Type 0} (see : V → Attributes A) (saw : W → Attributes A) (left : Attributes A) (o : Option V) (q : Option W) → option_map saw q ≡ option_map see o
      → ((v : V) → o ≡ Some v → entries_of left ≡ put_all (entries_of (see v)) content) → (w : W) → q ≡ Some w → entries_of left ≡ put_all (entries_of (saw w)) content
  into_same see saw left None q same h w e = absurd (cc (ap (option_map saw) (sym e) ∙ same))
  into_same see saw left (Some v) q same h w e =
      let k : saw w ≡ see v = cc (ap (option_map saw) (sym e) ∙ same) in
      h v refl ∙ ap (λ es. put_all (entries_of es) content) (sym k)

module _ {T A : Type 0} (content : List (Text × Attribute A)) where
  module _ (a b m c : ContextView T A) (p : Ptr Operation) (k : StoresOperation p content a b) (same : attributes_at m p ≡ attributes_at a p) where
    pub stored_after : EditsOperation m c p (with_attributes k.left) → StoresOperation p content m c
    stored_after e = record { left = k.left; edits = e; stored = into_same content (λ v. v.attributes) (λ v. v.attributes) k.left (operation a p) (operation m p) same k.stored }

  module _ (a b m c : ContextView T A) (p : Ptr BasicBlock) (k : StoresBlock p content a b) (same : block_attributes_at m p ≡ block_attributes_at a p) where
    pub block_stored_after : EditsBlock m c p (with_block_attributes k.left) → StoresBlock p content m c
    block_stored_after e = record { left = k.left; edits = e; stored = into_same content (λ v. v.attributes) (λ v. v.attributes) k.left (block a p) (block m p) same k.stored }

-- ---- one step of each
-- the branch that is taken
taken_true : {P : Type 0} (Q : Type 0) (t : Bool) → t ≡ true → P → cond t P Q
taken_true Q t e x = rw e x

taken_false : (P : Type 0) {Q : Type 0} (t : Bool) → t ≡ false → Q → cond t P Q
taken_false P t e x = rw e x

module _ {A : Type 0} where
  -- what is done to an operation's data leaves its attributes, whatever they are
  pub record IsPlain (h : OperationData A → OperationData A) : Type 0 where
    pub commutes : (w : Attributes A) (x : OperationData A) → h (with_attributes w x) ≡ with_attributes w (h x)
    pub keeps : (x : OperationData A) → (h x).attributes ≡ x.attributes

  -- the same for a block
  pub record IsPlainBlock (h : BlockData A → BlockData A) : Type 0 where
    pub commutes : (w : Attributes A) (x : BlockData A) → h (with_block_attributes w x) ≡ with_block_attributes w (h x)
    pub keeps : (x : BlockData A) → (h x).attributes ≡ x.attributes

  plain_loc : (l : Location A) → IsPlain (with_loc l)
  plain_loc l = record { commutes = λ w x. refl; keeps = λ x. refl }

  plain_block_loc : (l : Location A) → IsPlainBlock (with_block_loc l)
  plain_block_loc l = record { commutes = λ w x. refl; keeps = λ x. refl }

  plain_label : (n : Option Text) → IsPlainBlock (with_label n)
  plain_label n = record { commutes = λ w x. refl; keeps = λ x. refl }

module _ {T A : Type 0} (content : List (Text × Attribute A)) (n : Option Text) where
  -- an edit of an operation that attributes do not look at comes before attributes of an item
  operation_passes : (x : Item) (q : Ptr Operation) (h : OperationData A → OperationData A) → IsPlain h → (a b c : ContextView T A) → Stores content x n a b → EditsOperation b c q h → (m : ContextView T A) × EditsOperation a m q h × Stores content x n m c
  operation_passes (item.Operation p) q h plain a b c r e = go (is_some (operation a p)) refl r
    where
      go : (t : Bool) → is_some (operation a p) ≡ t → cond t (StoresOperation p content a b) (b ≡ a) → (m : ContextView T A) × EditsOperation a m q h × Stores content (item.Operation p) n m c
      go true f k =
          let s = operations_swapped a b c p q (with_attributes k.left) h k.edits e (plain.commutes k.left) in
          (s.0, s.1, taken_true _ (is_some (operation s.0 p)) (operation_is_live a s.0 q h s.1 p ∙ f) (stored_after content a b s.0 c p k (same_attributes a s.0 q h s.1 plain.keeps p) s.2))
      go false f k =
          let d : EditsOperation a c q h = subst (λ z. EditsOperation z c q h) k e in
          (c, d, taken_false _ (is_some (operation c p)) (operation_is_live a c q h d p ∙ f) refl)
  operation_passes (item.Block p) q h plain a b c r e = go (is_some (block a p)) refl r
    where
      go : (t : Bool) → is_some (block a p) ≡ t → cond t (StoresBlock p (no_label content) a b × (n ≡ label_in None content)) (b ≡ a) → (m : ContextView T A) × EditsOperation a m q h × Stores content (item.Block p) n m c
      go true f (k, l) =
          let s = operation_first a b c p q (with_block_attributes k.left) h k.edits e in
          let same = block_beside_same a s.0 q h s.1 p in
          (s.0, s.1, taken_true _ (is_some (block s.0 p)) (ap is_some same ∙ f) (block_stored_after (no_label content) a b s.0 c p k (ap (option_map (λ b. b.attributes)) same) s.2, l))
      go false f k =
          let d : EditsOperation a c q h = subst (λ z. EditsOperation z c q h) k e in
          (c, d, taken_false _ (is_some (block c p)) (ap is_some (block_beside_same a c q h d p) ∙ f) refl)

  -- the same for one of a block
  block_passes : (x : Item) (q : Ptr BasicBlock) (h : BlockData A → BlockData A) → IsPlainBlock h → (a b c : ContextView T A) → Stores content x n a b → EditsBlock b c q h → (m : ContextView T A) × EditsBlock a m q h × Stores content x n m c
  block_passes (item.Operation p) q h plain a b c r e = go (is_some (operation a p)) refl r
    where
      go : (t : Bool) → is_some (operation a p) ≡ t → cond t (StoresOperation p content a b) (b ≡ a) → (m : ContextView T A) × EditsBlock a m q h × Stores content (item.Operation p) n m c
      go true f k =
          let s = block_first a b c p q (with_attributes k.left) h k.edits e in
          let same = operation_beside_same a s.0 q h s.1 p in
          (s.0, s.1, taken_true _ (is_some (operation s.0 p)) (ap is_some same ∙ f) (stored_after content a b s.0 c p k (ap (option_map (λ op. op.attributes)) same) s.2))
      go false f k =
          let d : EditsBlock a c q h = subst (λ z. EditsBlock z c q h) k e in
          (c, d, taken_false _ (is_some (operation c p)) (ap is_some (operation_beside_same a c q h d p) ∙ f) refl)
  block_passes (item.Block p) q h plain a b c r e = go (is_some (block a p)) refl r
    where
      go : (t : Bool) → is_some (block a p) ≡ t → cond t (StoresBlock p (no_label content) a b × (n ≡ label_in None content)) (b ≡ a) → (m : ContextView T A) × EditsBlock a m q h × Stores content (item.Block p) n m c
      go true f (k, l) =
          let s = blocks_swapped a b c p q (with_block_attributes k.left) h k.edits e (plain.commutes k.left) in
          (s.0, s.1, taken_true _ (is_some (block s.0 p)) (block_is_live a s.0 q h s.1 p ∙ f) (block_stored_after (no_label content) a b s.0 c p k (same_block_attributes a s.0 q h s.1 plain.keeps p) s.2, l))
      go false f k =
          let d : EditsBlock a c q h = subst (λ z. EditsBlock z c q h) k e in
          (c, d, taken_false _ (is_some (block c p)) (block_is_live a c q h d p ∙ f) refl)

  -- putting attributes into one item does not change which objects are live
  operation_there : (x : Item) (a b : ContextView T A) → Stores content x n a b → (q : Ptr Operation) → is_some (operation b q) ≡ is_some (operation a q)
  operation_there (item.Operation p) a b r q = go (is_some (operation a p)) r
    where
      go : (t : Bool) → cond t (StoresOperation p content a b) (b ≡ a) → is_some (operation b q) ≡ is_some (operation a q)
      go true k = operation_is_live a b p (with_attributes k.left) k.edits q
      go false e = ap (λ z. is_some (operation z q)) e
  operation_there (item.Block p) a b r q = go (is_some (block a p)) r
    where
      go : (t : Bool) → cond t (StoresBlock p (no_label content) a b × (n ≡ label_in None content)) (b ≡ a) → is_some (operation b q) ≡ is_some (operation a q)
      go true (k, l) = ap is_some (operation_beside_same a b p (with_block_attributes k.left) k.edits q)
      go false e = ap (λ z. is_some (operation z q)) e

  block_there : (x : Item) (a b : ContextView T A) → Stores content x n a b → (q : Ptr BasicBlock) → is_some (block b q) ≡ is_some (block a q)
  block_there (item.Operation p) a b r q = go (is_some (operation a p)) r
    where
      go : (t : Bool) → cond t (StoresOperation p content a b) (b ≡ a) → is_some (block b q) ≡ is_some (block a q)
      go true k = ap is_some (block_beside_same a b p (with_attributes k.left) k.edits q)
      go false e = ap (λ z. is_some (block z q)) e
  block_there (item.Block p) a b r q = go (is_some (block a p)) r
    where
      go : (t : Bool) → cond t (StoresBlock p (no_label content) a b × (n ≡ label_in None content)) (b ≡ a) → is_some (block b q) ≡ is_some (block a q)
      go true (k, l) = block_is_live a b p (with_block_attributes k.left) k.edits q
      go false e = ap (λ z. is_some (block z q)) e

  -- a location of an operation comes before attributes of an item
  location_passes : (x : Item) (q : Ptr Operation) (l : Option (Location A)) (a b c : ContextView T A) → Stores content x n a b → LocatesOperation q l b c
      → (m : ContextView T A) × LocatesOperation q l a m × Stores content x n m c
  location_passes x q None a b c r e = (a, refl, subst (λ z. Stores content x n a z) (sym e) r)
  location_passes x q (Some l) a b c r e = operation_passes x q (with_loc l) (plain_loc l) a b c r e

  -- the same for one of a block
  block_location_passes : (x : Item) (q : Ptr BasicBlock) (l : Option (Location A)) (a b c : ContextView T A) → Stores content x n a b → LocatesBlock q l b c
      → (m : ContextView T A) × LocatesBlock q l a m × Stores content x n m c
  block_location_passes x q None a b c r e = (a, refl, subst (λ z. Stores content x n a z) (sym e) r)
  block_location_passes x q (Some l) a b c r e = block_passes x q (with_block_loc l) (plain_block_loc l) a b c r e

  -- and a label
  label_passes : (x : Item) (q : Ptr BasicBlock) (l : Option Text) (a b c : ContextView T A) → Stores content x n a b → LabelsBlock q l b c
      → (m : ContextView T A) × LabelsBlock q l a m × Stores content x n m c
  label_passes x q None a b c r e = (a, refl, subst (λ z. Stores content x n a z) (sym e) r)
  label_passes x q (Some l) a b c r e = block_passes x q (with_label (Some l)) (plain_label (Some l)) a b c r e

  -- all that an item was still to get comes before attributes of another, or of the same
  pub finish_passes : (x y : Item) (l : Option (Location A)) (k : Option Text) (a b c : ContextView T A) → Stores content x n a b → Finishes y l k b c
      → (m : ContextView T A) × Finishes y l k a m × Stores content x n m c
  finish_passes x (item.Operation q) l k a b c r f = go (is_some (operation b q)) (operation_there x a b r q) f
    where
      go : (t : Bool) → t ≡ is_some (operation a q) → cond t (LocatesOperation q l b c) (c ≡ b) → (m : ContextView T A) × Finishes (item.Operation q) l k a m × Stores content x n m c
      go true e h =
          let s = location_passes x q l a b c r h in
          (s.0, taken_true _ (is_some (operation a q)) (sym e) s.1, s.2)
      go false e h = (a, taken_false _ (is_some (operation a q)) (sym e) refl, subst (λ z. Stores content x n a z) (sym h) r)
  finish_passes x (item.Block q) l k a b c r f = go (is_some (block b q)) (block_there x a b r q) f
    where
      go : (t : Bool) → t ≡ is_some (block a q) → cond t ((mid : ContextView T A) × LocatesBlock q l b mid × LabelsBlock q k mid c) (c ≡ b) → (m : ContextView T A) × Finishes (item.Block q) l k a m × Stores content x n m c
      go true e (mid, h, g) =
          let s = block_location_passes x q l a b mid r h in
          let u = label_passes x q k s.0 mid c s.2 g in
          (u.0, taken_true _ (is_some (block a q)) (sym e) (s.0, s.1, u.1), u.2)
      go false e h = (a, taken_false _ (is_some (block a q)) (sym e) refl, subst (λ z. Stores content x n a z) (sym h) r)

  -- attributes and then what is still to get is what an entry gives
  pub gives_both : (x : Item) (l : Option (Location A)) (a b c : ContextView T A) → Stores content x n a b → Finishes x l n b c → Gives x l content a c
  gives_both (item.Operation p) l a b c r f = go (is_some (operation a p)) refl r
    where
      inner : (t : Bool) → t ≡ true → cond t (LocatesOperation p l b c) (c ≡ b) → LocatesOperation p l b c
      inner true e h = h
      inner false e h = absurd (cc)

      none : (t : Bool) → t ≡ false → cond t (LocatesOperation p l b c) (c ≡ b) → c ≡ b
      none true e h = absurd (cc)
      none false e h = h

      stored_in : (m : ContextView T A) (t : Bool) → t ≡ true → cond t (StoresOperation p content m c) (c ≡ m) → StoresOperation p content m c
      stored_in m true e h = h
      stored_in m false e h = absurd (cc)

      located_is_live : (l : Option (Location A)) (m : ContextView T A) → LocatesOperation p l a m → is_some (operation m p) ≡ is_some (operation a p)
      located_is_live None m h = ap (λ z. is_some (operation z p)) h
      located_is_live (Some l) m h = operation_is_live a m p (with_loc l) h p

      go : (t : Bool) → is_some (operation a p) ≡ t → cond t (StoresOperation p content a b) (b ≡ a)
          → cond t ((mid : ContextView T A) × LocatesOperation p l a mid × StoresOperation p content mid c) (c ≡ a)
      go true e k =
          let s = location_passes (item.Operation p) p l a b c r (inner (is_some (operation b p)) (operation_there (item.Operation p) a b r p ∙ e) f) in
          (s.0, s.1, stored_in s.0 (is_some (operation s.0 p)) (located_is_live l s.0 s.1 ∙ e) s.2)
      go false e k = none (is_some (operation b p)) (operation_there (item.Operation p) a b r p ∙ e) f ∙ k
  gives_both (item.Block p) l a b c r f = go (is_some (block a p)) refl r
    where
      inner : (t : Bool) → t ≡ true → cond t ((mid : ContextView T A) × LocatesBlock p l b mid × LabelsBlock p n mid c) (c ≡ b) → (mid : ContextView T A) × LocatesBlock p l b mid × LabelsBlock p n mid c
      inner true e h = h
      inner false e h = absurd (cc)

      none : (t : Bool) → t ≡ false → cond t ((mid : ContextView T A) × LocatesBlock p l b mid × LabelsBlock p n mid c) (c ≡ b) → c ≡ b
      none true e h = absurd (cc)
      none false e h = h

      stored_in : (m d : ContextView T A) (t : Bool) → t ≡ true → cond t (StoresBlock p (no_label content) m d × (n ≡ label_in None content)) (d ≡ m) → StoresBlock p (no_label content) m d
      stored_in m d true e h = h.0
      stored_in m d false e h = absurd (cc)

      located_is_live : (l : Option (Location A)) (m : ContextView T A) → LocatesBlock p l a m → is_some (block m p) ≡ is_some (block a p)
      located_is_live None m h = ap (λ z. is_some (block z p)) h
      located_is_live (Some l) m h = block_is_live a m p (with_block_loc l) h p

      go : (t : Bool) → is_some (block a p) ≡ t → cond t (StoresBlock p (no_label content) a b × (n ≡ label_in None content)) (b ≡ a)
          → cond t ((mid last : ContextView T A) × LocatesBlock p l a mid × StoresBlock p (no_label content) mid last × LabelsBlock p (label_in None content) last c) (c ≡ a)
      go true e (k, same) =
          let h = inner (is_some (block b p)) (block_there (item.Block p) a b r p ∙ e) f in
          let s = block_location_passes (item.Block p) p l a b h.0 r h.1 in
          (s.0, h.0, s.1, stored_in s.0 h.0 (is_some (block s.0 p)) (located_is_live l s.0 s.1 ∙ e) s.2, subst (λ z. LabelsBlock p z h.0 c) same h.2)
      go false e k = none (is_some (block b p)) (block_there (item.Block p) a b r p ∙ e) f ∙ k
