-- Steps that are taken back leave what is older as it was; and steps that all are taken give what the entries give.
use Rattle.std.proofs.Common.{◌≡◌, ◌∙◌, ◌↔◌, ℕ, Bool, true, false, cond, is_some, List, Option, Some, None, refl, sym, ap, true≢false}
use Rattle.std.specs.Option.{option_map}
use Rattle.std.specs.Prelude.{option_and_then}
use Rattle.irtext_base.specs.Text.{Text}
use Rattle.irtext_base.specs.declared.base.attributes.AttrObj.{AttrObj}
use Rattle.irtext_base.specs.declared.location.Location.{Location}
use Rattle.irtext_context.specs.Context.{ContextView, OperationView, KeepsOlder, EditsOperation, EditsBlock, operation, operation_of, block, block_of, view_of, with_loc, with_attributes, with_block_loc, with_block_attributes, with_label}
use Rattle.irtext_context.specs.declared.base.block.BlockData.{BlockData}
use Rattle.irtext_context.specs.declared.base.item.Item.{Item}
use Rattle.irtext_context.specs.declared.base.item.Item.TheVariants as item
use Rattle.irtext_context.specs.declared.base.operation.OperationData.{OperationData}
use Rattle.irtext_context.proofs.Contexts.{same-keeps, edits-keeps, edits_block-keeps, OperationEntry, BlockEntry}
use Rattle.irtext_context.proofs.Kept.{kept_trans}
use Rattle.irtext_graph.specs.Data.{with_data, with_block}
use Rattle.irtext_graph.specs.Store.{get, before, object_of}
use Rattle.irtext_graph.specs.declared.arena.Ptr.{Ptr}
use Rattle.irtext_graph.specs.declared.object.BasicBlock.{BasicBlock}
use Rattle.irtext_graph.specs.declared.object.Operation.{Operation}
use Rattle.irtext_graph.proofs.Nests.{some_eq}
use Rattle.irtext_grammar.specs.Grammar.Tree.{Attribute}
use Rattle.irtext_parse_locations.specs.Applied.{no_label, label_in, LocatesOperation, StoresOperation, LocatesBlock, StoresBlock, LabelsBlock, Gives, IsNewer}
use Rattle.irtext_parse_locations.specs.Together.{IsLive, Puts, Takes, TakesOperation, TakesBlock, PutsBack}
use Rattle.irtext_parse_locations.proofs.Edits.{operation_rest, block_rest, operation_unedited, block_unedited, kept_around}
use Rattle.irtext_parse_locations.proofs.Swaps.{taken_back}
use Rattle.irtext_graph.proofs.Data.{edited_gives, edited_block_gives}

-- ---- one item's attributes are put back
module _ {T A : Type 0} (mark : ℕ) (a b c d : ContextView T A) (kept : KeepsOlder mark b c) where
  module _ (p : Ptr Operation) (had : List (Text × AttrObj A)) (t : TakesOperation p had a b) (e : EditsOperation c d p (with_attributes had)) where
    restored : (results : List _) (regions : List _) (o : Option (OperationData A)) → option_map (λ (op : OperationView T A). op.attributes) (option_map (view_of results regions) o) ≡ Some had → option_map (with_attributes had) (option_map (with_attributes t.left) o) ≡ o
    restored results regions None h = refl
    restored results regions (Some held) h = ap (λ w. Some (record held { attributes = w })) (sym (some_eq h))

    entry_restored : (x : OperationEntry T A) → get a.graph.operations p ≡ Some x → with_data (option_map (with_attributes had)) (with_data (option_map (with_attributes t.left)) x.content) ≡ x.content
    entry_restored x f =
        let seen : option_map (λ (op : OperationView T A). op.attributes) (operation_of x) ≡ Some had
        = ap (λ s. option_map (λ (op : OperationView T A). op.attributes) (option_and_then (operation_of {T = T} {A = A}) s)) (sym f) ∙ t.had_these in
        ap (λ y. record x.content { content = record x.content.content { data_of = y } }) (restored x.content.content.results x.content.children x.content.content.data_of seen)

    pub operation_back : KeepsOlder mark a d
    operation_back =
        kept_around mark a b c d (operation_rest a b p (with_attributes t.left) t.edits) (edited_gives a.graph b.graph p (option_map (with_attributes t.left)) t.edits.graph) kept
        (operation_rest c d p (with_attributes had) e) (edited_gives c.graph d.graph p (option_map (with_attributes had)) e.graph)
        (taken_back mark a.graph.operations b.graph.operations c.graph.operations d.graph.operations p (with_data (option_map (with_attributes t.left))) (with_data (option_map (with_attributes had)))
        t.edits.graph.operations kept.graph.operations e.graph.operations entry_restored)
        (λ q. ap (λ s. before mark s q) e.graph.blocks ∙ (kept.graph.blocks q ∙ ap (λ s. before mark s q) t.edits.graph.blocks))

  module _ (p : Ptr BasicBlock) (had : List (Text × AttrObj A)) (t : TakesBlock p had a b) (e : EditsBlock c d p (with_block_attributes had)) where
    block_restored : (x : BlockEntry T A) → get a.graph.blocks p ≡ Some x → with_block (with_block_attributes had) (with_block (with_block_attributes t.left) x.content) ≡ x.content
    block_restored x f =
        let seen : Some x.content.content.data_of.attributes ≡ Some had
        = ap (λ s. option_map (λ b. b.attributes) (option_map (block_of {T = T} {A = A}) s)) (sym f) ∙ t.had_these in
        ap (λ w. record x.content { content = record x.content.content { data_of = record x.content.content.data_of { attributes = w } } }) (sym (some_eq seen))

    pub block_back : KeepsOlder mark a d
    block_back =
        kept_around mark a b c d (block_rest a b p (with_block_attributes t.left) t.edits) (edited_block_gives a.graph b.graph p (with_block_attributes t.left) t.edits.graph) kept
        (block_rest c d p (with_block_attributes had) e) (edited_block_gives c.graph d.graph p (with_block_attributes had) e.graph)
        (λ q. ap (λ s. before mark s q) e.graph.operations ∙ (kept.graph.operations q ∙ ap (λ s. before mark s q) t.edits.graph.operations))
        (taken_back mark a.graph.blocks b.graph.blocks c.graph.blocks d.graph.blocks p (with_block (with_block_attributes t.left)) (with_block (with_block_attributes had))
        t.edits.graph.blocks kept.graph.blocks e.graph.blocks block_restored)

  -- an item's attributes were taken, and put back
  pub item_back : (x : Item) (h : Option (List (Text × AttrObj A))) → Takes x h a b → PutsBack x h c d → KeepsOlder mark a d
  item_back (item.Operation p) None t e = kept_trans (same-keeps mark a b t) (kept_trans kept (same-keeps mark c d e))
  item_back (item.Operation p) (Some had) t e = operation_back p had t e
  item_back (item.Block p) None t e = kept_trans (same-keeps mark a b t) (kept_trans kept (same-keeps mark c d e))
  item_back (item.Block p) (Some had) t e = block_back p had t e

-- ---- where an object is not live, there is nothing to restore
module _ {T A : Type 0} (a : ContextView T A) where
  module _ (p : Ptr Operation) (h : OperationData A → OperationData A) where
    no_data : (x : OperationEntry T A) (o : Option (OperationData A)) → is_some (option_map (view_of {T = T} {A = A} x.content.content.results x.content.children) o) ≡ false → o ≡ option_map h o
    no_data x None e = refl
    no_data x (Some d) e = absurd (cc)

    no_entry : (s : Option (OperationEntry T A)) → is_some (option_and_then (operation_of {T = T} {A = A}) s) ≡ false → s ≡ option_map (object_of (with_data (option_map h))) s
    no_entry None e = refl
    no_entry (Some x) e = ap (λ d. Some (record x { content = record x.content { content = record x.content.content { data_of = d } } })) (no_data x x.content.content.data_of e)

    pub no_operation : is_some (operation a p) ≡ false → EditsOperation a a p h
    no_operation e = operation_unedited a p h (no_entry (get a.graph.operations p) e)

  module _ (p : Ptr BasicBlock) (h : BlockData A → BlockData A) where
    no_block_entry : (s : Option (BlockEntry T A)) → is_some (option_map (block_of {T = T} {A = A}) s) ≡ false → s ≡ option_map (object_of (with_block h)) s
    no_block_entry None e = refl
    no_block_entry (Some x) e = absurd (cc)

    pub no_block : is_some (block a p) ≡ false → EditsBlock a a p h
    no_block e = block_unedited a p h (no_block_entry (get a.graph.blocks p) e)

-- what a test did not find
pub not_there : {X : Type 0} (t : Bool) (o : Option X) → (t ≡ true ↔ is_some o ≡ true) → t ≡ false → is_some o ≡ false
not_there t None h e = refl
not_there t (Some x) h e = absurd (true≢false (sym (h.1 refl) ∙ e))

-- an item that is not live has no attributes to change
pub none_put : {T A : Type 0} (x : Item) (t : Bool) (now : ContextView T A) (next : List (Text × AttrObj A)) → (t ≡ true ↔ IsLive x now) → t ≡ false → Puts x next now now
none_put (item.Operation p) t now next h e = no_operation now p (with_attributes next) (not_there t (operation now p) h e)
none_put (item.Block p) t now next h e = no_block now p (with_block_attributes next) (not_there t (block now p) h e)

-- what a test found
pub is_there : {X : Type 0} (t : Bool) (o : Option X) → (t ≡ true ↔ is_some o ≡ true) → t ≡ true → is_some o ≡ true
is_there t o h e = h.0 e

-- the branch that is taken
pub branch_true : {P : Type 0} (Q : Type 0) (t : Bool) → t ≡ true → P → cond t P Q
branch_true Q t e x = rw e x

-- ---- what an entry gives leaves what is older than its item
module _ {T A : Type 0} (mark : ℕ) where
  operation_located_kept : (p : Ptr Operation) (l : Option (Location A)) (a b : ContextView T A) → before mark a.graph.operations p ≡ None → LocatesOperation p l a b → KeepsOlder mark a b
  operation_located_kept p None a b n e = same-keeps mark a b e
  operation_located_kept p (Some l) a b n e = edits-keeps mark a b p (with_loc l) n e

  block_located_kept : (p : Ptr BasicBlock) (l : Option (Location A)) (a b : ContextView T A) → before mark a.graph.blocks p ≡ None → LocatesBlock p l a b → KeepsOlder mark a b
  block_located_kept p None a b n e = same-keeps mark a b e
  block_located_kept p (Some l) a b n e = edits_block-keeps mark a b p (with_block_loc l) n e

  block_labelled_kept : (p : Ptr BasicBlock) (l : Option Text) (a b : ContextView T A) → before mark a.graph.blocks p ≡ None → LabelsBlock p l a b → KeepsOlder mark a b
  block_labelled_kept p None a b n e = same-keeps mark a b e
  block_labelled_kept p (Some l) a b n e = edits_block-keeps mark a b p (with_label (Some l)) n e

  pub one_kept : (x : Item) (l : Option (Location A)) (content : List (Text × Attribute A)) (a c : ContextView T A) → IsNewer mark a x → Gives x l content a c → KeepsOlder mark a c
  one_kept (item.Operation p) l content a c n r = go (is_some (operation a p)) r
    where
      go : (t : Bool) → cond t ((mid : ContextView T A) × LocatesOperation p l a mid × StoresOperation p content mid c) (c ≡ a) → KeepsOlder mark a c
      go true (mid, h, k) =
          let first = operation_located_kept p l a mid n h in
          kept_trans first (edits-keeps mark mid c p (with_attributes k.left) (first.graph.operations p ∙ n) k.edits)
      go false e = same-keeps mark a c e
  one_kept (item.Block p) l content a c n r = go (is_some (block a p)) r
    where
      go : (t : Bool) → cond t ((mid last : ContextView T A) × LocatesBlock p l a mid × StoresBlock p (no_label content) mid last × LabelsBlock p (label_in None content) last c) (c ≡ a) → KeepsOlder mark a c
      go true (mid, last, h, k, w) =
          let first = block_located_kept p l a mid n h in
          let both = kept_trans first (edits_block-keeps mark mid last p (with_block_attributes k.left) (first.graph.blocks p ∙ n) k.edits) in
          kept_trans both (block_labelled_kept p (label_in None content) last c (both.graph.blocks p ∙ n) w)
      go false e = same-keeps mark a c e
