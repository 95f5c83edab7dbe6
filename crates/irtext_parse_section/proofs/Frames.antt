-- What entries leave unchanged: whatever each edit of an item preserves, all of them preserve; and an item that no entry is of is
-- unchanged.
use Rattle.std.proofs.Common.{◌≡◌, ◌∙◌, ◌≢◌, ℕ, Bool, true, false, cond, is_some, List, [], ◌∷◌, Option, Some, None, refl, sym, ap, subst}
use Rattle.std.specs.Map.{lookup}
use Rattle.irtext_base.specs.Text.{Text}
use Rattle.irtext_base.specs.Paths.{Written}
use Rattle.irtext_base.specs.declared.location.Location.{Location}
use Rattle.irtext_context.specs.Context.{ContextView, EditsOperation, EditsBlock, operation, block, with_loc, with_attributes, with_block_loc, with_block_attributes, with_label}
use Rattle.irtext_context.specs.declared.base.block.BlockData.{BlockData}
use Rattle.irtext_context.specs.declared.base.item.Item.{Item}
use Rattle.irtext_context.specs.declared.base.item.Item.TheVariants as item
use Rattle.irtext_context.specs.declared.base.operation.OperationData.{OperationData}
use Rattle.irtext_graph.specs.Store.{get}
use Rattle.irtext_graph.specs.declared.arena.Ptr.{Ptr}
use Rattle.irtext_graph.specs.declared.object.BasicBlock.{BasicBlock}
use Rattle.irtext_graph.specs.declared.object.Operation.{Operation}
use Rattle.irtext_parse_state.specs.States.{same_index}
use Rattle.irtext_grammar.specs.Grammar.Section.{Entry, of_item, of_once}
use Rattle.irtext_grammar.specs.Grammar.Tree.{Attribute}
use Rattle.irtext_parse_locations.specs.Applied.{no_label, label_in, LocatesOperation, StoresOperation, LocatesBlock, StoresBlock, LabelsBlock, Gives, AppliesAll}

-- ---- what each edit keeps
module _ {T A : Type 0} (R : ContextView T A → ContextView T A → Type 0) (itself : (c : ContextView T A) → R c c) (joins : (a b c : ContextView T A) → R a b → R b c → R a c)
    (op : (p : Ptr Operation) (change : OperationData A → OperationData A) (a b : ContextView T A) → EditsOperation a b p change → R a b)
    (bl : (p : Ptr BasicBlock) (change : BlockData A → BlockData A) (a b : ContextView T A) → EditsBlock a b p change → R a b) where
  equal : (a b : ContextView T A) → b ≡ a → R a b
  equal a b e = subst (λ z. R a z) (sym e) (itself a)

  located : (p : Ptr Operation) (l : Option (Location A)) (a b : ContextView T A) → LocatesOperation p l a b → R a b
  located p None a b e = equal a b e
  located p (Some l) a b e = op p (with_loc l) a b e

  located_block : (p : Ptr BasicBlock) (l : Option (Location A)) (a b : ContextView T A) → LocatesBlock p l a b → R a b
  located_block p None a b e = equal a b e
  located_block p (Some l) a b e = bl p (with_block_loc l) a b e

  labelled_block : (p : Ptr BasicBlock) (l : Option Text) (a b : ContextView T A) → LabelsBlock p l a b → R a b
  labelled_block p None a b e = equal a b e
  labelled_block p (Some l) a b e = bl p (with_label (Some l)) a b e

  given : (x : Item) (l : Option (Location A)) (content : List (Text × Attribute A)) (a b : ContextView T A) → Gives x l content a b → R a b
  given (item.Operation p) l content a b g = go (is_some (operation a p)) g
    where
      go : (t : Bool) → cond t ((mid : ContextView T A) × LocatesOperation p l a mid × StoresOperation p content mid b) (b ≡ a) → R a b
      go true (mid, h, k) = joins a mid b (located p l a mid h) (op p (with_attributes k.left) mid b k.edits)
      go false e = equal a b e
  given (item.Block p) l content a b g = go (is_some (block a p)) g
    where
      go : (t : Bool) → cond t ((mid last : ContextView T A) × LocatesBlock p l a mid × StoresBlock p (no_label content) mid last × LabelsBlock p (label_in None content) last b) (b ≡ a) → R a b
      go true (mid, last, h, k, w) = joins a mid b (located_block p l a mid h) (joins mid last b (bl p (with_block_attributes k.left) mid last k.edits) (labelled_block p (label_in None content) last b w))
      go false e = equal a b e

  -- all entries keep
  pub applied : (marks : List (ℕ × Item)) (paths : List (List ℕ)) (all es : List (Entry ℕ A (Written A))) (a b : ContextView T A) → AppliesAll marks paths all es a b → R a b
  applied marks paths all [] a b e = equal a b e
  applied marks paths all (of_once m x ∷ es) a b h = applied marks paths all es a b h
  applied marks paths all (of_item m x ps ∷ es) a b (mid, one, more) = joins a mid b (given one.item one.location _ a mid one.gives) (applied marks paths all es mid b more)

module _ {T A : Type 0} (marks : List (ℕ × Item)) (paths : List (List ℕ)) (all es : List (Entry ℕ A (Written A))) (a b : ContextView T A) (h : AppliesAll marks paths all es a b) where
  -- no path comes or goes
  pub applied_paths : b.paths ≡ a.paths
  applied_paths = applied (λ (c d : ContextView T A). d.paths ≡ c.paths) (λ c. refl) (λ c d e k l. l ∙ k) (λ p change c d e. e.paths) (λ p change c d e. e.paths) marks paths all es a b h

-- ---- what is given to others
module _ {T A : Type 0} (p : Ptr Operation) where
  located_other : (q : Ptr Operation) → p ≢ q → (l : Option (Location A)) (a b : ContextView T A) → LocatesOperation q l a b → get b.graph.operations p ≡ get a.graph.operations p
  located_other q n None a b e = ap (λ (c : ContextView T A). get c.graph.operations p) e
  located_other q n (Some l) a b e = e.graph.operations.updates.others p n

  beside_located : (q : Ptr BasicBlock) (l : Option (Location A)) (a b : ContextView T A) → LocatesBlock q l a b → get b.graph.operations p ≡ get a.graph.operations p
  beside_located q None a b e = ap (λ (c : ContextView T A). get c.graph.operations p) e
  beside_located q (Some l) a b e = ap (λ s. get s p) e.graph.operations

  beside_labelled : (q : Ptr BasicBlock) (l : Option Text) (a b : ContextView T A) → LabelsBlock q l a b → get b.graph.operations p ≡ get a.graph.operations p
  beside_labelled q None a b e = ap (λ (c : ContextView T A). get c.graph.operations p) e
  beside_labelled q (Some l) a b e = ap (λ s. get s p) e.graph.operations

  -- an operation is unchanged if another item was given something
  pub operation_beside : (x : Item) (l : Option (Location A)) (content : List (Text × Attribute A)) (a b : ContextView T A) → (x ≡ item.Operation p → ⊥) → Gives x l content a b → get b.graph.operations p ≡ get a.graph.operations p
  operation_beside (item.Operation q) l content a b n g = go (is_some (operation a q)) g
    where
      apart : p ≢ q
      apart e = n (ap item.Operation (sym e))

      go : (t : Bool) → cond t ((mid : ContextView T A) × LocatesOperation q l a mid × StoresOperation q content mid b) (b ≡ a) → get b.graph.operations p ≡ get a.graph.operations p
      go true (mid, h, k) = k.edits.graph.operations.updates.others p apart ∙ located_other q apart l a mid h
      go false e = ap (λ (c : ContextView T A). get c.graph.operations p) e
  operation_beside (item.Block q) l content a b n g = go (is_some (block a q)) g
    where
      go : (t : Bool) → cond t ((mid last : ContextView T A) × LocatesBlock q l a mid × StoresBlock q (no_label content) mid last × LabelsBlock q (label_in None content) last b) (b ≡ a) → get b.graph.operations p ≡ get a.graph.operations p
      go true (mid, last, h, k, w) = beside_labelled q (label_in None content) last b w ∙ (ap (λ s. get s p) k.edits.graph.operations ∙ beside_located q l a mid h)
      go false e = ap (λ (c : ContextView T A). get c.graph.operations p) e

module _ {T A : Type 0} (p : Ptr BasicBlock) where
  other_located : (q : Ptr BasicBlock) → p ≢ q → (l : Option (Location A)) (a b : ContextView T A) → LocatesBlock q l a b → get b.graph.blocks p ≡ get a.graph.blocks p
  other_located q n None a b e = ap (λ (c : ContextView T A). get c.graph.blocks p) e
  other_located q n (Some l) a b e = e.graph.blocks.updates.others p n

  other_labelled : (q : Ptr BasicBlock) → p ≢ q → (l : Option Text) (a b : ContextView T A) → LabelsBlock q l a b → get b.graph.blocks p ≡ get a.graph.blocks p
  other_labelled q n None a b e = ap (λ (c : ContextView T A). get c.graph.blocks p) e
  other_labelled q n (Some l) a b e = e.graph.blocks.updates.others p n

  beside_operation : (q : Ptr Operation) (l : Option (Location A)) (a b : ContextView T A) → LocatesOperation q l a b → get b.graph.blocks p ≡ get a.graph.blocks p
  beside_operation q None a b e = ap (λ (c : ContextView T A). get c.graph.blocks p) e
  beside_operation q (Some l) a b e = ap (λ s. get s p) e.graph.blocks

  -- the same for a block
  pub block_beside : (x : Item) (l : Option (Location A)) (content : List (Text × Attribute A)) (a b : ContextView T A) → (x ≡ item.Block p → ⊥) → Gives x l content a b → get b.graph.blocks p ≡ get a.graph.blocks p
  block_beside (item.Operation q) l content a b n g = go (is_some (operation a q)) g
    where
      go : (t : Bool) → cond t ((mid : ContextView T A) × LocatesOperation q l a mid × StoresOperation q content mid b) (b ≡ a) → get b.graph.blocks p ≡ get a.graph.blocks p
      go true (mid, h, k) = ap (λ s. get s p) k.edits.graph.blocks ∙ beside_operation q l a mid h
      go false e = ap (λ (c : ContextView T A). get c.graph.blocks p) e
  block_beside (item.Block q) l content a b n g = go (is_some (block a q)) g
    where
      apart : p ≢ q
      apart e = n (ap item.Block (sym e))

      go : (t : Bool) → cond t ((mid last : ContextView T A) × LocatesBlock q l a mid × StoresBlock q (no_label content) mid last × LabelsBlock q (label_in None content) last b) (b ≡ a) → get b.graph.blocks p ≡ get a.graph.blocks p
      go true (mid, last, h, k, w) = other_labelled q apart (label_in None content) last b w ∙ (k.edits.graph.blocks.updates.others p apart ∙ other_located q apart l a mid h)
      go false e = ap (λ (c : ContextView T A). get c.graph.blocks p) e

-- ---- entries of other items
-- no entry is of the item
abbrev pub Avoids : {A : Type 0} → List (ℕ × Item) → Item → List (Entry ℕ A (Written A)) → Type 0
Avoids marks x [] = Unit {0}
Avoids marks x (of_once m a ∷ es) = Avoids marks x es
Avoids marks x (of_item m y ps ∷ es) = (lookup (same_index m.index) marks ≡ Some x → ⊥) × Avoids marks x es

module _ {T A : Type 0} (marks : List (ℕ × Item)) (paths : List (List ℕ)) (all : List (Entry ℕ A (Written A))) where
  -- an operation that no entry is of is unchanged
  pub operation_avoided : (p : Ptr Operation) (es : List (Entry ℕ A (Written A))) (a b : ContextView T A) → Avoids marks (item.Operation p) es → AppliesAll marks paths all es a b → get b.graph.operations p ≡ get a.graph.operations p
  operation_avoided p [] a b n e = ap (λ (c : ContextView T A). get c.graph.operations p) e
  operation_avoided p (of_once m x ∷ es) a b n h = operation_avoided p es a b n h
  operation_avoided p (of_item m x ps ∷ es) a b n (mid, one, more) =
      operation_avoided p es mid b n.1 more ∙ operation_beside p one.item one.location _ a mid (λ e. n.0 (one.carries ∙ ap Some e)) one.gives

  -- the same for a block
  pub block_avoided : (p : Ptr BasicBlock) (es : List (Entry ℕ A (Written A))) (a b : ContextView T A) → Avoids marks (item.Block p) es → AppliesAll marks paths all es a b → get b.graph.blocks p ≡ get a.graph.blocks p
  block_avoided p [] a b n e = ap (λ (c : ContextView T A). get c.graph.blocks p) e
  block_avoided p (of_once m x ∷ es) a b n h = block_avoided p es a b n h
  block_avoided p (of_item m x ps ∷ es) a b n (mid, one, more) =
      block_avoided p es mid b n.1 more ∙ block_beside p one.item one.location _ a mid (λ e. n.0 (one.carries ∙ ap Some e)) one.gives
