-- Steps of what items are given.
use Rattle.std.proofs.Common.{◌≡◌, ◌∙◌, ℕ, List, Option, Some, None, Result, Ok, Err, OnOk, sym, ap, subst}
use Rattle.std.specs.Option.{option_map}
use Rattle.irtext_base.specs.Text.{Text}
use Rattle.irtext_base.specs.declared.location.Location.{Location}
use Rattle.irtext_graph.specs.Back.{IsClosedBelow}
use Rattle.irtext_graph.specs.declared.arena.Ptr.{Ptr}
use Rattle.irtext_graph.specs.declared.object.BasicBlock.{BasicBlock}
use Rattle.irtext_graph.specs.declared.object.Operation.{Operation}
use Rattle.irtext_graph.proofs.Edited.{edited_closed}
use Rattle.irtext_context.specs.Context.{ContextView, KeepsOlder, EditsOperation, EditsBlock, OperationView, BlockView, operation, block, with_loc, with_attributes, with_block_loc, with_block_attributes, with_label}
use Rattle.irtext_context.specs.declared.base.item.Item.{Item}
use Rattle.irtext_context.specs.declared.base.item.Item.TheVariants as item
use Rattle.irtext_base.specs.declared.base.attributes.AttrObj.{AttrObj}
use Rattle.irtext_grammar.specs.Contexts.Held.{entries_of}
use Rattle.irtext_grammar.specs.Graphs.Build.{put_all}
use Rattle.irtext_grammar.specs.Grammar.Tree.{Attribute}
use Rattle.irtext_parse_locations.specs.Applied.{LocatesOperation, EditsAttributes, StoresOperation, StoresBlock, IsNewer, LocatesBlock, EditsBlockAttributes, LabelsBlock}
use Rattle.irtext_parse_locations.proofs.EditedBlock.{edited_block_closed}

module _ {T A : Type 0} (mark : ℕ) where
  same_closed : (old new : ContextView T A) → new ≡ old → IsClosedBelow mark old.graph → IsClosedBelow mark new.graph
  same_closed old new e closed = subst (λ (c : ContextView T A). IsClosedBelow mark c.graph) (sym e) closed

  pub located_closed : (p : Ptr Operation) (l : Option (Location A)) (old new : ContextView T A) → LocatesOperation p l old new → IsClosedBelow mark old.graph → IsClosedBelow mark new.graph
  located_closed p None old new e closed = same_closed old new e closed
  located_closed p (Some l) old new e closed = edited_closed mark old.graph new.graph p (option_map (with_loc l)) e.graph closed

  pub stored_closed : (p : Ptr Operation) (old new : ContextView T A) → EditsAttributes p old new → IsClosedBelow mark old.graph → IsClosedBelow mark new.graph
  stored_closed p old new e closed = edited_closed mark old.graph new.graph p (option_map (with_attributes e.left)) e.edits.graph closed

  pub located_block_closed : (p : Ptr BasicBlock) (l : Option (Location A)) (old new : ContextView T A) → LocatesBlock p l old new → IsClosedBelow mark old.graph → IsClosedBelow mark new.graph
  located_block_closed p None old new e closed = same_closed old new e closed
  located_block_closed p (Some l) old new e closed = edited_block_closed mark old.graph new.graph p (with_block_loc l) e.graph closed

  pub stored_block_closed : (p : Ptr BasicBlock) (old new : ContextView T A) → EditsBlockAttributes p old new → IsClosedBelow mark old.graph → IsClosedBelow mark new.graph
  stored_block_closed p old new e closed = edited_block_closed mark old.graph new.graph p (with_block_attributes e.left) e.edits.graph closed

  pub labelled_closed : (p : Ptr BasicBlock) (l : Option Text) (old new : ContextView T A) → LabelsBlock p l old new → IsClosedBelow mark old.graph → IsClosedBelow mark new.graph
  labelled_closed p None old new e closed = same_closed old new e closed
  labelled_closed p (Some l) old new e closed = edited_block_closed mark old.graph new.graph p (with_label (Some l)) e.graph closed

-- what is put into the attributes that are seen of something is put into those of the one view of it
put_there : {V A : Type 0} (see : V → List (Text × AttrObj A)) (o : Option V) (content : List (Text × Attribute A)) (now left : List (Text × AttrObj A)) → option_map see o ≡ Some now → entries_of left ≡ put_all (entries_of now) content
    → (view : V) → o ≡ Some view → entries_of left ≡ put_all (entries_of (see view)) content
put_there see o content now left value h view is =
    let same : now ≡ see view = cc (sym value ∙ ap (option_map see) is) in
    h ∙ ap (λ es. put_all (entries_of es) content) same

module _ {T A X E : Type 0} {old new : ContextView T A} where
  -- what was put into the attributes of an operation was stored
  pub stores_operation : (p : Ptr Operation) (content : List (Text × Attribute A)) (now left : List (Text × AttrObj A)) (r : Result X E) → option_map (λ (v : OperationView T A). v.attributes) (operation old p) ≡ Some now
      → EditsOperation old new p (with_attributes left) → OnOk r (entries_of left ≡ put_all (entries_of now) content) → OnOk r (StoresOperation p content old new)
  stores_operation p content now left (Ok x) value e h = record { left = left; edits = e; stored = put_there (λ v. v.attributes) (operation old p) content now left value h }
  stores_operation p content now left (Err x) value e h = tt

  -- so was what was put into those of a block
  pub stores_block : (p : Ptr BasicBlock) (content : List (Text × Attribute A)) (now left : List (Text × AttrObj A)) (r : Result X E) → option_map (λ (v : BlockView T A). v.attributes) (block old p) ≡ Some now
      → EditsBlock old new p (with_block_attributes left) → OnOk r (entries_of left ≡ put_all (entries_of now) content) → OnOk r (StoresBlock p content old new)
  stores_block p content now left (Ok x) value e h = record { left = left; edits = e; stored = put_there (λ v. v.attributes) (block old p) content now left value h }
  stores_block p content now left (Err x) value e h = tt

-- an item that is newer stays so while what is older is kept
pub newer_still : {T A : Type 0} (mark : ℕ) (x : Item) {old mid : ContextView T A} → KeepsOlder mark old mid → IsNewer mark old x → IsNewer mark mid x
newer_still mark (item.Operation p) k n = k.graph.operations p ∙ n
newer_still mark (item.Block b) k n = k.graph.blocks b ∙ n
