-- For callers: what one item has once a section was applied, by the mark that it carries.
use Rattle.std.specs.Prelude.{◌≡◌, ℕ, true, is_some, List, [], Option, Some, None, unwrap_or}
use Rattle.std.specs.Map.{lookup}
use Rattle.irtext_base.specs.Paths.{Written}
use Rattle.irtext_base.specs.Text.{Text}
use Rattle.irtext_context.specs.Context.{ContextView, OperationView, BlockView, operation, block}
use Rattle.irtext_context.specs.declared.base.item.Item.{Item}
use Rattle.irtext_graph.specs.declared.arena.Ptr.{Ptr}
use Rattle.irtext_graph.specs.declared.object.BasicBlock.{BasicBlock}
use Rattle.irtext_graph.specs.declared.object.Operation.{Operation}
use Rattle.irtext_parse_state.specs.States.{same_index}
use Rattle.irtext_grammar.specs.Contexts.Held.{entries_of, location_over}
use Rattle.irtext_grammar.specs.Grammar.Section.{Entry}
use Rattle.irtext_grammar.specs.Grammar.Tree.{Mark, Attribute}
use Rattle.irtext_grammar.specs.Graphs.Build.{content, located, labelled, but_label, with_content}

-- the item carries this mark and no other, or no mark at all
abbrev pub CarriesOnly : List (ℕ × Item) → Item → Option (Mark ℕ) → Type 0
CarriesOnly marks x None = (i : ℕ) → lookup (same_index i) marks ≡ Some x → ⊥
CarriesOnly marks x (Some m) = (lookup (same_index m.index) marks ≡ Some x) × ((i : ℕ) → lookup (same_index i) marks ≡ Some x → i ≡ m.index)

module _ {T A : Type 0} (paths : List (List ℕ)) (given : Option (Option (Written A) × List (Text × Attribute A))) (c : ContextView T A) where
  -- an operation is unchanged, except that it has a location and attributes that are given, if any are
  pub record OperationHas (p : Ptr Operation) (view : OperationView T A) : Type 0 where
    pub after : OperationView T A
    pub is : operation c p ≡ Some after
    pub id : after.id ≡ view.id
    pub types : after.result_types ≡ view.result_types
    pub inner : after.regions ≡ view.regions
    pub entries : entries_of after.attributes ≡ with_content (entries_of view.attributes) given
    pub location : location_over paths after.loc ≡ located (location_over paths view.loc) given

  -- a block is unchanged, except that it has a location, a label and attributes that are given, if any are
  pub record BlockHas (b : Ptr BasicBlock) (view : BlockView T A) : Type 0 where
    pub after : BlockView T A
    pub is : block c b ≡ Some after
    pub label : unwrap_or after.label [] ≡ labelled (unwrap_or view.label []) given
    pub has_label : is_some view.label ≡ true → is_some after.label ≡ true
    pub types : after.arg_types ≡ view.arg_types
    pub inner : after.operations ≡ view.operations
    pub entries : entries_of after.attributes ≡ with_content (entries_of view.attributes) (but_label given)
    pub location : location_over paths after.loc ≡ located (location_over paths view.loc) given

module _ {T A : Type 0} (es : List (Entry ℕ A (Written A))) (m : Option (Mark ℕ)) (c : ContextView T A) where
  -- an operation is unchanged, except that it has what the entry of its mark gives
  abbrev pub OperationGiven : Ptr Operation → OperationView T A → Type 0
  OperationGiven p view = OperationHas c.paths (content es m) c p view

  -- a block is unchanged, except that it has what the entry of its mark gives
  abbrev pub BlockGiven : Ptr BasicBlock → BlockView T A → Type 0
  BlockGiven b view = BlockHas c.paths (content es m) c b view
