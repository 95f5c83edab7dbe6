-- The only entry of a section: without pairs it gives a location alone, and nothing can be wrong with it.
use Rattle.std.proofs.Common.{◌≡◌, ◌∙◌, ℕ, cond, is_some, List, [], ◌∷◌, ◌++◌, Option, Some, None, Result, Ok, Err, OnOk, refl, sym, ap, subst, append-nil}
use Rattle.std.specs.Option.{option_map}
use Rattle.std.specs.Prelude.{option_and_then}
use Rattle.irtext_base.specs.Text.{Text}
use Rattle.irtext_base.specs.declared.base.attributes.AttrObj.{AttrObj}
use Rattle.irtext_context.specs.Context.{ContextView, OperationView, BlockView, operation, operation_of, block, block_of, view_of, with_attributes, with_block_attributes}
use Rattle.irtext_context.specs.declared.base.item.Item.{Item}
use Rattle.irtext_context.specs.declared.base.item.Item.TheVariants as item
use Rattle.irtext_context.specs.declared.base.operation.OperationData.{OperationData}
use Rattle.irtext_context.proofs.Contexts.{OperationEntry, BlockEntry}
use Rattle.irtext_graph.specs.Data.{with_data, with_block}
use Rattle.irtext_graph.specs.Store.{get, object_of}
use Rattle.irtext_graph.specs.declared.object.Operation.{Operation}
use Rattle.irtext_grammar.specs.Contexts.Held.{entries_of}
use Rattle.irtext_parse_locations.specs.Applied.{all_stored, StoresOperation, StoresBlock, Gives, GivesAll}
use Rattle.irtext_parse_locations.specs.Checked.{pairs_wrong, items_wrong}
use Rattle.irtext_parse_locations.specs.Rules.{is_block}
use Rattle.irtext_parse_locations.specs.Together.{Stores, Finishes}
use Rattle.irtext_parse_locations.specs.declared.said.ItemEntry.{ItemEntry}
use Rattle.irtext_graph.proofs.Nests.{some_eq}
use Rattle.irtext_parse_locations.proofs.Edits.{operation_unedited, block_unedited}
use Rattle.irtext_parse_locations.proofs.FinishedFirst.{gives_both}

-- ---- nothing is put into attributes
-- no label
abbrev no_text : Option Text
no_text = None

module _ {T A : Type 0} where
  -- an operation with the attributes that it has is unchanged
  same_data : (x : OperationEntry T A) (o : Option (OperationData A)) (view : OperationView T A) → option_map (view_of {T = T} {A = A} x.content.content.results x.content.children) o ≡ Some view → o ≡ option_map (with_attributes view.attributes) o
  same_data x None view e = refl
  same_data x (Some d) view e =
      let same : view_of {T = T} {A = A} x.content.content.results x.content.children d ≡ view = cc e in
      ap (λ ds. Some (record d { attributes = ds })) (ap (λ (v : OperationView T A). v.attributes) same)

  same_operation : (s : Option (OperationEntry T A)) (view : OperationView T A) → option_and_then (operation_of {T = T} {A = A}) s ≡ Some view → s ≡ option_map (object_of (with_data (option_map (with_attributes view.attributes)))) s
  same_operation None view e = refl
  same_operation (Some x) view e =
      ap (λ o. Some (record x { content = record x.content { content = record x.content.content { data_of = o } } })) (same_data x x.content.content.data_of view e)

  -- so is a block
  same_block : (s : Option (BlockEntry T A)) (view : BlockView T A) → option_map (block_of {T = T} {A = A}) s ≡ Some view → s ≡ option_map (object_of (with_block (with_block_attributes view.attributes))) s
  same_block None view e = refl
  same_block (Some x) view e =
      let same : block_of {T = T} {A = A} x ≡ view = cc e in
      ap (λ ds. Some (record x { content = record x.content { content = record x.content.content { data_of = record x.content.content.data_of { attributes = ds } } } })) (ap (λ (v : BlockView T A). v.attributes) same)

  same_entries : (view now : OperationView T A) → Some view ≡ Some now → entries_of view.attributes ≡ entries_of now.attributes
  same_entries view now e = ap (λ (v : OperationView T A). entries_of v.attributes) (some_eq e)

  same_block_entries : (view now : BlockView T A) → Some view ≡ Some now → entries_of view.attributes ≡ entries_of now.attributes
  same_block_entries view now e = ap (λ (v : BlockView T A). entries_of v.attributes) (some_eq e)

  -- nothing was put into an item's attributes
  stores_none : (x : Item) (c : ContextView T A) → Stores [] x None c c
  stores_none (item.Operation p) c = go (operation c p) refl
    where
      go : (o : Option (OperationView T A)) → operation c p ≡ o → cond (is_some o) (StoresOperation p [] c c) (c ≡ c)
      go None e = refl
      go (Some view) e = record { left = view.attributes; edits = operation_unedited c p (with_attributes view.attributes) (same_operation (get c.graph.operations p) view e); stored = λ now is. same_entries view now (sym e ∙ is) }
  stores_none (item.Block p) c = go (block c p) refl
    where
      go : (o : Option (BlockView T A)) → block c p ≡ o → cond (is_some o) (StoresBlock p [] c c × (no_text ≡ None)) (c ≡ c)
      go None e = refl
      go (Some view) e =
          (record { left = view.attributes; edits = block_unedited c p (with_block_attributes view.attributes) (same_block (get c.graph.blocks p) view e); stored = λ now is. same_block_entries view now (sym e ∙ is) }, refl)

  -- an entry without pairs gives a location
  pub only_gives : (e : ItemEntry A) (a c : ContextView T A) → e.pairs.items ≡ [] → Finishes e.item e.location None a c → GivesAll [] (e ∷ []) a c
  only_gives e a c none f =
      (c, subst (λ ps. Gives e.item e.location (all_stored [] ps) a c) (sym none) (gives_both [] None e.item e.location a a c (stores_none e.item a) f), refl)

  -- what one entry gives is what a row of it gives
  pub gives_one : {X E : Type 0} (r : Result X E) (once : List (ℕ × AttrObj A)) (e : ItemEntry A) (a c : ContextView T A) → once ≡ [] → OnOk r (Gives e.item e.location (all_stored once e.pairs.items) a c) → OnOk r (GivesAll [] (e ∷ []) a c)
  gives_one (Ok x) once e a c none g = (c, subst (λ o. Gives e.item e.location (all_stored o e.pairs.items) a c) none g, refl)
  gives_one (Err x) once e a c none g = tt

  pub gives_same : {X E : Type 0} (r : Result X E) (once : List (ℕ × AttrObj A)) (items : List (ItemEntry A)) (e : ItemEntry A) (a c : ContextView T A) → once ≡ [] → items ≡ e ∷ [] → OnOk r (GivesAll once items a c) → OnOk r (GivesAll [] (e ∷ []) a c)
  gives_same r once items e a c none same g = subst (λ o. OnOk r (GivesAll o (e ∷ []) a c)) none (subst (λ es. OnOk r (GivesAll once es a c)) same g)

-- ---- references
-- nothing is wrong with an entry without pairs
pub only_right : {A : Type 0} (e : ItemEntry A) → e.pairs.items ≡ [] → items_wrong [] (e ∷ []) ≡ []
only_right e none = ap (λ ps. pairs_wrong [] (is_block e.item) ps ++ []) none

-- what is wrong with the only entry is wrong with its pairs
pub only_wrong : {A : Type 0} (once : List (ℕ × AttrObj A)) (e : ItemEntry A) → once ≡ [] → pairs_wrong once (is_block e.item) e.pairs.items ≡ items_wrong [] (e ∷ [])
only_wrong once e none = ap (λ o. pairs_wrong o (is_block e.item) e.pairs.items) none ∙ sym (append-nil (pairs_wrong [] (is_block e.item) e.pairs.items))
