-- Between functions: entries that are applied all or none. The attributes are stored first, and those that an item had are kept; the
-- locations and the labels, which need no allocation, come last.
use Rattle.std.specs.Prelude.{◌≡◌, ℕ, cond, is_some, IsSome, List, [], ◌∷◌, ◌++◌, Option, Some, None}
use Rattle.std.specs.Option.{option_map}
use Rattle.irtext_base.specs.Text.{Text}
use Rattle.irtext_base.specs.declared.base.attributes.AttrObj.{AttrObj}
use Rattle.irtext_base.specs.declared.location.Location.{Location}
use Rattle.irtext_context.specs.Context.{ContextView, KeepsOlder, EditsOperation, EditsBlock, operation, block, with_attributes, with_block_attributes}
use Rattle.irtext_context.specs.declared.base.item.Item.{Item}
use Rattle.irtext_context.specs.declared.base.item.Item.TheVariants as item
use Rattle.irtext_graph.specs.declared.arena.Ptr.{Ptr}
use Rattle.irtext_graph.specs.declared.object.BasicBlock.{BasicBlock}
use Rattle.irtext_graph.specs.declared.object.Operation.{Operation}
use Rattle.irtext_grammar.specs.Contexts.Held.{entries_of}
use Rattle.irtext_grammar.specs.Grammar.Tree.{Attribute}
use Rattle.irtext_grammar.specs.Graphs.Build.{put_all}
use Rattle.irtext_parse_locations.specs.Applied.{all_stored, no_label, label_in, StoresOperation, StoresBlock, LocatesOperation, LocatesBlock, LabelsBlock}
use Rattle.irtext_parse_locations.specs.declared.said.ItemEntry.{ItemEntry}
use Rattle.irtext_parse_locations.specs.declared.together.Step.{Step}

-- the attributes are those that an item has, if there is one, with these stored in them
abbrev pub HasStored : {A : Type 0} → List (Text × Attribute A) → Option (List (Text × AttrObj A)) → List (Text × AttrObj A) → Type 0
HasStored {A} content had next = (now : List (Text × AttrObj A)) → had ≡ Some now → entries_of next ≡ put_all (entries_of now) content

module _ {T A : Type 0} where
  -- an item, if it is live, got the attributes, and this is the label that a block still has to get
  abbrev pub Stores : List (Text × Attribute A) → Item → Option Text → ContextView T A → ContextView T A → Type 0
  Stores content (item.Operation p) n old new = cond (is_some (operation old p)) (StoresOperation p content old new) (new ≡ old)
  Stores content (item.Block b) n old new = cond (is_some (block old b)) (StoresBlock b (no_label content) old new × (n ≡ label_in None content)) (new ≡ old)

  -- an operation got other attributes, and had these before
  pub record TakesOperation (p : Ptr Operation) (had : List (Text × AttrObj A)) (old new : ContextView T A) : Type 0 where
    pub left : List (Text × AttrObj A)
    pub edits : EditsOperation old new p (with_attributes left)
    pub had_these : option_map (λ op. op.attributes) (operation old p) ≡ Some had

  -- a block got other attributes, and had these before
  pub record TakesBlock (p : Ptr BasicBlock) (had : List (Text × AttrObj A)) (old new : ContextView T A) : Type 0 where
    pub left : List (Text × AttrObj A)
    pub edits : EditsBlock old new p (with_block_attributes left)
    pub had_these : option_map (λ b. b.attributes) (block old p) ≡ Some had

  -- an item got other attributes, and had these before; or nothing changed
  abbrev pub Takes : Item → Option (List (Text × AttrObj A)) → ContextView T A → ContextView T A → Type 0
  Takes x None old new = new ≡ old
  Takes (item.Operation p) (Some had) old new = TakesOperation p had old new
  Takes (item.Block b) (Some had) old new = TakesBlock b had old new

  -- an item is live
  abbrev pub IsLive : Item → ContextView T A → Type 0
  IsLive (item.Operation p) now = IsSome (operation now p)
  IsLive (item.Block b) now = IsSome (block now b)

  -- the attributes that an item has, if it is live
  abbrev pub attributes_in : Item → ContextView T A → Option (List (Text × AttrObj A))
  attributes_in (item.Operation p) now = option_map (λ op. op.attributes) (operation now p)
  attributes_in (item.Block b) now = option_map (λ b. b.attributes) (block now b)

  -- an item got these attributes
  abbrev pub Puts : Item → List (Text × AttrObj A) → ContextView T A → ContextView T A → Type 0
  Puts (item.Operation p) next old new = EditsOperation old new p (with_attributes next)
  Puts (item.Block b) next old new = EditsBlock old new b (with_block_attributes next)

  -- an item got these attributes; or nothing changed
  abbrev pub PutsBack : Item → Option (List (Text × AttrObj A)) → ContextView T A → ContextView T A → Type 0
  PutsBack x None old new = new ≡ old
  PutsBack x (Some had) old new = Puts x had old new

  -- an item, if it is live, got the location and the label, if they are given
  abbrev pub Finishes : Item → Option (Location A) → Option Text → ContextView T A → ContextView T A → Type 0
  Finishes (item.Operation p) l n old new = cond (is_some (operation old p)) (LocatesOperation p l old new) (new ≡ old)
  Finishes (item.Block b) l n old new = cond (is_some (block old b)) ((mid : ContextView T A) × LocatesBlock b l old mid × LabelsBlock b n mid new) (new ≡ old)

  -- each item got what it still had to get, in order
  abbrev pub FinishesAll : List (Step A) → ContextView T A → ContextView T A → Type 0
  FinishesAll [] old new = new ≡ old
  FinishesAll (s ∷ ss) old new = (mid : ContextView T A) × Finishes s.item s.location s.label old mid × FinishesAll ss mid new

  -- the attributes of an entry were stored, and the step records it
  pub record IsStepOf (once : List (ℕ × AttrObj A)) (e : ItemEntry A) (s : Step A) (old new : ContextView T A) : Type 0 where
    pub item : s.item ≡ e.item
    pub location : s.location ≡ e.location
    pub stores : Stores (all_stored once e.pairs.items) e.item s.label old new

  -- the same, and the step was appended to the others, with the attributes that the item had
  pub record StepsOn (once : List (ℕ × AttrObj A)) (e : ItemEntry A) (ss more : List (Step A)) (old new : ContextView T A) : Type 0 where
    pub step : Step A
    pub made : IsStepOf once e step old new
    pub takes : Takes step.item step.before old new
    pub noted : more ≡ ss ++ step ∷ []

  -- the attributes of all entries were stored, in the order of the text
  abbrev pub StoresAll : List (ℕ × AttrObj A) → List (ItemEntry A) → List (Step A) → ContextView T A → ContextView T A → Type 0
  StoresAll once [] [] old new = new ≡ old
  StoresAll once [] (s ∷ ss) old new = ⊥
  StoresAll once (e ∷ es) [] old new = ⊥
  StoresAll once (e ∷ es) (s ∷ ss) old new = (mid : ContextView T A) × IsStepOf once e s old mid × StoresAll once es ss mid new

  -- what is older than the mark is as the steps left it
  abbrev pub TakesAll : ℕ → List (Step A) → ContextView T A → ContextView T A → Type 0
  TakesAll mark [] old new = KeepsOlder mark old new
  TakesAll mark (s ∷ ss) old new = (first mid : ContextView T A) × KeepsOlder mark old first × Takes s.item s.before first mid × TakesAll mark ss mid new

  -- the attributes of the first entries were stored, and these entries are left
  pub record TakenSoFar (once : List (ℕ × AttrObj A)) (all left : List (ItemEntry A)) (ss : List (Step A)) (old now : ContextView T A) : Type 0 where
    pub done : List (ItemEntry A)
    pub are : all ≡ done ++ left
    pub stores : StoresAll once done ss old now
    pub takes : (mark : ℕ) → TakesAll mark ss old now
