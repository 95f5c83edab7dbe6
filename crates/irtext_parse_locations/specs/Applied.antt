-- For callers: what items have once the entries of a section were applied: a location, attributes, and for a block its label. An item is
-- an operation or a block that carries a mark.
use Rattle.std.specs.Prelude.{◌≡◌, ℕ, cond, not, is_some, List, [], ◌∷◌, Option, Some, None, flat_map, filter, nat_eq, ⊤}
use Rattle.std.specs.Map.{lookup}
use Rattle.std.specs.Option.{option_map}
use Rattle.irtext_base.specs.Text.{Text}
use Rattle.irtext_base.specs.Format.{same_text, block_label_key}
use Rattle.irtext_base.specs.declared.base.attributes.AttrObj.{AttrObj}
use Rattle.irtext_base.specs.declared.location.Location.{Location}
use Rattle.irtext_base.specs.Paths.{Written}
use Rattle.irtext_context.specs.Context.{ContextView, KeepsOlder, OperationView, BlockView, operation, block, EditsOperation, EditsBlock, with_loc, with_attributes, with_block_loc, with_block_attributes, with_label}
use Rattle.irtext_context.specs.declared.base.item.Item.{Item}
use Rattle.irtext_context.specs.declared.base.item.Item.TheVariants as item
use Rattle.irtext_graph.specs.Back.{IsClosedBelow}
use Rattle.irtext_graph.specs.Store.{before}
use Rattle.irtext_graph.specs.declared.arena.Ptr.{Ptr}
use Rattle.irtext_graph.specs.declared.object.BasicBlock.{BasicBlock}
use Rattle.irtext_graph.specs.declared.object.Operation.{Operation}
use Rattle.irtext_parse_state.specs.States.{same_index}
use Rattle.irtext_grammar.specs.Contexts.Held.{attribute_of, entries_of}
use Rattle.irtext_grammar.specs.Grammar.Section.{Entry, of_item, of_once}
use Rattle.irtext_grammar.specs.Grammar.Tree.{Attribute, ident}
use Rattle.irtext_grammar.specs.Graphs.Build.{put_all, resolved}
use Rattle.irtext_grammar.specs.Promises.Section.{given_over}
use Rattle.irtext_grammar.specs.declared.parsed.Key.{Key}
use Rattle.irtext_parse_locations.specs.declared.said.GivenAttr.{GivenAttr}
use Rattle.irtext_parse_locations.specs.declared.said.GivenAttr.TheVariants as given
use Rattle.irtext_parse_locations.specs.declared.said.ItemEntry.{ItemEntry}

-- ---- what entries give
module _ {A : Type 0} (once : List (ℕ × AttrObj A)) where
  -- the given attribute: the one in the entry, or the print-once attribute that it refers to, if there is one
  abbrev pub given_by : GivenAttr A → Option (Attribute A)
  given_by (given.Direct a) = Some (attribute_of a)
  given_by (given.Reference m) = option_map attribute_of (lookup (nat_eq m.index) once)

-- an attribute under a key, if there is one
abbrev pub under : {A : Type 0} → Text → Option (Attribute A) → List (Text × Attribute A)
under k None = []
under k (Some a) = (k, a) ∷ []

module _ {A : Type 0} (once : List (ℕ × AttrObj A)) where
  -- what a pair gives
  abbrev pub stored_by : Key × GivenAttr A → List (Text × Attribute A)
  stored_by pair = under pair.0.name (given_by once pair.1)

  -- what pairs give, one after another
  abbrev pub all_stored : List (Key × GivenAttr A) → List (Text × Attribute A)
  all_stored pairs = flat_map stored_by pairs

module _ {A : Type 0} where
  -- all attributes but the label
  abbrev pub no_label : List (Text × Attribute A) → List (Text × Attribute A)
  no_label es = filter (λ e. not (same_text e.0 block_label_key)) es

  -- the label that an attribute is, or else the one that is given
  abbrev pub label_by : Option (Attribute A) → Option Text → Option Text
  label_by None l = l
  label_by (Some a) l = elim a [ ident n ↦ Some n | _ ↦ l ]

  -- the label that attributes give, the last one if there are several, or else the one that is given
  abbrev pub label_in : Option Text → List (Text × Attribute A) → Option Text
  label_in l [] = l
  label_in l (e ∷ es) = label_in (cond (same_text e.0 block_label_key) (label_by (Some e.1) l) l) es

-- ---- what entries do to a context
module _ {T A : Type 0} where
  -- an operation has this location from now on, if one is given
  abbrev pub LocatesOperation : Ptr Operation → Option (Location A) → ContextView T A → ContextView T A → Type 0
  LocatesOperation p None old new = new ≡ old
  LocatesOperation p (Some l) old new = EditsOperation old new p (with_loc l)

  -- a block has this location from now on, if one is given
  abbrev pub LocatesBlock : Ptr BasicBlock → Option (Location A) → ContextView T A → ContextView T A → Type 0
  LocatesBlock p None old new = new ≡ old
  LocatesBlock p (Some l) old new = EditsBlock old new p (with_block_loc l)

  -- the attributes of an operation changed, and nothing else
  pub record EditsAttributes (p : Ptr Operation) (old new : ContextView T A) : Type 0 where
    pub left : List (Text × AttrObj A)
    pub edits : EditsOperation old new p (with_attributes left)

  -- the attributes of a block changed, and nothing else
  pub record EditsBlockAttributes (p : Ptr BasicBlock) (old new : ContextView T A) : Type 0 where
    pub left : List (Text × AttrObj A)
    pub edits : EditsBlock old new p (with_block_attributes left)

  -- these attributes were stored in those of an operation, one after another
  pub record StoresOperation (p : Ptr Operation) (content : List (Text × Attribute A)) (old new : ContextView T A) : Type 0 where
    pub left : List (Text × AttrObj A)
    pub edits : EditsOperation old new p (with_attributes left)
    pub stored : (view : OperationView T A) → operation old p ≡ Some view → entries_of left ≡ put_all (entries_of view.attributes) content

  -- these attributes were stored in those of a block, one after another
  pub record StoresBlock (p : Ptr BasicBlock) (content : List (Text × Attribute A)) (old new : ContextView T A) : Type 0 where
    pub left : List (Text × AttrObj A)
    pub edits : EditsBlock old new p (with_block_attributes left)
    pub stored : (view : BlockView T A) → block old p ≡ Some view → entries_of left ≡ put_all (entries_of view.attributes) content

  -- an operation, if it is live, got a location, if one is given, and attributes
  abbrev pub GivesOperation : Ptr Operation → Option (Location A) → List (Text × Attribute A) → ContextView T A → ContextView T A → Type 0
  GivesOperation p l content old new = cond (is_some (operation old p)) ((mid : ContextView T A) × LocatesOperation p l old mid × StoresOperation p content mid new) (new ≡ old)

  -- a block has this label from now on, if one is given
  abbrev pub LabelsBlock : Ptr BasicBlock → Option Text → ContextView T A → ContextView T A → Type 0
  LabelsBlock p None old new = new ≡ old
  LabelsBlock p (Some l) old new = EditsBlock old new p (with_label (Some l))

  -- a block, if it is live, got a location, if one is given, the attributes without the label, and the label, if one is among them
  abbrev pub GivesBlock : Ptr BasicBlock → Option (Location A) → List (Text × Attribute A) → ContextView T A → ContextView T A → Type 0
  GivesBlock p l content old new = cond (is_some (block old p))
      ((mid last : ContextView T A) × LocatesBlock p l old mid × StoresBlock p (no_label content) mid last × LabelsBlock p (label_in None content) last new) (new ≡ old)

  -- an item got what its entry gives
  abbrev pub Gives : Item → Option (Location A) → List (Text × Attribute A) → ContextView T A → ContextView T A → Type 0
  Gives (item.Operation p) l content old new = GivesOperation p l content old new
  Gives (item.Block b) l content old new = GivesBlock b l content old new

  -- each item got what its entry gives, in the order of the text
  abbrev pub GivesAll : List (ℕ × AttrObj A) → List (ItemEntry A) → ContextView T A → ContextView T A → Type 0
  GivesAll once [] old new = new ≡ old
  GivesAll once (e ∷ es) old new = (mid : ContextView T A) × Gives e.item e.location (all_stored once e.pairs.items) old mid × GivesAll once es mid new

  -- an item is newer than a mark, which is a count of created objects
  abbrev pub IsNewer : ℕ → ContextView T A → Item → Type 0
  IsNewer mark c (item.Operation p) = before mark c.graph.operations p ≡ None
  IsNewer mark c (item.Block b) = before mark c.graph.blocks b ≡ None

  -- the items of the entries are newer than a mark
  abbrev pub ItemsAreNewer : ℕ → ContextView T A → List (ItemEntry A) → Type 0
  ItemsAreNewer mark c [] = ⊤
  ItemsAreNewer mark c (e ∷ es) = IsNewer mark c e.item × ItemsAreNewer mark c es

  -- what is older than a mark is unchanged, if the items of the entries are newer
  abbrev pub KeepsOthers : List (ItemEntry A) → ContextView T A → ContextView T A → Type 0
  KeepsOthers items old new = (mark : ℕ) → ItemsAreNewer mark old items → KeepsOlder mark old new

  -- what is older than a mark still refers to nothing newer
  abbrev pub StaysClosed : ContextView T A → ContextView T A → Type 0
  StaysClosed old new = (mark : ℕ) → IsClosedBelow mark old.graph → IsClosedBelow mark new.graph

  -- the items of the marks of the text are newer than a mark
  abbrev pub AreNewer : ℕ → ContextView T A → List (ℕ × Item) → Type 0
  AreNewer mark c [] = ⊤
  AreNewer mark c (m ∷ ms) = IsNewer mark c m.1 × AreNewer mark c ms

  -- ---- by the section's entries
  module _ (marks : List (ℕ × Item)) (paths : List (List ℕ)) (all : List (Entry ℕ A (Written A))) where
    -- the item of a mark got the location and the attributes that its entry gives, with references resolved
    pub record AppliesOne (i : ℕ) (x : Option (Written A)) (content : List (Text × Attribute A)) (old new : ContextView T A) : Type 0 where
      pub item : Item
      pub carries : lookup (same_index i) marks ≡ Some item
      pub location : Option (Location A)
      pub over : given_over paths location ≡ x
      pub gives : Gives item location content old new

    -- the items of all these entries got what their entries give, in the order of the text
    abbrev pub AppliesAll : List (Entry ℕ A (Written A)) → ContextView T A → ContextView T A → Type 0
    AppliesAll [] old new = new ≡ old
    AppliesAll (of_once m a ∷ es) old new = AppliesAll es old new
    AppliesAll (of_item m x ps ∷ es) old new = (mid : ContextView T A) × AppliesOne m.index x (flat_map (resolved all) ps) old mid × AppliesAll es mid new
