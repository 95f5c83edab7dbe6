-- What calls of a context do, as seen from the open frames: what is made is new, what is added to an object is its last child, and all else
-- is unchanged.
use Rattle.std.proofs.Common.{◌≡◌, ◌≢◌, ◌∙◌, ◌⊎◌, ℕ, List, [], ◌∷◌, ◌++◌, map, Option, Some, None, IsSome, option_map, slice_get, suc, refl, sym, ap, ap₂, subst, inl, inr}
use Rattle.std.specs.Prelude.{option_and_then, length, ⊤}
use Rattle.std.proofs.lemmas.List.{map_push}
use Rattle.irtext_base.specs.Text.{Text}
use Rattle.irtext_base.specs.Faults.{id_of}
use Rattle.irtext_base.specs.declared.base.attributes.AttrObj.{AttrObj}
use Rattle.irtext_base.specs.declared.location.Location.{Location}
use Rattle.irtext_context.specs.Context.{ContextView, OperationView, BlockView, RegionView, operation, operation_of, view_of, block, block_of, block_view, region_of, known, MakesOperation, MakesBlock, AddsRegion, EditsOperation, with_attributes}
use Rattle.irtext_context.specs.Made.{made_view, made_block}
use Rattle.irtext_context.proofs.Contexts.{OperationEntry, BlockEntry, made_seen, made_block_seen, edited_seen, grown_seen, region_seen}
use Rattle.irtext_context.specs.declared.base.block.BlockData.{BlockData}
use Rattle.irtext_context.specs.declared.base.operation.OperationData.{OperationData}
use Rattle.irtext_graph.specs.declared.arena.Entry.{Entry}
use Rattle.irtext_graph.specs.declared.arena.Ptr.{Ptr}
use Rattle.irtext_graph.specs.declared.object.Operation.{Operation}
use Rattle.irtext_graph.specs.declared.object.BasicBlock.{BasicBlock}
use Rattle.irtext_graph.specs.declared.object.Region.{Region}
use Rattle.irtext_graph.specs.declared.object.Value.{Value}
use Rattle.irtext_graph.specs.declared.object.Object.{Object}
use Rattle.irtext_graph.specs.declared.object.Object.TheVariants.{TheOperation, TheBlock, TheRegion}
use Rattle.irtext_graph.specs.Chained.{Among}
use Rattle.irtext_graph.specs.Content.{Node, Typed, Content, Content.{AnOperation, ABlock, ARegion}, OperationContent, RegionContent}
use Rattle.irtext_graph.specs.Erasing.{without_uses, Erases}
use Rattle.irtext_graph.specs.Graph.{GraphView, parent_of, children_of, content_of, parent, children, content, Appends, IsInside}
use Rattle.irtext_graph.specs.Parts.{operands, successors, operands_of, successors_of}
use Rattle.irtext_graph.specs.Used.{Replaces, replaced}
use Rattle.irtext_graph.specs.declared.object.Defined.TheVariants.{OfValue, OfBlock}
use Rattle.irtext_graph.specs.declared.object.Defined.{Defined}
use Rattle.irtext_graph.specs.declared.object.Site.TheVariants.{AtOperand, AtSuccessor}
use Rattle.irtext_graph.specs.Regions.{with_child}
use Rattle.irtext_graph.specs.Data.{with_data}
use Rattle.irtext_graph.specs.Store.{object_of, get}
use Rattle.irtext_graph.proofs.Nests.{some_eq, same_or_other}
use Rattle.irtext_graph.proofs.Same.{object_tells}
use Rattle.irtext_graph.proofs.Frames.{map_same, option_same, block_same, region_same, operation_same}
use Rattle.irtext_grammar.specs.Contexts.Held.{entries_of}
use Rattle.irtext_grammar.specs.Grammar.Tree.{Head}
use Rattle.irtext_grammar.specs.Unchanged.{OwnSoFar, head_entries, HasOwn, HasUses, HasHead, IsThere, IsAsItWas, UsesAsMany, ModifiesOnly}
use Rattle.irtext_grammar.specs.Grows.{with_last_block, with_last_operation, RegionCame, OperationGains, RegionGains, BlockGains, OperationCame, BlockCame, OwnBecame}
use Rattle.irtext_grammar.proofs.Kept.{there_still, uses_kept}
use Rattle.irtext_graph.proofs.Stores.{inserted_new, same_views}

-- an object is among others, or is not
pub among_or_not : (o : Object) (os : List Object) → Among o os ⊎ (Among o os → ⊥)
among_or_not o [] = inr (λ i. i)
among_or_not o (k ∷ os) = elim (same_or_other object_tells o k) [
  | inl e ↦ inl (inl e)
  | inr n ↦ elim (among_or_not o os) [ inl i ↦ inl (inr i) | inr m ↦ inr (λ i. elim i [ inl e ↦ n e | inr j ↦ m j ]) ]
]

-- ---- how many operands and successors operations have
-- lists in which the same indices are taken are as long
module _ {X Y Z : Type 0} (of : X → Z) (change : Z → Z) (seen : Y → Z) where
  as_long : (xs : List X) (ys : List Y) → ((i : ℕ) → option_map seen (slice_get ys i) ≡ option_map change (option_map of (slice_get xs i))) → length ys ≡ length xs
  as_long [] [] h = refl
  as_long [] (y ∷ ys) h = let e = h 0 in cc
  as_long (x ∷ xs) [] h = let e = h 0 in cc
  as_long (x ∷ xs) (y ∷ ys) h = ap suc (as_long xs ys (λ i. h (suc i)))

module _ {O B T : Type 0} where
  -- an operation, as what an object is
  abbrev an_operation : ℕ × OperationContent O T → Content O B T
  an_operation d = AnOperation d.0 d.1

  -- the operands that an object has, by what it is, and its successors
  abbrev operands_seen : Option (Content O B T) → List Value
  operands_seen (Some (AnOperation born c)) = c.operands
  operands_seen _ = []

  abbrev successors_seen : Option (Content O B T) → List (Ptr BasicBlock)
  successors_seen (Some (AnOperation born c)) = c.successors
  successors_seen _ = []

  operands_are_seen : (g : GraphView O B T) (p : Ptr Operation) → operands g p ≡ operands_seen (content g (TheOperation p))
  operands_are_seen g p = same_views (λ e. operands_of (option_map (λ e. e.content.content) e)) (λ e. operands_seen (option_map an_operation (content_of e))) refl (λ e. refl) (get g.operations p)

  successors_are_seen : (g : GraphView O B T) (p : Ptr Operation) → successors g p ≡ successors_seen (content g (TheOperation p))
  successors_are_seen g p = same_views (λ e. successors_of (option_map (λ e. e.content.content) e)) (λ e. successors_seen (option_map an_operation (content_of e))) refl (λ e. refl) (get g.operations p)

  -- an operation that is the same has as many
  pub same_as_many : (g k : GraphView O B T) (p : Ptr Operation) → content k (TheOperation p) ≡ content g (TheOperation p) → UsesAsMany g k p
  same_as_many g k p e = record {
    as_many_operands = ap length (operands_are_seen k p ∙ (ap operands_seen e ∙ sym (operands_are_seen g p)));
    as_many_successors = ap length (successors_are_seen k p ∙ (ap successors_seen e ∙ sym (successors_are_seen g p)));
  }

  -- an operation uses as many values and blocks as before if the object under its pointer is unchanged
  pub kept_as_many : (g k : GraphView O B T) (p : Ptr Operation) → get k.operations p ≡ get g.operations p → UsesAsMany g k p
  kept_as_many g k p e = record {
    as_many_operands = ap (λ x. length (operands_of (option_map (λ e. e.content.content) x))) e;
    as_many_successors = ap (λ x. length (successors_of (option_map (λ e. e.content.content) x))) e;
  }

  -- the same if its node changed but not what it uses
  pub edited_as_many : (g k : GraphView O B T) (p : Ptr Operation) (change : Node BasicBlock Region (OperationContent O T) → Node BasicBlock Region (OperationContent O T))
      → ((n : Node BasicBlock Region (OperationContent O T)) → (change n).content.operands ≡ n.content.operands) → ((n : Node BasicBlock Region (OperationContent O T)) → (change n).content.successors ≡ n.content.successors)
      → get k.operations p ≡ option_map (object_of change) (get g.operations p) → UsesAsMany g k p
  edited_as_many g k p change o s e = record {
    as_many_operands = ap (λ x. length (operands_of (option_map (λ e. e.content.content) x))) e ∙ ap length (these (get g.operations p));
    as_many_successors = ap (λ x. length (successors_of (option_map (λ e. e.content.content) x))) e ∙ ap length (those (get g.operations p));
  }
    where
      these : (x : Option (Entry (Node BasicBlock Region (OperationContent O T)))) → operands_of (option_map (λ e. e.content.content) (option_map (object_of change) x)) ≡ operands_of (option_map (λ e. e.content.content) x)
      these None = refl
      these (Some e) = o e.content

      those : (x : Option (Entry (Node BasicBlock Region (OperationContent O T)))) → successors_of (option_map (λ e. e.content.content) (option_map (object_of change) x)) ≡ successors_of (option_map (λ e. e.content.content) x)
      those None = refl
      those (Some e) = s e.content

  -- where uses name another, each operation has as many
  pub replaced_as_many : (g k : GraphView O B T) (d e : Defined) → Replaces g k d e → (p : Ptr Operation) → UsesAsMany g k p
  replaced_as_many g k d e r p = record {
    as_many_operands = as_long OfValue (replaced d e) OfValue (operands g p) (operands k p) (λ i. r.uses (AtOperand p i));
    as_many_successors = as_long OfBlock (replaced d e) OfBlock (successors g p) (successors k p) (λ i. r.uses (AtSuccessor p i));
  }

  -- and where others went
  pub erased_as_many : (g k : GraphView O B T) (o : Object) → Erases g k o → (p : Ptr Operation) → (IsInside g o (TheOperation p) → ⊥) → UsesAsMany g k p
  erased_as_many g k o e p outside = same_as_many g k p (e.contents (TheOperation p) outside)

  pub as_many_then : (g h k : GraphView O B T) (p : Ptr Operation) → UsesAsMany g h p → UsesAsMany h k p → UsesAsMany g k p
  as_many_then g h k p m n = record { as_many_operands = n.as_many_operands ∙ m.as_many_operands; as_many_successors = n.as_many_successors ∙ m.as_many_successors }

  -- where an object is an operation, it has as many operands and successors
  abbrev pub HasAsMany : GraphView O B T → GraphView O B T → Object → Type 0
  HasAsMany g k (TheOperation p) = UsesAsMany g k p
  HasAsMany g k (TheBlock b) = ⊤
  HasAsMany g k (TheRegion r) = ⊤

  many_same : (g k : GraphView O B T) (q : Object) → content k q ≡ content g q → HasAsMany g k q
  many_same g k (TheOperation p) e = same_as_many g k p e
  many_same g k (TheBlock b) e = tt
  many_same g k (TheRegion r) e = tt

-- ---- objects seen by their data, their children and their parents
-- an object is the same apart from what it uses: it uses as many values and blocks, and has the same children and the same parent
pub record IsAlike {O B T : Type 0} (g k : GraphView O B T) (q : Object) : Type 0 where
  pub contents : option_map without_uses (content k q) ≡ option_map without_uses (content g q)
  pub as_many : HasAsMany g k q
  pub parents : parent k q ≡ parent g q
  pub lists : children k q ≡ children g q

abbrev Seen : Type 0 → Type 0 → Type 0
Seen T A = Option (Content (Option (OperationData A)) (BlockData A) (Option T))

module _ {T A : Type 0} where
  abbrev results_in : Seen T A → List (Typed (Option T))
  results_in (Some (AnOperation born c)) = c.results
  results_in _ = []

  abbrev data_in : Seen T A → Option (OperationData A)
  data_in (Some (AnOperation born c)) = c.data_of
  data_in _ = None

  abbrev operation_seen : Seen T A → List (Ptr Region) → Option (OperationView T A)
  operation_seen z inside = option_map (view_of (results_in z) inside) (data_in z)

  abbrev block_seen : Seen T A → List (Ptr Operation) → Option (BlockView T A)
  block_seen (Some (ABlock born c)) inside = Some (block_view c.arguments inside c.data_of)
  block_seen _ inside = None

  abbrev region_seen_in : Seen T A → Option (Ptr Operation) → List (Ptr BasicBlock) → Option RegionView
  region_seen_in (Some (ARegion born c)) above inside = Some (record { parent = above; blocks = inside })
  region_seen_in _ above inside = None

  operation_is : (x : Option (OperationEntry T A)) → option_and_then operation_of x ≡ operation_seen (option_map without_uses (option_map (λ d. AnOperation d.0 d.1) (content_of x))) (children_of x)
  operation_is None = refl
  operation_is (Some e) = refl

  block_is : (x : Option (BlockEntry T A)) → option_map block_of x ≡ block_seen (option_map without_uses (option_map (λ d. ABlock d.0 d.1) (content_of x))) (children_of x)
  block_is None = refl
  block_is (Some e) = refl

  block_more : (z : Seen T A) (inside : List (Ptr Operation)) (p : Ptr Operation) → block_seen z (inside ++ p ∷ []) ≡ option_map (with_last_operation p) (block_seen z inside)
  block_more (Some (ABlock born c)) inside p = refl
  block_more (Some (AnOperation born c)) inside p = refl
  block_more (Some (ARegion born c)) inside p = refl
  block_more None inside p = refl

  region_more : (z : Seen T A) (above : Option (Ptr Operation)) (inside : List (Ptr BasicBlock)) (b : Ptr BasicBlock) → region_seen_in z above (inside ++ b ∷ []) ≡ option_map (with_last_block b) (region_seen_in z above inside)
  region_more (Some (ARegion born c)) above inside b = refl
  region_more (Some (AnOperation born c)) above inside b = refl
  region_more (Some (ABlock born c)) above inside b = refl
  region_more None above inside b = refl

region_is : (T A : Type 0) (x : Option (Entry (Node Operation BasicBlock RegionContent)))
    → option_map region_of x ≡ region_seen_in {T = T} {A = A} (option_map without_uses (option_map (λ d. ARegion d.0 d.1) (content_of x))) (parent_of x) (children_of x)
region_is T A None = refl
region_is T A (Some e) = refl

module _ {T A : Type 0} (old new : ContextView T A) where
  -- objects that are alike are unchanged
  pub alike_as : (q : Object) → IsAlike old.graph new.graph q → IsAsItWas old new q
  alike_as (TheOperation p) h = (
    operation_is (get new.graph.operations p)
        ∙ (ap₂ operation_seen h.contents (map_same TheRegion region_same (children_of (get new.graph.operations p)) (children_of (get old.graph.operations p)) h.lists)
        ∙ sym (operation_is (get old.graph.operations p))),
    h.as_many,
  )
  alike_as (TheBlock b) h = (
    block_is (get new.graph.blocks b)
        ∙ (ap₂ block_seen h.contents (map_same TheOperation operation_same (children_of (get new.graph.blocks b)) (children_of (get old.graph.blocks b)) h.lists)
        ∙ sym (block_is (get old.graph.blocks b))),
    h.parents,
  )
  alike_as (TheRegion r) h =
      region_is T A (get new.graph.regions r)
      ∙ (ap₂ (λ z inside. region_seen_in z (parent_of (get new.graph.regions r)) inside) h.contents (map_same TheBlock block_same (children_of (get new.graph.regions r)) (children_of (get old.graph.regions r)) h.lists)
      ∙ (ap (λ above. region_seen_in (option_map without_uses (content old.graph (TheRegion r))) above (children_of (get old.graph.regions r)))
      (option_same TheOperation operation_same (parent_of (get new.graph.regions r)) (parent_of (get old.graph.regions r)) h.parents)
      ∙ sym (region_is T A (get old.graph.regions r))))

  -- an unchanged object that is present was present
  pub there_before : (q : Object) → IsAsItWas old new q → IsThere new q → IsThere old q
  there_before (TheOperation p) e h = subst IsSome e.0 h
  there_before (TheBlock b) e h = (subst IsSome e.0 h.0, subst IsSome e.1 h.1)
  there_before (TheRegion r) e h = subst IsSome e h

  -- if all objects but these are unchanged, only these are modified or created
  pub spares_by : (but : List Object) → ((q : Object) → (Among q but → ⊥) → IsAsItWas old new q) → ModifiesOnly but old new
  spares_by but h = record {
    spared = λ q there apart. h q apart;
    brought = λ q there. elim (among_or_not q but) [ inl i ↦ inr i | inr apart ↦ inl (there_before q (h q apart) there) ];
  }

  -- if all objects but these are alike, only these are modified or created
  pub spares_alike : (but : List Object) → ((q : Object) → (Among q but → ⊥) → IsAlike old.graph new.graph q) → ModifiesOnly but old new
  spares_alike but h = spares_by but (λ q apart. alike_as q (h q apart))

  -- if the objects under all other pointers are unchanged, only these are modified or created
  spares_same : (but : List Object) → ((p : Ptr Operation) → (Among (TheOperation p) but → ⊥) → get new.graph.operations p ≡ get old.graph.operations p)
      → ((b : Ptr BasicBlock) → (Among (TheBlock b) but → ⊥) → get new.graph.blocks b ≡ get old.graph.blocks b)
      → ((r : Ptr Region) → (Among (TheRegion r) but → ⊥) → get new.graph.regions r ≡ get old.graph.regions r) → ModifiesOnly but old new
  spares_same but operations blocks regions = spares_by but go
    where
      go : (q : Object) → (Among q but → ⊥) → IsAsItWas old new q
      go (TheOperation p) apart = let e = operations p apart in (ap (option_and_then operation_of) e, kept_as_many old.graph new.graph p e)
      go (TheBlock b) apart = let e = blocks b apart in (ap (option_map block_of) e, ap (λ x. option_map TheRegion (parent_of x)) e)
      go (TheRegion r) apart = ap (option_map region_of) (regions r apart)

  -- more objects may change
  pub spares_wider : (but more : List Object) → ((q : Object) → Among q but → Among q more) → ModifiesOnly but old new → ModifiesOnly more old new
  spares_wider but more wider s = record {
    spared = λ q there apart. s.spared q there (λ i. apart (wider q i));
    brought = λ q there. elim (s.brought q there) [ inl was ↦ inl was | inr i ↦ inr (wider q i) ];
  }

  -- or none does
  pub spares_fewer : (but : List Object) → ModifiesOnly [] old new → ModifiesOnly but old new
  spares_fewer but s = spares_wider [] but (λ q i. absurd i) s

-- one change after another
as_then : {T A : Type 0} (a b c : ContextView T A) (q : Object) → IsAsItWas a b q → IsAsItWas b c q → IsAsItWas a c q
as_then a b c (TheOperation p) e f = (f.0 ∙ e.0, as_many_then a.graph b.graph c.graph p e.1 f.1)
as_then a b c (TheBlock d) e f = (f.0 ∙ e.0, f.1 ∙ e.1)
as_then a b c (TheRegion r) e f = f ∙ e

pub spares_then : {T A : Type 0} (a b c : ContextView T A) (but : List Object) → ModifiesOnly but a b → ModifiesOnly but b c → ModifiesOnly but a c
spares_then a b c but s t = record {
  spared = λ q there apart. let e = s.spared q there apart in as_then a b c q e (t.spared q (there_still a b q e there) apart);
  brought = λ q there. elim (t.brought q there) [ inl was ↦ s.brought q was | inr i ↦ inr i ];
}

-- ---- calls
module _ {T A : Type 0} (old new : ContextView T A) where
  -- an operation that was made
  pub operation_made : (IsLocation : ℕ → Location A → Type 0) (p : Ptr Operation) (held : OperationData A) (types : List T) (own : OwnSoFar T A) {operands : List Value} {successors : List (Ptr BasicBlock)}
      → MakesOperation old new p held types operands successors → HasOwn IsLocation (made_view held types) own → length operands ≡ own.operands → length successors ≡ own.successors → OperationCame old new IsLocation p own
  operation_made IsLocation p held types own m has n k = record {
    is_new = λ there. let e = ap (option_and_then operation_of) (inserted_new old.graph.operations new.graph.operations p _ m.graph.operations) in cc (subst IsSome e there);
    view = made_view held types;
    is = made_seen old new p held types m;
    has = has;
    uses = record {
      operands_are = ap (λ x. length (operands_of (option_map (λ e. e.content.content) x))) m.graph.operations.updates.changed ∙ n;
      successors_are = ap (λ x. length (successors_of (option_map (λ e. e.content.content) x))) m.graph.operations.updates.changed ∙ k;
    };
    regions = refl;
  }

  -- what was there is unchanged
  pub operation_made_spares : (p : Ptr Operation) (held : OperationData A) (types : List T) {operands : List Value} {successors : List (Ptr BasicBlock)} → MakesOperation old new p held types operands successors → ModifiesOnly (TheOperation p ∷ []) old new
  operation_made_spares p held types m = spares_same old new (TheOperation p ∷ []) (λ q apart. m.graph.operations.updates.others q (λ e. apart (inl (ap TheOperation e))))
      (λ b apart. ap (λ s. get s b) m.graph.blocks) (λ r apart. ap (λ s. get s r) m.graph.regions)

  -- a region that was added as the last one of an operation
  pub region_added_came : (p : Ptr Operation) (r : Ptr Region) → AddsRegion old new p r → RegionCame old new r
  region_added_came p r a = record {
    is_new = λ there. let e = ap (option_map region_of) (inserted_new old.graph.regions new.graph.regions r _ a.graph.regions) in cc (subst IsSome e there);
    view = record { parent = Some p; blocks = [] };
    is = region_seen old new p r a;
    blocks = refl;
  }

  -- the operation has it
  pub region_added_gains : (p : Ptr Operation) (r : Ptr Region) → AddsRegion old new p r → OperationGains old new p r
  region_added_gains p r a = record {
    gains = grown_seen old new p r a;
    uses = edited_as_many old.graph new.graph p (with_child r) (λ n. refl) (λ n. refl) a.graph.operations.updates.changed;
  }

  -- and all else is unchanged
  pub region_added_spares : (p : Ptr Operation) (r : Ptr Region) → AddsRegion old new p r → ModifiesOnly (TheRegion r ∷ TheOperation p ∷ []) old new
  region_added_spares p r a = spares_same old new (TheRegion r ∷ TheOperation p ∷ []) (λ q apart. a.graph.operations.updates.others q (λ e. apart (inr (inl (ap TheOperation e)))))
      (λ b apart. ap (λ s. get s b) a.graph.blocks) (λ q apart. a.graph.regions.updates.others q (λ e. apart (inl (ap TheRegion e))))

  -- ---- an operation that was added as the last one of a block
  module _ (b : Ptr BasicBlock) (p : Ptr Operation) (a : Appends old.graph new.graph (TheBlock b) (TheOperation p)) where
    -- the block has it
    pub operation_placed_gains : BlockGains old new b p
    operation_placed_gains =
        let x = get old.graph.blocks b in let y = get new.graph.blocks b in
        let inside : children_of y ≡ children_of x ++ p ∷ [] = map_same TheOperation operation_same (children_of y) (children_of x ++ p ∷ []) (a.here ∙ sym (map_push TheOperation (children_of x) p)) in
        record {
          gains = block_is y ∙ (ap₂ block_seen (ap (option_map without_uses) (a.objects.contents (TheBlock b))) inside
              ∙ (block_more (option_map without_uses (content old.graph (TheBlock b))) (children_of x) p ∙ ap (option_map (with_last_operation p)) (sym (block_is x))));
          stays = a.parents (TheBlock b) (λ e. cc);
        }

    -- all else is unchanged
    pub operation_placed_spares : ModifiesOnly (TheBlock b ∷ []) old new
    operation_placed_spares = spares_by old new (TheBlock b ∷ []) go
      where
        alike : (q : Object) → q ≢ TheBlock b → q ≢ TheOperation p → IsAlike old.graph new.graph q
        alike q n m = record { contents = ap (option_map without_uses) (a.objects.contents q); as_many = many_same old.graph new.graph q (a.objects.contents q); parents = a.parents q m; lists = a.others q n }

        go : (q : Object) → (Among q (TheBlock b ∷ []) → ⊥) → IsAsItWas old new q
        go (TheOperation q) apart = (
          operation_is (get new.graph.operations q)
              ∙ (ap₂ operation_seen (ap (option_map without_uses) (a.objects.contents (TheOperation q))) (map_same TheRegion region_same (children_of (get new.graph.operations q)) (children_of (get old.graph.operations q)) (a.others (TheOperation q) (λ e. cc)))
              ∙ sym (operation_is (get old.graph.operations q))),
          same_as_many old.graph new.graph q (a.objects.contents (TheOperation q)),
        )
        go (TheBlock d) apart = alike_as old new (TheBlock d) (alike (TheBlock d) (λ e. apart (inl e)) (λ e. cc))
        go (TheRegion r) apart = alike_as old new (TheRegion r) (alike (TheRegion r) (λ e. cc) (λ e. cc))

  -- ---- a block without a parent that was added as the last one of a region
  module _ (r : Ptr Region) (b : Ptr BasicBlock) (free : parent old.graph (TheBlock b) ≡ None) (a : Appends old.graph new.graph (TheRegion r) (TheBlock b)) where
    -- the region has it
    pub block_placed_gains : RegionGains old new r b
    block_placed_gains =
        let x = get old.graph.regions r in let y = get new.graph.regions r in
        let inside : children_of y ≡ children_of x ++ b ∷ [] = map_same TheBlock block_same (children_of y) (children_of x ++ b ∷ []) (a.here ∙ sym (map_push TheBlock (children_of x) b)) in
        let above : parent_of y ≡ parent_of x = option_same TheOperation operation_same (parent_of y) (parent_of x) (a.parents (TheRegion r) (λ e. cc)) in
        let z = option_map without_uses (content old.graph (TheRegion r)) in
        record {
          gains = region_is T A y ∙ (ap (λ w. region_seen_in w (parent_of y) (children_of y)) (ap (option_map without_uses) (a.objects.contents (TheRegion r)))
              ∙ (ap₂ (λ u w. region_seen_in z u w) above inside ∙ (region_more z (parent_of x) (children_of x) b ∙ ap (option_map (with_last_block b)) (sym (region_is T A x)))));
        }

    -- all else is unchanged
    pub block_placed_spares : ModifiesOnly (TheBlock b ∷ TheRegion r ∷ []) old new
    block_placed_spares = spares_alike old new (TheBlock b ∷ TheRegion r ∷ []) (λ q apart. record {
      contents = ap (option_map without_uses) (a.objects.contents q);
      as_many = many_same old.graph new.graph q (a.objects.contents q);
      parents = a.parents q (λ e. apart (inl e));
      lists = a.others q (λ e. apart (inr (inl e)));
    })

    -- the view of the block is the same, and the region is its parent
    pub block_placed_view : block new b ≡ block old b
    block_placed_view =
        block_is (get new.graph.blocks b)
        ∙ (ap₂ block_seen (ap (option_map without_uses) (a.objects.contents (TheBlock b))) (map_same TheOperation operation_same (children_of (get new.graph.blocks b)) (children_of (get old.graph.blocks b)) (a.others (TheBlock b) (λ e. cc)))
        ∙ sym (block_is (get old.graph.blocks b)))

module _ {T A : Type 0} (IsLocation : ℕ → Location A → Type 0) where
  -- the own of an operation that was made
  pub made_own : (held : OperationData A) (types : List T) (own : OwnSoFar T A) → id_of held.id ≡ own.id → types ≡ own.types → entries_of held.attributes ≡ own.entries → IsLocation own.place held.loc
      → HasOwn IsLocation (made_view held types) own
  made_own held types own id same entries location = record { id = id; types = ap known same; entries = entries; location = location }

  -- the header of a block that was made
  pub made_head : (held : BlockData A) (types : List T) (h : Head ℕ T A) → held.label ≡ Some h.label.text → types ≡ map (λ a. a.1) h.arguments → entries_of held.attributes ≡ head_entries h → IsLocation h.label.place held.loc
      → HasHead IsLocation (made_block held types) h
  made_head held types h label same entries location = record { label = label; types = ap known same; entries = entries; location = location }

-- ---- an operation that was made, and appended to a block
module _ {T A : Type 0} (IsLocation : ℕ → Location A → Type 0) (old mid new : ContextView T A) (b : Ptr BasicBlock) (p : Ptr Operation) (held : OperationData A) (types : List T) {operands : List Value} {successors : List (Ptr BasicBlock)}
    (m : MakesOperation old mid p held types operands successors) (a : Appends mid.graph new.graph (TheBlock b) (TheOperation p)) where
  -- it is new, and has its own
  pub operation_came : (own : OwnSoFar T A) → HasOwn IsLocation (made_view held types) own → length operands ≡ own.operands → length successors ≡ own.successors → OperationCame old new IsLocation p own
  operation_came own has n k =
      let made = operation_made old mid IsLocation p held types own m has n k in
      let placed = (operation_placed_spares mid new b p a).spared (TheOperation p) (subst IsSome (sym made.is) refl) (λ i. elim i [ inl e ↦ cc e | inr j ↦ j ]) in
      record {
        is_new = made.is_new;
        view = made.view;
        is = placed.0 ∙ made.is;
        has = made.has;
        uses = uses_kept mid new p own placed.1 made.uses;
        regions = made.regions;
      }

  -- the block has it
  pub operation_came_last : BlockGains old new b p
  operation_came_last =
      let placed = operation_placed_gains mid new b p a in
      record {
        gains = placed.gains ∙ ap (λ s. option_map (with_last_operation p) (option_map block_of (get s b))) m.graph.blocks;
        stays = placed.stays ∙ ap (λ s. option_map TheRegion (parent_of (get s b))) m.graph.blocks;
      }

  -- and all else is unchanged
  pub operation_came_spares : ModifiesOnly (TheOperation p ∷ TheBlock b ∷ []) old new
  operation_came_spares =
      let but = TheOperation p ∷ TheBlock b ∷ [] in
      spares_then old mid new but (spares_wider old mid (TheOperation p ∷ []) but (λ q i. elim i [ inl e ↦ inl e | inr j ↦ absurd j ]) (operation_made_spares old mid p held types m))
      (spares_wider mid new (TheBlock b ∷ []) but (λ q i. inr i) (operation_placed_spares mid new b p a))

-- ---- a block that was made, and appended to a region
module _ {T A : Type 0} (IsLocation : ℕ → Location A → Type 0) (old mid new : ContextView T A) (r : Ptr Region) (b : Ptr BasicBlock) (held : BlockData A) (types : List T)
    (m : MakesBlock old mid b held types) (a : Appends mid.graph new.graph (TheRegion r) (TheBlock b)) where
  free_at_first : parent mid.graph (TheBlock b) ≡ None
  free_at_first = ap (λ x. option_map TheRegion (parent_of x)) m.graph.blocks.updates.changed

  pub block_was_new : IsThere old (TheBlock b) → ⊥
  block_was_new there = let e = ap (option_map block_of) (inserted_new old.graph.blocks mid.graph.blocks b _ m.graph.blocks) in cc (subst IsSome e there.0)

  -- it is new, and has its header
  pub block_came : (h : Head ℕ T A) → HasHead IsLocation (made_block held types) h → BlockCame old new IsLocation b h
  block_came h has = record {
    is_new = block_was_new;
    view = made_block held types;
    is = block_placed_view mid new r b free_at_first a ∙ made_block_seen old mid b held types m;
    has = has;
    operations = refl;
    inside = subst IsSome (sym a.parent_here) refl;
  }

  -- the region has it
  pub block_came_last : RegionGains old new r b
  block_came_last = record {
    gains = (block_placed_gains mid new r b free_at_first a).gains ∙ ap (λ s. option_map (with_last_block b) (option_map region_of (get s r))) m.graph.regions;
  }

  -- and all else is unchanged
  pub block_came_spares : ModifiesOnly (TheBlock b ∷ TheRegion r ∷ []) old new
  block_came_spares = spares_then old mid new (TheBlock b ∷ TheRegion r ∷ [])
      (spares_same old mid (TheBlock b ∷ TheRegion r ∷ []) (λ q apart. ap (λ s. get s q) m.graph.operations) (λ d apart. m.graph.blocks.updates.others d (λ e. apart (inl (ap TheBlock e))))
      (λ q apart. ap (λ s. get s q) m.graph.regions)) (block_placed_spares mid new r b free_at_first a)

-- ---- an operation whose attributes were written
module _ {T A : Type 0} (IsLocation : ℕ → Location A → Type 0) (old new : ContextView T A) (p : Ptr Operation) (left : List (Text × AttrObj A)) (e : EditsOperation old new p (with_attributes left)) where
  -- its own has these attributes
  pub attributes_written : (own : OwnSoFar T A) (was : OperationView T A) → operation old p ≡ Some was → HasOwn IsLocation was own → HasUses old p own → OwnBecame old new IsLocation p (record own { entries = entries_of left })
  attributes_written own was is has uses = record {
    view = record was { attributes = left };
    is = edited_seen old new p (with_attributes left) (λ (view : OperationView T A). record view { attributes = left }) (λ results regions held. refl) e ∙ ap (option_map (λ (view : OperationView T A). record view { attributes = left })) is;
    has = record { id = has.id; types = has.types; entries = refl; location = has.location };
    uses = uses_kept old new p (record own { entries = entries_of left }) (edited_as_many old.graph new.graph p (with_data (option_map (with_attributes left))) (λ n. refl) (λ n. refl) e.graph.operations.updates.changed)
        (record { operands_are = uses.operands_are; successors_are = uses.successors_are });
    regions = λ w k. let f : was ≡ w = some_eq (sym is ∙ k) in ap (λ (v : OperationView T A). v.regions) f;
  }

  -- and all else is unchanged
  pub attributes_written_spares : ModifiesOnly (TheOperation p ∷ []) old new
  attributes_written_spares = spares_same old new (TheOperation p ∷ []) (λ q apart. e.graph.operations.updates.others q (λ k. apart (inl (ap TheOperation k))))
      (λ b apart. ap (λ s. get s b) e.graph.blocks) (λ r apart. ap (λ s. get s r) e.graph.regions)
