-- Only the operation and what is nested in it were created, if nothing is open and no placeholder is left.
use Rattle.std.proofs.Common.{◌≡◌, ◌∙◌, ◌⊎◌, ℕ, zero, suc, Bool, true, false, cond, ◌&&◌, List, [], ◌∷◌, ◌++◌, map, Option, Some, None, IsSome, option_map, is_some, slice_get, refl, sym, ap, subst, inl, inr}
use Rattle.std.specs.Prelude.{option_and_then, ⊤}
use Rattle.std.specs.List.{list_all}
use Rattle.irtext_base.specs.Paths.{Written}
use Rattle.irtext_base.specs.declared.location.Location.{Location}
use Rattle.irtext_context.specs.Context.{ContextView, OperationView, operation, operation_of, view_of, block, block_of, region, region_of, KeepsOlder}
use Rattle.irtext_context.specs.declared.base.operation.OperationData.{OperationData}
use Rattle.irtext_context.proofs.Contexts.{OperationEntry, BlockEntry}
use Rattle.irtext_graph.specs.Content.{RegionContent}
use Rattle.irtext_graph.specs.declared.arena.Ptr.{Ptr}
use Rattle.irtext_graph.specs.declared.object.Operation.{Operation}
use Rattle.irtext_graph.specs.declared.object.BasicBlock.{BasicBlock}
use Rattle.irtext_graph.specs.declared.object.Region.{Region}
use Rattle.irtext_graph.specs.declared.object.Object.{Object}
use Rattle.irtext_graph.specs.declared.object.Object.TheVariants.{TheOperation, TheBlock, TheRegion}
use Rattle.irtext_graph.specs.declared.object.Value.{Value}
use Rattle.irtext_graph.specs.declared.object.Value.TheVariants.{Result, Argument}
use Rattle.irtext_graph.specs.declared.object.Defined.{Defined}
use Rattle.irtext_graph.specs.declared.object.Defined.TheVariants.{OfValue, OfBlock}
use Rattle.irtext_graph.specs.declared.object.Site.{Site}
use Rattle.irtext_graph.specs.declared.object.Site.TheVariants.{AtOperand, AtSuccessor}
use Rattle.irtext_graph.specs.Back.{AllOlder}
use Rattle.irtext_graph.specs.Chained.{Among}
use Rattle.irtext_graph.specs.Content.{Node, OperationContent}
use Rattle.irtext_graph.specs.declared.arena.Entry.{Entry}
use Rattle.irtext_graph.specs.Erasing.{owner}
use Rattle.irtext_graph.specs.Graph.{children, parent, parent_of, content_of, Appends, IsLive, IsInside, IsNew}
use Rattle.irtext_graph.specs.Nested.{climb, Nested}
use Rattle.irtext_graph.specs.Objects.{eq_object}
use Rattle.irtext_graph.specs.Parts.{operands, successors, operands_of, successors_of, results_of, arguments_of, operation_at, block_at}
use Rattle.irtext_graph.specs.Store.{get}
use Rattle.irtext_graph.specs.Used.{IsDefined, IsUse, used_at, user}
use Rattle.irtext_graph.proofs.Frames.{operation_content_same}
use Rattle.irtext_graph.proofs.Nests.{some_eq, same_or_other}
use Rattle.irtext_graph.proofs.Same.{object_tells}
use Rattle.irtext_graph.proofs.PartsSeen.{some_of, of_some}
use Rattle.irtext_grammar.specs.Contexts.Nested.{pointers}
use Rattle.irtext_grammar.specs.Grammar.Forest as forest
use Rattle.irtext_grammar.specs.Grammar.Forest.{Regions, no_regions, Blocks, no_blocks, Operations, no_operations, AllRegions, AllBlocks, AllOperations}
use Rattle.irtext_grammar.specs.Grammar.Tree.{Op, Head, Brace, Tree}
use Rattle.irtext_grammar.specs.Graphs.Build.{Built}
use Rattle.irtext_grammar.specs.Graphs.Links.{OpLinked, Linked}
use Rattle.irtext_grammar.specs.Names.Script.{Path, result, argument}
use Rattle.irtext_grammar.specs.Names.Script.{block_at as block_at_path}
use Rattle.irtext_grammar.specs.Naming.{Names}
use Rattle.irtext_names.specs.Tied.{NoneIsLeft}
use Rattle.irtext_names.proofs.Linked.Moving.{among_split}
use Rattle.irtext_grammar.specs.Building.{finished}
use Rattle.irtext_grammar.specs.Unchanged.{IsThere}
use Rattle.irtext_grammar.specs.Tracks.{Made, HasChild, HoldsMade}
use Rattle.irtext_names.specs.Alone.{pointers_in, held_region}
use Rattle.irtext_names.specs.Held.{PtrRegions, PtrBlocks, PtrOperations, placed_regions, placed_blocks, placed_operations, placed_under, path_of, value_place, block_place, held_op, held_head, held_regions, held_blocks, held_operations, held_root}
use Rattle.irtext_names.specs.OnlyNew.{OnlyNew, BlanksDefine}
use Rattle.irtext_names.specs.Placed.{RegionsAre, BlocksAre, OperationsAre, RootIs}
use Rattle.irtext_names.proofs.Ages.{IsHere, here_is_live, live_here, was_live_or_new, same_parent, operation_stays, block_stays, region_stays}
use Rattle.irtext_names.proofs.Located.{IsPlaced, located}
use Rattle.irtext_names.proofs.OnePlace.{path_there}
use Rattle.irtext_names.proofs.Occurs.{child_parent, whole_occurs}
use Rattle.irtext_graph.proofs.Marks.{counts_kept}

operation_inj : (p q : Ptr Operation) → TheOperation p ≡ TheOperation q → p ≡ q
operation_inj p q e = cc

all_at : {X Y : Type 0} (f : X → Option Y) (xs : List X) (i : ℕ) (x : X) → list_all is_some (map f xs) ≡ true → slice_get xs i ≡ Some x → IsSome (f x)
all_at f [] i x a e = absurd (cc)
all_at {Y = Y} f (y ∷ ys) i x a e = go (λ j b s. all_at f ys j x b s) (f y) refl i a e
  where
    go : ((j : ℕ) → list_all is_some (map f ys) ≡ true → slice_get ys j ≡ Some x → IsSome (f x)) → (z : Option Y) → f y ≡ z → (i : ℕ) → (is_some z && list_all is_some (map f ys)) ≡ true → slice_get (y ∷ ys) i ≡ Some x → IsSome (f x)
    go later None e i a s = absurd (cc)
    go later (Some w) e zero a s = let same : y ≡ x = cc in subst (λ z. IsSome (f z)) same (subst IsSome (sym e) refl)
    go later (Some w) e (suc i) a s = later i a s

-- ---- each operand and successor of an operation there refers to something there
module _ {T A : Type 0} (L : ℕ → Location A → Type 0) (c : ContextView T A) (items : Made) (all : List (Object × Path)) where
  -- each of an operation's operands and successors has a place
  abbrev AreNamed : Ptr Operation → Type 0
  AreNamed p = (list_all is_some (map (value_place all) (operands c.graph p)) ≡ true) × (list_all is_some (map (block_place all) (successors c.graph p)) ≡ true)

  -- it holds of each operation of a list
  record AllNamed (xs : List (Object × Path)) : Type 0 where
    each : (p : Ptr Operation) (q : Path) → Among (TheOperation p, q) xs → AreNamed p

  none_named : AllNamed []
  none_named = record { each = λ p q i. absurd i }

  named_node : (o : Object) (r : Path) (inner next : List (Object × Path)) → ((p : Ptr Operation) → o ≡ TheOperation p → AreNamed p) → AllNamed inner → AllNamed next → AllNamed ((o, r) ∷ (inner ++ next))
  named_node o r inner next h x y = record {
    each = λ p q i. elim i [
      | inl e ↦ h p (sym (ap (λ z. z.0) e))
      | inr j ↦ elim (among_split (TheOperation p, q) inner next j) [ inl a ↦ x.each p q a | inr a ↦ y.each p q a ]
    ];
  }

  mutual
    regions_named : (q : Path) (j : ℕ) (ps : PtrRegions) (rs : Regions (Op ℕ T A) (Head ℕ T A) (Brace ℕ)) → RegionsAre L c items ps rs → AllRegions OpLinked (λ b. ⊤) (λ r. ⊤) (held_regions c all ps) → AllNamed (placed_regions q j ps)
    regions_named q j no_regions rs h l = none_named
    regions_named q j (forest.region r bs ps) no_regions h l = absurd h
    regions_named q j (forest.region r bs ps) (forest.region brace hs rs) (at, k, h) l =
        named_node (TheRegion r) (j ∷ q) (placed_blocks (j ∷ q) 0 bs) (placed_regions q (suc j) ps) (λ p e. absurd (cc)) (blocks_named (j ∷ q) 0 bs hs k l.1) (regions_named q (suc j) ps rs h l.2)

    blocks_named : (q : Path) (j : ℕ) (ps : PtrBlocks) (bs : Blocks (Op ℕ T A) (Head ℕ T A) (Brace ℕ)) → BlocksAre L c items ps bs → AllBlocks OpLinked (λ b. ⊤) (λ r. ⊤) (held_blocks c all ps) → AllNamed (placed_blocks q j ps)
    blocks_named q j no_blocks bs h l = none_named
    blocks_named q j (forest.block b os ps) no_blocks h l = absurd h
    blocks_named q j (forest.block b os ps) (forest.block head hs bs) (at, k, h) l =
        let m = subst (λ z. AllBlocks OpLinked (λ b. ⊤) (λ r. ⊤) (elim z [ Some view ↦ forest.block (held_head c all view) (held_operations c all os) (held_blocks c all ps) | None ↦ held_blocks c all ps ])) at.is l in
        named_node (TheBlock b) (j ∷ q) (placed_operations (j ∷ q) 0 os) (placed_blocks q (suc j) ps) (λ p e. absurd (cc)) (operations_named (j ∷ q) 0 os hs k m.1) (blocks_named q (suc j) ps bs h m.2)

    operations_named : (q : Path) (j : ℕ) (ps : PtrOperations) (os : Operations (Op ℕ T A) (Head ℕ T A) (Brace ℕ)) → OperationsAre L c items ps os → AllOperations OpLinked (λ b. ⊤) (λ r. ⊤) (held_operations c all ps) → AllNamed (placed_operations q j ps)
    operations_named q j no_operations os h l = none_named
    operations_named q j (forest.operation p rs ps) no_operations h l = absurd h
    operations_named q j (forest.operation p rs ps) (forest.operation o hs os) (at, k, h) l =
        let m = subst (λ z. AllOperations OpLinked (λ b. ⊤) (λ r. ⊤) (elim z [ Some view ↦ forest.operation (held_op c all p view) (held_regions c all rs) (held_operations c all ps) | None ↦ held_operations c all ps ])) at.is l in
        named_node (TheOperation p) (j ∷ q) (placed_regions (j ∷ q) 0 rs) (placed_operations q (suc j) ps) (λ r e. subst AreNamed (operation_inj p r e) m.0) (regions_named (j ∷ q) 0 rs hs k m.1) (operations_named q (suc j) ps os h m.2)

-- ---- objects that were live, objects that are live and new, and uses
owner_kind : (d : Defined) (r : Ptr Region) → owner d ≡ TheRegion r → ⊥
owner_kind (OfValue (Result o i)) r e = cc
owner_kind (OfValue (Argument k i)) r e = cc
owner_kind (OfBlock k) r e = cc

-- something is there if it has a part, since nothing has none
none_there : {Y : Type 0} (o : Option Y) → o ≡ None → IsSome o → ⊥
none_there None e h = cc
none_there (Some y) e h = cc

has_none : {X Y : Type 0} (part : Option X → Option Y) (o : Option X) → part None ≡ None → IsSome (part o) → IsSome o
has_none part None e h = absurd (none_there (part None) e h)
has_none part (Some x) e h = refl

module _ {T A : Type 0} (c : ContextView T A) where
  -- an object that is present is live
  there_is_live : (q : Object) → IsThere c q → IsLive c.graph q
  there_is_live (TheOperation o) t = here_is_live c.graph (TheOperation o) (operation_here (get c.graph.operations o) t)
    where
      operation_here : (y : Option (OperationEntry T A)) → IsSome (option_and_then operation_of y) → IsSome y
      operation_here None h = absurd (cc)
      operation_here (Some e) h = refl
  there_is_live (TheBlock d) t = here_is_live c.graph (TheBlock d) (some_of block_of (get c.graph.blocks d) t.0)
  there_is_live (TheRegion r) t = here_is_live c.graph (TheRegion r) (some_of region_of (get c.graph.regions r) t)

  -- the owner of a definition is live
  result_is_live : (o : Ptr Operation) (i : ℕ) → IsSome (slice_get (results_of (operation_at c.graph o)) i) → IsSome (get c.graph.operations o)
  result_is_live o i h = has_none (λ y. slice_get (results_of (option_map (λ e. e.content.content) y)) i) (get c.graph.operations o) refl h

  argument_is_live : (k : Ptr BasicBlock) (i : ℕ) → IsSome (slice_get (arguments_of (block_at c.graph k)) i) → IsSome (get c.graph.blocks k)
  argument_is_live k i h = has_none (λ y. slice_get (arguments_of (option_map (λ e. e.content.content) y)) i) (get c.graph.blocks k) refl h

  owner_is_live : (d : Defined) → IsDefined c.graph d → IsLive c.graph (owner d)
  owner_is_live (OfValue (Result o i)) h = here_is_live c.graph (TheOperation o) (result_is_live o i h)
  owner_is_live (OfValue (Argument k i)) h = here_is_live c.graph (TheBlock k) (argument_is_live k i h)
  owner_is_live (OfBlock k) h = h

  -- an operation that uses something is live
  user_is_live : (s : Site) (d : Defined) → IsUse c.graph d s → IsSome (get c.graph.operations (user s))
  user_is_live (AtOperand o i) d e = go (get c.graph.operations o) e
    where
      go : (y : Option (OperationEntry T A)) → option_map OfValue (slice_get (operands_of (option_map (λ e. e.content.content) y)) i) ≡ Some d → IsSome y
      go None e = absurd (cc)
      go (Some z) e = refl
  user_is_live (AtSuccessor o i) d e = go (get c.graph.operations o) e
    where
      go : (y : Option (OperationEntry T A)) → option_map OfBlock (slice_get (successors_of (option_map (λ e. e.content.content) y)) i) ≡ Some d → IsSome y
      go None e = absurd (cc)
      go (Some z) e = refl

module _ {T A : Type 0} (m : ℕ) (start c : ContextView T A) (older : AllOlder m start.graph) (kept : KeepsOlder m start c) where
  -- what was stored before and is there now was there
  there_then : (q : Object) → IsHere start.graph q → IsThere c q → IsThere start q
  there_then (TheOperation o) h t = subst (λ z. IsSome (option_and_then operation_of z)) (operation_stays m start.graph c.graph older kept.graph o h) t
  there_then (TheBlock d) h t =
      let e = block_stays m start.graph c.graph older kept.graph d h in
      (subst (λ z. IsSome (option_map block_of z)) e t.0, subst (λ z. IsSome (option_map TheRegion (parent_of z))) e t.1)
  there_then (TheRegion r) h t = subst (λ z. IsSome (option_map region_of z)) (region_stays m start.graph c.graph older kept.graph r h) t

  -- an operation that was live has the same uses
  used_then : (s : Site) (d : Defined) → IsSome (get start.graph.operations (user s)) → IsUse c.graph d s → IsUse start.graph d s
  used_then (AtOperand o i) d h e = sym (ap (λ y. option_map OfValue (slice_get (operands_of (option_map (λ e. e.content.content) y)) i)) (operation_stays m start.graph c.graph older kept.graph o h)) ∙ e
  used_then (AtSuccessor o i) d h e = sym (ap (λ y. option_map OfBlock (slice_get (successors_of (option_map (λ e. e.content.content) y)) i)) (operation_stays m start.graph c.graph older kept.graph o h)) ∙ e

module _ {T A : Type 0} (m : ℕ) (c : ContextView T A) (none : NoneIsLeft m [] c.graph) (blanks : BlanksDefine m c) where
  -- a live object that is new is present
  new_there : (q : Object) → IsLive c.graph q → IsNew m c.graph q → IsThere c q
  new_there (TheOperation o) s n = go (operation c o) refl
    where
      blank : (e : Option (Entry (Node BasicBlock Region (OperationContent (Option (OperationData A)) (Option T))))) → IsSome e → option_and_then operation_of e ≡ None → option_map (λ c. c.data_of) (option_map (λ e. e.content.content) e) ≡ Some None
      blank None h f = absurd (cc)
      blank (Some e) h f = by e.content.content.data_of f
        where
          by : (d : Option (OperationData A)) → option_map (view_of e.content.content.results e.content.children) d ≡ None → Some d ≡ Some None
          by None f = refl
          by (Some w) f = absurd (cc)

      go : (v : Option (OperationView T A)) → operation c o ≡ v → IsSome (operation c o)
      go (Some view) e = subst IsSome (sym e) refl
      go None e =
          let here = live_here c.graph (TheOperation o) s in
          let r = blanks o here e n in
          absurd (none.values (Result o r.0) r.1 (blank (get c.graph.operations o) here e) n)
  new_there (TheBlock d) s n = (of_some block_of (get c.graph.blocks d) (live_here c.graph (TheBlock d) s), go (parent c.graph (TheBlock d)) refl)
    where
      go : (k : Option Object) → parent c.graph (TheBlock d) ≡ k → IsSome (parent c.graph (TheBlock d))
      go (Some k) e = subst IsSome (sym e) refl
      go None e = absurd (none.labels d s e n (λ i. i))
  new_there (TheRegion r) s n = of_some region_of (get c.graph.regions r) (live_here c.graph (TheRegion r) s)

-- ---- what is under a path and was not live uses nothing that was live
module _ {T A : Type 0} (L : ℕ → Location A → Type 0) (start c : ContextView T A) (items : Made) (all : List (Object × Path)) (named : AllNamed L c items all all)
    (placed_new : (d : Defined) (q : Path) → Among (owner d, q) all → IsDefined start.graph d → ⊥) where
  value_new : (v : Value) → IsSome (value_place all v) → IsDefined start.graph (OfValue v) → ⊥
  value_new (Result o i) h s = go (path_of all (TheOperation o)) refl h
    where
      go : (y : Option Path) → path_of all (TheOperation o) ≡ y → IsSome (option_map (λ q. result q i) y) → ⊥
      go None e h = cc
      go (Some q) e h = placed_new (OfValue (Result o i)) q (path_there all (TheOperation o) q e) s
  value_new (Argument k i) h s = go (path_of all (TheBlock k)) refl h
    where
      go : (y : Option Path) → path_of all (TheBlock k) ≡ y → IsSome (option_map (λ q. argument q i) y) → ⊥
      go None e h = cc
      go (Some q) e h = placed_new (OfValue (Argument k i)) q (path_there all (TheBlock k) q e) s

  label_new : (k : Ptr BasicBlock) → IsSome (block_place all k) → IsDefined start.graph (OfBlock k) → ⊥
  label_new k h s = go (path_of all (TheBlock k)) refl h
    where
      go : (y : Option Path) → path_of all (TheBlock k) ≡ y → IsSome (option_map block_at_path y) → ⊥
      go None e h = cc
      go (Some q) e h = placed_new (OfBlock k) q (path_there all (TheBlock k) q e) s

  uses_placed : (s : Site) (d : Defined) (q : Path) → Among (TheOperation (user s), q) all → IsUse c.graph d s → IsDefined start.graph d → ⊥
  uses_placed (AtOperand o i) d q at e s = go (slice_get (operands c.graph o) i) refl (named.each o q at).0 e
    where
      go : (y : Option Value) → slice_get (operands c.graph o) i ≡ y → list_all is_some (map (value_place all) (operands c.graph o)) ≡ true → option_map OfValue y ≡ Some d → ⊥
      go None f a e = cc
      go (Some v) f a e = let same : OfValue v ≡ d = cc in value_new v (all_at (value_place all) (operands c.graph o) i v a f) (subst (IsDefined start.graph) (sym same) s)
  uses_placed (AtSuccessor o i) d q at e s = go (slice_get (successors c.graph o) i) refl (named.each o q at).1 e
    where
      go : (y : Option (Ptr BasicBlock)) → slice_get (successors c.graph o) i ≡ y → list_all is_some (map (block_place all) (successors c.graph o)) ≡ true → option_map OfBlock y ≡ Some d → ⊥
      go None f a e = cc
      go (Some k) f a e = let same : OfBlock k ≡ d = cc in label_new k (all_at (block_place all) (successors c.graph o) i k a f) (subst (IsDefined start.graph) (sym same) s)

module _ {T A : Type 0} (L : ℕ → Location A → Type 0) (start c : ContextView T A) (items : Made) (whole : List Object) (p : Ptr Operation) (x : Tree ℕ T A) (held : HoldsMade L start c items whole [] (Some p) (finished x))
    (nest : Nested (children c.graph) (parent c.graph)) (is : RootIs L c items (pointers c.graph p) x) (b : Built T A (Written A)) (alive : held_root c p ≡ Some b) (linked : Linked b)
    (m : ℕ) (older : AllOlder m start.graph) (kept : KeepsOlder m start c) (none : NoneIsLeft m [] c.graph) (blanks : BlanksDefine m c) (holders : (o k : Object) → parent start.graph o ≡ Some k → IsLive start.graph k)
    (path : ℕ → Path) (names : Names path x) where
  abbrev all : List (Object × Path)
  all = placed_under (pointers c.graph p)

  -- ---- what is whole was not there
  whole_new : (q : Object) → Among q whole → IsLive start.graph q → ⊥
  whole_new q i s = held.tracks.came q (inl i) (there_then m start c older kept q (live_here start.graph q s) (held.so_far.whole_there q i))

  root_whole : Among (TheOperation p) whole
  root_whole = held.so_far.tree.0

  -- ---- nothing inside was there
  inside_new : (n : ℕ) (q : Object) → climb (parent c.graph) n (Some q) ≡ Some (TheOperation p) → IsLive start.graph q → ⊥
  inside_new zero q e s = whole_new (TheOperation p) root_whole (subst (IsLive start.graph) (some_eq e) s)
  inside_new (suc n) q e s = go (λ k g t. inside_new n k g t) (parent c.graph q) refl e
    where
      go : ((k : Object) → climb (parent c.graph) n (Some k) ≡ Some (TheOperation p) → IsLive start.graph k → ⊥) → (k : Option Object) → parent c.graph q ≡ k → climb (parent c.graph) n k ≡ Some (TheOperation p) → ⊥
      go later None f g = none_climbs n g
        where
          none_climbs : (n : ℕ) → climb (parent c.graph) n None ≡ Some (TheOperation p) → ⊥
          none_climbs zero g = cc
          none_climbs (suc n) g = cc
      go later (Some k) f g = later k g (holders q k (sym (same_parent m start.graph c.graph older kept.graph q s) ∙ f))

  -- ---- what is whole is inside
  whole_inside : (n : ℕ) (q : Object) → Among q whole → climb (parent c.graph) n (Some q) ≡ None → IsInside c.graph (TheOperation p) q
  whole_inside zero q i e = absurd (cc e)
  whole_inside (suc n) q i e = elim (held.tracks.inside q i) [
    | inl root ↦ (0, sym root)
    | inr (k, at, child) ↦ elim at [
      | inl there ↦
          let up = child_parent c nest k q child in
          let z = whole_inside n k there (subst (λ z. climb (parent c.graph) n z ≡ None) up e) in
          (suc z.0, ap (climb (parent c.graph) z.0) up ∙ z.1)
      | inr never ↦ absurd never
    ]
  ]

  new_whole : (q : Object) → IsLive c.graph q → IsNew m c.graph q → IsLive start.graph q ⊎ Among q whole
  new_whole q s n = elim (held.tracks.all q (new_there m c none blanks q s n)) [
    | inl first ↦ inl (there_is_live start q first)
    | inr h ↦ elim h [ inl i ↦ inr i | inr never ↦ absurd never ]
  ]

  live : (q : Object) → IsLive c.graph q → IsLive start.graph q ⊎ IsInside c.graph (TheOperation p) q
  live q s = elim (was_live_or_new m start.graph c.graph kept.graph q s) [
    | inl was ↦ inl was
    | inr n ↦ elim (new_whole q s n) [ inl was ↦ inl was | inr i ↦ let k = nest.ends q in inr (whole_inside k.0 q i k.1) ]
  ]

  -- ---- what is new uses what is new

  held_is : ◌≡◌ {A = Built T A (Written A)} (record { own = held_op c all p is.0.view; regions = held_regions c all (pointers c.graph p).regions }) b
  held_is = some_eq (sym (ap (option_map (λ view. record { own = held_op c all p view; regions = held_regions c all (pointers c.graph p).regions })) is.0.is) ∙ alive)

  all_named : AllNamed L c items all all
  all_named =
      let l = subst Linked (sym held_is) linked in
      let inner = regions_named L c items all [] 0 (pointers c.graph p).regions x.regions is.1 l.1 in record {
        each = λ o q i. elim i [
          | inl e ↦ subst (AreNamed L c items all) (sym (operation_inj o p (ap (λ z. z.0) e))) l.0
          | inr j ↦ inner.each o q j
        ];
      }

  -- an operation or a block there is complete
  placed_whole : (o : Object) (q : Path) → IsPlaced L c items path o q → ((r : Ptr Region) → o ≡ TheRegion r → ⊥) → Among o whole
  placed_whole (TheOperation o) q (n, i, e) apart = elim (held.tracks.known n (TheOperation o) i) [ inl w ↦ w | inr never ↦ absurd never ]
  placed_whole (TheBlock d) q (n, i, e) apart = elim (held.tracks.known n (TheBlock d) i) [ inl w ↦ w | inr never ↦ absurd never ]
  placed_whole (TheRegion r) q h apart = absurd (apart r refl)

  -- a value or a block that has a place there was not there
  placed_new : (d : Defined) (q : Path) → Among (owner d, q) all → IsDefined start.graph d → ⊥
  placed_new d q at s =
      let l = located L c items path (pointers c.graph p) x names is (owner d) q at in
      whole_new (owner d) (placed_whole (owner d) q l (owner_kind d)) (owner_is_live start d s)

  -- one that is whole uses nothing that was there
  whole_uses : (s : Site) (d : Defined) → Among (TheOperation (user s)) whole → IsUse c.graph d s → IsDefined start.graph d → ⊥
  whole_uses s d w =
      let at = whole_occurs L c items start whole p x is nest held.tracks (TheOperation (user s)) w in
      uses_placed L start c items all all_named placed_new s d at.0 at.1

  uses : (d : Defined) (s : Site) → IsDefined start.graph d → IsUse c.graph d s → IsUse start.graph d s
  uses d s there e =
      let o = TheOperation (user s) in
      let alive = here_is_live c.graph o (user_is_live c s d e) in
      elim (was_live_or_new m start.graph c.graph kept.graph o alive) [
        | inl was ↦ used_then m start c older kept s d (live_here start.graph o was) e
        | inr n ↦ elim (new_whole o alive n) [ inl was ↦ used_then m start c older kept s d (live_here start.graph o was) e | inr w ↦ absurd (whole_uses s d w e there) ]
      ]

  -- only the operation and what is nested in it were created
  pub only_new : OnlyNew p start c
  only_new = record {
    live = live;
    is_new = λ q i s. inside_new i.0 q i.1 s;
    operations = operation_stays m start.graph c.graph older kept.graph;
    blocks = block_stays m start.graph c.graph older kept.graph;
    regions = region_stays m start.graph c.graph older kept.graph;
    uses = uses;
    counts = counts_kept m start.graph c.graph kept.graph;
    paths = kept.paths;
    dialects = kept.dialects;
  }

-- ---- a region that was appended to an operation that was live
module _ {T A : Type 0} where
  held_same : (x y : Option (OperationEntry T A)) → content_of x ≡ content_of y → option_map (λ e. e.content.content) x ≡ option_map (λ e. e.content.content) y
  held_same None None e = refl
  held_same None (Some y) e = absurd (cc)
  held_same (Some x) None e = absurd (cc)
  held_same (Some x) (Some y) e = ap (λ z. option_map (λ (d : ℕ × OperationContent (Option (OperationData A)) (Option T)). d.1) z) e

module _ {T A : Type 0} (L : ℕ → Location A → Type 0) (start mid c : ContextView T A) (items : Made) (whole : List Object) (op : Ptr Operation) (r : Ptr Region) (a : Appends mid.graph c.graph (TheOperation op) (TheRegion r))
    (there : (o : Object) → Among o whole → IsThere mid o) (came : (o : Object) → Among o whole → IsThere start o → ⊥) (all_that : (o : Object) → IsThere mid o → IsThere start o ⊎ Among o whole)
    (known_whole : (n : ℕ) (o : Object) → Among (n, o) items → Among o whole) (region_whole : Among (TheRegion r) whole)
    (inside : (o : Object) → Among o whole → (o ≡ TheRegion r) ⊎ ((k : Object) × Among k whole × HasChild c k o)) (nest : Nested (children c.graph) (parent c.graph))
    (m : ℕ) (older : AllOlder m start.graph) (kept : KeepsOlder m start mid) (none : NoneIsLeft m [] mid.graph) (blanks : BlanksDefine m mid) (holders : (o k : Object) → parent start.graph o ≡ Some k → IsLive start.graph k) where
  -- the content of each object stayed
  pub used_same : (s : Site) → used_at c.graph s ≡ used_at mid.graph s
  used_same (AtOperand o i) = ap (λ z. option_map OfValue (slice_get (operands_of z) i)) (held_same (get c.graph.operations o) (get mid.graph.operations o) (operation_content_same mid.graph c.graph o (a.objects.contents (TheOperation o))))
  used_same (AtSuccessor o i) = ap (λ z. option_map OfBlock (slice_get (successors_of z) i)) (held_same (get c.graph.operations o) (get mid.graph.operations o) (operation_content_same mid.graph c.graph o (a.objects.contents (TheOperation o))))

  was_live_before : (q : Object) → IsLive c.graph q → IsLive mid.graph q
  was_live_before q s = subst IsSome (a.objects.contents q) s

  -- ---- what is whole was not there
  pub whole_is_new : (q : Object) → Among q whole → IsLive start.graph q → ⊥
  whole_is_new q i s = came q i (there_then m start mid older kept q (live_here start.graph q s) (there q i))

  -- ---- nothing inside was there
  inside_is_new : (n : ℕ) (q : Object) → climb (parent c.graph) n (Some q) ≡ Some (TheRegion r) → IsLive start.graph q → ⊥
  inside_is_new zero q e s = whole_is_new (TheRegion r) region_whole (subst (IsLive start.graph) (some_eq e) s)
  inside_is_new (suc n) q e s = elim (same_or_other object_tells q (TheRegion r)) [
    | inl same ↦ whole_is_new (TheRegion r) region_whole (subst (IsLive start.graph) same s)
    | inr apart ↦ go (λ k g t. inside_is_new n k g t) (parent c.graph q) refl (a.parents q apart) e
  ]
    where
      none_climbs : (n : ℕ) → climb (parent c.graph) n None ≡ Some (TheRegion r) → ⊥
      none_climbs zero g = cc
      none_climbs (suc n) g = cc

      go : ((k : Object) → climb (parent c.graph) n (Some k) ≡ Some (TheRegion r) → IsLive start.graph k → ⊥) → (k : Option Object) → parent c.graph q ≡ k → parent c.graph q ≡ parent mid.graph q → climb (parent c.graph) n k ≡ Some (TheRegion r) → ⊥
      go later None f h g = none_climbs n g
      go later (Some k) f h g = later k g (holders q k (sym (same_parent m start.graph mid.graph older kept.graph q s) ∙ (sym h ∙ f)))

  -- ---- what is whole is inside
  whole_is_inside : (n : ℕ) (q : Object) → Among q whole → climb (parent c.graph) n (Some q) ≡ None → IsInside c.graph (TheRegion r) q
  whole_is_inside zero q i e = absurd (cc e)
  whole_is_inside (suc n) q i e = elim (inside q i) [
    | inl root ↦ (0, ap Some root)
    | inr (k, at, child) ↦
        let up = child_parent c nest k q child in
        let z = whole_is_inside n k at (subst (λ z. climb (parent c.graph) n z ≡ None) up e) in
        (suc z.0, ap (climb (parent c.graph) z.0) up ∙ z.1)
  ]

  new_is_whole : (q : Object) → IsLive mid.graph q → IsNew m mid.graph q → IsLive start.graph q ⊎ Among q whole
  new_is_whole q s n = elim (all_that q (new_there m mid none blanks q s n)) [ inl first ↦ inl (there_is_live start q first) | inr i ↦ inr i ]

  -- a live object was live, or is inside the region, and no object inside the region was live
  pub region_live : (q : Object) → IsLive c.graph q → IsLive start.graph q ⊎ IsInside c.graph (TheRegion r) q
  region_live q s = elim (was_live_or_new m start.graph mid.graph kept.graph q (was_live_before q s)) [
    | inl was ↦ inl was
    | inr n ↦ elim (new_is_whole q (was_live_before q s) n) [ inl was ↦ inl was | inr i ↦ let k = nest.ends q in inr (whole_is_inside k.0 q i k.1) ]
  ]

  pub region_is_new : (q : Object) → IsInside c.graph (TheRegion r) q → IsLive start.graph q → ⊥
  region_is_new q i s = inside_is_new i.0 q i.1 s

  -- ---- what is new uses what is new
  used_before : (d : Defined) (s : Site) → IsSome (get start.graph.operations (user s)) → IsUse c.graph d s → IsUse start.graph d s
  used_before d s h e = used_then m start mid older kept s d h (sym (used_same s) ∙ e)

  module _ (rs : Regions (Op ℕ T A) (Head ℕ T A) (Brace ℕ)) (is : RegionsAre L c items (pointers_in c r) rs) (linked : AllRegions OpLinked (λ b. ⊤) (λ q. ⊤) (held_region c r)) (path : ℕ → Path)
      (placed : (o : Object) (q : Path) → Among (o, q) (placed_regions [] 0 (pointers_in c r)) → IsPlaced L c items path o q) (occurs : (o : Object) → Among o whole → (q : Path) × Among (o, q) (placed_regions [] 0 (pointers_in c r))) where
    abbrev here_all : List (Object × Path)
    here_all = placed_regions [] 0 (pointers_in c r)

    here_named : AllNamed L c items here_all here_all
    here_named = regions_named L c items here_all [] 0 (pointers_in c r) rs is linked

    placed_is_whole : (o : Object) (q : Path) → IsPlaced L c items path o q → ((k : Ptr Region) → o ≡ TheRegion k → ⊥) → Among o whole
    placed_is_whole (TheOperation o) q (n, i, e) apart = known_whole n (TheOperation o) i
    placed_is_whole (TheBlock d) q (n, i, e) apart = known_whole n (TheBlock d) i
    placed_is_whole (TheRegion k) q h apart = absurd (apart k refl)

    placed_is_new : (d : Defined) (q : Path) → Among (owner d, q) here_all → IsDefined start.graph d → ⊥
    placed_is_new d q at s = whole_is_new (owner d) (placed_is_whole (owner d) q (placed (owner d) q at) (owner_kind d)) (owner_is_live start d s)

    whole_uses_new : (s : Site) (d : Defined) → Among (TheOperation (user s)) whole → IsUse c.graph d s → IsDefined start.graph d → ⊥
    whole_uses_new s d w = let at = occurs (TheOperation (user s)) w in uses_placed L start c items here_all here_named placed_is_new s d at.0 at.1

    -- what was live has no more uses than before
    pub region_uses : (d : Defined) (s : Site) → IsDefined start.graph d → IsUse c.graph d s → IsUse start.graph d s
    region_uses d s was_live e =
        let o = TheOperation (user s) in
        let alive = was_live_before o (here_is_live c.graph o (user_is_live c s d e)) in
        elim (was_live_or_new m start.graph mid.graph kept.graph o alive) [
          | inl was ↦ used_before d s (live_here start.graph o was) e
          | inr n ↦ elim (new_is_whole o alive n) [ inl was ↦ used_before d s (live_here start.graph o was) e | inr w ↦ absurd (whole_uses_new s d w e was_live) ]
        ]
