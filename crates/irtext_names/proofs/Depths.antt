-- The forest of pointers under an operation that holds a tree is that of the tree: no way down is longer than there are places for
-- operations, since each operation on it has a place of its own.
use Rattle.std.proofs.Common.{◌≡◌, ◌∙◌, ◌+◌, ◌<◌, ◌≤◌, ◌==◌, ◌&&◌, ◌||◌, ℕ, zero, suc, Bool, true, false, cond, List, [], ◌∷◌, length, map, Option, Some, None, IsSome, option_map, slice_get, eqb, eqb-true, eq-eqb, refl, sym, ap, subst, inl, inr, arith, append-nil}
use Rattle.std.specs.Prelude.{option_and_then, ⊤}
use Rattle.std.specs.List.{IsDistinct, list_any, AllByRecursion}
use Rattle.std.proofs.lemmas.Map.Steps.{length-le_from_distinct_below}
use Rattle.irtext_base.specs.declared.location.Location.{Location}
use Rattle.irtext_context.specs.Context.{ContextView, OperationView, BlockView, RegionView, operation, operation_of, view_of, block, block_of, region, region_of}
use Rattle.irtext_context.specs.declared.base.operation.OperationData.{OperationData}
use Rattle.irtext_context.proofs.Contexts.{OperationEntry, BlockEntry}
use Rattle.irtext_graph.specs.declared.arena.Entry.{Entry}
use Rattle.irtext_graph.specs.declared.arena.Ptr.{Ptr}
use Rattle.irtext_graph.specs.declared.object.Operation.{Operation}
use Rattle.irtext_graph.specs.declared.object.BasicBlock.{BasicBlock}
use Rattle.irtext_graph.specs.declared.object.Region.{Region}
use Rattle.irtext_graph.specs.declared.object.Object.{Object}
use Rattle.irtext_graph.specs.declared.object.Object.TheVariants.{TheOperation, TheBlock}
use Rattle.irtext_graph.specs.Chained.{Among}
use Rattle.irtext_graph.specs.Content.{Node, Typed, RegionContent}
use Rattle.irtext_graph.specs.Graph.{children_of}
use Rattle.irtext_graph.specs.Parts.{regions, blocks, operations_in}
use Rattle.irtext_graph.specs.Store.{Store, Cell, object_in, get}
use Rattle.irtext_graph.proofs.Nests.{some_eq}
use Rattle.irtext_graph.proofs.Same.{ptr_tells}
use Rattle.irtext_grammar.specs.Contexts.Nested.{operations_by, blocks_by, regions_by, within, pointers}
use Rattle.irtext_grammar.specs.Grammar.Forest as forest
use Rattle.irtext_grammar.specs.Grammar.Forest.{Regions, no_regions, Blocks, no_blocks, Operations, no_operations}
use Rattle.irtext_grammar.specs.Grammar.Tree.{Op, Head, Brace, Tree}
use Rattle.irtext_grammar.specs.Names.Script.{Path}
use Rattle.irtext_grammar.specs.Spelling.Spellable.{Each}
use Rattle.irtext_grammar.proofs.Lists.Each.{each_left, each_right}
use Rattle.irtext_grammar.specs.Naming.{paths_in_regions, paths_in_blocks, paths_in_operations, Names}
use Rattle.irtext_grammar.specs.Unchanged.{own_of, HasOwn, HasHead, RegionsHold, BlocksHold, OperationsHold}
use Rattle.irtext_grammar.specs.Tracks.{Made, noted}
use Rattle.irtext_names.specs.Alone.{pointers_in}
use Rattle.irtext_names.specs.Held.{PtrRegions}
use Rattle.irtext_names.specs.Placed.{region_ptrs, block_ptrs, operation_ptrs, RegionsAre, BlocksAre, OperationsAre, RootIs}

-- ---- pointers that find something have places of their own
there_low : {X : Type 0} (xs : List X) (i : ℕ) → IsSome (slice_get xs i) → i < length xs
there_low [] i h = absurd (cc)
there_low (x ∷ xs) zero h = omega arith
there_low (x ∷ xs) (suc i) h = let l = there_low xs i h in omega (arith, l)

module _ {X : Type 0} where
  cell_there : (o : Option (Cell X)) (n : ℕ) → IsSome (object_in o n) → IsSome o
  cell_there None n h = absurd (cc)
  cell_there (Some c) n h = refl

  generation_is : (c : Cell X) (n : ℕ) → IsSome (object_in (Some c) n) → c.generation ≡ n
  generation_is c n h = go (c.generation == n) refl h
    where
      go : (b : Bool) → (c.generation == n) ≡ b → IsSome (cond b c.object None) → c.generation ≡ n
      go true e h = eqb-true c.generation n e
      go false e h = absurd (cc)

  same_generation : (o : Option (Cell X)) (m n : ℕ) → IsSome (object_in o m) → IsSome (object_in o n) → m ≡ n
  same_generation None m n h k = absurd (cc)
  same_generation (Some c) m n h k = sym (generation_is c m h) ∙ generation_is c n k

module _ {X K : Type 0} (s : Store X) where
  index_low : (p : Ptr K) → IsSome (get s p) → p.index < length s.cells
  index_low p h = there_low s.cells p.index (cell_there (slice_get s.cells p.index) p.generation h)

  same_index : (p q : Ptr K) → IsSome (get s p) → IsSome (get s q) → p.index ≡ q.index → p ≡ q
  same_index p q h k e =
      let f = same_generation (slice_get s.cells q.index) p.generation q.generation (subst (λ i. IsSome (object_in (slice_get s.cells i) p.generation)) e h) k in
      ptr_tells.sound p q (ap (λ b. b && eqb p.generation q.generation) (eq-eqb p.index q.index e) ∙ eq-eqb p.generation q.generation f)

  indices_low : (ps : List (Ptr K)) → ((p : Ptr K) → Among p ps → IsSome (get s p)) → (q : ℕ) → list_any (eqb q) (map (λ p. p.index) ps) ≡ true → q < length s.cells
  indices_low [] there q h = absurd (cc)
  indices_low (p ∷ ps) there q h = go (indices_low ps (λ r i. there r (inr i)) q) (eqb q p.index) refl h
    where
      go : (list_any (eqb q) (map (λ p. p.index) ps) ≡ true → q < length s.cells) → (b : Bool) → eqb q p.index ≡ b → (b || list_any (eqb q) (map (λ p. p.index) ps)) ≡ true → q < length s.cells
      go others true e h = subst (λ i. i < length s.cells) (sym (eqb-true q p.index e)) (index_low p (there p (inl refl)))
      go others false e h = others h

-- ---- the view of an object has the children of the object
module _ {T A : Type 0} (c : ContextView T A) where
  pub regions_seen : (p : Ptr Operation) (view : OperationView T A) → operation c p ≡ Some view → view.regions ≡ regions c.graph p
  regions_seen p view e = go (get c.graph.operations p) e
    where
      by : (results : List (Typed (Option T))) (inside : List (Ptr Region)) (d : Option (OperationData A)) → option_map (view_of results inside) d ≡ Some view → view.regions ≡ inside
      by results inside None e = absurd (cc)
      by results inside (Some held) e = let f = some_eq e in ap (λ (v : OperationView T A). v.regions) (sym f)

      go : (x : Option (OperationEntry T A)) → option_and_then operation_of x ≡ Some view → view.regions ≡ children_of x
      go None e = absurd (cc)
      go (Some x) e = by x.content.content.results x.content.children x.content.content.data_of e

  pub operations_seen : (b : Ptr BasicBlock) (view : BlockView T A) → block c b ≡ Some view → view.operations ≡ operations_in c.graph b
  operations_seen b view e = go (get c.graph.blocks b) e
    where
      go : (x : Option (BlockEntry T A)) → option_map block_of x ≡ Some view → view.operations ≡ children_of x
      go None e = absurd (cc)
      go (Some x) e = let f = some_eq e in ap (λ (v : BlockView T A). v.operations) (sym f)

  pub blocks_seen : (r : Ptr Region) (view : RegionView) → region c r ≡ Some view → view.blocks ≡ blocks c.graph r
  blocks_seen r view e = go (get c.graph.regions r) e
    where
      go : (x : Option (Entry (Node Operation BasicBlock RegionContent))) → option_map region_of x ≡ Some view → view.blocks ≡ children_of x
      go None e = absurd (cc)
      go (Some x) e = let f = some_eq e in ap (λ (v : RegionView). v.blocks) (sym f)

  -- an operation with a view is live
  pub seen_there : (p : Ptr Operation) (view : OperationView T A) → operation c p ≡ Some view → IsSome (get c.graph.operations p)
  seen_there p view e = go (get c.graph.operations p) e
    where
      go : (x : Option (OperationEntry T A)) → option_and_then operation_of x ≡ Some view → IsSome x
      go None e = absurd (cc)
      go (Some x) e = refl

-- ---- no operation nests deeper than this
module _ {O B R : Type 0} where
  abbrev mutual
    FitRegions : ℕ → Regions O B R → Type 0
    FitRegions n no_regions = ⊤
    FitRegions n (forest.region r bs rs) = FitBlocks n bs × FitRegions n rs

    FitBlocks : ℕ → Blocks O B R → Type 0
    FitBlocks n no_blocks = ⊤
    FitBlocks n (forest.block b os bs) = FitOperations n os × FitBlocks n bs

    FitOperations : ℕ → Operations O B R → Type 0
    FitOperations n no_operations = ⊤
    FitOperations zero (forest.operation o rs os) = ⊥
    FitOperations (suc n) (forest.operation o rs os) = FitRegions n rs × FitOperations (suc n) os

module _ {T A : Type 0} (L : ℕ → Location A → Type 0) (c : ContextView T A) (items : Made) (whole : List Object) (path : ℕ → Path) where
  abbrev I : Object → ℕ → Location A → Type 0
  I = noted items L

  abbrev Said : List (ℕ × Path) → Type 0
  Said xs = Each (λ item. path item.0 ≡ item.1) xs

  module _ (once : (n m : ℕ) (o : Object) → Among (n, o) items → Among (m, o) items → n ≡ m) where
    -- operations nested in one another: each is live, and its path is shorter than this
    record Chain (above : List (Ptr Operation)) (d : ℕ) : Type 0 where
      distinct : IsDistinct eqb (map (λ p. p.index) above)
      live : (q : Ptr Operation) → Among q above → IsSome (get c.graph.operations q)
      higher : (q : Ptr Operation) → Among q above → (n : ℕ) × Among (n, TheOperation q) items × (length (path n) < d)

    no_chain : (d : ℕ) → Chain [] d
    unfolding IsDistinct
    no_chain d = record { distinct = tt; live = λ q i. absurd i; higher = λ q i. absurd i }

    chain_fits : (above : List (Ptr Operation)) (d : ℕ) → Chain above d → length above ≤ length c.graph.operations.cells
    chain_fits above d h =
        let l = length-le_from_distinct_below (map (λ p. p.index) above) (length c.graph.operations.cells) h.distinct (indices_low c.graph.operations above h.live) in
        let e = indices_many above in
        omega (arith, l, e)
      where
        indices_many : (ps : List (Ptr Operation)) → length (map (λ p. p.index) ps) ≡ length ps
        indices_many [] = refl
        indices_many (p ∷ ps) = ap suc (indices_many ps)

    chain_more : (above : List (Ptr Operation)) (d e : ℕ) (p : Ptr Operation) (n : ℕ) → Chain above d → IsSome (get c.graph.operations p) → Among (n, TheOperation p) items → length (path n) ≡ e → d ≤ e → Chain (p ∷ above) (suc e)
    unfolding IsDistinct
    chain_more above d e p n h there item long low = record {
      distinct = (apart above h.live h.higher, h.distinct);
      live = λ q i. elim i [ inl same ↦ subst (λ z. IsSome (get c.graph.operations z)) (sym same) there | inr j ↦ h.live q j ];
      higher = λ q i. elim i [
        | inl same ↦ (n, subst (λ z. Among (n, TheOperation z) items) (sym same) item, omega (arith, long))
        | inr j ↦ let k = h.higher q j in let l = k.2 in (k.0, k.1, omega (arith, l, low))
      ];
    }
      where
        differs : (q : Ptr Operation) → IsSome (get c.graph.operations q) → (m : ℕ) × Among (m, TheOperation q) items × (length (path m) < d) → (p.index ≡ q.index) → ⊥
        differs q live k same =
            let is = same_index c.graph.operations p q there live same in
            let at = once n k.0 (TheOperation q) (subst (λ z. Among (n, TheOperation z) items) is item) k.1 in
            let l = k.2 in
            let f = ap (λ m. length (path m)) at in
            absurd (omega (arith, l, f, long, low))

        unequal : (i j : ℕ) → (i ≡ j → ⊥) → eqb i j ≡ false
        unequal i j n = go (eqb i j) refl
          where
            go : (b : Bool) → eqb i j ≡ b → b ≡ false
            go true e = absurd (n (eqb-true i j e))
            go false e = refl

        apart : (qs : List (Ptr Operation)) → ((q : Ptr Operation) → Among q qs → IsSome (get c.graph.operations q)) → ((q : Ptr Operation) → Among q qs → (m : ℕ) × Among (m, TheOperation q) items × (length (path m) < d))
            → AllByRecursion (λ y. eqb p.index y ≡ false) (map (λ q. q.index) qs)
        apart [] live higher = tt
        apart (q ∷ qs) live higher = (unequal p.index q.index (differs q (live q (inl refl)) (higher q (inl refl))), apart qs (λ r i. live r (inr i)) (λ r i. higher r (inr i)))

    mutual
      regions_fit : (above : List (Ptr Operation)) (d n : ℕ) → Chain above d → n + length above ≡ length c.graph.operations.cells → (p : Path) (j : ℕ) → d ≤ suc (length p) → (ps : List (Ptr Region)) (rs : Regions (Op ℕ T A) (Head ℕ T A) (Brace ℕ))
          → Said (paths_in_regions p j rs) → RegionsHold I c whole ps rs → FitRegions n rs
      regions_fit above d n h e p j low [] no_regions s k = tt
      regions_fit above d n h e p j low [] (forest.region brace bs rs) s k = absurd k
      regions_fit above d n h e p j low (r ∷ ps) no_regions s k = absurd k
      regions_fit above d n h e p j low (r ∷ ps) (forest.region brace bs rs) s (i, (view, is, hold), k) =
          let Q = λ (item : ℕ × Path). path item.0 ≡ item.1 in (
            blocks_fit above d n h e (j ∷ p) 0 (omega (arith, low)) view.blocks bs (each_left Q (paths_in_blocks (j ∷ p) 0 bs) (paths_in_regions p (suc j) rs) s) hold,
            regions_fit above d n h e p (suc j) low ps rs (each_right Q (paths_in_blocks (j ∷ p) 0 bs) (paths_in_regions p (suc j) rs) s) k,
          )

      blocks_fit : (above : List (Ptr Operation)) (d n : ℕ) → Chain above d → n + length above ≡ length c.graph.operations.cells → (p : Path) (k : ℕ) → d ≤ suc (length p) → (ps : List (Ptr BasicBlock)) (bs : Blocks (Op ℕ T A) (Head ℕ T A) (Brace ℕ))
          → Said (paths_in_blocks p k bs) → BlocksHold I c whole ps bs → FitBlocks n bs
      blocks_fit above d n h e p j low [] no_blocks s k = tt
      blocks_fit above d n h e p j low [] (forest.block head os bs) s k = absurd k
      blocks_fit above d n h e p j low (b ∷ ps) no_blocks s k = absurd k
      blocks_fit above d n h e p j low (b ∷ ps) (forest.block head os bs) s (i, (view, is, has, hold), k) =
          let Q = λ (item : ℕ × Path). path item.0 ≡ item.1 in (
            operations_fit above d n h e (j ∷ p) 0 (omega (arith, low)) view.operations os (each_left Q (paths_in_operations (j ∷ p) 0 os) (paths_in_blocks p (suc j) bs) s.1) hold,
            blocks_fit above d n h e p (suc j) low ps bs (each_right Q (paths_in_operations (j ∷ p) 0 os) (paths_in_blocks p (suc j) bs) s.1) k,
          )

      operations_fit : (above : List (Ptr Operation)) (d n : ℕ) → Chain above d → n + length above ≡ length c.graph.operations.cells → (p : Path) (k : ℕ) → d ≤ suc (length p) → (ps : List (Ptr Operation)) (os : Operations (Op ℕ T A) (Head ℕ T A) (Brace ℕ))
          → Said (paths_in_operations p k os) → OperationsHold I c whole ps os → FitOperations n os
      operations_fit above d n h e p j low [] no_operations s k = tt
      operations_fit above d n h e p j low [] (forest.operation o rs os) s k = absurd k
      operations_fit above d n h e p j low (q ∷ ps) no_operations s k = absurd k
      operations_fit above d zero h e p j low (q ∷ ps) (forest.operation o rs os) s (i, (view, is, has, uses, hold), k) =
          let chain = chain_more above d (suc (length p)) q o.place h (seen_there c q view is) has.location.0 (ap length s.0) low in
          let l = chain_fits (q ∷ above) (suc (suc (length p))) chain in
          absurd (omega (arith, l, e))
      operations_fit above d (suc m) h e p j low (q ∷ ps) (forest.operation o rs os) s (i, (view, is, has, uses, hold), k) =
          let Q = λ (item : ℕ × Path). path item.0 ≡ item.1 in
          let chain = chain_more above d (suc (length p)) q o.place h (seen_there c q view is) has.location.0 (ap length s.0) low in (
            regions_fit (q ∷ above) (suc (suc (length p))) m chain (omega (arith, e)) (j ∷ p) 0 (omega arith) view.regions rs (each_left Q (paths_in_regions (j ∷ p) 0 rs) (paths_in_operations p (suc j) os) s.1) hold,
            operations_fit above d (suc m) h e p (suc j) low ps os (each_right Q (paths_in_regions (j ∷ p) 0 rs) (paths_in_operations p (suc j) os) s.1) k,
          )

  -- ---- so the forest is that of the tree
  abbrev inside_of : ℕ → Ptr Operation → PtrRegions
  inside_of n = within c.graph n

  region_list : (n : ℕ) (ps : List (Ptr Region)) → region_ptrs (regions_by c.graph (inside_of n) ps) ≡ ps
  region_list n [] = refl
  region_list n (p ∷ ps) = ap (λ z. p ∷ z) (region_list n ps)

  block_list : (n : ℕ) (ps : List (Ptr BasicBlock)) → block_ptrs (blocks_by c.graph (inside_of n) ps) ≡ ps
  block_list n [] = refl
  block_list n (p ∷ ps) = ap (λ z. p ∷ z) (block_list n ps)

  operation_list : (n : ℕ) (ps : List (Ptr Operation)) → operation_ptrs (operations_by c.graph (inside_of n) ps) ≡ ps
  operation_list n [] = refl
  operation_list n (p ∷ ps) = ap (λ z. p ∷ z) (operation_list n ps)

  -- the own of an operation, with its item
  own_at : (view : OperationView T A) (p : Ptr Operation) (o : Op ℕ T A) → HasOwn (I (TheOperation p)) view (own_of o) → HasOwn L view (own_of o)
  own_at view p o h = record { id = h.id; types = h.types; entries = h.entries; location = h.location.1 }

  head_at : (view : BlockView T A) (b : Ptr BasicBlock) (head : Head ℕ T A) → HasHead (I (TheBlock b)) view head → HasHead L view head
  head_at view b head h = record { label = h.label; types = h.types; entries = h.entries; location = h.location.1 }

  mutual
    regions_are : (n : ℕ) (ps : List (Ptr Region)) (rs : Regions (Op ℕ T A) (Head ℕ T A) (Brace ℕ)) → FitRegions n rs → RegionsHold I c whole ps rs → RegionsAre L c items (regions_by c.graph (inside_of n) ps) rs
    regions_are n [] no_regions f k = tt
    regions_are n (r ∷ ps) (forest.region brace bs rs) f (i, (view, is, hold), k) =
        let e = blocks_seen c r view is in (
          record { view = view; is = is; inner = e ∙ sym (block_list n (blocks c.graph r)) },
          blocks_are n (blocks c.graph r) bs f.0 (subst (λ z. BlocksHold I c whole z bs) e hold),
          regions_are n ps rs f.1 k,
        )
    regions_are n _ _ f k = absurd k

    blocks_are : (n : ℕ) (ps : List (Ptr BasicBlock)) (bs : Blocks (Op ℕ T A) (Head ℕ T A) (Brace ℕ)) → FitBlocks n bs → BlocksHold I c whole ps bs → BlocksAre L c items (blocks_by c.graph (inside_of n) ps) bs
    blocks_are n [] no_blocks f k = tt
    blocks_are n (b ∷ ps) (forest.block head os bs) f (i, (view, is, has, hold), k) =
        let e = operations_seen c b view is in (
          record { view = view; is = is; has = head_at view b head has; item = has.location.0; inner = e ∙ sym (operation_list n (operations_in c.graph b)) },
          operations_are n (operations_in c.graph b) os f.0 (subst (λ z. OperationsHold I c whole z os) e hold),
          blocks_are n ps bs f.1 k,
        )
    blocks_are n _ _ f k = absurd k

    operations_are : (n : ℕ) (ps : List (Ptr Operation)) (os : Operations (Op ℕ T A) (Head ℕ T A) (Brace ℕ)) → FitOperations n os → OperationsHold I c whole ps os → OperationsAre L c items (operations_by c.graph (inside_of n) ps) os
    operations_are n [] no_operations f k = tt
    operations_are zero (q ∷ ps) (forest.operation o rs os) f k = absurd f
    operations_are (suc n) (q ∷ ps) (forest.operation o rs os) f (i, (view, is, has, uses, hold), k) =
        let e = regions_seen c q view is in (
          record { view = view; is = is; has = own_at view q o has; uses = uses; item = has.location.0; inner = e ∙ sym (region_list n (regions c.graph q)) },
          regions_are n (regions c.graph q) rs f.0 (subst (λ z. RegionsHold I c whole z rs) e hold),
          operations_are (suc n) ps os f.1 k,
        )
    operations_are n _ _ f k = absurd k

  -- the forest under a pointer that holds a tree is that of the tree
  pub root_is : ((n m : ℕ) (o : Object) → Among (n, o) items → Among (m, o) items → n ≡ m) → (p : Ptr Operation) (t : Tree ℕ T A) → Names path t → OperationsHold I c whole (p ∷ []) (forest.operation t.own t.regions no_operations)
      → RootIs L c items (pointers c.graph p) t
  root_is once p t names (i, (view, is, has, uses, hold), k) =
      let n = length c.graph.operations.cells in
      let e = regions_seen c p view is in
      let fit = regions_fit once [] 0 n (no_chain once 0) (omega arith) [] 0 (omega arith) view.regions t.regions names.1 hold in (
        record { view = view; is = is; has = own_at view p t.own has; uses = uses; item = has.location.0; inner = e ∙ sym (region_list n (regions c.graph p)) },
        regions_are n (regions c.graph p) t.regions fit (subst (λ z. RegionsHold I c whole z t.regions) e hold),
      )

  -- and so is that of a region
  pub region_is : ((n m : ℕ) (o : Object) → Among (n, o) items → Among (m, o) items → n ≡ m) → (r : Ptr Region) (brace : Brace ℕ) (bs : Blocks (Op ℕ T A) (Head ℕ T A) (Brace ℕ)) → Said (paths_in_blocks (0 ∷ []) 0 bs)
      → RegionsHold I c whole (r ∷ []) (forest.region brace bs no_regions) → RegionsAre L c items (pointers_in c r) (forest.region brace bs no_regions)
  region_is once r brace bs names hold =
      let n = length c.graph.operations.cells in
      let said = subst (λ xs. Each (λ (item : ℕ × Path). path item.0 ≡ item.1) xs) (sym (append-nil (paths_in_blocks (0 ∷ []) 0 bs))) names in
      regions_are n (r ∷ []) (forest.region brace bs no_regions)
      (regions_fit once [] 0 n (no_chain once 0) (omega arith) [] 0 (omega arith) (r ∷ []) (forest.region brace bs no_regions) said hold) hold
