-- At most as many operations are nested in one another as there are places for them: so one more level shows nothing more of what is nested
-- in an operation.
use Rattle.std.proofs.Common.{◌≡◌, ◌<◌, ◌≤◌, ◌+◌, ◌==◌, ℕ, zero, suc, Option, Some, None, refl, sym, ap, ◌∙◌, inl, inr, arith, Bool, true, false, cond, List, [], ◌∷◌, length, map, slice_get, eqb, ◌||◌}
use Rattle.std.specs.Bool.{⊤}
use Rattle.std.specs.List.{IsDistinct, AllByRecursion, list_any}
use Rattle.std.specs.Option.{option_map}
use Rattle.std.proofs.lemmas.Bool.{eqb-true}
use Rattle.std.proofs.lemmas.List.{length-map}
use Rattle.std.proofs.lemmas.Option.{slice_get-map, slice_get_within}
use Rattle.std.proofs.lemmas.Map.Steps.{length-le_from_distinct_below}
use Rattle.irtext_graph.specs.declared.arena.Entry.{Entry}
use Rattle.irtext_graph.specs.declared.arena.Ptr.{Ptr}
use Rattle.irtext_graph.specs.declared.object.Operation.{Operation}
use Rattle.irtext_graph.specs.declared.object.BasicBlock.{BasicBlock}
use Rattle.irtext_graph.specs.declared.object.Region.{Region}
use Rattle.irtext_graph.specs.declared.object.Object.TheVariants.{TheOperation, TheBlock, TheRegion}
use Rattle.irtext_graph.specs.Graph.{GraphView, parent, children, children_of}
use Rattle.irtext_graph.specs.Nested.{climb, Nested}
use Rattle.irtext_graph.specs.Parts.{regions, blocks, operations_in}
use Rattle.irtext_graph.specs.Store.{Cell, Store, get, object_in}
use Rattle.irtext_graph.proofs.Nests.{seen, some_eq, climb-add}
use Rattle.irtext_graph.proofs.Pointers.{ptr_same}
use Rattle.irtext_graph.proofs.Rank.{no_cycle}
use Rattle.irtext_grammar.specs.Grammar.Forest as forest
use Rattle.irtext_grammar.specs.Grammar.Forest.{Regions, no_regions, region}
use Rattle.irtext_grammar.specs.Contexts.Nested.{operations_by, blocks_by, regions_by, within}

-- the object under a pointer
module _ {X K : Type 0} (s : Store X) where
  cell_is_live : (p : Ptr K) (x : Entry X) → get s p ≡ Some x → (c : Cell X) × (slice_get s.cells p.index ≡ Some c) × (c.generation ≡ p.generation)
  cell_is_live p x e = go (slice_get s.cells p.index) refl e
    where
      test : (c : Cell X) (t : Bool) → (c.generation == p.generation) ≡ t → cond t c.object None ≡ Some x → c.generation ≡ p.generation
      test c true q f = eqb-true c.generation p.generation q
      test c false q f = absurd (cc)

      go : (o : Option (Cell X)) → slice_get s.cells p.index ≡ o → object_in o p.generation ≡ Some x → (c : Cell X) × (slice_get s.cells p.index ≡ Some c) × (c.generation ≡ p.generation)
      go None q f = absurd (cc)
      go (Some c) q f = (c, q, test c (c.generation == p.generation) refl f)

  place_within : (p : Ptr K) (x : Entry X) → get s p ≡ Some x → p.index < length s.cells
  place_within p x e = let c = cell_is_live p x e in slice_get_within s.cells p.index c.0 c.1

  one_at_a_place : (p q : Ptr K) (x y : Entry X) → get s p ≡ Some x → get s q ≡ Some y → p.index ≡ q.index → p ≡ q
  one_at_a_place p q x y e f same =
      let c = cell_is_live p x e in
      let d = cell_is_live q y f in
      let k : c.0 ≡ d.0 = some_eq (sym c.1 ∙ (ap (slice_get s.cells) same ∙ d.1)) in
      ptr_same p q same (sym c.2 ∙ (ap (λ (z : Cell X). z.generation) k ∙ d.2))

module _ {O B T : Type 0} (g : GraphView O B T) where
  -- forests are the same where all operations in them hold the same
  module _ (f h : Ptr Operation → Regions (Ptr Operation) (Ptr BasicBlock) (Ptr Region)) where
    operations_same : (ps : List (Ptr Operation)) → ((i : ℕ) (q : Ptr Operation) → slice_get ps i ≡ Some q → f q ≡ h q) → operations_by g f ps ≡ operations_by g h ps
    operations_same [] e = refl
    operations_same (p ∷ ps) e = ap (λ x. forest.operation p x (operations_by g f ps)) (e 0 p refl) ∙ ap (forest.operation p (h p)) (operations_same ps (λ i q k. e (suc i) q k))

    blocks_same : (bs : List (Ptr BasicBlock)) → ((j : ℕ) (b : Ptr BasicBlock) → slice_get bs j ≡ Some b → (i : ℕ) (q : Ptr Operation) → slice_get (operations_in g b) i ≡ Some q → f q ≡ h q) →
        blocks_by g f bs ≡ blocks_by g h bs
    blocks_same [] e = refl
    blocks_same (b ∷ bs) e = ap (λ x. forest.block b x (blocks_by g f bs)) (operations_same (operations_in g b) (e 0 b refl))
        ∙ ap (forest.block b (operations_by g h (operations_in g b))) (blocks_same bs (λ j c k. e (suc j) c k))

    regions_same : (rs : List (Ptr Region)) → ((m : ℕ) (r : Ptr Region) → slice_get rs m ≡ Some r → (j : ℕ) (b : Ptr BasicBlock) → slice_get (blocks g r) j ≡ Some b →
        (i : ℕ) (q : Ptr Operation) → slice_get (operations_in g b) i ≡ Some q → f q ≡ h q) → regions_by g f rs ≡ regions_by g h rs
    regions_same [] e = refl
    regions_same (r ∷ rs) e = ap (λ x. region r x (regions_by g f rs)) (blocks_same (blocks g r) (e 0 r refl)) ∙ ap (region r (blocks_by g h (blocks g r))) (regions_same rs (λ m s k. e (suc m) s k))

  module _ (nested : Nested (children g) (parent g)) where
    -- an operation in a block of a region of another is three levels deeper
    pub region_up : (p : Ptr Operation) (r : Ptr Region) (m : ℕ) → slice_get (regions g p) m ≡ Some r → parent g (TheRegion r) ≡ Some (TheOperation p)
    region_up p r m e = nested.down (TheOperation p) m (TheRegion r) (slice_get-map TheRegion (regions g p) m ∙ ap (option_map TheRegion) e)

    pub block_up : (r : Ptr Region) (b : Ptr BasicBlock) (j : ℕ) → slice_get (blocks g r) j ≡ Some b → parent g (TheBlock b) ≡ Some (TheRegion r)
    block_up r b j e = nested.down (TheRegion r) j (TheBlock b) (slice_get-map TheBlock (blocks g r) j ∙ ap (option_map TheBlock) e)

    pub operation_up : (b : Ptr BasicBlock) (q : Ptr Operation) (i : ℕ) → slice_get (operations_in g b) i ≡ Some q → parent g (TheOperation q) ≡ Some (TheBlock b)
    operation_up b q i e = nested.down (TheBlock b) i (TheOperation q) (slice_get-map TheOperation (operations_in g b) i ∙ ap (option_map TheOperation) e)

    three_up : (p : Ptr Operation) (r : Ptr Region) (b : Ptr BasicBlock) (q : Ptr Operation) → parent g (TheRegion r) ≡ Some (TheOperation p) → parent g (TheBlock b) ≡ Some (TheRegion r) →
        parent g (TheOperation q) ≡ Some (TheBlock b) → climb (parent g) 3 (Some (TheOperation q)) ≡ Some (TheOperation p)
    three_up p r b q e f k = ap (climb (parent g) 2) k ∙ (ap (climb (parent g) 1) f ∙ e)

    -- operations, each of them an ancestor of the one before
    abbrev AreRound : Ptr Operation → List (Ptr Operation) → Type 0
    AreRound p [] = ⊤
    AreRound p (a ∷ round) = ((k : ℕ) × (climb (parent g) (suc k) (Some (TheOperation p)) ≡ Some (TheOperation a))) × AreRound p round

    abbrev Chain : List (Ptr Operation) → Type 0
    Chain [] = ⊤
    Chain (p ∷ round) = ((x : _) × (get g.operations p ≡ Some x)) × (AreRound p round × Chain round)

    abbrev places : List (Ptr Operation) → List ℕ
    places round = map (λ (a : Ptr Operation). a.index) round

    apart : (p a : Ptr Operation) (x y : _) → get g.operations p ≡ Some x → get g.operations a ≡ Some y → (k : ℕ) → climb (parent g) (suc k) (Some (TheOperation p)) ≡ Some (TheOperation a) →
        (t : Bool) → eqb p.index a.index ≡ t → t ≡ false
    apart p a x y e f k w true q =
        let same = one_at_a_place g.operations p a x y e f (eqb-true p.index a.index q) in
        let d = nested.ends (TheOperation p) in
        absurd (no_cycle (parent g) (TheOperation p) k (w ∙ ap (λ z. Some (TheOperation z)) (sym same)) d.0 d.0 (omega arith) d.1)
    apart p a x y e f k w false q = refl

    all_apart : (p : Ptr Operation) (x : _) → get g.operations p ≡ Some x → (round : List (Ptr Operation)) → AreRound p round → Chain round → AllByRecursion (λ z. eqb p.index z ≡ false) (places round)
    all_apart p x e [] r c = tt
    all_apart p x e (a ∷ round) r c = (apart p a x c.0.0 e c.0.1 r.0.0 r.0.1 (eqb p.index a.index) refl, all_apart p x e round r.1 c.1.1)

    chain_distinct : (round : List (Ptr Operation)) → Chain round → IsDistinct eqb (places round)
    unfolding IsDistinct
    chain_distinct [] c = tt
    chain_distinct (p ∷ round) c = (all_apart p c.0.0 c.0.1 round c.1.0 c.1.1, chain_distinct round c.1.1)

    chain_low : (round : List (Ptr Operation)) → Chain round → (q : ℕ) → list_any (eqb q) (places round) ≡ true → q < length g.operations.cells
    chain_low [] c q e = absurd (cc)
    chain_low (p ∷ round) c q e = go (λ k. chain_low round c.1.1 q k) (eqb q p.index) refl e
      where
        go : (list_any (eqb q) (places round) ≡ true → q < length g.operations.cells) → (t : Bool) → eqb q p.index ≡ t → (t || list_any (eqb q) (places round)) ≡ true → q < length g.operations.cells
        go more true h k = let m = eqb-true q p.index h in let l = place_within g.operations p c.0.0 c.0.1 in omega (arith, m, l)
        go more false h k = more k

    chain_le : (round : List (Ptr Operation)) → Chain round → length round ≤ length g.operations.cells
    chain_le round c =
        let l = length-le_from_distinct_below (places round) (length g.operations.cells) (chain_distinct round c) (chain_low round c) in
        let m = length-map round (λ (a : Ptr Operation). a.index) in
        omega (arith, l, m)

    further_round : (p q : Ptr Operation) → climb (parent g) 3 (Some (TheOperation q)) ≡ Some (TheOperation p) → (round : List (Ptr Operation)) → AreRound p round → AreRound q round
    further_round p q e [] r = tt
    further_round p q e (a ∷ round) r = ((2 + suc r.0.0, farther r.0.0 a r.0.1), further_round p q e round r.1)
      where
        farther : (k : ℕ) (a : Ptr Operation) → climb (parent g) (suc k) (Some (TheOperation p)) ≡ Some (TheOperation a) → climb (parent g) (suc (2 + suc k)) (Some (TheOperation q)) ≡ Some (TheOperation a)
        farther k a w =
            let s : suc (2 + suc k) ≡ 3 + suc k = omega arith in
            ap (λ j. climb (parent g) j (Some (TheOperation q))) s ∙ (climb-add (parent g) 3 (suc k) (Some (TheOperation q)) ∙ (ap (climb (parent g) (suc k)) e ∙ w))

    -- one level more shows nothing more where there are enough
    none_inside : (n : ℕ) (p : Ptr Operation) → get g.operations p ≡ None → within g n p ≡ no_regions
    none_inside zero p e = refl
    none_inside (suc n) p e = ap (λ o. regions_by g (within g n) (children_of o)) e

    stable : (n : ℕ) (p : Ptr Operation) (round : List (Ptr Operation)) → AreRound p round → Chain round → length g.operations.cells ≤ length round + n → within g (suc n) p ≡ within g n p
    stable zero p round r c low = elim (seen (get g.operations p)) [
      | inl e ↦ none_inside 1 p e
      | inr at ↦ absurd (let k = chain_le (p ∷ round) (at, (r, c)) in omega (arith, k, low))
    ]
    stable (suc n) p round r c low = elim (seen (get g.operations p)) [
      | inl e ↦ none_inside (suc (suc n)) p e ∙ sym (none_inside (suc n) p e)
      | inr at ↦ regions_same (within g (suc n)) (within g n) (regions g p) (λ m s e j b f i q k.
          let up = three_up p s b q (region_up p s m e) (block_up s b j f) (operation_up b q i k) in
          stable n q (p ∷ round) ((2, up), further_round p q up round r) (at, (r, c)) (omega (arith, low)))
    ]

    -- what is nested in an operation is what is nested in the operations of its blocks
    pub inside_is : (p : Ptr Operation) → within g (suc (length g.operations.cells)) p ≡ regions_by g (within g (suc (length g.operations.cells))) (regions g p)
    inside_is p = regions_same (within g (length g.operations.cells)) (within g (suc (length g.operations.cells))) (regions g p)
        (λ m s e j b f i q k. sym (stable (length g.operations.cells) q [] tt tt (omega arith)))
